-- The rules of a list are those of a matching.
use Rattle.std.proofs.Common.{take, vec_items}
use Rattle.claims.specs.Limits.{most_goods}
use Rattle.listed.specs.Lawful.{matching_rule}
use Rattle.listed.proofs.list.Listed.new.Goals as goal

pub returns-in_err-lots-clause-matched : goal.returns-in_err-lots-clause-matched
returns-in_err-lots-clause-matched g c = matching_rule g.G.Suits.suiting g.G.Suits.formed c.args.shelf (take most_goods (vec_items c.args.goods))

pub returns-clause-matched : goal.returns-clause-matched
returns-clause-matched g c = matching_rule g.G.Suits.suiting g.G.Suits.formed c.args.shelf (take most_goods (vec_items c.args.goods))
