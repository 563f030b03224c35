-- Named goods have the rules that were asked for, and these keep items apart.
use Rattle.std.proofs.Common.{ℕ, min, IfOk, subst, arith}
use Rattle.claims.specs.Limits.{most_goods}
use Rattle.goods.specs.Items.{apart}
use Rattle.goods.specs.NamedGoods.{named}
use Rattle.goods.specs.Views.{named_rules, named_book}
use Rattle.shelf.specs.Shelves.{Opened}
use Rattle.goods.proofs.items.Named.new.Goals as goal

pub returns-clause-opened : goal.returns-clause-opened
returns-clause-opened c = subst (λ (n : ℕ). IfOk c.with_goods.result (λ s. Opened (named c.args.shelf n) (named_rules s) (named_book s))) c.min-count.ensures c.with_goods.ensures

pub returns-clause-items : goal.returns-clause-items
returns-clause-items c = apart c.args.shelf (min c.args.goods most_goods) (omega arith)
