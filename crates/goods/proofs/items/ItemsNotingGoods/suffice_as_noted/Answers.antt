-- A new item that is in stock decides whether the goods suffice for one claim more.
use Rattle.std.proofs.Common.{arith}
use Rattle.claims.specs.Held.{claims_book}
use Rattle.goods.specs.Items.{in_stock-insert}
use Rattle.goods.proofs.items.ItemsNotingGoods.suffice_as_noted.Goals as goal

pub returns-then-not-is_promised : goal.returns-then-not-is_promised
returns-then-not-is_promised c _ e = grind (arith, in_stock-insert c.args.self.now.count c.args.claim (claims_book c.args.claims.now) e)

pub returns-else-not-is_promised : goal.returns-else-not-is_promised
returns-else-not-is_promised c _ e = grind (arith, in_stock-insert c.args.self.now.count c.args.claim (claims_book c.args.claims.now) e)
