-- Goods that suffice, and the unit of the demand, decide whether one claim more is carried.
use Rattle.std.proofs.Common.{arith}
use Rattle.claims.specs.Held.{claims_book}
use Rattle.goods.specs.Fixed.{enough_with}
use Rattle.goods.proofs.stock.Stock.is_enough_with.Goals as goal

pub returns-then-suffice_as_noted : goal.returns-then-suffice_as_noted
returns-then-suffice_as_noted g c =
    let s = c.args.self.now in
    grind (arith, enough_with s.shelf (g.G.NotingGoods.goods s.goods) c.args.claim (claims_book s.claims) _ _ _ s.carries (c.suffice_as_noted.ensures s.noted) c.unit_given-unit.ensures c.waits_or_has.ensures)
