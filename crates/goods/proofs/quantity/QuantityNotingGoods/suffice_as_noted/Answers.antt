-- The quantities with one claim more are what decides.
use Rattle.std.proofs.Common.{arith}
use Rattle.std.proofs.lemmas.Bool.{eqb-true}
use Rattle.claims.specs.Held.{claims_book}
use Rattle.goods.specs.Pooled.{quantities}
use Rattle.goods.specs.Pools.{quantities-insert}
use Rattle.goods.proofs.quantity.QuantityNotingGoods.suffice_as_noted.Goals as goal

pub returns : goal.returns
returns c used e =
    let b = claims_book c.args._claims.now in
    let same = eqb-true c.args.self.now.used (quantities b) used in
    let more = quantities-insert c.args.claim b in
    let size = c.args.self.now.sized in
    grind (arith, same, more, size, c.saturating_add.ensures)
