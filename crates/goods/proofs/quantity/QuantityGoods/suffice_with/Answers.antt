-- The quantities with one claim more are what decides.
use Rattle.std.proofs.Common.{arith}
use Rattle.claims.specs.Held.{claims_book}
use Rattle.goods.specs.Pools.{quantities-insert}
use Rattle.goods.proofs.quantity.QuantityGoods.suffice_with.Goals as goal

pub overflow_add-result : goal.overflow_add-result
overflow_add-result c = omega (arith, c.promised.ensures.small)

pub returns : goal.returns
returns c e = grind (arith, quantities-insert c.args.claim (claims_book c.args.claims.now))
