-- The sum shrinks by the claim's quantity, which is part of it.
use Rattle.std.proofs.Common.{arith}
use Rattle.std.proofs.lemmas.Bool.{eqb-true}
use Rattle.goods.specs.Pooled.{quantities}
use Rattle.goods.specs.Pools.{quantities_lift, used-lift}
use Rattle.goods.proofs.quantity.QuantityNotingGoods.forget.Goals as goal

pub returns-clause-kept : goal.returns-clause-kept
returns-clause-kept c k b used found =
    let same = eqb-true c.args.self.now.used (quantities b) used in
    let less = quantities_lift k c.args.claim b found in
    used-lift c.args.self.now.used _ k c.args.claim b used found (omega (arith, same, less, c.saturating_sub-self.ensures))
