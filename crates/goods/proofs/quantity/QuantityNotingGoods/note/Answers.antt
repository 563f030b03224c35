-- The sum grows by the claim's quantity: it stays within the size, so that nothing is cut off.
use Rattle.std.proofs.Common.{arith}
use Rattle.std.proofs.lemmas.Bool.{eqb-true, leb-true}
use Rattle.goods.specs.Pooled.{quantities}
use Rattle.goods.specs.Pools.{quantities-insert, used-insert}
use Rattle.claims.specs.Book.{insert}
use Rattle.goods.proofs.quantity.QuantityNotingGoods.note.Goals as goal

pub returns-clause-kept : goal.returns-clause-kept
returns-clause-kept c b used fits =
    let same = eqb-true c.args.self.now.used (quantities b) used in
    let more = quantities-insert c.args.claim b in
    let top = leb-true (quantities (insert c.args.claim b)) c.args.self.now.size fits in
    used-insert c.args.self.now.used _ c.args.claim b used (omega (arith, same, more, top, c.args.self.now.sized, c.saturating_add-self.ensures))
