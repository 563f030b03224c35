use Rattle.std.proofs.Common.{ap, ◌∙◌, arith}
use Rattle.claims.specs.Book.{without}
use Rattle.broker.proofs.Lifts.{lift_turn}
use Rattle.broker.proofs.bundles.lift_first.Goals as goal

pub loop-place-preserved : goal.loop-place-preserved
loop-place-preserved g c =
    let i = c.loop-place.invariant in
    let l = c.lift.ensures in (
      l.same ∙ i.0,
      λ ds n. lift_turn _ _ c.loop-place.place _ _ _ (omega (arith, n, c.loop-place-test.true)) (l.after ∙ ap (λ k. without k (g.R.Resource.book c.loop-place.resource)) c.claim_key.ensures) (i.1 ds n),
    )
