use Rattle.std.proofs.Common.{◌*◌, ◌<◌, length, ◌∙◌, arith}
use Rattle.machine.specs.Entries.{Waits}
use Rattle.machine.specs.Limits.{most_demands}
use Rattle.broker.specs.Drafts.{demands_of}
use Rattle.broker.proofs.Drawing.{turn_drawn, never_refused}
use Rattle.broker.proofs.Lifts.{no_demand}
use Rattle.broker.proofs.bundles.draw_claims.Goals as goal

pub loop-place-preserved : goal.loop-place-preserved
loop-place-preserved g c =
    let v = c.loop-place.invariant in
    let q = c.in_ok-draw.ensures in
    let k = most_demands * c.args.promise.now.number.0 in
    let ds = demands_of c.args.promise.now.draft in
    let within : c.loop-place.place < length ds = omega (arith, c.loop-place-test.true, c.len-place-end.ensures) in (
      omega (arith, c.push.ensures.len, v.0),
      q.same ∙ v.1,
      λ w. rw c.push.ensures.items (turn_drawn _ _ k ds c.loop-place.place c.loop-place.units.items _ within no_demand (v.2 w) c.claim_key.result c.claim_key.ensures _ v.1 _ _ _ q),
    )

pub returns-in_err-draw : goal.returns-in_err-draw
returns-in_err-draw g c =
    let m = g.R.Resource in
    let x = c.args.resource.now in
    let v = c.loop-place.invariant in
    let q = c.in_err-draw.ensures in
    let k = most_demands * c.args.promise.now.number.0 in
    let ds = demands_of c.args.promise.now.draft in
    let within : c.loop-place.place < length ds = omega (arith, c.loop-place-test.true, c.len-place-end.ensures) in
    let never : Waits k ds (m.book x) → ⊥ = λ w. never_refused _ _ k ds c.loop-place.place c.loop-place.units.items _ within no_demand (v.2 w) c.claim_key.result c.claim_key.ensures _ v.1 _ _ _ q in
    record {
      same = q.same ∙ v.1;
      value = λ w. absurd (never w);
      after = λ w. absurd (never w);
    }
