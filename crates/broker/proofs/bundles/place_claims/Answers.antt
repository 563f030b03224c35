use Rattle.std.proofs.Common.{◌≡◌, length, get_or, take, Err, ◌∙◌, arith}
use Rattle.std.proofs.lemmas.List.{length-take-le, get_or_default}
use Rattle.broker.specs.Bundles.{Ready}
use Rattle.broker.specs.Drafts.{demands_of}
use Rattle.broker.proofs.Bundling.{PlacedAll, turn_ok, turn_err}
use Rattle.broker.proofs.Lifts.{no_demand}
use Rattle.broker.proofs.bundles.place_claims.Goals as goal

pub loop-place-preserved : goal.loop-place-preserved
loop-place-preserved g c =
    let i = c.loop-place.invariant in
    let q = rw c.as_slice-demands.ensures at c.in_default.ensures in
    let ds = demands_of c.args.promise.now.draft in
    let j = c.loop-place.place in
    let d = get_or ds j no_demand in
    let h = rw c.as_slice-demands.ensures at c.loop-place-test.true in (
      q.same ∙ i.0,
      λ y. turn_ok _ _ c.args.promise.now.number.0 c.args.promise.now.party.0 ds y j _ (i.1 y) d h (get_or_default ds j no_demand d h) c.claim_key.result c.claim_key.ensures _ i.0 _ _ q,
    )

pub returns-in-Err : goal.returns-in-Err
returns-in-Err g c =
    let m = g.R.Resource in
    let x = c.args.resource.now in
    let i = c.loop-place.invariant in
    let q = rw c.as_slice-demands.ensures at c.in-Err.ensures in
    let ds = demands_of c.args.promise.now.draft in
    let j = c.loop-place.place in
    let d = get_or ds j no_demand in
    let h = rw c.as_slice-demands.ensures at c.loop-place-test.true in
    let n : length (take j ds) ≡ j = length-take-le j ds (omega arith) in
    let back = c.lift_first.ensures (take j ds) n in
    let undone : Ready (m.rules x) (m.book x) c.args.promise.now.number.0 c.args.promise.now.party.0 ds → PlacedAll (m.rules x) (m.book x) c.args.promise.now.number.0 c.args.promise.now.party.0 ds (Err c.in-Err.fault) (m.book c.lift_first.new.resource) = λ y.
    turn_err _ _ c.args.promise.now.number.0 c.args.promise.now.party.0 ds y j _ (i.1 y) d h (get_or_default ds j no_demand d h) c.claim_key.result c.claim_key.ensures _ i.0 _ _ c.in-Err.fault q _ back.after in
    record {
      same = back.same ∙ q.same ∙ i.0;
      value = λ y. (undone y).value;
      after = λ y. (undone y).after;
    }
