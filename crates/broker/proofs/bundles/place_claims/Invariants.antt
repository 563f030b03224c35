use Rattle.std.proofs.Common.{◌≡◌, ◌*◌}
use Rattle.machine.specs.Limits.{most_demands}
use Rattle.broker.specs.Bundles.{Ready}
use Rattle.broker.specs.Drafts.{demands_of}
use Rattle.broker.proofs.Bundling.{Placing}
use Rattle.broker.proofs.bundles.place_claims.Given as goal

abbrev pub invariant-loop-place : goal.invariant-loop-place
invariant-loop-place g l =
    let m = g.R.Resource in
    let ds = demands_of l.promise.draft in
    (m.rules l.resource ≡ m.rules l.initial.resource) ×
    (Ready (m.rules l.initial.resource) (m.book l.initial.resource) l.promise.number.0 l.promise.party.0 ds →
    Placing (m.rules l.initial.resource) (m.book l.initial.resource) (most_demands * l.promise.number.0) l.promise.party.0 ds l.place (m.book l.resource))
