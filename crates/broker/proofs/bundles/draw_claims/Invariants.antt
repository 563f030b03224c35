use Rattle.std.proofs.Common.{◌≡◌, ◌*◌, length}
use Rattle.machine.specs.Entries.{Waits}
use Rattle.machine.specs.Limits.{most_demands}
use Rattle.broker.specs.Drafts.{demands_of}
use Rattle.broker.proofs.Drawing.{Drawing}
use Rattle.broker.proofs.bundles.draw_claims.Given as goal

abbrev pub invariant-loop-place : goal.invariant-loop-place
invariant-loop-place g l =
    let m = g.R.Resource in
    let ds = demands_of l.promise.draft in
    let first = most_demands * l.promise.number.0 in
    (length l.units.items ≡ l.place) ×
    (m.rules l.resource ≡ m.rules l.initial.resource) ×
    (Waits first ds (m.book l.initial.resource) →
    Drawing (m.rules l.initial.resource) (m.book l.initial.resource) first ds l.place l.units.items (m.book l.resource))
