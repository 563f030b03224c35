use Rattle.std.proofs.Common.{◌≡◌, ◌+◌, ◌*◌, List, length, drop}
use Rattle.claims.specs.declared.Demand.{Demand}
use Rattle.machine.specs.Limits.{most_demands}
use Rattle.machine.specs.Machine.{keys_from, lift_all}
use Rattle.broker.proofs.bundles.lift_first.Given as goal

abbrev pub invariant-loop-place : goal.invariant-loop-place
invariant-loop-place g l =
    let m = g.R.Resource in
    let first = most_demands * l.promise.number.0 in
    (m.rules l.resource ≡ m.rules l.initial.resource) ×
    ((ds : List Demand) → length ds ≡ l.count → lift_all (keys_from (first + l.place) (drop l.place ds)) (m.book l.resource) ≡ lift_all (keys_from first ds) (m.book l.initial.resource))
