use Rattle.std.proofs.Common.{◌≡◌}
use Rattle.broker.specs.Held.{live_view}
use Rattle.machine.specs.Machine.{kept}
use Rattle.broker.proofs.holding.lapse.Given as goal

abbrev pub invariant-loop-promise : goal.invariant-loop-promise
invariant-loop-promise g l =
    let m = g.R.Resource in
    (m.rules l.resource ≡ m.rules l.initial.resource) ×
    (kept l.clock (live_view l.promise-iterator.rest.now) (m.book l.resource) ≡ kept l.clock (live_view l.initial.promise-iterator.rest.now) (m.book l.initial.resource))
