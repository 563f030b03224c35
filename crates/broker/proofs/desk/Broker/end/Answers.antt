use Rattle.std.proofs.Common.{◌≡◌, List, Some, vec_items, sym, ap, ◌∙◌, subst, rules}
use Rattle.std.proofs.Math.Logic.{∥∥₁_map}
use Rattle.claims.specs.Book.{Book}
use Rattle.machine.specs.Entries.{Consistent}
use Rattle.machine.specs.Machine.{State, Promise, keys_held, lift_all, end_promise}
use Rattle.machine.proofs.Keeping.{consistent_end}
use Rattle.broker.specs.Held.{state, live_view, promise_view}
use Rattle.broker.specs.View.{view}
use Rattle.broker.proofs.desk.Broker.end.Goals as goal
use Rattle.broker.proofs.desk.Broker.end.Goals.{After-lift_claims}

-- the promise is ended
over : (g : _) (c : After-lift_claims g) → let m = g.R.Resource in let a = c.at_minute.new.self in state a.clock a.next (vec_items c.remove-promise.new.self) (m.book c.lift_claims.new.resource) ≡ end_promise c.args.number.0 (view m a)
over g c =
    let m = g.R.Resource in
    let a = c.at_minute.new.self in
    let n = c.args.number.0 in
    let x = c.remove-promise.result in
    let h = rw c.deref.ensures.value at c.in_ok-i.ensures in
    let there = h.0.there x ∙ ap (λ y. Some (promise_view y)) (sym c.remove-promise.ensures.value) in
    let put : List Promise → Book → State = λ live book. record { clock = a.clock; next = (view m a).next; live = live; book = book } in
    ap (λ live. put live (m.book c.lift_claims.new.resource)) (ap live_view c.remove-promise.ensures.items ∙ sym h.0.others)
    ∙ ap (put (end_promise n (view m a)).live) (c.lift_claims.ensures.after ∙ ap (λ o. lift_all (keys_held o) (m.book a.resource)) (sym there))

pub invariant_of-self-clause-consistent : goal.invariant_of-self-clause-consistent
invariant_of-self-clause-consistent g c =
    let a = c.at_minute.new.self in
    ∥∥₁_map a.consistent (λ k. subst Consistent (sym (over g (goal.at.invariant_of-self-clause-consistent g c).After-lift_claims)) (consistent_end c.args.number.0 (view g.R.Resource a) k))

pub returns-in_err-i : goal.returns-in_err-i
returns-in_err-i g c = record { kept = c.at_minute.ensures.kept; same = c.at_minute.ensures.same; after = search rules }

pub returns : goal.returns
returns g c =
    let a = c.at_minute.new.self in
    record {
      kept = λ k. subst Consistent (sym (over g (goal.at.returns g c).After-lift_claims)) (consistent_end c.args.number.0 (view g.R.Resource a) (c.at_minute.ensures.kept k));
      same = search rules;
      after = search rules;
    }
