use Rattle.std.proofs.Common.{◌≡◌, set, None, vec_items, sym, refl, ap, ◌∙◌, rules}
use Rattle.std.proofs.lemmas.List.{map-set}
use Rattle.machine.specs.Entries.{Consistent}
use Rattle.machine.specs.Machine.{State, Answer, keys_of, out_all, draws, step}
use Rattle.machine.specs.Machine.Call.{take}
use Rattle.machine.specs.Machine.Answer.{handed}
use Rattle.broker.specs.declared.held.Promise.{Promise as Held}
use Rattle.broker.specs.Calls.{drawn_units}
use Rattle.broker.specs.Held.{state, live_view, promise_view}
use Rattle.broker.specs.Holds.{as_taken}
use Rattle.broker.specs.View.{view}
use Rattle.broker.proofs.Consistency.{by_consistent, stepped_keeps, is_step}
use Rattle.broker.proofs.Taking.{take_done, held_there, held_passed, held_waits, never_short}
use Rattle.broker.proofs.desk.Broker.hand_over.Goals as goal
use Rattle.broker.proofs.desk.Broker.hand_over.Goals.{After-index_mut}

pub returns-in_err-i : goal.returns-in_err-i
returns-in_err-i g c = record { kept = c.at_minute.ensures.kept; same = c.at_minute.ensures.same; after = search rules }

pub invariant_of-self-in-Break-branch-2 : goal.invariant_of-self-in-Break-branch-2
invariant_of-self-in-Break-branch-2 g c =
    absurd (never_short g.R.Resource c.at_minute.new.self c.args.party.0 c.args.number.0 c.in_ok-i.i (rw c.deref.ensures.value at c.in_ok-i.ensures) c.index.result.now c.index.ensures c.in_err-units.field-0.0 _ c.in_err-units.ensures)

pub returns-in_err-units : goal.returns-in_err-units
returns-in_err-units g c =
    absurd (never_short g.R.Resource c.at_minute.new.self c.args.party.0 c.args.number.0 c.in_ok-i.i (rw c.deref.ensures.value at c.in_ok-i.ensures) c.index.result.now c.index.ensures c.in_err-units.field-0.0 _ c.in_err-units.ensures)

abbrev once_taken : Held → Held
once_taken p = record { number = p.number; party = p.party; last = None; draft = p.draft }

taken : (g : _) (c : After-index_mut g) → let m = g.R.Resource in let b = c.args.self.now in let a = c.at_minute.new.self in Consistent (view m a) →
    ◌≡◌ {A = State × Answer} (state a.clock a.next (set (vec_items a.live) c.in_ok-i.i (once_taken c.index_mut.result.now)) (m.book c.draw_claims.new.resource), handed (drawn_units c.in_ok-units.units)) (step (m.rules b.resource) (view m b) (take c.args.minute c.args.party.0 c.args.number.0))
taken g c k =
    let m = g.R.Resource in
    let b = c.args.self.now in
    let a = c.at_minute.new.self in
    let party = c.args.party.0 in
    let n = c.args.number.0 in
    let xs = vec_items a.live in
    let i = c.in_ok-i.i in
    let h = rw c.deref.ensures.value at c.in_ok-i.ensures in
    let x = c.index.result.now in
    let y = c.index_mut.result.now in
    let keys = keys_of (promise_view x) in
    let same = c.at_minute.ensures.same in
    let d = c.in_ok-units.ensures in
    let waits = held_waits party n (view m a) xs refl i h x c.index.ensures k in
    let v = d.value waits in
    take_done (m.rules b.resource) c.args.minute party n (view m b) (view m a) c.at_minute.ensures.after
    (held_passed party n (view m a) xs refl i h x c.index.ensures) (promise_view x) (held_there party n (view m a) xs refl i h x c.index.ensures)
    (live_view (set xs i (once_taken y))) (map-set promise_view xs i (once_taken y) ∙ ap (λ p. set (live_view xs) i (as_taken (promise_view p))) c.index_mut.ensures.value ∙ sym (h.0.marked y))
    (m.book c.draw_claims.new.resource) (d.after waits ∙ ap (λ q. out_all q (m.book a.resource) keys) same)
    (drawn_units c.in_ok-units.units) (ap drawn_units (let p = v.1 in cc) ∙ v.2 ∙ ap (λ q. draws q (m.book a.resource) keys) same)

pub invariant_of-self-2-clause-consistent : goal.invariant_of-self-2-clause-consistent
invariant_of-self-2-clause-consistent g c =
    let b = c.args.self.now in
    stepped_keeps b.consistent c.at_minute.new.self.consistent (g.R.Resource.rules b.resource) (take c.args.minute c.args.party.0 c.args.number.0) _ _ (taken g (goal.at.invariant_of-self-2-clause-consistent g c).After-index_mut)

pub returns : goal.returns
returns g c = is_step g.R.Resource _ _ (c.in_ok-units.ensures.same ∙ c.at_minute.ensures.same) (by_consistent c.at_minute.new.self.consistent (taken g (goal.at.returns g c).After-index_mut))
