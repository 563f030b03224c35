-- How a proof uses that a broker's state is consistent, which its type keeps.
use Rattle.std.proofs.Common.{◌≡◌, ℕ, sym, ap, subst}
use Rattle.std.proofs.Math.Logic.{∥∥₁_elim, ∥∥₁_map₂}
use Rattle.std.proofs.Props.{props}
use Rattle.claims.specs.Rules.{Rules}
use Rattle.machine.specs.Machine.{State, Call, Answer, at_minute, step}
use Rattle.machine.specs.Entries.{Consistent}
use Rattle.resource.specs.declared.Resource.{Ghosts}
use Rattle.machine.proofs.Keeping.{consistent_minute, step_keeps}
use Rattle.broker.specs.declared.desk.Broker.{Broker}
use Rattle.broker.specs.Steps.{Starts, Steps}
use Rattle.broker.specs.View.{view}

answers_set : IsSet (State × Answer)
answers_set = hlevel props

-- an answer and a state are shown to be the machine's
pub by_consistent : {s : State} → ∥ Consistent s ∥₁ → {x y : State × Answer} → (Consistent s → x ≡ y) → x ≡ y
by_consistent k {x} {y} f = ∥∥₁_elim k (answers_set x y) f

pub never_consistent : {s : State} → ∥ Consistent s ∥₁ → (Consistent s → ⊥) → ⊥
never_consistent k f = ∥∥₁_elim k (λ x y. absurd x) f

-- the state that a call leaves is consistent, where it is shown once the minute has passed
pub stepped_keeps : {s u : State} → ∥ Consistent s ∥₁ → ∥ Consistent u ∥₁ → (r : Rules) (c : Call) (t : State) (a : Answer) → (Consistent u → ◌≡◌ {A = State × Answer} (t, a) (step r s c)) → ∥ Consistent t ∥₁
stepped_keeps {s} k l r c t a f = ∥∥₁_map₂ k l (λ y z. subst Consistent (sym (ap (λ w. w.0) (f z))) (step_keeps r s c y))

-- a minute keeps a state consistent
pub minute_keeps : (minute : ℕ) (s : State) {t : State} → t ≡ at_minute minute s → Consistent s → Consistent t
minute_keeps minute s passed k = subst Consistent (sym passed) (consistent_minute minute s k)

-- a call that is the machine's keeps a broker consistent
pub is_step : {X : Type 0} (m : Ghosts X) {b b' : Broker X m} (call : Call) (answer : Answer) → m.rules b'.resource ≡ m.rules b.resource → ◌≡◌ {A = State × Answer} (view m b', answer) (step (m.rules b.resource) (view m b) call) → Steps m b call answer b'
is_step m {b} {b'} call answer same after = record {
  kept = λ k. subst Consistent (sym (ap (λ (w : State × Answer). w.0) after)) (step_keeps (m.rules b.resource) (view m b) call k);
  same = same;
  after = after;
}

-- a broker as it is made is consistent, and a call keeps it so
pub made_consistent : {X : Type 0} {m : Ghosts X} {first : ℕ} {x : X} {b : Broker X m} → Starts m first x b → Consistent (view m b)
made_consistent h = h.consistent

pub calls_consistent : {X : Type 0} {m : Ghosts X} {b b' : Broker X m} {call : Call} {answer : Answer} → Steps m b call answer b' → Consistent (view m b) → Consistent (view m b')
calls_consistent h = h.kept
