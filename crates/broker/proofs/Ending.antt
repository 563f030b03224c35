-- The questions to a call for one promise, as the machine has them.
use Rattle.std.proofs.Common.{◌≡◌, ℕ, Bool, true, false, not, [], ◌∷◌, is_some, Some, None, Option, refl, ap}
use Rattle.machine.specs.declared.Event.TheVariants.{Take}
use Rattle.machine.specs.declared.Refusal.TheVariants.{NotAParty, NotLive, NotYours, WrongState}
use Rattle.machine.specs.declared.Slot.{Slot}
use Rattle.machine.specs.declared.Slot.TheVariants.{Promised, Taken}
use Rattle.machine.specs.Machine.{State, Promise, promise_of, first_missed, is_party, is_live, is_theirs, is_promised, hold_refusal}
use Rattle.machine.specs.Slots.{met}
use Rattle.broker.specs.Holds.{fits, missed}

pub fits-take : (o : Option Promise) → fits Take o ≡ is_promised o
fits-take None = refl
fits-take (Some p) = go p.taken
  where
    go : (t : Bool) → is_some (met (elim t as (λ _. Slot) [ true ↦ Taken | false ↦ Promised ]) Take) ≡ not t
    go true = refl
    go false = refl

pub missed_take : (party n : ℕ) (s : State) → missed party n Take s.live ≡ hold_refusal party n is_promised s
missed_take party n s =
    ap (λ (t : Bool). first_missed ((is_party party, NotAParty) ∷ (is_live (promise_of n s.live), NotLive) ∷ (is_theirs party (promise_of n s.live), NotYours) ∷ (t, WrongState) ∷ [])) (fits-take (promise_of n s.live))
