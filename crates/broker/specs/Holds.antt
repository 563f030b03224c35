-- Where a promise stands among the live ones, and whether a call for it is refused.
use Rattle.std.specs.Prelude.{◌≡◌, ℕ, ◌<◌, Bool, true, List, [], ◌∷◌, length, is_some, Some, None, Ok, Err, Option, Result, slice_index_or, slice_set}
use Rattle.std.specs.List.{remove}
use Rattle.machine.specs.declared.Event.{Event}
use Rattle.machine.specs.declared.Refusal.{Refusal}
use Rattle.machine.specs.declared.Refusal.TheVariants.{NotAParty, NotLive, NotYours, WrongState}
use Rattle.machine.specs.Machine.{Promise, promise_of, ended, marked_taken, first_missed, is_party, is_live, is_theirs, slot_of}
use Rattle.machine.specs.Slots.{met}
use Rattle.broker.specs.declared.held.Promise.{Promise as Held}
use Rattle.broker.specs.Held.{promise_view, live_view}

-- a promise once it is taken
abbrev pub as_taken : Promise → Promise
as_taken p = record { number = p.number; party = p.party; last = 0; demands = p.demands; taken = true }

-- promise n stands at i
pub record Stands (n : ℕ) (xs : List Held) (i : ℕ) : Type 0 where
  pub within : i < length xs
  pub there : (d : Held) → promise_of n (live_view xs) ≡ Some (promise_view (slice_index_or xs i d))
  pub others : ended n (live_view xs) ≡ live_view (remove xs i)
  pub marked : (d : Held) → marked_taken n (live_view xs) ≡ slice_set (live_view xs) i (as_taken (promise_view (slice_index_or xs i d)))

abbrev pub Found : ℕ → List Held → Option ℕ → Type 0
Found n xs None = promise_of n (live_view xs) ≡ None
Found n xs (Some i) = Stands n xs i

-- whether an event fits what stands under a number
abbrev pub fits : Event → Option Promise → Bool
fits event o = is_some (met (slot_of o) event)

-- the questions to a call for a promise, in order
abbrev pub missed : ℕ → ℕ → Event → List Promise → Option Refusal
missed party number event live = first_missed (
    (is_party party, NotAParty)
    ∷ (is_live (promise_of number live), NotLive)
    ∷ (is_theirs party (promise_of number live), NotYours)
    ∷ (fits event (promise_of number live), WrongState)
    ∷ [])

abbrev pub HeldAt : ℕ → ℕ → Event → List Held → Result ℕ Refusal → Type 0
HeldAt party number event xs (Ok i) = Stands number xs i × (missed party number event (live_view xs) ≡ None)
HeldAt party number event xs (Err x) = missed party number event (live_view xs) ≡ Some x
