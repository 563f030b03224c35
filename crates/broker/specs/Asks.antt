-- The questions to an ask in two parts: those on the party, the draft and the minutes, and those on promises, numbers and goods.
use Rattle.std.specs.Prelude.{◌≡◌, ℕ, ◌<◌, ◌≤◌, true, List, [], ◌∷◌, length, is_some, Some, None, Ok, Err, Option, Result, ◌==◌, nat_lt}
use Rattle.claims.specs.declared.Demand.{Demand}
use Rattle.claims.specs.Rules.{Rules}
use Rattle.machine.specs.declared.Refusal.{Refusal}
use Rattle.machine.specs.declared.Refusal.TheVariants.{NotAParty, DraftSize, MinutesOutside, Unreadable, TooManyPromises, NumbersSpent}
use Rattle.machine.specs.Limits.{most_promises, most_demands, most_minutes}
use Rattle.machine.specs.Machine.{State, Answer, first_missed, is_party, fits_draft, fits_minutes, unread_at, carried_all, not_carried, shortage, settle, made, next_or_zero}
use Rattle.machine.specs.Machine.Answer.{granted}

abbrev pub draft_missed : Rules → ℕ → ℕ → List Demand → Option Refusal
draft_missed r party minutes draft = first_missed (
    (is_party party, NotAParty)
    ∷ (fits_draft draft, DraftSize)
    ∷ (fits_minutes minutes, MinutesOutside)
    ∷ ((unread_at r 1 draft == 0), Unreadable (unread_at r 1 draft))
    ∷ [])

abbrev pub goods_missed : Rules → ℕ → ℕ → List Demand → State → Option Refusal
goods_missed r party minutes draft s = first_missed (
    (nat_lt (length s.live) most_promises, TooManyPromises)
    ∷ (is_some s.next, NumbersSpent)
    ∷ (carried_all (shortage r party minutes draft s), not_carried (shortage r party minutes draft s))
    ∷ [])

-- the first demand that is not read, by its position from 1
abbrev pub Unread : Rules → List Demand → Option ℕ → Type 0
Unread r ds None = unread_at r 1 ds ≡ 0
Unread r ds (Some i) = (0 < i) × (unread_at r 1 ds ≡ i)

pub record FitsDraft (party minutes : ℕ) (ds : List Demand) : Type 0 where
  pub party_known : is_party party ≡ true
  pub size : fits_draft ds ≡ true
  pub time : fits_minutes minutes ≡ true
  pub high : length ds ≤ most_demands
  pub soon : minutes ≤ most_minutes

-- what is known of a draft with no word of the resource, and what the resource adds
abbrev pub Checked : ℕ → ℕ → List Demand → Result (Unit {0}) Refusal → Type 0
Checked party minutes ds (Ok x) = FitsDraft party minutes ds
Checked party minutes ds (Err x) = Unit {0}

abbrev pub DraftChecked : Rules → ℕ → ℕ → List Demand → Result (Unit {0}) Refusal → Type 0
DraftChecked r party minutes ds (Ok x) = unread_at r 1 ds ≡ 0
DraftChecked r party minutes ds (Err x) = draft_missed r party minutes ds ≡ Some x

-- what is answered and left where a draft that passes the first questions meets the others
abbrev pub Grants : Rules → ℕ → ℕ → List Demand → State → Answer → State → Type 0
Grants r party minutes ds s a t =
    ◌≡◌ {A = State × Answer} (t, a) (settle (goods_missed r party minutes ds s) s (made r party minutes ds s) (granted (next_or_zero s.next)))
