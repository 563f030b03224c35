-- What ties the book to the live promises: it holds a claim for each of their demands, and no other.
use Rattle.std.specs.Prelude.{◌≡◌, ℕ, ◌+◌, ◌<◌, ◌≤◌, Bool, true, false, List, [], ◌∷◌, ◌++◌, length, Some, None, Option}
use Rattle.claims.specs.declared.Claim.{Claim}
use Rattle.claims.specs.declared.ClaimState.TheVariants.{Waiting, Out}
use Rattle.claims.specs.declared.Demand.{Demand}
use Rattle.claims.specs.Book.{Book, find}
use Rattle.claims.specs.Limits.{last_party}
use Rattle.machine.specs.Limits.{most_demands}
use Rattle.machine.specs.Machine.{Promise, State, bundle}

-- a live promise, with the units that it was handed once it is taken
pub record Entry : Type 0 where
  pub number : ℕ
  pub party : ℕ
  pub last : ℕ
  pub demands : List Demand
  pub units : Option (List ℕ)

abbrev pub handed_out : Option (List ℕ) → Bool
handed_out None = false
handed_out (Some us) = true

abbrev pub promise_from : Entry → Promise
promise_from e = record { number = e.number; party = e.party; last = e.last; demands = e.demands; taken = handed_out e.units }

abbrev pub promises : List Entry → List Promise
promises [] = []
promises (e ∷ es) = promise_from e ∷ promises es

-- claims that are out, each with its unit
abbrev pub sent_with : List Claim → List ℕ → List Claim
sent_with [] us = []
sent_with (c ∷ cs) [] = c ∷ cs
sent_with (c ∷ cs) (u ∷ us) = record { key = c.key; party = c.party; demand = c.demand; state = Out (record { 0 = u }) } ∷ sent_with cs us

-- the claims of a promise: they wait, or are out with its units
abbrev pub claims_of : Entry → List Claim
claims_of e = elim e.units [
  | None ↦ bundle e.number e.party e.demands
  | Some us ↦ sent_with (bundle e.number e.party e.demands) us
]

-- the claims of the live promises, as a book
abbrev pub live_claims : List Entry → Book
live_claims [] = []
live_claims (e ∷ es) = claims_of e ++ live_claims es

-- once it is taken, a promise has a unit for each of its demands
abbrev pub Handed : List Demand → Option (List ℕ) → Type 0
Handed ds None = Unit {0}
Handed ds (Some us) = length us ≡ length ds

-- under each key of a promise's demands, from k on, a claim waits
abbrev pub Waits : ℕ → List Demand → Book → Type 0
Waits k [] b = Unit {0}
Waits k (d ∷ ds) b = ((c : Claim) × (find b k ≡ Some c) × (c.state ≡ Waiting)) × Waits (k + 1) ds b

-- a promise that a broker makes: of a party, with few demands
pub record Fit (e : Entry) : Type 0 where
  pub party_from : 1 ≤ e.party
  pub party_to : e.party ≤ last_party
  pub size : length e.demands ≤ most_demands
  pub given : Handed e.demands e.units

-- a number is below the next one, if any is left
abbrev pub Below : ℕ → Option ℕ → Type 0
Below n None = Unit {0}
Below n (Some next) = n < next

-- promises by rising number, from one on, all below the next number
abbrev pub Ordered : ℕ → Option ℕ → List Entry → Type 0
Ordered from next [] = Unit {0}
Ordered from next (e ∷ es) = (from ≤ e.number) × Below e.number next × Fit e × Ordered (e.number + 1) next es

-- a state that calls can lead to: its book holds just the claims of its promises; or, where the broker was made
-- over a book with claims, it has no promise and no number left
pub data Consistent (s : State) : Type 0 where
  backed : (es : List Entry) → s.live ≡ promises es → s.book ≡ live_claims es → Ordered 0 s.next es → Consistent s
  idle : s.live ≡ [] → s.next ≡ None → Consistent s
