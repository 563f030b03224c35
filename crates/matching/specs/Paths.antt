-- The claims that are reached from a new claim, and the path along which an allotment is changed.
-- A test `fit` says whether the good at a place may go to the claim at a place.
use Rattle.std.specs.Prelude.{◌≡◌, ℕ, ◌+◌, ◌<◌, ◌≤◌, Bool, true, List, length, Some, None, Option, ◌≢◌, slice_index, slice_index_or}
use Rattle.std.specs.List.{slice_get}
use Rattle.claims.specs.declared.Claim.{Claim}
use Rattle.claims.specs.declared.Demand.{Demand}
use Rattle.claims.specs.Limits.{most_goods}
use Rattle.matching.specs.declared.way.Step.{Step}
use Rattle.matching.specs.Matching.{passes, serves}

-- whether the good at place g serves the claim at place i
abbrev pub fits : {G : Type 0} → (G → Demand → Bool) → List G → List Claim → ℕ → ℕ → Bool
fits suits goods claims g i = passes (λ c. serves suits goods c.demand c.state g) (slice_get claims i)

-- no good bears a mark
abbrev pub Blank : List ℕ → Type 0
Blank marks = (k : ℕ) → slice_index marks k ≡ 0

-- the claim other than x that has the good at place g, or none where no other has it
abbrev pub Holder : List ℕ → ℕ → ℕ → Option ℕ → Type 0
Holder al x g None = (i : ℕ) → i < length al → (i ≢ x) → slice_index al i ≢ g
Holder al x g (Some i) = (i < length al) × (i ≢ x) × (slice_index al i ≡ g)

-- a table that has for each good the claim other than x that has it
pub record Holders (al : List ℕ) (x : ℕ) (table : List (Option ℕ)) : Type 0 where
  pub wide : length table ≡ most_goods
  pub each : (g : ℕ) → g < length table → Holder al x g (slice_index_or table g None)

-- the step at a place
abbrev pub step_at : List Step → ℕ → Step
step_at q s = slice_index_or q s (record { claim = 0; from = 0 })

-- the first k of the steps q have claims of n, the new claim x at the first place alone; each other step is from an earlier place
pub record Queued (n x : ℕ) (q : List Step) (k : ℕ) : Type 0 where
  pub first : (step_at q 0).claim ≡ x
  pub others : (s : ℕ) → 0 < s → s < k → ((step_at q s).claim < n) × ((step_at q s).claim ≢ x)
  pub earlier : (s : ℕ) → 0 < s → s < k → (step_at q s).from < s

-- each of these claims but x has a good that may go to the claim that it was reached from, no two the same good
pub record Reached (fit : ℕ → ℕ → Bool) (n x : ℕ) (al : List ℕ) (q : List Step) (k : ℕ) : Type 0 where
  pub some : 0 < k
  pub upto : k ≤ n
  pub queued : Queued n x q k
  pub step : (s : ℕ) → 0 < s → s < k → fit (slice_index al (step_at q s).claim) (step_at q (step_at q s).from).claim ≡ true
  pub apart : (s t : ℕ) → 0 < s → s < k → 0 < t → t < k → slice_index al (step_at q s).claim ≡ slice_index al (step_at q t).claim → s ≡ t

-- a path: the good g, which no claim but x has, may go to the claim at place p of the steps
pub record Path (fit : ℕ → ℕ → Bool) (n x : ℕ) (al : List ℕ) (q : List Step) (p g : ℕ) : Type 0 where
  pub reached : Reached fit n x al q (p + 1)
  pub here : fit g (step_at q p).claim ≡ true
  pub free : (i : ℕ) → i < n → (i ≢ x) → slice_index al i ≢ g

-- a shortage: each good that may go to one of these claims is had by one of them other than x, so that they are one more than the goods
pub record Shortage (fit : ℕ → ℕ → Bool) (n x : ℕ) (al : List ℕ) (q : List Step) (k : ℕ) : Type 0 where
  pub reached : Reached fit n x al q k
  pub held : (s g : ℕ) → s < k → fit g (step_at q s).claim ≡ true → (t : ℕ) × (0 < t) × (t < k) × (slice_index al (step_at q t).claim ≡ g)

-- the claims that `who` names have each a good that may go to it, no two the same good
pub record Allots (fit : ℕ → ℕ → Bool) (who : ℕ → Type 0) (al : List ℕ) : Type 0 where
  pub suit : (i : ℕ) → who i → fit (slice_index al i) i ≡ true
  pub apart : (i j : ℕ) → who i → who j → slice_index al i ≡ slice_index al j → i ≡ j

-- all of n claims
abbrev pub all_of : ℕ → ℕ → Type 0
all_of n i = i < n

-- all of n claims but the one at x
abbrev pub all_but : ℕ → ℕ → ℕ → Type 0
all_but n x i = (i < n) × (i ≢ x)
