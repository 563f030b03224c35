-- The limit of each party, and when a book keeps to them.
use Rattle.std.specs.Prelude.{ℕ, ◌-◌, ◌≤◌, min, List, slice_index}
use Rattle.claims.specs.declared.Demand.{Demand}
use Rattle.claims.specs.Book.{Book}
use Rattle.claims.specs.Limits.{last_party}
use Rattle.claims.specs.Units.{units_of}

-- the largest limit
abbrev pub most_limit : ℕ
most_limit = 65535

-- the limit of a party, of a list from party 1 on; more than the largest counts as the largest
abbrev pub limit_of : List ℕ → ℕ → ℕ
limit_of limits p = min (slice_index limits (p - 1)) most_limit

-- no party has more units in a book, waiting and out, than its limit
abbrev pub KeepsLimits : List ℕ → (Demand → ℕ) → Book → Type 0
KeepsLimits limits counts b = (p : ℕ) → 1 ≤ p → p ≤ last_party → units_of counts p b ≤ limit_of limits p
