-- Which unit a claim goes out with.
use Rattle.std.specs.Prelude.{ℕ, zero, suc, Bool, true, false}
use Rattle.claims.specs.Book.{Book, out}
use Rattle.claims.specs.Limits.{last_unit}
use Rattle.claims.specs.Rules.{Rules}

-- the least number from i on, of n, that passes a test; i + n where none does
abbrev pub least_from : (ℕ → Bool) → ℕ → ℕ → ℕ
least_from f i zero = i
least_from f i (suc n) = elim (f i) [ true ↦ i | false ↦ least_from f (suc i) n ]

-- what draw gives: the least unit that keeps the book carried
abbrev pub drawn : Rules → Book → ℕ → ℕ
drawn r b k = least_from (λ u. r.carries (out k u b)) 0 (suc last_unit)
