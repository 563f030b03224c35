-- The places of a list that has lost or gained one.
use Rattle.std.proofs.Common.{◌≡◌, ℕ, zero, suc, ◌+◌, ◌<◌, ◌≤◌, ◌⊎◌, List, [], ◌∷◌, length, get_or, set, refl, ap, inl, inr, ⊎_elim, arith}
use Rattle.std.specs.List.{remove, insert, slice_get}

-- where the place j of a list without its place i stood before
pub skip : ℕ → ℕ → ℕ
skip zero j = suc j
skip (suc i) zero = zero
skip (suc i) (suc j) = suc (skip i j)

pub skip_cases : (i j : ℕ) → ((j < i) × (skip i j ≡ j)) ⊎ ((i ≤ j) × (skip i j ≡ suc j))
unfolding skip
skip_cases zero j = inr (omega arith, refl)
skip_cases (suc i) zero = inl (omega arith, refl)
skip_cases (suc i) (suc j) = ⊎_elim (λ (w : (j < i) × (skip i j ≡ j)). inl (omega (arith, w.0), ap suc w.1)) (λ (w : (i ≤ j) × (skip i j ≡ suc j)). inr (omega (arith, w.0), ap suc w.1)) (skip_cases i j)

pub skip_less : (i j n : ℕ) → i < n → (j + 1 < n → skip i j < n) × (skip i j < n → j + 1 < n)
skip_less i j n l = ⊎_elim (λ (w : (j < i) × (skip i j ≡ j)). ((λ m. omega (arith, w.0, w.1)), (λ m. omega (arith, w.0, w.1)))) (λ (w : (i ≤ j) × (skip i j ≡ suc j)). ((λ m. omega (arith, w.0, w.1)), (λ m. omega (arith, w.0, w.1)))) (skip_cases i j)

pub skip_apart : (i j k : ℕ) → skip i j ≡ skip i k → j ≡ k
unfolding skip
skip_apart zero j k e = omega arith
skip_apart (suc i) zero zero e = refl
skip_apart (suc i) zero (suc k) e = omega arith
skip_apart (suc i) (suc j) zero e = omega arith
skip_apart (suc i) (suc j) (suc k) e = ap suc (skip_apart i j k (omega arith))

pub skip_onto : (i k : ℕ) → (k ≡ i → ⊥) → (j : ℕ) × (skip i j ≡ k)
unfolding skip
skip_onto zero zero ne = absurd (ne refl)
skip_onto zero (suc k) ne = (k, refl)
skip_onto (suc i) zero ne = (zero, refl)
skip_onto (suc i) (suc k) ne = let w = skip_onto i k (λ e. ne (ap suc e)) in (suc w.0, ap suc w.1)

pub nth_removed : {X : Type 0} (xs : List X) (i j : ℕ) → slice_get (remove xs i) j ≡ slice_get xs (skip i j)
unfolding skip
nth_removed [] zero j = refl
nth_removed [] (suc i) j = refl
nth_removed (x ∷ xs) zero j = refl
nth_removed (x ∷ xs) (suc i) zero = refl
nth_removed (x ∷ xs) (suc i) (suc j) = nth_removed xs i j

pub get_or_removed : {X : Type 0} (xs : List X) (i j : ℕ) (d : X) → get_or (remove xs i) j d ≡ get_or xs (skip i j) d
unfolding skip
get_or_removed [] zero j d = refl
get_or_removed [] (suc i) j d = refl
get_or_removed (x ∷ xs) zero j d = refl
get_or_removed (x ∷ xs) (suc i) zero d = refl
get_or_removed (x ∷ xs) (suc i) (suc j) d = get_or_removed xs i j d

pub removed_inserted : {X : Type 0} (xs : List X) (i : ℕ) (y : X) → i ≤ length xs → remove (insert xs i y) i ≡ xs
removed_inserted xs zero y l = refl
removed_inserted [] (suc i) y l = absurd (omega arith)
removed_inserted (x ∷ xs) (suc i) y l = ap (λ r. x ∷ r) (removed_inserted xs i y (omega arith))

pub removed_set : {X : Type 0} (xs : List X) (i : ℕ) (y : X) → remove (set xs i y) i ≡ remove xs i
removed_set [] zero y = refl
removed_set [] (suc i) y = refl
removed_set (x ∷ xs) zero y = refl
removed_set (x ∷ xs) (suc i) y = ap (λ r. x ∷ r) (removed_set xs i y)
