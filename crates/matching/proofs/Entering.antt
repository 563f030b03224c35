-- The table of holders while claims are entered.
use Rattle.std.proofs.Common.{◌≡◌, ℕ, ◌<◌, List, length, get_or, replicate, Some, None, Option, sym, refl, subst, arith}
use Rattle.std.proofs.lemmas.List.{get_or-replicate}
use Rattle.matching.specs.Paths.{Holder}

-- the claim other than x that has the good at place g, of the first k claims
abbrev pub Entered : List ℕ → ℕ → ℕ → ℕ → Option ℕ → Type 0
Entered al x k g None = (i : ℕ) → i < k → (i ≡ x → ⊥) → get_or al i 0 ≡ g → ⊥
Entered al x k g (Some i) = (i < k) × (i ≡ x → ⊥) × (get_or al i 0 ≡ g)

pub entered_start : (al : List ℕ) (x n g : ℕ) → g < n → Entered al x 0 g (get_or (replicate n None) g None)
entered_start al x n g l = subst (λ (o : Option ℕ). Entered al x 0 g o) (sym (get_or-replicate n g None None l)) (λ i b. absurd (omega arith))

-- a good that the table has for no claim is had by no other claim
pub unheld : (al : List ℕ) (x g : ℕ) (o : Option ℕ) → ((i : ℕ) → o ≡ Some i → ⊥) → Holder al x g o → (i : ℕ) → i < length al → (i ≡ x → ⊥) → get_or al i 0 ≡ g → ⊥
unheld al x g None none h = h
unheld al x g (Some i) none h = absurd (none i refl)
