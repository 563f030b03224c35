-- Where a key stands in a book by rising key.
use Rattle.std.specs.Prelude.{◌≡◌, ℕ, suc, ◌<◌, ◌≤◌, Bool, true, cond, ◌&&◌, [], ◌∷◌, length, nat_lt, slice_index_or}
use Rattle.claims.specs.declared.Claim.{Claim}
use Rattle.claims.specs.Book.{Book, key_of}

-- how many claims stand before a key
abbrev pub rank : ℕ → Book → ℕ
rank k [] = 0
rank k (c ∷ b) = cond (nat_lt (key_of c) k) (suc (rank k b)) 0

-- whether every key of the book is above k
abbrev pub above : ℕ → Book → Bool
above k [] = true
above k (c ∷ b) = nat_lt k (key_of c) && above k b

-- whether the claims stand by rising key
abbrev pub rises : Book → Bool
rises [] = true
rises (c ∷ b) = above (key_of c) b && rises b

-- no key is under k
abbrev pub From : ℕ → Book → Type 0
From k [] = Unit {0}
From k (c ∷ b) = (k ≤ key_of c) × From k b

-- each key is under k
abbrev pub Under : ℕ → Book → Type 0
Under k [] = Unit {0}
Under k (c ∷ b) = (key_of c < k) × Under k b

-- the claim under the key k stands at i
pub record Stands (k : ℕ) (b : Book) (i : ℕ) : Type 0 where
  pub ranked : i ≡ rank k b
  pub within : i < length b
  pub keyed : (d : Claim) → key_of (slice_index_or b i d) ≡ k
