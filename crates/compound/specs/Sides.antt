-- Which of two sides takes a claim, and what holds of the books of both.
use Rattle.std.specs.Prelude.{◌≡◌, ℕ, ◌+◌, ◌≤◌, Bool, true, not, length, nat_le}
use Rattle.claims.specs.declared.Claim.{Claim}
use Rattle.claims.specs.Book.{Book, every, apart}
use Rattle.claims.specs.Limits.{most_claims}

-- whether a claim is for the first side: it is of the shelf s or of one below
abbrev pub low : ℕ → Claim → Bool
low s c = nat_le c.demand.shelf s

-- whether it is for the second
abbrev pub high : ℕ → Claim → Bool
high s c = not (low s c)

-- what holds of the books of the two sides: each has its own claims, under other keys, and together they are few
pub record Sides (s : ℕ) (a b : Book) : Type 0 where
  pub lows : every (low s) a ≡ true
  pub highs : every (high s) b ≡ true
  pub distinct : apart a b ≡ true
  pub room : length a + length b ≤ most_claims
