-- What calls lead to, and what holds there whatever the calls were.
use Rattle.std.specs.Prelude.{◌≡◌, ℕ, true, [], ◌∷◌}
use Rattle.claims.specs.declared.Claim.{Claim}
use Rattle.claims.specs.Book.{Book, Rising}
use Rattle.claims.specs.Rules.{Rules, Laws}
use Rattle.machine.specs.Machine.{State, Call, step, start}
use Rattle.machine.specs.Entries.{Consistent}

-- the states that calls lead to, of a broker made over a book
pub data Reached (r : Rules) (first : ℕ) (b : Book) : State → Type 0 where
  begun : Reached r first b (start first b)
  dealt : {s : State} (c : Call) → Reached r first b s → Reached r first b (step r s c).0

-- every promise can be kept: the book holds just the claims of the live promises, and the goods carry it
pub record KeptTo (r : Rules) (s : State) : Type 0 where
  pub consistent : Consistent s
  -- with no promise left there is no claim
  pub cleared : s.live ≡ [] → s.book ≡ []
  pub rising : Rising s.book
  pub carried : r.carries s.book ≡ true

-- over every resource with the laws, from every first number, after any calls
pub record StaysConsistent : Type 0 where
  -- a broker made over no claims keeps to its promises
  pub over_none : (r : Rules) → Laws r → (first : ℕ) (s : State) → Reached r first [] s → KeptTo r s
  -- a broker made over a book with claims promises nothing, and leaves the book alone
  pub over_claims : (r : Rules) (first : ℕ) (c : Claim) (b : Book) (s : State) → Reached r first (c ∷ b) s → (s.live ≡ []) × (s.book ≡ c ∷ b)
