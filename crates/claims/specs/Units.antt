-- What a party has of a book.
use Rattle.std.specs.Prelude.{ℕ, ◌+◌, cond, [], ◌∷◌, ◌==◌}
use Rattle.claims.specs.declared.Claim.{Claim}
use Rattle.claims.specs.declared.Demand.{Demand}
use Rattle.claims.specs.Book.{Book}

-- the units of a claim, if it is the party's
abbrev pub share : (Demand → ℕ) → ℕ → Claim → ℕ
share counts p c = cond (c.party.0 == p) (counts c.demand) 0

-- the units of all claims of a party
abbrev pub units_of : (Demand → ℕ) → ℕ → Book → ℕ
units_of counts p [] = 0
units_of counts p (c ∷ b) = share counts p c + units_of counts p b
