-- What sending out a claim that waits leaves, of the claims and of the allotment.
use Rattle.std.specs.Prelude.{◌≡◌, ℕ, ◌<◌, Bool, true, false, List}
use Rattle.claims.specs.declared.Claim.{Claim}
use Rattle.claims.specs.declared.Demand.{Demand}
use Rattle.claims.specs.Book.{Book, key_of, out}
use Rattle.matching.specs.Matching.{Matching, carried}

-- the claim goes out with the unit, the least with which all claims are carried, and the allotment is again a matching
pub record GoneOut {G : Type 0} (suits : G → Demand → Bool) (goods : List G) (c : Claim) (b : Book) (unit : ℕ) (b' : Book) (al' : List ℕ) : Type 0 where
  pub booked : b' ≡ out (key_of c) unit b
  pub carries : carried suits goods b' ≡ true
  pub least : (v : ℕ) → v < unit → carried suits goods (out (key_of c) v b) ≡ false
  pub matched : Matching suits goods b' al'
