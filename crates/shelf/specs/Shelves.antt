-- What all kinds of goods on a shelf have in common.
use Rattle.std.specs.Prelude.{◌≡◌, ℕ, Bool, cond, ◌&&◌, [], length, ◌==◌, nat_le}
use Rattle.claims.specs.declared.Cause.{Cause}
use Rattle.claims.specs.declared.Cause.TheVariants.{TooManyClaims}
use Rattle.claims.specs.declared.Demand.{Demand}
use Rattle.claims.specs.Book.{Book}
use Rattle.claims.specs.Limits.{most_claims, last_shelf}
use Rattle.claims.specs.Rules.{Rules}

-- a demand of the shelf s, which is one of the shelves
abbrev pub on_shelf : ℕ → Demand → Bool
on_shelf s d = nat_le 1 s && nat_le s last_shelf && d.shelf == s

-- a demand that gives a number from 1 up to most, and nothing beside
abbrev pub one_number : ℕ → Demand → Bool
one_number most d = nat_le 1 d.first && nat_le d.first most && d.second == 0

-- a book of too many claims is refused for that, before the kind's own cause
abbrev pub capped : Cause → Book → Cause
capped x b = cond (nat_le (length b) most_claims) x TooManyClaims

-- what tells one kind of goods from another
pub record Kind : Type 0 where
  -- a demand is well formed
  pub formed : Demand → Bool
  -- how many units it counts then
  pub amount : Demand → ℕ
  -- there are goods for all claims of a book
  pub enough : Book → Bool
  -- the cause where there are not
  pub short : Cause

-- the rules of a kind of goods on the shelf s
abbrev pub shelved : ℕ → Kind → Rules
shelved s k = record {
  reads = λ d. on_shelf s d && k.formed d;
  counts = λ d. cond (on_shelf s d && k.formed d) (k.amount d) 0;
  carries = λ b. nat_le (length b) most_claims && k.enough b;
  cause = capped k.short;
}

-- goods just put on their shelf have the rules of their kind, and no claims
pub record Opened (kind : Rules) (r : Rules) (b : Book) : Type 0 where
  pub ruled : r ≡ kind
  pub unclaimed : b ≡ []
