-- What a kind of resource means, and what every kind keeps to.
use Rattle.std.specs.Prelude.{◌≡◌, ℕ, ◌≤◌, Bool, true, false, cond, ◌&&◌, [], length, is_some, Some, None, Ok, Err, Option, Result, nat_le, nat_lt}
use Rattle.claims.specs.declared.Claim.{Claim}
use Rattle.claims.specs.declared.ClaimState.TheVariants.{Waiting, Out}
use Rattle.claims.specs.declared.Demand.{Demand}
use Rattle.claims.specs.declared.ClaimKey.{ClaimKey}
use Rattle.claims.specs.declared.Party.{Party}
use Rattle.claims.specs.declared.ItemNumber.{ItemNumber}
use Rattle.claims.specs.declared.Cause.{Cause}
use Rattle.claims.specs.declared.Cause.TheVariants.{Unreadable, KeyTaken, NoSuchKey, TooManyClaims}
use Rattle.claims.specs.declared.Fault.{Fault}
use Rattle.claims.specs.Book.{Book, key_of, find, insert, without, out, Rising}
use Rattle.claims.specs.Limits.{most_claims, last_party, last_shelf, most_units, last_unit}

-- what a kind of resource means, beside its book: which demands it reads, how many units a demand counts,
-- which books it carries, and the cause for which it turns a claim away where the book with it is not carried
pub record Rules : Type 0 where
  pub reads : Demand → Bool
  pub counts : Demand → ℕ
  pub carries : Book → Bool
  pub cause : Book → Cause

-- the laws of every kind of resource, over books by rising key
pub record Laws (r : Rules) : Type 0 where
  -- the empty book is carried
  pub empty : r.carries [] ≡ true
  -- a carried book stays carried without any one of its claims
  pub fewer : (b : Book) (k : ℕ) → Rising b → r.carries b ≡ true → r.carries (without k b) ≡ true
  -- in a carried book each waiting claim can go out with some unit, and the book stays carried
  pub goes : (b : Book) (k : ℕ) (c : Claim) → Rising b → r.carries b ≡ true → find b k ≡ Some c → c.state ≡ Waiting → (u : ℕ) × (r.carries (out k u b) ≡ true)
  -- a carried book has few claims,
  pub few : (b : Book) → Rising b → r.carries b ≡ true → length b ≤ most_claims
  -- and each unit that is out is small
  pub small : (b : Book) (k : ℕ) (c : Claim) (i : ItemNumber) → Rising b → r.carries b ≡ true → find b k ≡ Some c → c.state ≡ Out i → i.0 ≤ last_unit
  -- a demand that is read is of a shelf, and counts some units; one that is not read counts none
  pub shelves : (d : Demand) → r.reads d ≡ true → (1 ≤ d.shelf) × (d.shelf ≤ last_shelf)
  pub amounts : (d : Demand) → r.reads d ≡ true → (1 ≤ r.counts d) × (r.counts d ≤ most_units)
  pub nothing : (d : Demand) → r.reads d ≡ false → r.counts d ≡ 0

-- a claim that comes in without a unit, and one that comes in with the unit that it has
abbrev pub waiting : ClaimKey → Party → Demand → Claim
waiting k p d = record { key = k; party = p; demand = d; state = Waiting }

abbrev pub seated : ClaimKey → Party → Demand → ItemNumber → Claim
seated k p d u = record { key = k; party = p; demand = d; state = Out u }

abbrev pub is_party : Party → Bool
is_party p = nat_le 1 p.0 && nat_le p.0 last_party

-- a claim of a party and of a demand that the rules read
abbrev pub readable : Rules → Claim → Bool
readable r c = is_party c.party && r.reads c.demand

-- why a book takes no such claim, if it does not
abbrev pub refusal : Rules → Book → Claim → Option Cause
refusal r b c = cond (is_party c.party && r.reads c.demand)
    (cond (is_some (find b (key_of c))) (Some KeyTaken)
    (cond (r.carries (insert c b)) None (Some (r.cause (insert c b)))))
    (Some Unreadable)

abbrev pub answered : ClaimKey → Option Cause → Result (Unit {0}) Fault
answered k None = Ok tt
answered k (Some x) = Err (record { cause = x; key = k })

abbrev pub added : Claim → Book → Option Cause → Book
added c b None = insert c b
added c b (Some x) = b

-- what a call to lift the claim under a key answers, by what stands there
abbrev pub lifted : ClaimKey → Option Claim → Result (Unit {0}) Fault
lifted k None = Err (record { cause = NoSuchKey; key = k })
lifted k (Some c) = Ok tt

-- why a container of claims does not take a claim in, if it does not
abbrev pub shut_out : Book → Claim → Option Cause
shut_out b c = cond (is_some (find b (key_of c))) (Some KeyTaken) (cond (nat_lt (length b) most_claims) None (Some TooManyClaims))

abbrev pub caused : Option Cause → Result (Unit {0}) Cause
caused None = Ok tt
caused (Some x) = Err x
