-- A pool: a quantity of like units, such as buggies.
use Rattle.std.specs.Prelude.{◌≡◌, ℕ, ◌+◌, ◌≤◌, Bool, ◌&&◌, [], ◌∷◌, length, Some, Decides, nat_le}
use Rattle.std.specs.List.{slice_get}
use Rattle.claims.specs.declared.Cause.TheVariants.{PoolShort}
use Rattle.claims.specs.declared.Claim.{Claim}
use Rattle.claims.specs.declared.ClaimState.TheVariants.{Out}
use Rattle.claims.specs.declared.ItemNumber.{ItemNumber}
use Rattle.claims.specs.Book.{Book, waits_or_has, every}
use Rattle.claims.specs.Limits.{most_claims, most_units}
use Rattle.claims.specs.Rules.{Rules}
use Rattle.shelf.specs.Shelves.{Kind, one_number, shelved}

-- the quantities of all claims, waiting and out
abbrev pub quantities : Book → ℕ
quantities [] = 0
quantities (c ∷ b) = c.demand.first + quantities b

-- a unit of a pool has no number of its own: it is 0
abbrev pub unnumbered : Claim → Bool
unnumbered c = waits_or_has 0 c.state

-- a pool of n units: a demand's number is a quantity
abbrev pub pool_kind : ℕ → Kind
pool_kind n = record {
  formed = one_number most_units;
  amount = λ d. d.first;
  enough = λ b. nat_le (quantities b) n && every unnumbered b;
  short = PoolShort;
}

-- the rules of a pool of n units on the shelf s
abbrev pub pool : ℕ → ℕ → Rules
pool s n = shelved s (pool_kind n)

-- O'Neil's escrow: all that is promised, whether it waits or is out, sums to at most n units
pub record Escrowed (n : ℕ) (b : Book) : Type 0 where
  pub few : length b ≤ most_claims
  -- the quantities, waiting and out, do not pass the size
  pub covered : quantities b ≤ n
  -- each claim that is out has the unit 0
  pub alike : (i : ℕ) (c : Claim) (u : ItemNumber) → slice_get b i ≡ Some c → c.state ≡ Out u → u.0 ≡ 0

-- a pool carries exactly the books that escrow allows
abbrev pub EscrowRule : ℕ → ℕ → Type 0
EscrowRule s n = (b : Book) → Decides ((pool s n).carries b) (Escrowed n b)
