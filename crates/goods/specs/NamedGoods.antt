-- Named goods: each has a number of its own, such as a table, and is asked for by it.
use Rattle.std.specs.Prelude.{◌≡◌, ℕ, ◌<◌, ◌≤◌, Bool, true, false, not, ◌&&◌, ◌||◌, [], ◌∷◌, length, Some, Decides, ◌==◌, ◌≢◌, nat_le}
use Rattle.std.specs.List.{slice_get}
use Rattle.claims.specs.declared.Cause.TheVariants.{ItemTaken}
use Rattle.claims.specs.declared.Claim.{Claim}
use Rattle.claims.specs.declared.ClaimState.TheVariants.{Out}
use Rattle.claims.specs.declared.ItemNumber.{ItemNumber}
use Rattle.claims.specs.Book.{Book, waits_or_has, every}
use Rattle.claims.specs.Limits.{most_claims, most_goods}
use Rattle.claims.specs.Rules.{Rules}
use Rattle.shelf.specs.Shelves.{Kind, one_number, shelved}

-- the item that a claim names
abbrev pub item : Claim → ℕ
item c = c.demand.first

-- some claim names the item i
abbrev pub names : ℕ → Book → Bool
names i [] = false
names i (c ∷ b) = item c == i || names i b

-- no two claims name one item
abbrev pub distinct : Book → Bool
distinct [] = true
distinct (c ∷ b) = not (names (item c) b) && distinct b

-- a claim names one of n goods
abbrev pub in_stock : ℕ → Claim → Bool
in_stock n c = nat_le (item c) n

-- a claim that is out has the item that it names
abbrev pub as_named : Claim → Bool
as_named c = waits_or_has (item c) c.state

-- n named goods: a demand's number is an item
abbrev pub named_kind : ℕ → Kind
named_kind n = record {
  formed = one_number most_goods;
  amount = λ _. 1;
  enough = λ b. distinct b && every (in_stock n) b && every as_named b;
  short = ItemTaken;
}

-- the rules of n named goods on the shelf s
abbrev pub named : ℕ → ℕ → Rules
named s n = shelved s (named_kind n)

-- no item is promised twice, and none that is missing
pub record KeptApart (n : ℕ) (b : Book) : Type 0 where
  pub few : length b ≤ most_claims
  -- no two claims name one item
  pub once : (i j : ℕ) (c d : Claim) → i < j → slice_get b i ≡ Some c → slice_get b j ≡ Some d → item c ≢ item d
  -- each item named is one of the goods
  pub there : (i : ℕ) (c : Claim) → slice_get b i ≡ Some c → item c ≤ n
  -- each claim that is out has the item that it names
  pub own : (i : ℕ) (c : Claim) (u : ItemNumber) → slice_get b i ≡ Some c → c.state ≡ Out u → u.0 ≡ item c

-- named goods carry exactly the books in which items are kept apart
abbrev pub ItemsRule : ℕ → ℕ → Type 0
ItemsRule s n = (b : Book) → Decides ((named s n).carries b) (KeptApart n b)
