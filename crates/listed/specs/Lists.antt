-- A list of goods that are not alike, such as rooms or tee places: a demand is for any good that suits it.
use Rattle.std.specs.Prelude.{ℕ, ◌≤◌, Bool, List, length, Decides}
use Rattle.claims.specs.declared.Cause.TheVariants.{NoMatching}
use Rattle.claims.specs.declared.Demand.{Demand}
use Rattle.claims.specs.Book.{Book}
use Rattle.claims.specs.Limits.{most_claims}
use Rattle.claims.specs.Rules.{Rules}
use Rattle.shelf.specs.Shelves.{Kind, shelved}
use Rattle.matching.specs.Matching.{Matching, carried}

-- the goods of a list: each demand counts one unit, and there are enough if each claim can have a good that suits it
abbrev pub list_kind : {G : Type 0} → (G → Demand → Bool) → (Demand → Bool) → List G → Kind
list_kind suits formed goods = record { formed = formed; amount = λ _. 1; enough = carried suits goods; short = NoMatching }

-- the rules of a list of goods on the shelf s
abbrev pub listed : {G : Type 0} → (G → Demand → Bool) → (Demand → Bool) → ℕ → List G → Rules
listed suits formed s goods = shelved s (list_kind suits formed goods)

-- few claims, all of which a matching covers, each claim that is out on its own unit
pub record Covered {G : Type 0} (suits : G → Demand → Bool) (goods : List G) (b : Book) : Type 0 where
  pub few : length b ≤ most_claims
  pub allotment : List ℕ
  pub matched : Matching suits goods b allotment

-- a list carries exactly the books that a matching covers
abbrev pub MatchingRule : {G : Type 0} → (G → Demand → Bool) → (Demand → Bool) → ℕ → List G → Type 0
MatchingRule suits formed s goods = (b : Book) → Decides ((listed suits formed s goods).carries b) (Covered suits goods b)
