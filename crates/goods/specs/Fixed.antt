-- Goods whose demands say which unit goes out: 0 for a pool, and the item named for named goods.
use Rattle.std.specs.Prelude.{◌≡◌, ℕ, suc, ◌≤◌, Bool, true, ◌&&◌, [], length, Some, Ok, Decides, ◌==◌, nat_le, refl}
use Rattle.std.proofs.Common.{sym, ap, ◌∙◌, arith}
use Rattle.std.specs.List.{slice_get}
use Rattle.std.proofs.lemmas.Bool.{and_parts, and_from, eqb-true, eq-eqb, ne_eqb, le-leb}
use Rattle.claims.specs.declared.Cause.{Cause}
use Rattle.claims.specs.declared.Claim.{Claim}
use Rattle.claims.specs.declared.ClaimKey.{ClaimKey}
use Rattle.claims.specs.declared.ClaimState.{ClaimState}
use Rattle.claims.specs.declared.ClaimState.TheVariants.{Waiting, Out}
use Rattle.claims.specs.declared.Demand.{Demand}
use Rattle.claims.specs.declared.ItemNumber.{ItemNumber}
use Rattle.claims.specs.Book.{Book, waits_or_has, find, insert, without, out, every}
use Rattle.claims.specs.Limits.{most_claims, most_units, last_unit}
use Rattle.claims.specs.Rules.{Rules, Laws, readable}
use Rattle.claims.proofs.Books.{length-out, every-without}
use Rattle.resource.specs.Calls.{Drawn}
use Rattle.resource.specs.Draws.{drawn}
use Rattle.resource.proofs.Refusals.{least_is, goes-out}
use Rattle.shelf.specs.Asked.{found_waiting}
use Rattle.shelf.specs.Shelves.{Kind, shelved}
use Rattle.shelf.proofs.Every.{true-and, every-find, every-nth, every_shows, every_with, every-sent, every-out}
use Rattle.shelf.proofs.Shelving.{carries_says, carries_shows, waits_there, shelved_laws}

-- whether a claim has its unit, by what its state says
unit_says : (u : ℕ) (q : ClaimState) (i : ItemNumber) → waits_or_has u q ≡ true → q ≡ Out i → i.0 ≡ u
unit_says u q i e w = eqb-true i.0 u (ap (waits_or_has u) (sym w) ∙ e)

unit_shows : (u : ℕ) (q : ClaimState) → ((i : ItemNumber) → q ≡ Out i → i.0 ≡ u) → waits_or_has u q ≡ true
unit_shows u Waiting h = refl
unit_shows u (Out i) h = eq-eqb i.0 u (h i refl)

-- such goods: what they read and count, whether they suffice for a book whatever its units, the unit of a demand,
-- their cause, and what they are to show
pub record Fixed : Type 0 where
  pub formed : Demand → Bool
  pub amount : Demand → ℕ
  pub suffice : Book → Bool
  pub unit : Demand → ℕ
  pub short : Cause
  pub amounts : (d : Demand) → formed d ≡ true → (1 ≤ amount d) × (amount d ≤ most_units)
  pub none : suffice [] ≡ true
  pub fewer : (j : ℕ) (b : Book) → suffice b ≡ true → suffice (without j b) ≡ true
  pub alike : (j u : ℕ) (b : Book) → suffice (out j u b) ≡ suffice b
  pub small : (j : ℕ) (c : Claim) (b : Book) → suffice b ≡ true → find b j ≡ Some c → unit c.demand ≤ last_unit

abbrev pub proper : Fixed → Claim → Bool
proper f c = waits_or_has (f.unit c.demand) c.state

abbrev pub kind_of : Fixed → Kind
kind_of f = record { formed = f.formed; amount = f.amount; enough = λ b. f.suffice b && every (proper f) b; short = f.short }

-- the rules of such goods on the shelf s
abbrev pub rules_of : ℕ → Fixed → Rules
rules_of s f = shelved s (kind_of f)

-- a book carried by such goods
pub record Carried (f : Fixed) (b : Book) : Type 0 where
  pub few : length b ≤ most_claims
  pub sufficient : f.suffice b ≡ true
  pub units : (i : ℕ) (c : Claim) (u : ItemNumber) → slice_get b i ≡ Some c → c.state ≡ Out u → u.0 ≡ f.unit c.demand

-- a claim that has gone out with a unit
pub record Gone (r : Rules) (k : ClaimKey) (b b' : Book) (u : ItemNumber) : Type 0 where
  pub carried : r.carries b' ≡ true
  pub all_read : every (readable r) b' ≡ true
  pub drawn : Drawn k r b (Ok u) r b'

module _ (s : ℕ) (f : Fixed) where
  abbrev rules : Rules
  rules = rules_of s f

  pub carries_exactly : (b : Book) → Decides (rules.carries b) (Carried f b)
  carries_exactly b = (
    (λ e.
        let p = carries_says s (kind_of f) b e in
        let q = and_parts (f.suffice b) (every (proper f) b) p.1 in
        record { few = p.0; sufficient = q.0; units = λ i c u g w. unit_says (f.unit c.demand) c.state u (every-nth (proper f) i c b q.1 g) w }),
    (λ h. carries_shows s (kind_of f) b h.few
        (and_from (f.suffice b) (every (proper f) b) h.sufficient (every_shows (proper f) b (λ i c g. unit_shows (f.unit c.demand) c.state (λ u w. h.units i c u g w))))),
  )

  -- where a book is carried, one claim more has to find goods, and to wait or to have the unit of its demand
  pub enough_with : (x : Claim) (b : Book) (q r : Bool) (u : ℕ) → rules.carries b ≡ true → (f.suffice b ≡ true → q ≡ f.suffice (insert x b)) → u ≡ f.unit x.demand → r ≡ waits_or_has u x.state → (q && r) ≡ (kind_of f).enough (insert x b)
  enough_with x b q r u e suffices is own =
      let p = and_parts (f.suffice b) (every (proper f) b) (carries_says s (kind_of f) b e).1 in
      let one = suffices p.0 in
      let two = every_with (proper f) x b p.1 in
      cc

  -- going out, a claim leaves the book carried exactly with the unit of its demand
  enough-out : (j u : ℕ) (c : Claim) (b : Book) → (kind_of f).enough b ≡ true → find b j ≡ Some c → (kind_of f).enough (out j u b) ≡ (u == f.unit c.demand)
  enough-out j u c b e g =
      let p = and_parts (f.suffice b) (every (proper f) b) e in
      true-and (f.suffice (out j u b)) (every (proper f) (out j u b)) (f.alike j u b ∙ p.0) ∙ every-sent (proper f) j u c b p.1 g

  carries-out : (j u : ℕ) (c : Claim) (b : Book) → rules.carries b ≡ true → find b j ≡ Some c → rules.carries (out j u b) ≡ (u == f.unit c.demand)
  carries-out j u c b e g =
      let p = carries_says s (kind_of f) b e in
      true-and (nat_le (length (out j u b)) most_claims) ((kind_of f).enough (out j u b)) (le-leb (length (out j u b)) most_claims (omega (arith, length-out j u b, p.0))) ∙ enough-out j u c b p.1 g

  drawn_is : (j : ℕ) (c : Claim) (b : Book) → rules.carries b ≡ true → find b j ≡ Some c → drawn rules b j ≡ f.unit c.demand
  drawn_is j c b e g =
      let v = f.unit c.demand in
      let top = f.small j c b ((carries_exactly b).0 e).sufficient g in
      least_is (λ u. rules.carries (out j u b)) 0 (suc last_unit) v (omega arith) (omega arith)
      (carries-out j v c b e g ∙ eq-eqb v v refl)
      (λ u l h. carries-out j u c b e g ∙ ne_eqb u v (λ z. omega arith))

  pub goes-out_as : (k : ClaimKey) (b b' : Book) (c : Claim) (u : ItemNumber) → rules.carries b ≡ true → every (readable rules) b ≡ true → found_waiting k (find b k.0) ≡ Ok c → u.0 ≡ f.unit c.demand → b' ≡ out k.0 u.0 b → Gone rules k b b' u
  goes-out_as k b b' c u e all g is after =
      let w = waits_there k (find b k.0) c g in
      record {
        carried = ap rules.carries after ∙ carries-out k.0 u.0 c b e w.0 ∙ eq-eqb u.0 (f.unit c.demand) is;
        all_read = ap (every (readable rules)) after ∙ every-out (readable rules) k.0 u.0 b (λ x. refl) ∙ all;
        drawn = goes-out k rules b b' u.0 c w.0 w.1 (drawn_is k.0 c b e w.0 ∙ sym is) after;
      }

  pub fixed_laws : Laws rules
  fixed_laws = shelved_laws s (kind_of f)
      (and_from (f.suffice []) true f.none refl)
      (λ b j h e. let p = and_parts (f.suffice b) (every (proper f) b) e in and_from (f.suffice (without j b)) (every (proper f) (without j b)) (f.fewer j b p.0) (every-without (proper f) j b p.1))
      (λ b j c h e g w. (f.unit c.demand, enough-out j (f.unit c.demand) c b e g ∙ eq-eqb (f.unit c.demand) (f.unit c.demand) refl))
      (λ b j c i h e g w.
      let p = and_parts (f.suffice b) (every (proper f) b) e in
      omega (arith, unit_says (f.unit c.demand) c.state i (every-find (proper f) j c b p.1 g) w, f.small j c b p.0 g))
      f.amounts
