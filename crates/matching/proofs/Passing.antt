-- Tests of what stands at a place of a list, and what they say of goods and claims.
use Rattle.std.proofs.Common.{◌≡◌, ℕ, zero, suc, ◌+◌, ◌<◌, Bool, true, ◌&&◌, List, [], ◌∷◌, length, get_or, Some, None, Option, sym, refl, ap, ◌∙◌, add-one, arith}
use Rattle.std.specs.List.{slice_get}
use Rattle.std.proofs.lemmas.Option.{slice_get_read, slice_get_within}
use Rattle.std.proofs.lemmas.Bool.{and_from, and_parts, eq-eqb, eqb-true, false≢true}
use Rattle.claims.specs.declared.Claim.{Claim}
use Rattle.claims.specs.declared.ClaimState.{ClaimState}
use Rattle.claims.specs.declared.ClaimState.TheVariants.{Waiting, Out}
use Rattle.claims.specs.declared.Demand.{Demand}
use Rattle.claims.specs.declared.ItemNumber.{ItemNumber}
use Rattle.claims.specs.Book.{waits_or_has}
use Rattle.matching.specs.Matching.{Serves, passes, serves}
use Rattle.matching.specs.Paths.{fits}

pub nth-some : {X : Type 0} (xs : List X) (i : ℕ) → i < length xs → (x : X) × (slice_get xs i ≡ Some x)
nth-some [] i l = absurd (omega arith)
nth-some (x ∷ xs) zero l = (x, refl)
nth-some (x ∷ xs) (suc i) l = nth-some xs i (omega arith)

pub passes_says : {X : Type 0} (p : X → Bool) (o : Option X) → passes p o ≡ true → (x : X) × (o ≡ Some x) × (p x ≡ true)
passes_says p None e = absurd (false≢true e)
passes_says p (Some x) e = (x, refl, e)

pub passes_read : {X : Type 0} (p : X → Bool) (xs : List X) (k : ℕ) (x : X) → k < length xs → x ≡ get_or xs k x → passes p (slice_get xs k) ≡ p x
passes_read p xs k x l e = ap (passes p) (slice_get_read xs (length xs) k x refl l e)

own_shows : (g : ℕ) (t : ClaimState) → ((u : ItemNumber) → t ≡ Out u → u.0 ≡ suc g) → waits_or_has (suc g) t ≡ true
own_shows g Waiting own = refl
own_shows g (Out u) own = eq-eqb u.0 (suc g) (own u refl)

module _ {G : Type 0} (F : G → Demand → Bool) (goods : List G) where
  pub serves_says : (c : Claim) (g : ℕ) → serves F goods c.demand c.state g ≡ true → Serves F goods c g
  serves_says c g e =
      let p = and_parts (waits_or_has (suc g) c.state) (passes (λ good. F good c.demand) (slice_get goods g)) e in
      record {
        suited = passes_says (λ good. F good c.demand) (slice_get goods g) p.1;
        own = λ u o. eqb-true u.0 (suc g) (ap (waits_or_has (suc g)) (sym o) ∙ p.0);
      }

  pub serves_shows : (c : Claim) (g : ℕ) → Serves F goods c g → serves F goods c.demand c.state g ≡ true
  serves_shows c g s =
      and_from (waits_or_has (suc g) c.state) (passes (λ good. F good c.demand) (slice_get goods g))
      (own_shows g c.state s.own)
      (ap (passes (λ good. F good c.demand)) s.suited.1 ∙ s.suited.2)

  pub serves-within : (d : Demand) (t : ClaimState) (g : ℕ) → serves F goods d t g ≡ true → g < length goods
  serves-within d t g e =
      let w = passes_says (λ good. F good d) (slice_get goods g) (and_parts (waits_or_has (suc g) t) (passes (λ good. F good d) (slice_get goods g)) e).1 in
      slice_get_within goods g w.0 w.1

  -- whether a good serves a claim, from its parts
  serves_read : (c : Claim) (k : ℕ) (good : G) (r : Bool) → k < length goods → good ≡ get_or goods k good → r ≡ (waits_or_has (k + 1) c.state && F good c.demand) → serves F goods c.demand c.state k ≡ r
  serves_read c k good r l is says =
      ap (λ (q : Bool). waits_or_has (suc k) c.state && q) (passes_read (λ y. F y c.demand) goods k good l is)
      ∙ ap (λ (n : ℕ). waits_or_has n c.state && F good c.demand) (sym (add-one k))
      ∙ sym says

  module _ (claims : List Claim) (i : ℕ) (c : Claim) (is : slice_get claims i ≡ Some c) where
    -- the test at a claim's place is the test of the claim
    fits_is : (g : ℕ) → fits F goods claims g i ≡ serves F goods c.demand c.state g
    fits_is g = ap (passes (λ x. serves F goods x.demand x.state g)) is

    pub fits_read : (k : ℕ) (good : G) (r : Bool) → k < length goods → good ≡ get_or goods k good → r ≡ (waits_or_has (k + 1) c.state && F good c.demand) → fits F goods claims k i ≡ r
    fits_read k good r l at says = fits_is k ∙ serves_read c k good r l at says

    pub fits-within : (g : ℕ) → fits F goods claims g i ≡ true → g < length goods
    fits-within g y = serves-within c.demand c.state g (sym (fits_is g) ∙ y)
