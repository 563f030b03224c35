-- Matchings: by places and by claims, without a claim, and beside one.
use Rattle.std.proofs.Common.{◌≡◌, ℕ, ◌<◌, ◌≤◌, Bool, true, false, List, length, get_or, set, Some, sym, ap, ◌∙◌, subst, arith}
use Rattle.std.proofs.Math.Logic.{∥∥₁_elim}
use Rattle.std.proofs.Props.{props}
use Rattle.std.proofs.lemmas.Option.{slice_get_within}
use Rattle.std.specs.List.{remove, insert, slice_get}
use Rattle.std.proofs.lemmas.List.Edits.{length-remove}
use Rattle.std.proofs.lemmas.Bool.{false_from_ne_true}
use Rattle.claims.specs.declared.Claim.{Claim}
use Rattle.claims.specs.declared.Demand.{Demand}
use Rattle.matching.specs.Matching.{Matching, Serves, carried, passes, serves}
use Rattle.matching.specs.Paths.{Allots, all_but, all_of, fits}
use Rattle.matching.proofs.Covers.{covers_right}
use Rattle.matching.proofs.Passing.{nth-some, serves_says, serves_shows}
use Rattle.matching.proofs.Places.{get_or_removed, nth_removed, removed_inserted, removed_set, skip, skip_apart, skip_less, skip_onto}

module _ {G : Type 0} (F : G → Demand → Bool) (goods : List G) where
  fits_shows : (b : List Claim) (i g : ℕ) (c : Claim) → slice_get b i ≡ Some c → Serves F goods c g → fits F goods b g i ≡ true
  fits_shows b i g c is s = ap (passes (λ x. serves F goods x.demand x.state g)) is ∙ serves_shows F goods c g s

  -- an allotment of all claims is a matching
  pub allots_matching : (b : List Claim) (al : List ℕ) → length al ≡ length b → Allots (fits F goods b) (all_of (length b)) al → Matching F goods b al
  allots_matching b al len a = record {
    whole = len;
    served = λ i c is. serves_says F goods c (get_or al i 0) (sym (ap (passes (λ x. serves F goods x.demand x.state (get_or al i 0))) is) ∙ a.suit i (slice_get_within b i c is));
    apart = a.apart;
  }

  pub matching_allots : (b : List Claim) (al : List ℕ) → Matching F goods b al → Allots (fits F goods b) (all_of (length b)) al
  matching_allots b al m = record {
    suit = λ i l. let w = nth-some b i l in fits_shows b i (get_or al i 0) w.0 w.1 (m.served i w.0 w.1);
    apart = m.apart;
  }

  -- whether it is one is a plain fact, so that it is known where it is only known to be so
  pub matching_settled : (b : List Claim) (al : List ℕ) → ∥ Matching F goods b al ∥₁ → Matching F goods b al
  matching_settled b al m =
      allots_matching b al
      (∥∥₁_elim m (hlevel props) (λ w. w.whole))
      (∥∥₁_elim m (hlevel props) (matching_allots b al))

  -- a matching of the others is an allotment of all but one
  pub others_allots : (b : List Claim) (al : List ℕ) (x : ℕ) → x < length b → Matching F goods (remove b x) (remove al x) → Allots (fits F goods b) (all_but (length b) x) al
  others_allots b al x l m =
      let short = length-remove b x l in
      let at : (i : ℕ) (ne : i ≡ x → ⊥) → get_or (remove al x) (skip_onto x i ne).0 0 ≡ get_or al i 0 =
      (λ i ne. get_or_removed al x (skip_onto x i ne).0 0 ∙ ap (λ (k : ℕ). get_or al k 0) (skip_onto x i ne).1) in
      let within : (i : ℕ) (ne : i ≡ x → ⊥) → i < length b → (skip_onto x i ne).0 < length (remove b x) =
      (λ i ne li. let e = (skip_onto x i ne).1 in let u = (skip_less x (skip_onto x i ne).0 (length b) l).1 (omega arith) in omega arith) in
      record {
        suit = λ i w.
            let j = skip_onto x i w.1 in
            let c = nth-some b i w.0 in
            let is : slice_get (remove b x) j.0 ≡ Some c.0 = nth_removed b x j.0 ∙ ap (slice_get b) j.1 ∙ c.1 in
            fits_shows b i (get_or al i 0) c.0 c.1 (subst (λ (g : ℕ). Serves F goods c.0 g) (at i w.1) (m.served j.0 c.0 is));
        apart = λ i k wi wk e.
            let same = m.apart (skip_onto x i wi.1).0 (skip_onto x k wk.1).0 (within i wi.1 wi.0) (within k wk.1 wk.0) (at i wi.1 ∙ e ∙ sym (at k wk.1)) in
            sym (skip_onto x i wi.1).1 ∙ ap (skip x) same ∙ (skip_onto x k wk.1).1;
      }

  -- the claims but one keep their goods
  pub matching_fewer : (b : List Claim) (al : List ℕ) (i : ℕ) → i < length b → Matching F goods b al → Matching F goods (remove b i) (remove al i)
  matching_fewer b al i l m =
      let len = m.whole in
      let short = length-remove b i l in
      let less : (j : ℕ) → j < length (remove b i) → skip i j < length b = (λ j h. (skip_less i j (length b) l).0 (omega arith)) in
      record {
        whole = (let s = length-remove al i (omega arith) in omega arith);
        served = λ j c is. subst (λ (g : ℕ). Serves F goods c g) (sym (get_or_removed al i j 0)) (m.served (skip i j) c (sym (nth_removed b i j) ∙ is));
        apart = λ j k hj hk e. skip_apart i j k (m.apart (skip i j) (skip i k) (less j hj) (less k hk) (sym (get_or_removed al i j 0) ∙ e ∙ get_or_removed al i k 0));
      }

  -- beside a claim that comes in, the others keep their goods
  pub matching_beside : (b : List Claim) (al : List ℕ) (i : ℕ) (c : Claim) (v : ℕ) → i ≤ length b → Matching F goods b al → Matching F goods (remove (insert b i c) i) (remove (insert al i v) i)
  matching_beside b al i c v l m =
      let len = m.whole in
      subst (λ (a : List ℕ). Matching F goods (remove (insert b i c) i) a) (sym (removed_inserted al i v (omega arith)))
      (subst (λ (y : List Claim). Matching F goods y al) (sym (removed_inserted b i c l)) m)

  -- beside a claim that changes, the others keep their goods
  pub matching_around : (b : List Claim) (al : List ℕ) (i : ℕ) (c : Claim) → i < length b → Matching F goods b al → Matching F goods (remove (set b i c) i) (remove al i)
  matching_around b al i c l m = subst (λ (y : List Claim). Matching F goods y (remove al i)) (sym (removed_set b i c)) (matching_fewer b al i l m)

  pub matching_carried : (b : List Claim) (al : List ℕ) → Matching F goods b al → carried F goods b ≡ true
  matching_carried b al m = (covers_right F goods b).1 (al, m)

  pub carried_matching : (b : List Claim) → carried F goods b ≡ true → (al : List ℕ) × Matching F goods b al
  carried_matching b e = (covers_right F goods b).0 e

  pub never_carried : (b : List Claim) → ((al : List ℕ) → Allots (fits F goods b) (all_of (length b)) al → ⊥) → carried F goods b ≡ false
  never_carried b none = false_from_ne_true (carried F goods b) (λ y. let w = carried_matching b y in none w.0 (matching_allots b w.0 w.1))
