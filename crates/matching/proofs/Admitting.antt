-- What admitting a claim comes to, found or not found.
use Rattle.std.proofs.Common.{◌≡◌, ℕ, ◌<◌, ◌≤◌, Bool, true, false, ◌&&◌, eqb, ltb, leb, List, length, replicate, sym, refl, ap, ◌∙◌, ⊎_elim, arith}
use Rattle.std.specs.List.{remove}
use Rattle.std.proofs.lemmas.List.{get_or_past, get_or-replicate, length-replicate}
use Rattle.std.proofs.lemmas.Bool.{and_from, and_left, and_parts, and_right, cases_lt, eq-eqb, eqb-true, false≢true, le-leb, leb-true, lt-ltb, ltb-true, true≢false}
use Rattle.claims.specs.declared.Claim.{Claim}
use Rattle.claims.specs.declared.Demand.{Demand}
use Rattle.claims.specs.Limits.{most_claims, most_goods}
use Rattle.matching.specs.Matching.{Admits, Matching, carried, in_bounds}
use Rattle.matching.specs.Paths.{Allots, Blank, all_but, all_of, fits}
use Rattle.matching.proofs.Matchings.{allots_matching, matching_carried, never_carried, others_allots}

-- a new sheet is blank
pub new_blank : (n : ℕ) → Blank (replicate n 0)
new_blank n k = ⊎_elim
    (λ (l : k < n). get_or-replicate n k 0 0 l)
    (λ (l : n ≤ k). get_or_past {X = ℕ} (replicate n 0) k 0 (omega (arith, length-replicate {A = ℕ} n 0)))
    (cases_lt k n)

-- the four bounds, where their test is passed, and no admission where it is not
pub bounds_say : (goods claims al x : ℕ) → in_bounds goods claims al x ≡ true → (goods ≤ most_goods) × (claims ≤ most_claims) × (al ≡ claims) × (x < claims)
bounds_say goods claims al x e =
    let p = and_parts ((leb goods most_goods && leb claims most_claims) && eqb al claims) (ltb x claims) e in
    let q = and_parts (leb goods most_goods && leb claims most_claims) (eqb al claims) p.0 in
    let r = and_parts (leb goods most_goods) (leb claims most_claims) q.0 in
    (leb-true goods most_goods r.0, leb-true claims most_claims r.1, eqb-true al claims q.1, ltb-true x claims p.1)

pub out_of_bounds : {G : Type 0} (F : G → Demand → Bool) (goods : List G) (b : List Claim) (x : ℕ) (al : List ℕ) → in_bounds (length goods) (length b) (length al) x ≡ false → Admits F goods b x al false al
out_of_bounds F goods b x al e = record {
  answer_is = λ m. sym (and_left (in_bounds (length goods) (length b) (length al) x) (carried F goods b) e);
  taken = λ m y. absurd (false≢true y);
  kept = λ _. refl;
}

bounds_hold : (goods claims al x : ℕ) → goods ≤ most_goods → claims ≤ most_claims → al ≡ claims → x < claims → in_bounds goods claims al x ≡ true
bounds_hold goods claims al x few crowd same one =
    and_from ((leb goods most_goods && leb claims most_claims) && eqb al claims) (ltb x claims)
    (and_from (leb goods most_goods && leb claims most_claims) (eqb al claims)
    (and_from (leb goods most_goods) (leb claims most_claims) (le-leb goods most_goods few) (le-leb claims most_claims crowd)) (eq-eqb al claims same))
    (lt-ltb x claims one)

-- inside the bounds
module _ {G : Type 0} (F : G → Demand → Bool) (goods : List G) (b : List Claim) (x : ℕ) (al : List ℕ)
    (few : length goods ≤ most_goods) (crowd : length b ≤ most_claims) (same : length al ≡ length b) (one : x < length b) where
  inside : in_bounds (length goods) (length b) (length al) x ≡ true
  inside = bounds_hold (length goods) (length b) (length al) x few crowd same one

  pub found : (al' : List ℕ) → length al' ≡ length al → (Allots (fits F goods b) (all_but (length b) x) al → Allots (fits F goods b) (all_of (length b)) al') → Admits F goods b x al true al'
  found al' len h =
      let all : Matching F goods (remove b x) (remove al x) → Matching F goods b al' = (λ m. allots_matching F goods b al' (len ∙ same) (h (others_allots F goods b al x one m))) in
      record {
        answer_is = λ m. sym (and_from (in_bounds (length goods) (length b) (length al) x) (carried F goods b) inside (matching_carried F goods b al' (all m)));
        taken = λ m _. all m;
        kept = λ y. absurd (true≢false y);
      }

  pub not_found : ((mt : List ℕ) → Allots (fits F goods b) (all_of (length b)) mt → ⊥) → Admits F goods b x al false al
  not_found none = record {
    answer_is = λ m. sym (and_right (in_bounds (length goods) (length b) (length al) x) (carried F goods b) (never_carried F goods b none));
    taken = λ m y. absurd (false≢true y);
    kept = λ _. refl;
  }

  -- beside a matching of the others, the answer is whether all are carried
  pub answer-carried : (r : Bool) (al' : List ℕ) → Matching F goods (remove b x) (remove al x) → Admits F goods b x al r al' → r ≡ carried F goods b
  answer-carried r al' m h = h.answer_is m ∙ ap (λ (q : Bool). q && carried F goods b) inside
