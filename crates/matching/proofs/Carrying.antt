-- What carried books of listed goods keep to.
use Rattle.std.proofs.Common.{◌≡◌, ℕ, zero, suc, ◌≤◌, Bool, true, false, cond, eqb, ◌⊎◌, List, [], ◌∷◌, length, get_or, set, Some, None, Option, sym, refl, ap, ◌∙◌, subst, inl, inr, ⊎_elim, arith, length-set}
use Rattle.std.proofs.lemmas.Option.{slice_get_within}
use Rattle.std.specs.List.{remove, slice_get}
use Rattle.std.proofs.lemmas.Bool.{cases_eq, cond-true, cond-false}
use Rattle.claims.specs.declared.Claim.{Claim}
use Rattle.claims.specs.declared.ClaimState.TheVariants.{Out}
use Rattle.claims.specs.declared.Demand.{Demand}
use Rattle.claims.specs.declared.ItemNumber.{ItemNumber}
use Rattle.claims.specs.Book.{Book, key_of, find, without, sent, out}
use Rattle.claims.proofs.Books.{without_absent}
use Rattle.matching.specs.Matching.{Matching, Serves, carried}
use Rattle.matching.proofs.Matchings.{carried_matching, matching_carried, matching_fewer}

-- where the claim under a key stands, and what leaves or changes there
pub record Spot (k : ℕ) (b : Book) (c : Claim) (i : ℕ) : Type 0 where
  pub is : slice_get b i ≡ Some c
  pub gone : remove b i ≡ without k b
  pub sends : (u : ℕ) → set b i (sent u c) ≡ out k u b

pub spot : (k : ℕ) (b : Book) (c : Claim) → find b k ≡ Some c → (i : ℕ) × Spot k b c i
spot k [] c e = absurd (let z : ◌≡◌ {A = ℕ} 0 1 = cc in omega arith)
spot k (x ∷ b) c e =
    go (eqb (key_of x) k) refl e (λ f. spot k b c f)
  where
    go : (q : Bool) → eqb (key_of x) k ≡ q → cond q (Some x) (find b k) ≡ Some c → (find b k ≡ Some c → (i : ℕ) × Spot k b c i) → (i : ℕ) × Spot k (x ∷ b) c i
    go true t f ih =
        let same : x ≡ c = cc in (
          0,
          record {
            is = f;
            gone = sym (cond-true (eqb (key_of x) k) b (x ∷ without k b) t);
            sends = λ u. ap (λ y. sent u y ∷ b) (sym same) ∙ sym (cond-true (eqb (key_of x) k) (sent u x ∷ b) (x ∷ out k u b) t);
          },
        )
    go false t f ih =
        let w = ih f in (
          suc w.0,
          record {
            is = w.1.is;
            gone = ap (λ r. x ∷ r) w.1.gone ∙ sym (cond-false (eqb (key_of x) k) b (x ∷ without k b) t);
            sends = λ u. ap (λ r. x ∷ r) (w.1.sends u) ∙ sym (cond-false (eqb (key_of x) k) (sent u x ∷ b) (x ∷ out k u b) t);
          },
        )

found : (b : Book) (k : ℕ) → ((c : Claim) × (find b k ≡ Some c)) ⊎ (find b k ≡ None)
found b k = either (find b k) refl
  where
    either : (o : Option Claim) → find b k ≡ o → ((c : Claim) × (find b k ≡ Some c)) ⊎ (find b k ≡ None)
    either (Some c) e = inl (c, e)
    either None e = inr e

nth-set-same : {X : Type 0} (xs : List X) (i : ℕ) (y x : X) → slice_get xs i ≡ Some x → slice_get (set xs i y) i ≡ Some y
nth-set-same [] i y x e = cc
nth-set-same (z ∷ xs) zero y x e = refl
nth-set-same (z ∷ xs) (suc i) y x e = nth-set-same xs i y x e

nth-set_other : {X : Type 0} (xs : List X) (i j : ℕ) (y : X) → (j ≡ i → ⊥) → slice_get (set xs i y) j ≡ slice_get xs j
nth-set_other [] i j y ne = refl
nth-set_other (z ∷ xs) zero zero y ne = absurd (ne refl)
nth-set_other (z ∷ xs) zero (suc j) y ne = refl
nth-set_other (z ∷ xs) (suc i) zero y ne = refl
nth-set_other (z ∷ xs) (suc i) (suc j) y ne = nth-set_other xs i j y (λ e. ne (ap suc e))

module _ {G : Type 0} (F : G → Demand → Bool) (goods : List G) where
  -- a claim that waits goes out with the good that it has
  matching_out : (b : Book) (i : ℕ) (c : Claim) (al : List ℕ) → slice_get b i ≡ Some c → Matching F goods b al → Matching F goods (set b i (sent (suc (get_or al i 0)) c)) al
  matching_out b i c al is m =
      let u = suc (get_or al i 0) in
      let same : length (set b i (sent u c)) ≡ length b = length-set b i (sent u c) in
      record {
        whole = m.whole ∙ sym same;
        served = λ j d at. ⊎_elim
            (λ (e : j ≡ i).
            let there : slice_get (set b i (sent u c)) j ≡ Some (sent u c) = ap (slice_get (set b i (sent u c))) e ∙ nth-set-same b i (sent u c) c is in
            let it : sent u c ≡ d = cc in
            subst (λ (x : Claim). Serves F goods x (get_or al j 0)) it
            (subst (λ (k : ℕ). Serves F goods (sent u c) (get_or al k 0)) (sym e)
            record { suited = (m.served i c is).suited; own = λ v o. (let w : v ≡ record { 0 = u } = cc in ap (λ (y : ItemNumber). y.0) w) }))
            (λ (ne : j ≡ i → ⊥). m.served j d (sym (nth-set_other b i j (sent u c) ne) ∙ at))
            (cases_eq j i);
        apart = λ j k hj hk e. m.apart j k (omega arith) (omega arith) e;
      }

  -- no claims are carried by any goods
  pub none_carried : carried F goods [] ≡ true
  none_carried = refl

  -- a carried book stays carried without any one of its claims
  pub fewer-carried : (b : Book) (k : ℕ) → carried F goods b ≡ true → carried F goods (without k b) ≡ true
  fewer-carried b k e =
      ⊎_elim
      (λ (w : (c : Claim) × (find b k ≡ Some c)).
      let at = spot k b w.0 w.1 in
      let m = carried_matching F goods b e in
      let l = slice_get_within b at.0 w.0 at.1.is in
      subst (λ (r : Book). carried F goods r ≡ true) at.1.gone (matching_carried F goods (remove b at.0) (remove m.0 at.0) (matching_fewer F goods b m.0 at.0 l m.1)))
      (λ (n : find b k ≡ None). ap (carried F goods) (without_absent k b n) ∙ e)
      (found b k)

  -- in a carried book each waiting claim can go out with some unit
  pub waiting-goes : (b : Book) (k : ℕ) (c : Claim) → carried F goods b ≡ true → find b k ≡ Some c → (u : ℕ) × (carried F goods (out k u b) ≡ true)
  waiting-goes b k c e f =
      let at = spot k b c f in
      let m = carried_matching F goods b e in
      let u = suc (get_or m.0 at.0 0) in
      (u, subst (λ (r : Book). carried F goods r ≡ true) (at.1.sends u) (matching_carried F goods (set b at.0 (sent u c)) m.0 (matching_out b at.0 c m.0 at.1.is m.1)))

  -- a claim of a carried book is out with a good that serves it
  pub out-serves : (b : Book) (k : ℕ) (c : Claim) (i : ItemNumber) → carried F goods b ≡ true → find b k ≡ Some c → c.state ≡ Out i → (g : ℕ) × (i.0 ≡ suc g) × Serves F goods c g
  out-serves b k c i e f o =
      let at = spot k b c f in
      let m = carried_matching F goods b e in
      let s = m.1.served at.0 c at.1.is in
      (get_or m.0 at.0 0, s.own i o, s)

  -- so its unit is the number of a good
  pub out_unit : (b : Book) (k : ℕ) (c : Claim) (i : ItemNumber) → carried F goods b ≡ true → find b k ≡ Some c → c.state ≡ Out i → (1 ≤ i.0) × (i.0 ≤ length goods)
  out_unit b k c i e f o =
      let w = out-serves b k c i e f o in
      let z = w.1 in
      let l = slice_get_within goods w.0 w.2.suited.0 w.2.suited.1 in
      (omega arith, omega arith)
