-- What the calls of a list do to the allotment.
use Rattle.std.proofs.Common.{◌≡◌, ℕ, zero, suc, ◌+◌, ◌<◌, ◌≤◌, Bool, true, false, cond, eqb, List, [], ◌∷◌, drop, length, is_some, ltb, Some, None, Option, sym, refl, ap, ◌∙◌, subst, ⊎_elim, arith}
use Rattle.std.specs.List.{insert as inserted, remove, slice_get}
use Rattle.std.specs.Option.{IfNone, OnSome}
use Rattle.std.proofs.lemmas.Bool.{cases_eq, cond-false, cond-true, false≢true, false_from_ne_true, le-ltb, lt-ltb, ltb-true}
use Rattle.std.proofs.lemmas.List.Edits.{length-insert as length_inserted}
use Rattle.claims.specs.declared.Claim.{Claim}
use Rattle.claims.specs.declared.Demand.{Demand}
use Rattle.claims.specs.Book.{Book, Rising, find, insert, key_of, out, sent, without}
use Rattle.claims.specs.declared.Cause.TheVariants.{KeyTaken, TooManyClaims}
use Rattle.claims.specs.Rules.{added, shut_out}
use Rattle.claims.specs.Limits.{most_claims, most_goods}
use Rattle.claims.specs.Places.{rank, Stands}
use Rattle.claims.proofs.Books.{length-insert, length-out, without_absent}
use Rattle.claims.proofs.Ranges.{find-out-same}
use Rattle.claims.proofs.Ranks.{found_stands, insert-rank, rank-within, stands_out, stands_removed, stands_some}
use Rattle.shelf.proofs.Shelving.{Passed}
use Rattle.matching.specs.Matching.{Admits, Matching, Serves, carried}
use Rattle.matching.proofs.Admitting.{answer-carried}
use Rattle.matching.proofs.Matchings.{matching_around, matching_beside, matching_fewer}
use Rattle.matching.proofs.Carrying.{out-serves, out_unit, waiting-goes}
use Rattle.matching.proofs.Places.{removed_inserted}

-- a claim that comes in stands where it was to stand
pub insert-keeps-rank : (c : Claim) (b : Book) → rank (key_of c) (insert c b) ≡ rank (key_of c) b
insert-keeps-rank c [] = cond-false (ltb (key_of c) (key_of c)) 1 0 (le-ltb (key_of c) (key_of c) (omega arith))
insert-keeps-rank c (d ∷ b) =
    go (ltb (key_of c) (key_of d)) refl (insert-keeps-rank c b)
  where
    go : (q : Bool) → ltb (key_of c) (key_of d) ≡ q → rank (key_of c) (insert c b) ≡ rank (key_of c) b → rank (key_of c) (cond q (c ∷ d ∷ b) (d ∷ insert c b)) ≡ cond (ltb (key_of d) (key_of c)) (suc (rank (key_of c) b)) 0
    go true t ih =
        cond-false (ltb (key_of c) (key_of c)) (suc (rank (key_of c) (d ∷ b))) 0 (le-ltb (key_of c) (key_of c) (omega arith))
        ∙ sym (cond-false (ltb (key_of d) (key_of c)) (suc (rank (key_of c) b)) 0 (le-ltb (key_of d) (key_of c) (let l = ltb-true (key_of c) (key_of d) t in omega arith)))
    go false t ih = ap (λ (n : ℕ). cond (ltb (key_of d) (key_of c)) (suc n) 0) ih

-- a claim has come into a book with the first good for now, and was admitted or not
pub record Coming {G : Type 0} (F : G → Demand → Bool) (goods : List G) (b : Book) (al : List ℕ) (c : Claim) (i : ℕ) (b₂ : Book) (al₂ : List ℕ) (r : Bool) (al' : List ℕ) : Type 0 where
  pub passed : Passed b c
  pub ranked : i ≡ rank (key_of c) b
  pub booked : b₂ ≡ insert c b
  pub placed : al₂ ≡ inserted al i 0
  pub admits : Admits F goods b₂ i al₂ r al'

-- a claim has gone out with a unit, and was admitted or not
pub record Going {G : Type 0} (F : G → Demand → Bool) (goods : List G) (b : Book) (al : List ℕ) (k i u : ℕ) (b₂ : Book) (r : Bool) (al' : List ℕ) : Type 0 where
  pub stands : Stands k b i
  pub crowd : length b ≤ most_claims
  pub booked : b₂ ≡ out k u b
  pub admits : Admits F goods b₂ i al r al'

-- nothing bars a claim under a new key, where there is room
pub let_in : (c : Claim) (b : Book) → find b (key_of c) ≡ None → length b < most_claims → added c b (shut_out b c) ≡ insert c b
let_in c b absent room =
    ap (added c b) (cond-false (is_some (find b (key_of c))) (Some KeyTaken) (cond (ltb (length b) most_claims) None (Some TooManyClaims)) (ap is_some absent) ∙ cond-true (ltb (length b) most_claims) None (Some TooManyClaims) (lt-ltb (length b) most_claims room))

module _ {G : Type 0} (F : G → Demand → Bool) (goods : List G) (few : length goods ≤ most_goods) (b : Book) (al : List ℕ) (m : Matching F goods b al) where
  -- a claim comes in: it is admitted exactly if all are carried with it, and else the allotment is as it was
  module _ (c : Claim) (i : ℕ) (b₂ : Book) (al₂ : List ℕ) (r : Bool) (al' : List ℕ) (w : Coming F goods b al c i b₂ al₂ r al') where
    within : i ≤ length b
    within = let l = rank-within (key_of c) b in omega (arith, w.ranked)

    beside : Matching F goods (remove b₂ i) (remove al₂ i)
    beside =
        let there : inserted b i c ≡ b₂ = ap (λ (j : ℕ). inserted b j c) w.ranked ∙ insert-rank c b w.passed.absent ∙ sym w.booked in
        subst (λ (y : Book). Matching F goods (remove y i) (remove al₂ i)) there
        (subst (λ (a : List ℕ). Matching F goods (remove (inserted b i c) i) (remove a i)) (sym w.placed) (matching_beside F goods b al i c 0 within m))

    pub comes : r ≡ carried F goods (insert c b)
    comes =
        let n : length b₂ ≡ length b + 1 = ap length w.booked ∙ length-insert c b in
        let l = within in
        let e = m.whole in
        let room = w.passed.room in
        let k : length al₂ ≡ length al + 1 = ap length w.placed ∙ length_inserted al i 0 (omega arith) in
        answer-carried F goods b₂ i al₂ few (omega arith) (omega arith) (omega arith) r al' beside w.admits ∙ ap (carried F goods) w.booked

    pub comes_matched : r ≡ true → Matching F goods b₂ al'
    comes_matched e = w.admits.taken beside e

    pub stays_out : r ≡ false → remove al' i ≡ al
    stays_out n =
        let l = within in
        let e = m.whole in
        ap (λ (x : List ℕ). remove x i) (w.admits.kept n ∙ w.placed) ∙ removed_inserted al i 0 (omega arith)

  -- the claim at a place leaves with its good
  pub leaves_matched : (k i : ℕ) → Stands k b i → Matching F goods (without k b) (remove al i)
  leaves_matched k i at =
      subst (λ (y : Book). Matching F goods y (remove al i)) (stands_removed k b i (stands_some k b i at).0 at) (matching_fewer F goods b al i at.within m)

  -- a claim leaves with its good, if there is one under the key
  pub lifted_matched : (k : ℕ) (o : Option Claim) (al' : List ℕ) → Rising b → o ≡ find b k → OnSome o (al' ≡ remove al (rank k b)) → IfNone o (al' ≡ al) → Matching F goods (without k b) al'
  lifted_matched k (Some c) al' rising is gone kept = subst (λ (a : List ℕ). Matching F goods (without k b) a) (sym gone) (leaves_matched k (rank k b) (found_stands k b c rising (sym is)))
  lifted_matched k None al' rising is gone kept = subst (λ (a : List ℕ). Matching F goods (without k b) a) (sym kept) (subst (λ (y : Book). Matching F goods y al) (sym (without_absent k b (sym is))) m)

  -- a claim goes out with a unit: it does exactly if all are then carried
  module _ (k i u : ℕ) (b₂ : Book) (r : Bool) (al' : List ℕ) (w : Going F goods b al k i u b₂ r al') where
    around : Matching F goods (remove b₂ i) (remove al i)
    around =
        let s = stands_some k b i w.stands in
        subst (λ (y : Book). Matching F goods (remove y i) (remove al i)) (stands_out k u b i s.0 w.stands (sym s.2) ∙ sym w.booked)
        (matching_around F goods b al i (sent u s.0) w.stands.within m)

    pub goes : r ≡ carried F goods b₂
    goes =
        let n : length b₂ ≡ length b = ap length w.booked ∙ length-out k u b in
        let e = m.whole in
        let c = w.crowd in
        answer-carried F goods b₂ i al few (omega arith) (omega arith) (omega (arith, w.stands.within)) r al' around w.admits

    pub goes-matched : r ≡ true → Matching F goods b₂ al'
    goes-matched y = w.admits.taken around y

-- a claim that goes out twice is out with the second unit
pub out-out : (k u v : ℕ) (b : Book) → out k v (out k u b) ≡ out k v b
out-out k u v [] = refl
out-out k u v (c ∷ b) =
    go (eqb (key_of c) k) refl (out-out k u v b)
  where
    go : (q : Bool) → eqb (key_of c) k ≡ q → out k v (out k u b) ≡ out k v b → out k v (cond q (sent u c ∷ b) (c ∷ out k u b)) ≡ cond q (sent v c ∷ b) (c ∷ out k v b)
    go true e ih = cond-true (eqb (key_of c) k) (sent v (sent u c) ∷ b) (sent u c ∷ out k v b) e
    go false e ih = cond-false (eqb (key_of c) k) (sent v c ∷ out k u b) (c ∷ out k v (out k u b)) e ∙ ap (λ (r : Book). c ∷ r) ih

module _ {G : Type 0} (F : G → Demand → Bool) (goods : List G) (b : Book) (k : ℕ) (c : Claim) (there : find b k ≡ Some c) where
  -- a claim is out only with the number of a good that suits it
  serving : (u : ℕ) → carried F goods (out k u b) ≡ true → (g : ℕ) × (u ≡ suc g) × Serves F goods (sent u c) g
  serving u e = out-serves F goods (out k u b) k (sent u c) (record { 0 = u }) e (find-out-same k u c b there) refl

  pub not-nothing : carried F goods (out k 0 b) ≡ false
  not-nothing = false_from_ne_true (carried F goods (out k 0 b)) (λ e. let w = serving 0 e in omega (arith, w.1))

  pub not_unsuited : (g : ℕ) (y : G) → slice_get goods g ≡ Some y → F y c.demand ≡ false → carried F goods (out k (suc g) b) ≡ false
  not_unsuited g y here n = false_from_ne_true (carried F goods (out k (suc g) b)) (λ e.
      let w = serving (suc g) e in
      let same : w.0 ≡ g = omega (arith, w.1) in
      let there = w.2.suited in
      let at : slice_get goods g ≡ Some there.0 = ap (slice_get goods) (sym same) ∙ there.1 in
      let one : there.0 ≡ y = cc in
      false≢true (sym n ∙ ap (λ (z : G). F z c.demand) (sym one) ∙ there.2))

  -- some unit goes
  pub some-goes : carried F goods b ≡ true → ((v : ℕ) → v ≤ length goods → carried F goods (out k v b) ≡ false) → ⊥
  some-goes e none =
      let w = waiting-goes F goods b k c e there in
      let l = out_unit F goods (out k w.0 b) k (sent w.0 c) (record { 0 = w.0 }) w.1 (find-out-same k w.0 c b there) refl in
      false≢true (sym (none w.0 l.1) ∙ w.1)

-- the head of what is left behind a place stands there
drop_step : {X : Type 0} (n : ℕ) (xs : List X) (y : X) (rest : List X) → drop n xs ≡ y ∷ rest → (slice_get xs n ≡ Some y) × (drop (suc n) xs ≡ rest)
drop_step zero [] y rest e = absurd (let z : ◌≡◌ {A = ℕ} 0 1 = cc in omega arith)
drop_step (suc n) [] y rest e = absurd (let z : ◌≡◌ {A = ℕ} 0 1 = cc in omega arith)
drop_step zero (x ∷ xs) y rest e = (let z : x ≡ y = cc in ap Some z, let z : xs ≡ rest = cc in z)
drop_step (suc n) (x ∷ xs) y rest e = drop_step n xs y rest e

-- no unit below this one goes, and these goods are left to try; the claims are as they were but for the unit, and the allotment is
pub record Tried {G : Type 0} (F : G → Demand → Bool) (goods : List G) (k : ℕ) (b : Book) (al : List ℕ) (b' : Book) (al' : List ℕ) (rest : List G) (unit : ℕ) : Type 0 where
  pub again : (v : ℕ) → out k v b' ≡ out k v b
  pub same : al' ≡ al
  pub place : ℕ
  pub counts : unit ≡ suc place
  pub left : drop place goods ≡ rest
  pub fits : unit + length rest ≡ suc (length goods)
  pub none : (v : ℕ) → v < unit → carried F goods (out k v b) ≡ false

module _ {G : Type 0} (F : G → Demand → Bool) (goods : List G) (k : ℕ) (b : Book) (al : List ℕ) (c : Claim) (there : find b k ≡ Some c) where
  pub tried_start : Tried F goods k b al b al goods 1
  tried_start = record {
    again = λ v. refl;
    same = refl;
    place = 0;
    counts = refl;
    left = refl;
    fits = omega arith;
    none = λ v l. let z : 0 ≡ v = omega arith in subst (λ (u : ℕ). carried F goods (out k u b) ≡ false) z (not-nothing F goods b k c there);
  }

  -- the next unit that is tried is that of the next good
  module _ (b' : Book) (al' : List ℕ) (left : List G) (start : ℕ) (t : Tried F goods k b al b' al' left start) (y : G) (rest : List G) (unit start' : ℕ) (e : (left ≡ y ∷ rest) × ((unit ≡ start) × (start' ≡ unit + 1))) where
    pub tried_below : (v : ℕ) → v < unit → carried F goods (out k v b) ≡ false
    tried_below v l = t.none v (omega (arith, e.1.0))

    here : (slice_get goods t.place ≡ Some y) × (drop (suc t.place) goods ≡ rest)
    here = drop_step t.place goods y rest (t.left ∙ e.0)

    -- it does not go
    pub tried_more : (b₂ : Book) (al₂ : List ℕ) → ((v : ℕ) → out k v b₂ ≡ out k v b) → al₂ ≡ al → carried F goods (out k unit b) ≡ false → Tried F goods k b al b₂ al₂ rest start'
    tried_more b₂ al₂ again same fails =
        let n : length left ≡ suc (length rest) = ap length e.0 in
        record {
          again = again;
          same = same;
          place = suc t.place;
          counts = omega (arith, t.counts, e.1.0, e.1.1);
          left = here.1;
          fits = omega (arith, t.fits, e.1.0, e.1.1);
          none = λ v l. ⊎_elim
              (λ (z : v ≡ unit). subst (λ (u : ℕ). carried F goods (out k u b) ≡ false) (sym z) fails)
              (λ (nz : v ≡ unit → ⊥). tried_below v (omega (arith, e.1.1)))
              (cases_eq v unit);
        }

    -- nor does it where its good does not suit the claim
    pub unsuited : F y c.demand ≡ false → carried F goods (out k unit b) ≡ false
    unsuited n = ap (λ (u : ℕ). carried F goods (out k u b)) (e.1.0 ∙ t.counts) ∙ not_unsuited F goods b k c there t.place y here.0 n

  -- some unit goes
  pub never-all : (b' : Book) (al' : List ℕ) (left : List G) (unit : ℕ) → Tried F goods k b al b' al' left unit → length left ≡ 0 → carried F goods b ≡ true → ⊥
  never-all b' al' left unit t e y = some-goes F goods b k c there y (λ v l. t.none v (omega (arith, t.fits)))
