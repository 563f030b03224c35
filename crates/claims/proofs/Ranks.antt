-- What stands at a key's place in a book by rising key.
use Rattle.std.proofs.Common.{◌≡◌, ℕ, zero, suc, ◌<◌, ◌≤◌, Bool, true, false, cond, eqb, ltb, [], ◌∷◌, ◌++◌, length, get_or, take, drop, set, is_some, Some, None, Ok, Option, MatchOption, sym, refl, ap, ◌∙◌, ⊎_elim, arith}
use Rattle.std.specs.List.{insert as inserted, remove}
use Rattle.std.specs.Bool.{then_some}
use Rattle.std.specs.List.Sorted.{IsNonDecreasingBy, IsPartitionPoint}
use Rattle.std.proofs.lemmas.Bool.{eqb-true, eqb-false, cond_both, cond-true, cond-false, ltb-true, ltb-false, eq-eqb, ne_eqb, le-ltb, lt-ltb, and_parts, and_from, cases_eq, cases_lt}
use Rattle.std.proofs.lemmas.List.{get_or_default, set-get_or, set_split}
use Rattle.claims.specs.declared.Cause.TheVariants.{KeyTaken, TooManyClaims}
use Rattle.claims.specs.declared.Claim.{Claim}
use Rattle.claims.specs.Book.{Book, key_of, find, insert, without, sent, out, Above, Rising}
use Rattle.claims.specs.Limits.{most_claims}
use Rattle.claims.specs.Rules.{shut_out, caused}
use Rattle.claims.specs.Places.{rank, above, rises, Under, Stands}
use Rattle.claims.proofs.Books.{find_head, find_rest}
use Rattle.claims.proofs.Ranges.{find_past, without_past, out_past}

pub above_says : (k : ℕ) (b : Book) → above k b ≡ true → Above k b
above_says k [] e = tt
above_says k (c ∷ b) e = let p = and_parts (ltb k (key_of c)) (above k b) e in (ltb-true k (key_of c) p.0, above_says k b p.1)

pub above_shows : (k : ℕ) (b : Book) → Above k b → above k b ≡ true
above_shows k [] h = refl
above_shows k (c ∷ b) h = and_from (ltb k (key_of c)) (above k b) (lt-ltb k (key_of c) h.0) (above_shows k b h.1)

pub rises_says : (b : Book) → rises b ≡ true → Rising b
rises_says [] e = tt
rises_says (c ∷ b) e = let p = and_parts (above (key_of c) b) (rises b) e in (above_says (key_of c) b p.0, rises_says b p.1)

pub rises_shows : (b : Book) → Rising b → rises b ≡ true
rises_shows [] h = refl
rises_shows (c ∷ b) h = and_from (above (key_of c) b) (rises b) (above_shows (key_of c) b h.0) (rises_shows b h.1)

-- no key falls along a book
above_at : (j : ℕ) (b : Book) (i : ℕ) (d : Claim) → Above j b → i < length b → j < key_of (get_or b i d)
above_at j [] i d h l = absurd (omega arith)
above_at j (c ∷ b) zero d h l = h.0
above_at j (c ∷ b) (suc i) d h l = above_at j b i d h.1 (omega arith)

pub rising_keys : (b : Book) → Rising b → IsNonDecreasingBy key_of b
rising_keys [] h i j d le lt = absurd (omega arith)
rising_keys (c ∷ b) h zero zero d le lt = omega arith
rising_keys (c ∷ b) h zero (suc j) d le lt = let up = above_at (key_of c) b j d h.0 (omega arith) in omega arith
rising_keys (c ∷ b) h (suc i) zero d le lt = absurd (omega arith)
rising_keys (c ∷ b) h (suc i) (suc j) d le lt = rising_keys b h.1 i j d (omega arith) (omega arith)

-- where the keys below k end, its place is
pub rank_is : (k : ℕ) (b : Book) (i : ℕ) → i ≤ length b → IsPartitionPoint (λ c. ltb (key_of c) k ≡ true) (λ c. ltb (key_of c) k ≡ false) b i → i ≡ rank k b
rank_is k [] i l p = omega arith
rank_is k (c ∷ b) zero l p = sym (cond-false (ltb (key_of c) k) (suc (rank k b)) 0 (p.1 0 c (omega arith) (omega arith)))
rank_is k (c ∷ b) (suc i) l p =
    ap suc (rank_is k b i (omega arith) (λ j d m n. p.0 (suc j) d (omega arith) (omega arith), λ j d m n. p.1 (suc j) d (omega arith) (omega arith)))
    ∙ sym (cond-true (ltb (key_of c) k) (suc (rank k b)) 0 (p.0 0 c (omega arith) (omega arith)))

-- a claim before the key's place stands under the key, and one from there on does not
pub rank_past : (k : ℕ) (b : Book) (i : ℕ) (d : Claim) → Rising b → i < length b → key_of (get_or b i d) < k → i < rank k b
rank_past k [] i d h l lt = absurd (omega arith)
rank_past k (c ∷ b) zero d h l lt = rw (cond-true (ltb (key_of c) k) (suc (rank k b)) 0 (lt-ltb (key_of c) k lt)) (omega arith)
rank_past k (c ∷ b) (suc i) d h l lt =
    let ih = rank_past k b i d h.1 (omega arith) lt in
    let up = above_at (key_of c) b i d h.0 (omega arith) in
    rw (cond-true (ltb (key_of c) k) (suc (rank k b)) 0 (lt-ltb (key_of c) k (omega arith))) (omega arith)

pub rank-before : (k : ℕ) (b : Book) (i : ℕ) (d : Claim) → i < length b → k ≤ key_of (get_or b i d) → rank k b ≤ i
rank-before k [] i d l le = absurd (omega arith)
rank-before k (c ∷ b) zero d l le = rw (cond-false (ltb (key_of c) k) (suc (rank k b)) 0 (le-ltb (key_of c) k le)) (omega arith)
rank-before k (c ∷ b) (suc i) d l le =
    let ih = rank-before k b i d (omega arith) le in
    cond_both (ltb (key_of c) k) (suc (rank k b)) 0 (λ r. r ≤ suc i) (λ e. omega arith) (λ e. omega arith)

pub rank-within : (k : ℕ) (b : Book) → rank k b ≤ length b
rank-within k [] = omega arith
rank-within k (c ∷ b) =
    let ih = rank-within k b in
    cond_both (ltb (key_of c) k) (suc (rank k b)) 0 (λ r. r ≤ length (c ∷ b)) (λ e. omega arith) (λ e. omega arith)

-- a key stands at its place alone
ranked_at : (k : ℕ) (b : Book) (i : ℕ) (d : Claim) → Rising b → i < length b → key_of (get_or b i d) ≡ k → i ≡ rank k b
ranked_at k [] i d h l e = absurd (omega arith)
ranked_at k (c ∷ b) zero d h l e =
    cond_both (ltb (key_of c) k) (suc (rank k b)) 0 (λ r. 0 ≡ r) (λ t. absurd (let lt = ltb-true (key_of c) k t in omega (arith, e))) (λ t. refl)
ranked_at k (c ∷ b) (suc i) d h l e =
    cond_both (ltb (key_of c) k) (suc (rank k b)) 0 (λ r. suc i ≡ r) (λ t. ap suc (ranked_at k b i d h.1 (omega arith) e))
    (λ t. absurd (let le = ltb-false (key_of c) k t in let up = above_at (key_of c) b i d h.0 (omega arith) in omega (arith, e)))

-- and where it stands at no place, there is no claim under it
lacks : (k : ℕ) (b : Book) → ((j : ℕ) (d : Claim) → j < length b → key_of (get_or b j d) ≡ k → ⊥) → find b k ≡ None
lacks k [] n = refl
lacks k (c ∷ b) n = cond-false (eqb (key_of c) k) (Some c) (find b k) (ne_eqb (key_of c) k (n 0 c (omega arith))) ∙ lacks k b (λ j d l. n (suc j) d (omega arith))

-- the claims before a key's place are below the key
before : (k : ℕ) (b : Book) → Under k (take (rank k b) b)
before k [] = tt
before k (c ∷ b) =
    cond_both (ltb (key_of c) k) (suc (rank k b)) 0 (λ r. Under k (take r (c ∷ b))) (λ t. (ltb-true (key_of c) k t, before k b)) (λ t. tt)

-- a book in three: what is before a key's place, the claim there, and the rest
split : (k : ℕ) (b : Book) (d : Claim) → rank k b < length b → b ≡ take (rank k b) b ++ get_or b (rank k b) d ∷ drop (suc (rank k b)) b
split k b d l = sym (set-get_or b (rank k b) d) ∙ set_split b (rank k b) (get_or b (rank k b) d) l

-- the claim at the place of a key is the one under it, if it has it
pub find-rank : (k : ℕ) (b : Book) (d : Claim) → rank k b < length b → key_of (get_or b (rank k b) d) ≡ k → find b k ≡ Some (get_or b (rank k b) d)
find-rank k b d l e =
    let x = get_or b (rank k b) d in
    let rest = drop (suc (rank k b)) b in
    ap (λ y. find y k) (split k b d l) ∙ find_past k (take (rank k b) b) (x ∷ rest) (before k b) ∙ cond-true (eqb (key_of x) k) (Some x) (find rest k) (eq-eqb (key_of x) k e)

-- and else there is none under it
pub find-not : (k : ℕ) (b : Book) (d : Claim) → Rising b → (rank k b < length b → key_of (get_or b (rank k b) d) ≡ k → ⊥) → find b k ≡ None
find-not k b d h n =
    lacks k b (λ j x l e.
    let r = ranked_at k b j x h l e in
    n (omega arith) (ap (λ i. key_of (get_or b i d)) (sym r) ∙ ap key_of (get_or_default b j d x l) ∙ e))

pub insert-rank : (x : Claim) (b : Book) → find b (key_of x) ≡ None → inserted b (rank (key_of x) b) x ≡ insert x b
insert-rank x [] n = refl
insert-rank x (c ∷ b) n =
    go (ltb (key_of c) (key_of x)) (ltb (key_of x) (key_of c)) refl refl (insert-rank x b (find_rest (key_of x) c b n))
  where
    ne : key_of c ≡ key_of x → ⊥
    ne = find_head (key_of x) c b n

    go : (q r : Bool) → ltb (key_of c) (key_of x) ≡ q → ltb (key_of x) (key_of c) ≡ r → inserted b (rank (key_of x) b) x ≡ insert x b → inserted (c ∷ b) (cond q (suc (rank (key_of x) b)) 0) x ≡ cond r (x ∷ c ∷ b) (c ∷ insert x b)
    go true true s t ih = absurd (let z : key_of c < key_of c = omega (arith, ltb-true (key_of c) (key_of x) s, ltb-true (key_of x) (key_of c) t) in omega arith)
    go true false s t ih = ap (λ r. c ∷ r) ih
    go false true s t ih = refl
    go false false s t ih = absurd (ne (omega (arith, ltb-false (key_of c) (key_of x) s, ltb-false (key_of x) (key_of c) t)))

pub remove_rank : (k : ℕ) (b : Book) (d : Claim) → rank k b < length b → key_of (get_or b (rank k b) d) ≡ k → remove b (rank k b) ≡ without k b
remove_rank k b d l e =
    let x = get_or b (rank k b) d in
    let rest = drop (suc (rank k b)) b in
    let same = eq-eqb (key_of x) k e in
    sym (ap (without k) (split k b d l) ∙ without_past k (take (rank k b) b) (x ∷ rest) (before k b) ∙ ap (λ r. take (rank k b) b ++ r) (cond-true (eqb (key_of x) k) rest (x ∷ without k rest) same))

pub out-rank : (k u : ℕ) (b : Book) (d : Claim) → rank k b < length b → key_of (get_or b (rank k b) d) ≡ k → set b (rank k b) (sent u (get_or b (rank k b) d)) ≡ out k u b
out-rank k u b d l e =
    let x = get_or b (rank k b) d in
    let rest = drop (suc (rank k b)) b in
    let same = eq-eqb (key_of x) k e in
    set_split b (rank k b) (sent u x) l
    ∙ sym (ap (out k u) (split k b d l) ∙ out_past k u (take (rank k b) b) (x ∷ rest) (before k b) ∙ ap (λ r. take (rank k b) b ++ r) (cond-true (eqb (key_of x) k) (sent u x ∷ rest) (x ∷ out k u rest) same))

-- what a look at a key's place shows
pub lacks_past : (k : ℕ) (b : Book) → Rising b → length b ≤ rank k b → find b k ≡ None
lacks_past k [] h le = refl
lacks_past k (c ∷ b) h le = find-not k (c ∷ b) c h (λ l e. omega arith)

pub lacks_other : (k : ℕ) (b : Book) → Rising b → (i : ℕ) (x : Claim) → i ≡ rank k b → x ≡ get_or b i x → (key_of x ≡ k → ⊥) → find b k ≡ None
lacks_other k b h i x r is ne = find-not k b x h (λ l e. ne (ap key_of is ∙ ap (λ j. key_of (get_or b j x)) r ∙ e))

pub stands : (k : ℕ) (b : Book) (i : ℕ) (x : Claim) → i ≡ rank k b → i < length b → x ≡ get_or b i x → key_of x ≡ k → Stands k b i
stands k b i x r l is e = record { ranked = r; within = l; keyed = λ d. ap key_of (get_or_default b i d x l ∙ sym is) ∙ e }

-- a key's place holds the claim under it, or there is none
pub looked_up : (k : ℕ) (b : Book) (i : ℕ) (x : Claim) (o : Option ℕ) → Rising b → i ≡ rank k b → i < length b → x ≡ get_or b i x → o ≡ then_some (eqb (key_of x) k) i → MatchOption o (find b k ≡ None) (λ j. Stands k b j)
looked_up k b i x o h r l is e = rw e (go (eqb (key_of x) k) refl)
  where
    go : (q : Bool) → eqb (key_of x) k ≡ q → MatchOption (then_some q i) (find b k ≡ None) (λ j. Stands k b j)
    go true y = stands k b i x r l is (eqb-true (key_of x) k y)
    go false n = lacks_other k b h i x r is (eqb-false (key_of x) k n)

pub stands_found : (k : ℕ) (b : Book) (i : ℕ) (x : Claim) → Stands k b i → x ≡ get_or b i x → Some x ≡ find b k
stands_found k b i x s is =
    let l = s.within in
    let r = s.ranked in
    ap Some (is ∙ ap (λ j. get_or b j x) r) ∙ sym (find-rank k b x (omega arith) (ap (λ j. key_of (get_or b j x)) (sym r) ∙ s.keyed x))

pub stands_removed : (k : ℕ) (b : Book) (i : ℕ) → (d : Claim) → Stands k b i → remove b i ≡ without k b
stands_removed k b i d s =
    let l = s.within in
    let r = s.ranked in
    ap (remove b) r ∙ remove_rank k b d (omega arith) (ap (λ j. key_of (get_or b j d)) (sym r) ∙ s.keyed d)

pub stands_out : (k u : ℕ) (b : Book) (i : ℕ) (x : Claim) → Stands k b i → x ≡ get_or b i x → set b i (sent u x) ≡ out k u b
stands_out k u b i x s is =
    let l = s.within in
    let r = s.ranked in
    ap (λ y. set b i (sent u y)) is ∙ ap (λ j. set b j (sent u (get_or b j x))) r ∙ out-rank k u b x (omega arith) (ap (λ j. key_of (get_or b j x)) (sym r) ∙ s.keyed x)

-- a claim that a book does not shut out is under a new key, and there is room for it
pub not_shut_out : (b : Book) (c : Claim) → Ok tt ≡ caused (shut_out b c) → (shut_out b c ≡ None) × (find b (key_of c) ≡ None) × (length b < most_claims)
not_shut_out b c e = go (find b (key_of c)) refl (ltb (length b) most_claims) refl e
  where
    go : (o : Option Claim) → find b (key_of c) ≡ o → (q : Bool) → ltb (length b) most_claims ≡ q → Ok tt ≡ caused (cond (is_some o) (Some KeyTaken) (cond q None (Some TooManyClaims))) →
        (cond (is_some o) (Some KeyTaken) (cond q None (Some TooManyClaims)) ≡ None) × (find b (key_of c) ≡ None) × (length b < most_claims)
    go None f true l g = (refl, f, ltb-true (length b) most_claims l)
    go None f false l g = absurd (let z : ◌≡◌ {A = ℕ} 0 1 = cc in omega arith)
    go (Some x) f q l g = absurd (let z : ◌≡◌ {A = ℕ} 0 1 = cc in omega arith)

pub inserted_there : (x : Claim) (b b' : Book) (i : ℕ) (ok : Bool) → ok ≡ true → i ≡ rank (key_of x) b → find b (key_of x) ≡ None → b' ≡ cond ok (inserted b i x) b → b' ≡ insert x b
inserted_there x b b' i ok y r n e = e ∙ cond-true ok (inserted b i x) b y ∙ ap (λ j. inserted b j x) r ∙ insert-rank x b n

-- what stands at a key's place is the claim under it
pub stands_some : (k : ℕ) (b : Book) (i : ℕ) → Stands k b i → (c : Claim) × (find b k ≡ Some c) × (get_or b i c ≡ c)
stands_some k [] i s = absurd (let l = s.within in omega arith)
stands_some k (x ∷ b) i s =
    let l = s.within in
    let c = get_or (x ∷ b) i x in
    let is : c ≡ get_or (x ∷ b) i c = get_or_default (x ∷ b) i x c l in
    (c, sym (stands_found k (x ∷ b) i c s is), sym is)

-- and the claim under a key stands at the key's place
pub found_stands : (k : ℕ) (b : Book) (c : Claim) → Rising b → find b k ≡ Some c → Stands k b (rank k b)
found_stands k b c h f =
    ⊎_elim
    (λ (l : rank k b < length b).
    ⊎_elim
    (λ (e : key_of (get_or b (rank k b) c) ≡ k). stands k b (rank k b) (get_or b (rank k b) c) refl l (get_or_default b (rank k b) c (get_or b (rank k b) c) l) e)
    (λ (ne : key_of (get_or b (rank k b) c) ≡ k → ⊥). absurd (let n = find-not k b c h (λ _ e. ne e) in let z : ◌≡◌ {A = ℕ} 0 1 = cc in omega arith))
    (cases_eq (key_of (get_or b (rank k b) c)) k))
    (λ (l : length b ≤ rank k b). absurd (let n = lacks_past k b h l in let z : ◌≡◌ {A = ℕ} 0 1 = cc in omega arith))
    (cases_lt (rank k b) (length b))
