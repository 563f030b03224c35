-- Which items a book names with a claim more or less, and that named goods keep items apart.
use Rattle.std.specs.Prelude.{◌≡◌, ℕ, zero, suc, ◌<◌, ◌≤◌, Bool, true, false, not, ◌&&◌, ◌||◌, [], ◌∷◌, Some, ◌==◌, ◌≢◌, nat_lt, refl}
use Rattle.std.proofs.Common.{sym, ap, ◌∙◌, arith}
use Rattle.std.specs.List.{slice_get, list_any}
use Rattle.std.proofs.lemmas.Bool.{and_parts, and_from, or_parts, or_from, not-true, not_from_false, eqb-true, eqb-false, eq-eqb, ne_eqb, leb-true, le-leb, cond_both}
use Rattle.std.specs.Cmp.{both_ways}
use Rattle.claims.specs.declared.Cause.TheVariants.{ItemTaken}
use Rattle.claims.specs.declared.Claim.{Claim}
use Rattle.claims.specs.Book.{Book, key_of, insert, without, sent, out, every}
use Rattle.claims.specs.Limits.{most_goods}
use Rattle.claims.proofs.Books.{every-without}
use Rattle.goods.specs.NamedGoods.{item, names, distinct, in_stock, ItemsRule}
use Rattle.shelf.specs.Shelves.{one_number}
use Rattle.shelf.proofs.Every.{and-true, every-find, every-nth, every_shows, every_with, every-out}
use Rattle.goods.specs.Fixed.{Fixed, carries_exactly}

or_swap : (p q r : Bool) → (q || (p || r)) ≡ (p || (q || r))
or_swap true true r = refl
or_swap true false r = refl
or_swap false true r = refl
or_swap false false r = refl

not_either : (q r : Bool) → (not (q || false) && not r) ≡ not (q || r)
not_either true r = refl
not_either false r = refl

eq_swap : (a b : ℕ) → (a == b) ≡ (b == a)
eq_swap a b = both_ways (a == b) (b == a) (λ e. eq-eqb b a (sym (eqb-true a b e))) (λ e. eq-eqb a b (sym (eqb-true b a e)))

names-insert : (i : ℕ) (x : Claim) (b : Book) → names i (insert x b) ≡ (item x == i || names i b)
names-insert i x [] = refl
names-insert i x (c ∷ b) =
    let ih = names-insert i x b in
    cond_both (nat_lt (key_of x) (key_of c)) (x ∷ c ∷ b) (c ∷ insert x b) (λ r. names i r ≡ (item x == i || names i (c ∷ b))) (λ e. refl)
    (λ e. ap (λ (q : Bool). (item c == i) || q) ih ∙ or_swap (item x == i) (item c == i) (names i b))

names-without : (i k : ℕ) (b : Book) → names i b ≡ false → names i (without k b) ≡ false
names-without i k [] n = refl
names-without i k (c ∷ b) n =
    let p = or_parts (item c == i) (names i b) n in
    cond_both (key_of c == k) b (c ∷ without k b) (λ r. names i r ≡ false) (λ e. p.1) (λ e. or_from (item c == i) (names i (without k b)) p.0 (names-without i k b p.1))

names-out : (i k u : ℕ) (b : Book) → names i (out k u b) ≡ names i b
names-out i k u [] = refl
names-out i k u (c ∷ b) =
    cond_both (key_of c == k) (sent u c ∷ b) (c ∷ out k u b) (λ r. names i r ≡ names i (c ∷ b)) (λ e. refl) (λ e. ap (λ (q : Bool). (item c == i) || q) (names-out i k u b))

-- an item that is not named is named at no place
names_says : (i j : ℕ) (c : Claim) (b : Book) → names i b ≡ false → slice_get b j ≡ Some c → item c ≢ i
names_says i j c [] n f e = let z : ◌≡◌ {A = ℕ} 0 1 = cc in omega arith
names_says i zero c (x ∷ b) n f e = let same : x ≡ c = cc in eqb-false (item x) i (or_parts (item x == i) (names i b) n).0 (ap item same ∙ e)
names_says i (suc j) c (x ∷ b) n f e = names_says i j c b (or_parts (item x == i) (names i b) n).1 f e

names_shows : (i : ℕ) (b : Book) → ((j : ℕ) (c : Claim) → slice_get b j ≡ Some c → item c ≢ i) → names i b ≡ false
names_shows i [] h = refl
names_shows i (x ∷ b) h = or_from (item x == i) (names i b) (ne_eqb (item x) i (h 0 x refl)) (names_shows i b (λ j c f. h (suc j) c f))

-- where no item is named twice, one claim more has to name another
pub distinct_with : (x : Claim) (b : Book) → distinct b ≡ true → distinct (insert x b) ≡ not (names (item x) b)
distinct_with x [] e = refl
distinct_with x (c ∷ b) e =
    let p = and_parts (not (names (item c) b)) (distinct b) e in
    let free = not-true (names (item c) b) p.0 in
    let ih = distinct_with x b p.1 in
    let more = names-insert (item c) x b in
    cond_both (nat_lt (key_of x) (key_of c)) (x ∷ c ∷ b) (c ∷ insert x b) (λ r. distinct r ≡ not (names (item x) (c ∷ b)))
    (λ g. and-true (not (names (item x) (c ∷ b))) (distinct (c ∷ b)) e)
    (λ g.
    ap (λ (q : Bool). not q && distinct (insert x b)) (more ∙ ap (λ (q : Bool). (item x == item c) || q) free ∙ ap (λ (q : Bool). q || false) (eq_swap (item x) (item c)))
    ∙ ap (λ (q : Bool). not ((item c == item x) || false) && q) ih
    ∙ not_either (item c == item x) (names (item x) b))

pub distinct_without : (k : ℕ) (b : Book) → distinct b ≡ true → distinct (without k b) ≡ true
distinct_without k [] e = refl
distinct_without k (c ∷ b) e =
    let p = and_parts (not (names (item c) b)) (distinct b) e in
    cond_both (key_of c == k) b (c ∷ without k b) (λ r. distinct r ≡ true) (λ g. p.1)
    (λ g. and_from (not (names (item c) (without k b))) (distinct (without k b)) (not_from_false (names (item c) (without k b)) (names-without (item c) k b (not-true (names (item c) b) p.0))) (distinct_without k b p.1))

pub distinct-out : (k u : ℕ) (b : Book) → distinct (out k u b) ≡ distinct b
distinct-out k u [] = refl
distinct-out k u (c ∷ b) =
    cond_both (key_of c == k) (sent u c ∷ b) (c ∷ out k u b) (λ r. distinct r ≡ distinct (c ∷ b)) (λ e. refl)
    (λ e. ap (λ (q : Bool). not q && distinct (out k u b)) (names-out (item c) k u b) ∙ ap (λ (q : Bool). not (names (item c) b) && q) (distinct-out k u b))

distinct_says : (b : Book) → distinct b ≡ true → (i j : ℕ) (c d : Claim) → i < j → slice_get b i ≡ Some c → slice_get b j ≡ Some d → item c ≢ item d
distinct_says [] e i j c d l f g same = let z : ◌≡◌ {A = ℕ} 0 1 = cc in omega arith
distinct_says (x ∷ b) e i zero c d l f g same = omega arith
distinct_says (x ∷ b) e zero (suc j) c d l f g same =
    let head : x ≡ c = cc in
    names_says (item x) j d b (not-true (names (item x) b) (and_parts (not (names (item x) b)) (distinct b) e).0) g (sym same ∙ ap item (sym head))
distinct_says (x ∷ b) e (suc i) (suc j) c d l f g same = distinct_says b (and_parts (not (names (item x) b)) (distinct b) e).1 i j c d (omega arith) f g same

distinct_shows : (b : Book) → ((i j : ℕ) (c d : Claim) → i < j → slice_get b i ≡ Some c → slice_get b j ≡ Some d → item c ≢ item d) → distinct b ≡ true
distinct_shows [] h = refl
distinct_shows (x ∷ b) h = and_from (not (names (item x) b)) (distinct b)
    (not_from_false (names (item x) b) (names_shows (item x) b (λ j c f e. h 0 (suc j) x c (omega arith) refl f (sym e))))
    (distinct_shows b (λ i j c d l f g. h (suc i) (suc j) c d (omega arith) f g))

abbrev pub named-goods : (n : ℕ) → n ≤ most_goods → Fixed
named-goods n small = record {
  formed = one_number most_goods;
  amount = λ _. 1;
  suffice = λ b. distinct b && every (in_stock n) b;
  unit = λ d. d.first;
  short = ItemTaken;
  amounts = λ d e. (omega arith, omega arith);
  none = refl;
  fewer = λ j b e. let p = and_parts (distinct b) (every (in_stock n) b) e in and_from (distinct (without j b)) (every (in_stock n) (without j b)) (distinct_without j b p.0) (every-without (in_stock n) j b p.1);
  alike = λ j u b. ap (λ (q : Bool). q && every (in_stock n) (out j u b)) (distinct-out j u b) ∙ ap (λ (q : Bool). distinct b && q) (every-out (in_stock n) j u b (λ c. refl));
  small = λ j c b e f. omega (arith, leb-true (item c) n (every-find (in_stock n) j c b (and_parts (distinct b) (every (in_stock n) b) e).1 f));
}

pub apart : (s n : ℕ) → n ≤ most_goods → ItemsRule s n
apart s n small b =
    let e = carries_exactly s (named-goods n small) b in (
      (λ t.
          let p = e.0 t in
          let q = and_parts (distinct b) (every (in_stock n) b) p.sufficient in
          record { few = p.few; once = distinct_says b q.0; there = λ i c f. leb-true (item c) n (every-nth (in_stock n) i c b q.1 f); own = p.units }),
      (λ h.
          let all : every (in_stock n) b ≡ true = every_shows (in_stock n) b (λ i c f. le-leb (item c) n (h.there i c f)) in
          e.1 (record { few = h.few; sufficient = and_from (distinct b) (every (in_stock n) b) (distinct_shows b h.once) all; units = h.own })),
    )

-- where there are goods for a book, one claim more has to name another item, and one of them
pub in_stock-insert : (n : ℕ) (x : Claim) (b : Book) → (distinct b && every (in_stock n) b) ≡ true → (not (names (item x) b) && in_stock n x) ≡ (distinct (insert x b) && every (in_stock n) (insert x b))
in_stock-insert n x b e =
    let p = and_parts (distinct b) (every (in_stock n) b) e in
    let one = distinct_with x b p.0 in
    let two = every_with (in_stock n) x b p.1 in
    cc

-- some claim names an item if one of the list does
pub names_any : (i : ℕ) (b : Book) → names i b ≡ list_any (λ c. item c == i) b
names_any i [] = refl
names_any i (c ∷ b) = ap (λ (q : Bool). (item c == i) || q) (names_any i b)
