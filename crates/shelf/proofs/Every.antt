-- A test of each claim, over a book in which one claim comes or goes out.
use Rattle.std.proofs.Common.{◌≡◌, ℕ, zero, suc, Bool, true, false, cond, ◌&&◌, eqb, ltb, [], ◌∷◌, Some, sym, refl, ap, ◌∙◌}
use Rattle.std.specs.List.{slice_get}
use Rattle.std.proofs.lemmas.Bool.{and_parts, and_from, cond_both}
use Rattle.claims.specs.declared.Claim.{Claim}
use Rattle.claims.specs.Book.{Book, key_of, find, insert, sent, out, every}
use Rattle.claims.proofs.Books.{every-out as out_alike}

pub and-true : (x y : Bool) → y ≡ true → (x && y) ≡ x
and-true true y e = e
and-true false y e = refl

pub true-and : (x y : Bool) → x ≡ true → (x && y) ≡ y
true-and x y e = ap (λ (z : Bool). z && y) e

module _ (t : Claim → Bool) where
  -- what holds of each claim holds of the one under a key
  pub every-find : (k : ℕ) (c : Claim) (b : Book) → every t b ≡ true → find b k ≡ Some c → t c ≡ true
  every-find k c [] e f = cc
  every-find k c (x ∷ b) e f =
      let p = and_parts (t x) (every t b) e in
      go (eqb (key_of x) k) f (λ g. every-find k c b p.1 g)
    where
      go : (q : Bool) → cond q (Some x) (find b k) ≡ Some c → (find b k ≡ Some c → t c ≡ true) → t c ≡ true
      go true g ih = let same : x ≡ c = cc in ap t (sym same) ∙ (and_parts (t x) (every t b) e).0
      go false g ih = ih g

  -- and of the one at a place; and what holds at each place holds of each claim
  pub every-nth : (i : ℕ) (c : Claim) (b : Book) → every t b ≡ true → slice_get b i ≡ Some c → t c ≡ true
  every-nth i c [] e f = cc
  every-nth zero c (x ∷ b) e f = let same : x ≡ c = cc in ap t (sym same) ∙ (and_parts (t x) (every t b) e).0
  every-nth (suc i) c (x ∷ b) e f = every-nth i c b (and_parts (t x) (every t b) e).1 f

  pub every_shows : (b : Book) → ((i : ℕ) (c : Claim) → slice_get b i ≡ Some c → t c ≡ true) → every t b ≡ true
  every_shows [] h = refl
  every_shows (x ∷ b) h = and_from (t x) (every t b) (h 0 x refl) (every_shows b (λ i c f. h (suc i) c f))

  -- where each claim passes, one more decides
  pub every_with : (x : Claim) (b : Book) → every t b ≡ true → every t (insert x b) ≡ t x
  every_with x [] e = and-true (t x) true refl
  every_with x (c ∷ b) e =
      let p = and_parts (t c) (every t b) e in
      cond_both (ltb (key_of x) (key_of c)) (x ∷ c ∷ b) (c ∷ insert x b) (λ r. every t r ≡ t x)
      (λ g. and-true (t x) (every t (c ∷ b)) e)
      (λ g. true-and (t c) (every t (insert x b)) p.0 ∙ every_with x b p.1)

  -- and so does one that goes out
  pub every-sent : (k u : ℕ) (x : Claim) (b : Book) → every t b ≡ true → find b k ≡ Some x → every t (out k u b) ≡ t (sent u x)
  every-sent k u x [] e f = cc
  every-sent k u x (c ∷ b) e f =
      let p = and_parts (t c) (every t b) e in
      go (eqb (key_of c) k) f (λ g. every-sent k u x b p.1 g)
    where
      go : (q : Bool) → cond q (Some c) (find b k) ≡ Some x → (find b k ≡ Some x → every t (out k u b) ≡ t (sent u x)) → every t (cond q (sent u c ∷ b) (c ∷ out k u b)) ≡ t (sent u x)
      go true g ih = let same : c ≡ x = cc in and-true (t (sent u c)) (every t b) (and_parts (t c) (every t b) e).1 ∙ ap (λ (y : Claim). t (sent u y)) same
      go false g ih = true-and (t c) (every t (out k u b)) (and_parts (t c) (every t b) e).0 ∙ ih g

  -- a test that does not look at the state stays as it was
  pub every-out : (k u : ℕ) (b : Book) → ((c : Claim) → t (sent u c) ≡ t c) → every t (out k u b) ≡ every t b
  every-out = out_alike t
