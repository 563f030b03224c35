-- What stays as it is where a claim of a book goes out.
use Rattle.std.proofs.Common.{◌≡◌, ℕ, Bool, true, false, cond, not, ◌&&◌, eqb, [], ◌∷◌, is_some, Some, refl, ap, ◌∙◌}
use Rattle.std.proofs.lemmas.Bool.{cond_both}
use Rattle.claims.specs.Book.{Book, key_of, find, sent, out, apart}

held_out : (j k u : ℕ) (b : Book) → is_some (find (out k u b) j) ≡ is_some (find b j)
held_out j k u [] = refl
held_out j k u (c ∷ b) =
    cond_both (eqb (key_of c) k) (sent u c ∷ b) (c ∷ out k u b) (λ r. is_some (find r j) ≡ is_some (find (c ∷ b) j))
    (λ e. go (eqb (key_of c) j))
    (λ e. elim (eqb (key_of c) j) as (λ q. is_some (cond q (Some c) (find (out k u b) j)) ≡ is_some (cond q (Some c) (find b j))) [ true ↦ refl | false ↦ held_out j k u b ])
  where
    go : (q : Bool) → is_some (cond q (Some (sent u c)) (find b j)) ≡ is_some (cond q (Some c) (find b j))
    go true = refl
    go false = refl

pub apart-out-first : (k u : ℕ) (a b : Book) → apart (out k u a) b ≡ apart a b
apart-out-first k u [] b = refl
apart-out-first k u (c ∷ a) b =
    cond_both (eqb (key_of c) k) (sent u c ∷ a) (c ∷ out k u a) (λ r. apart r b ≡ apart (c ∷ a) b)
    (λ e. refl)
    (λ e. ap (λ v. not (is_some (find b (key_of c))) && v) (apart-out-first k u a b))

pub apart-out-second : (k u : ℕ) (a b : Book) → apart a (out k u b) ≡ apart a b
apart-out-second k u [] b = refl
apart-out-second k u (c ∷ a) b =
    ap (λ v. not v && apart a (out k u b)) (held_out (key_of c) k u b) ∙ ap (λ v. not (is_some (find b (key_of c))) && v) (apart-out-second k u a b)
