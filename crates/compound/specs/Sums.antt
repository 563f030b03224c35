-- The units of a party where a claim leaves a book or goes out.
use Rattle.std.specs.Prelude.{◌≡◌, ℕ, ◌≤◌, [], ◌∷◌, ◌==◌, refl}
use Rattle.std.proofs.Common.{arith}
use Rattle.std.proofs.lemmas.Bool.{cond_both}
use Rattle.claims.specs.declared.Demand.{Demand}
use Rattle.claims.specs.Book.{Book, key_of, without, sent, out}
use Rattle.claims.specs.Units.{units_of}

module _ (counts : Demand → ℕ) (p : ℕ) where
  pub units-without : (k : ℕ) (b : Book) → units_of counts p (without k b) ≤ units_of counts p b
  units-without k [] = omega arith
  units-without k (c ∷ b) =
      let ih = units-without k b in
      cond_both (key_of c == k) b (c ∷ without k b) (λ r. units_of counts p r ≤ units_of counts p (c ∷ b)) (λ e. omega arith) (λ e. omega arith)

  pub units-out : (k u : ℕ) (b : Book) → units_of counts p (out k u b) ≡ units_of counts p b
  units-out k u [] = refl
  units-out k u (c ∷ b) =
      let ih = units-out k u b in
      cond_both (key_of c == k) (sent u c ∷ b) (c ∷ out k u b) (λ r. units_of counts p r ≡ units_of counts p (c ∷ b)) (λ e. refl) (λ e. omega arith)
