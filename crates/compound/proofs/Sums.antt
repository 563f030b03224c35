-- The units of a party: how they add up, and how many they can be.
use Rattle.std.proofs.Common.{◌≡◌, ℕ, ◌+◌, ◌*◌, ◌≤◌, Bool, true, false, cond, [], ◌∷◌, length, ◌==◌, nat_lt, refl, ap, arith}
use Rattle.std.proofs.lemmas.Bool.{cond_both, and_parts}
use Rattle.claims.specs.declared.Claim.{Claim}
use Rattle.claims.specs.declared.Demand.{Demand}
use Rattle.claims.specs.Book.{Book, key_of, insert, every, merge}
use Rattle.claims.specs.Limits.{most_units}
use Rattle.claims.specs.Rules.{Rules, Laws}
use Rattle.claims.specs.Units.{share, units_of}

module _ (counts : Demand → ℕ) (p : ℕ) where
  pub units-insert : (x : Claim) (b : Book) → units_of counts p (insert x b) ≡ share counts p x + units_of counts p b
  units-insert x [] = refl
  units-insert x (c ∷ b) =
      let ih = units-insert x b in
      cond_both (nat_lt (key_of x) (key_of c)) (x ∷ c ∷ b) (c ∷ insert x b) (λ r. units_of counts p r ≡ share counts p x + units_of counts p (c ∷ b)) (λ e. refl) (λ e. omega arith)

  pub units-merge : (a b : Book) → units_of counts p (merge a b) ≡ units_of counts p a + units_of counts p b
  units-merge [] b = omega arith
  units-merge (c ∷ a) b = let ih = units-merge a b in let e = units-insert c (merge a b) in omega arith

-- two ways to count that agree on the claims of a book
pub units_agree : (f g : Demand → ℕ) (p : ℕ) (t : Claim → Bool) → ((c : Claim) → t c ≡ true → f c.demand ≡ g c.demand) → (b : Book) → every t b ≡ true → units_of f p b ≡ units_of g p b
units_agree f g p t h [] e = refl
units_agree f g p t h (c ∷ b) e =
    let q = and_parts (t c) (every t b) e in
    let ih = units_agree f g p t h b q.1 in
    let z : share f p c ≡ share g p c = ap (λ n. cond (c.party.0 == p) n 0) (h c q.0) in
    omega arith

-- a demand counts few units, read or not
pub counts-few : (r : Rules) → Laws r → (d : Demand) → r.counts d ≤ most_units
counts-few r l d = go (r.reads d) refl
  where
    go : (t : Bool) → r.reads d ≡ t → r.counts d ≤ most_units
    go true e = (l.amounts d e).1
    go false e = let z = l.nothing d e in omega arith

pub units-few : (r : Rules) → Laws r → (p : ℕ) (b : Book) → units_of r.counts p b ≤ most_units * length b
units-few r l p [] = omega arith
units-few r l p (c ∷ b) =
    let ih = units-few r l p b in
    let n = counts-few r l c.demand in
    cond_both (c.party.0 == p) (r.counts c.demand) 0 (λ n. n + units_of r.counts p b ≤ most_units * length (c ∷ b)) (λ e. omega arith) (λ e. omega arith)
