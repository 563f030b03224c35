-- The answers of a resource, by what its tests say. Assumes nothing.
use Rattle.std.proofs.Common.{◌≡◌, ℕ, zero, suc, ◌+◌, ◌<◌, ◌≤◌, Bool, true, false, cond, ◌&&◌, is_some, Some, None, Ok, Option, sym, refl, ap, ◌∙◌, ⊎_elim, arith}
use Rattle.std.proofs.lemmas.Bool.{cond-true, cond-false, cases_lt, cases_eq, false≢true}
use Rattle.claims.specs.declared.Cause.{Cause}
use Rattle.claims.specs.declared.Cause.TheVariants.{Unreadable, KeyTaken, AlreadyOut}
use Rattle.claims.specs.declared.ClaimKey.{ClaimKey}
use Rattle.claims.specs.declared.ClaimState.{ClaimState}
use Rattle.claims.specs.declared.ClaimState.TheVariants.{Waiting, Out}
use Rattle.resource.specs.Calls.{Drawn, kept_in, unit_or, gone_out}
use Rattle.claims.specs.declared.Claim.{Claim}
use Rattle.claims.specs.Book.{Book, key_of, find, insert, out}
use Rattle.claims.specs.Rules.{Rules, refusal, is_party}
use Rattle.resource.specs.Draws.{least_from, drawn}

module _ (r : Rules) (b : Book) (c : Claim) where
  pub unread : (is_party c.party && r.reads c.demand) ≡ false → refusal r b c ≡ Some Unreadable
  unread e = cond-false (is_party c.party && r.reads c.demand) _ _ e

  read_on : (is_party c.party && r.reads c.demand) ≡ true → refusal r b c ≡ cond (is_some (find b (key_of c))) (Some KeyTaken) (cond (r.carries (insert c b)) None (Some (r.cause (insert c b))))
  read_on e = cond-true (is_party c.party && r.reads c.demand) _ _ e

  pub taken : (is_party c.party && r.reads c.demand) ≡ true → is_some (find b (key_of c)) ≡ true → refusal r b c ≡ Some KeyTaken
  taken e f = read_on e ∙ cond-true (is_some (find b (key_of c))) _ _ f

  pub welcome : (is_party c.party && r.reads c.demand) ≡ true → find b (key_of c) ≡ None → r.carries (insert c b) ≡ true → refusal r b c ≡ None
  welcome e f g = read_on e ∙ cond-false (is_some (find b (key_of c))) _ _ (ap is_some f) ∙ cond-true (r.carries (insert c b)) _ _ g

  pub refused : (x : Cause) → (is_party c.party && r.reads c.demand) ≡ true → find b (key_of c) ≡ None → r.carries (insert c b) ≡ false → r.cause (insert c b) ≡ x → refusal r b c ≡ Some x
  refused x e f g h = read_on e ∙ cond-false (is_some (find b (key_of c))) _ _ (ap is_some f) ∙ cond-false (r.carries (insert c b)) _ _ g ∙ ap Some h

-- the least number that passes a test
pub least_is : (f : ℕ → Bool) (i n u : ℕ) → i ≤ u → u < i + n → f u ≡ true → ((v : ℕ) → i ≤ v → v < u → f v ≡ false) → least_from f i n ≡ u
least_is f i zero u low high y none = absurd (omega arith)
least_is f i (suc n) u low high y none =
    go (f i) refl (λ l. least_is f (suc i) n u l (omega arith) y (λ v lv h. none v (omega arith) h))
  where
    go : (q : Bool) → f i ≡ q → (suc i ≤ u → least_from f (suc i) n ≡ u) → elim q [ true ↦ i | false ↦ least_from f (suc i) n ] ≡ u
    go true t ih = ⊎_elim
        (λ (l : i < u). absurd (let z = none i (omega arith) l in false≢true (sym z ∙ t)))
        (λ (l : u ≤ i). omega arith)
        (cases_lt i u)
    go false t ih = ih (⊎_elim
        (λ (e : i ≡ u). absurd (false≢true (sym t ∙ ap f e ∙ y)))
        (λ (ne : i ≡ u → ⊥). omega arith)
        (cases_eq i u))

-- what a claim that is not refused has passed
pub welcomed : (r : Rules) (b : Book) (c : Claim) → refusal r b c ≡ None → ((is_party c.party && r.reads c.demand) ≡ true) × (find b (key_of c) ≡ None) × (r.carries (insert c b) ≡ true)
welcomed r b c e = go (is_party c.party && r.reads c.demand) (find b (key_of c)) (r.carries (insert c b)) refl refl refl e
  where
    go : (q : Bool) (o : Option Claim) (t : Bool) → (is_party c.party && r.reads c.demand) ≡ q → find b (key_of c) ≡ o → r.carries (insert c b) ≡ t →
        cond q (cond (is_some o) (Some KeyTaken) (cond t None (Some (r.cause (insert c b))))) (Some Unreadable) ≡ None →
        ((is_party c.party && r.reads c.demand) ≡ true) × (find b (key_of c) ≡ None) × (r.carries (insert c b) ≡ true)
    go true None true x y z f = (x, y, z)
    go true None false x y z f = absurd (let w : ◌≡◌ {A = ℕ} 0 1 = cc in omega arith)
    go true (Some d) t x y z f = absurd (let w : ◌≡◌ {A = ℕ} 0 1 = cc in omega arith)
    go false o t x y z f = absurd (let w : ◌≡◌ {A = ℕ} 0 1 = cc in omega arith)

-- a claim that waits goes out with the least unit
pub goes-out : (k : ClaimKey) (r : Rules) (b b' : Book) (u : ℕ) (c : Claim) → find b k.0 ≡ Some c → c.state ≡ Waiting → drawn r b k.0 ≡ u → b' ≡ out k.0 u b → Drawn k r b (Ok (record { 0 = u })) r b'
goes-out k r b b' u c f w d e =
    let free : kept_in (find b k.0) ≡ None = ap kept_in f ∙ ap (λ (s : ClaimState). elim s as (λ _. Option Cause) [ Waiting ↦ None | Out i ↦ Some AlreadyOut ]) w in
    record {
      same = refl;
      value = ap (λ (n : ℕ). unit_or k n None) (sym d) ∙ ap (unit_or k (drawn r b k.0)) (sym free);
      after = e ∙ ap (λ (n : ℕ). gone_out k n b None) (sym d) ∙ ap (gone_out k (drawn r b k.0) b) (sym free);
    }
