-- More items than boxes.
use Rattle.std.proofs.Common.{◌≡◌, ℕ, zero, suc, ◌<◌, ◌≤◌, cond, eqb, sym, ap, ◌∙◌, ⊎_elim, arith}
use Rattle.std.proofs.lemmas.Bool.{cases_eq, cond-true, cond-false, eq-eqb, ne_eqb}

-- what stood in the box that is taken away goes where the last stood
moved : (ℕ → ℕ) → ℕ → ℕ → ℕ → ℕ
moved f box last i = cond (eqb (f i) box) last (f i)

moved_yes : (f : ℕ → ℕ) (box last i : ℕ) → f i ≡ box → moved f box last i ≡ last
unfolding moved
moved_yes f box last i e = cond-true _ _ _ (eq-eqb _ _ e)

moved_no : (f : ℕ → ℕ) (box last i : ℕ) → (f i ≡ box → ⊥) → moved f box last i ≡ f i
unfolding moved
moved_no f box last i e = cond-false _ _ _ (ne_eqb _ _ e)

pub pigeon : (b : ℕ) (f h : ℕ → ℕ) → ((i : ℕ) → i ≤ b → (j : ℕ) × (j < b) × (f i ≡ h j)) → ((i j : ℕ) → i ≤ b → j ≤ b → f i ≡ f j → i ≡ j) → ⊥
pigeon zero f h box inj = let x = box 0 (omega arith) in omega (arith, x.1)
pigeon (suc b) f h box inj =
    pigeon b (moved f (h b) (f (suc b))) h
    (λ i le. ⊎_elim
    (λ (e : f i ≡ h b).
    let x = box (suc b) (omega arith) in
    ⊎_elim
    (λ (z : x.0 ≡ b). absurd (let w : i ≡ suc b = inj i (suc b) (omega arith) (omega arith) (e ∙ ap h (sym z) ∙ sym x.2) in omega arith))
    (λ (z : x.0 ≡ b → ⊥). (x.0, (let l = x.1 in omega arith), moved_yes f (h b) (f (suc b)) i e ∙ x.2))
    (cases_eq x.0 b))
    (λ (e : f i ≡ h b → ⊥).
    let x = box i (omega arith) in
    ⊎_elim
    (λ (z : x.0 ≡ b). absurd (e (x.2 ∙ ap h z)))
    (λ (z : x.0 ≡ b → ⊥). (x.0, (let l = x.1 in omega arith), moved_no f (h b) (f (suc b)) i e ∙ x.2))
    (cases_eq x.0 b))
    (cases_eq (f i) (h b)))
    (λ i j li lj same. ⊎_elim
    (λ (e : f i ≡ h b). ⊎_elim
    (λ (d : f j ≡ h b). inj i j (omega arith) (omega arith) (e ∙ sym d))
    (λ (d : f j ≡ h b → ⊥).
    absurd (let w : suc b ≡ j = inj (suc b) j (omega arith) (omega arith) (sym (moved_yes f (h b) (f (suc b)) i e) ∙ same ∙ moved_no f (h b) (f (suc b)) j d) in omega arith))
    (cases_eq (f j) (h b)))
    (λ (e : f i ≡ h b → ⊥). ⊎_elim
    (λ (d : f j ≡ h b).
    absurd (let w : i ≡ suc b = inj i (suc b) (omega arith) (omega arith) (sym (moved_no f (h b) (f (suc b)) i e) ∙ same ∙ moved_yes f (h b) (f (suc b)) j d) in omega arith))
    (λ (d : f j ≡ h b → ⊥). inj i j (omega arith) (omega arith) (sym (moved_no f (h b) (f (suc b)) i e) ∙ same ∙ moved_no f (h b) (f (suc b)) j d))
    (cases_eq (f j) (h b)))
    (cases_eq (f i) (h b)))
