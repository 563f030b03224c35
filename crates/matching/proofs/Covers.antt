-- The definition by which claims are carried says whether there is a matching of them.
use Rattle.std.proofs.Common.{◌≡◌, ℕ, zero, suc, ◌<◌, Bool, true, false, not, ◌&&◌, ◌||◌, eqb, List, [], ◌∷◌, length, get_or, Some, Decides, sym, refl, ap, subst, ⊎_elim, arith}
use Rattle.std.proofs.lemmas.Option.{slice_get_within}
use Rattle.std.specs.List.{slice_get}
use Rattle.std.proofs.lemmas.Bool.{eq-eqb, eqb-true, false≢true, or_cases, or_left, or_right}
use Rattle.std.proofs.lemmas.Bool.Decides.{Decides-and, Decides-at, Decides-below_or, Decides-like, Decides-not}
use Rattle.claims.specs.declared.Claim.{Claim}
use Rattle.claims.specs.declared.Demand.{Demand}
use Rattle.matching.specs.Matching.{CoversRight, Matching, Serves, among, covers, serves, some_below}
use Rattle.matching.proofs.Passing.{serves_says, serves_shows}

or_is : (q y : Bool) → elim q as (λ _. Bool) [ true ↦ true | false ↦ y ] ≡ (q || y)
or_is true y = refl
or_is false y = refl

and_is : (q y : Bool) → elim q as (λ _. Bool) [ true ↦ y | false ↦ false ] ≡ (q && y)
and_is true y = refl
and_is false y = refl

module _ {G : Type 0} (F : G → Demand → Bool) (goods : List G) where
  -- a matching that leaves the taken goods alone
  abbrev Rest : List ℕ → List Claim → Type 0
  Rest taken b = (al : List ℕ) × Matching F goods b al × ((i : ℕ) → i < length b → among (get_or al i 0) taken ≡ true → ⊥)

  -- what the first claim has, and what the others have
  abbrev Step : List ℕ → Claim → List Claim → ℕ → Type 0
  Step taken c b g = ((serves F goods c.demand c.state g ≡ true) × (among g taken ≡ true → ⊥)) × Rest (g ∷ taken) b

  none : (taken : List ℕ) → Rest taken []
  none taken = (
    [],
    record {
      whole = refl;
      served = λ i c e. absurd (let z : ◌≡◌ {A = ℕ} 0 1 = cc in omega arith);
      apart = λ i j l. absurd (omega arith);
    },
    (λ i l. absurd (omega arith)),
  )

  join_served : (c : Claim) (b : List Claim) (g : ℕ) (al : List ℕ) → Serves F goods c g → Matching F goods b al → (i : ℕ) (x : Claim) → slice_get (c ∷ b) i ≡ Some x → Serves F goods x (get_or (g ∷ al) i 0)
  join_served c b g al s m zero x e = let same : c ≡ x = cc in subst (λ (y : Claim). Serves F goods y g) same s
  join_served c b g al s m (suc i) x e = m.served i x e

  join_apart : (b : List Claim) (g : ℕ) (al : List ℕ) → Matching F goods b al → ((i : ℕ) → i < length b → get_or al i 0 ≡ g → ⊥) → (i j : ℕ) → i < suc (length b) → j < suc (length b) → get_or (g ∷ al) i 0 ≡ get_or (g ∷ al) j 0 → i ≡ j
  join_apart b g al m left zero zero li lj e = refl
  join_apart b g al m left zero (suc j) li lj e = absurd (left j (omega arith) (sym e))
  join_apart b g al m left (suc i) zero li lj e = absurd (left i (omega arith) e)
  join_apart b g al m left (suc i) (suc j) li lj e = ap suc (m.apart i j (omega arith) (omega arith) e)

  join_free : (taken : List ℕ) (b : List Claim) (g : ℕ) (al : List ℕ) → (among g taken ≡ true → ⊥) → ((i : ℕ) → i < length b → among (get_or al i 0) (g ∷ taken) ≡ true → ⊥) → (i : ℕ) → i < suc (length b) → among (get_or (g ∷ al) i 0) taken ≡ true → ⊥
  join_free taken b g al here rest zero l e = here e
  join_free taken b g al here rest (suc i) l e = rest i (omega arith) (or_right (eqb g (get_or al i 0)) (among (get_or al i 0) taken) e)

  join : (taken : List ℕ) (c : Claim) (b : List Claim) (g : ℕ) → Step taken c b g → Rest taken (c ∷ b)
  join taken c b g s =
      let al = s.1.0 in
      let m = s.1.1 in
      let free = s.1.2 in
      let left : (i : ℕ) → i < length b → get_or s.1.0 i 0 ≡ g → ⊥ = (λ i l e. free i l (or_left (eqb g (get_or al i 0)) (among (get_or al i 0) taken) (eq-eqb g (get_or al i 0) (sym e)))) in (
        g ∷ al,
        record {
          whole = ap suc m.whole;
          served = join_served c b g al (serves_says F goods c g s.0.0) m;
          apart = join_apart b g al m left;
        },
        join_free taken b g al s.0.1 free,
      )

  part : (taken : List ℕ) (c : Claim) (b : List Claim) (al : List ℕ) → Matching F goods (c ∷ b) al → ((i : ℕ) → i < suc (length b) → among (get_or al i 0) taken ≡ true → ⊥) → (g : ℕ) × (g < length goods) × Step taken c b g
  part taken c b [] m free = absurd (omega (arith, m.whole))
  part taken c b (g ∷ al) m free =
      let s = m.served 0 c refl in (
        g,
        slice_get_within goods g s.suited.0 s.suited.1,
        (
          (serves_shows F goods c g s, free 0 (omega arith)),
          (
            al,
            record {
              whole = omega (arith, m.whole);
              served = λ i x e. m.served (suc i) x e;
              apart = λ i j li lj e. let z = m.apart (suc i) (suc j) (omega arith) (omega arith) e in omega arith;
            },
            (λ i l e. ⊎_elim
                (λ (y : eqb g (get_or al i 0) ≡ true). let z = m.apart 0 (suc i) (omega arith) (omega arith) (eqb-true g (get_or al i 0) y) in omega arith)
                (λ (y : among (get_or al i 0) taken ≡ true). free (suc i) (omega arith) y)
                (or_cases (eqb g (get_or al i 0)) (among (get_or al i 0) taken) e)),
          ),
        ),
      )

  decided : (taken : List ℕ) (b : List Claim) → Decides (covers F goods taken b) (Rest taken b)
  decided taken [] = ((λ e. none taken), (λ r. refl))
  decided taken (c ∷ b) =
      let open-to : ℕ → Bool = (λ g. serves F goods c.demand c.state g && not (among g taken)) in
      let test : ℕ → Bool = (λ g. elim (serves F goods c.demand c.state g && not (among g taken)) as (λ _. Bool) [ true ↦ covers F goods (g ∷ taken) b | false ↦ false ]) in
      Decides-like (some_below (length goods) test)
      (λ (w : (g : ℕ) × (g < length goods) × Step taken c b g). join taken c b w.0 w.2)
      (λ (r : Rest taken (c ∷ b)). part taken c b r.0 r.1 r.2)
      (Decides-below_or test (Step taken c b) (λ k. some_below k test)
      (λ g. Decides-at (test g) (open-to g && covers F goods (g ∷ taken) b) (and_is (open-to g) (covers F goods (g ∷ taken) b))
      (Decides-and (open-to g) (covers F goods (g ∷ taken) b)
      (Decides-and (serves F goods c.demand c.state g) (not (among g taken)) ((λ e. e), (λ e. e)) (Decides-not (among g taken) ((λ e. e), (λ e. e))))
      (decided (g ∷ taken) b)))
      refl (λ n. or_is (test n) (some_below n test)) (length goods))

  pub covers_right : (b : List Claim) → CoversRight F goods b
  covers_right b =
      Decides-like (covers F goods [] b)
      (λ (r : Rest [] b). (r.0, r.1))
      (λ (w : (al : List ℕ) × Matching F goods b al). (w.0, w.1, (λ i l e. false≢true e)))
      (decided [] b)
