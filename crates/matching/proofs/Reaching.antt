-- What the loops keep that go breadth first from a new claim.
use Rattle.std.proofs.Common.{◌≡◌, ℕ, zero, suc, ◌+◌, ◌-◌, ◌<◌, ◌≤◌, Bool, true, List, [], ◌∷◌, ◌++◌, length, get_or, set, sym, refl, ap, ◌∙◌, subst, ⊎_elim, arith}
use Rattle.std.proofs.Math.Seq.{get_or-append_seam}
use Rattle.std.proofs.lemmas.List.{get_or_append_left, get_or-set_same, get_or-set_other}
use Rattle.std.proofs.lemmas.Bool.{cases_eq, cases_lt}
use Rattle.matching.specs.Paths.{Allots, Path, Queued, Reached, Shortage, all_of, step_at}
use Rattle.matching.specs.declared.way.Step.{Step}
use Rattle.matching.proofs.Flipping.{reached-apart, reached_less, set_case}
use Rattle.matching.proofs.Pigeon.{pigeon}

-- the first tail claims of q are reached, and for the first head of them no good is open; the marked goods are those that the others than x have
pub record Front (fit : ℕ → ℕ → Bool) (n x : ℕ) (al : List ℕ) (q : List Step) (marks : List ℕ) (head tail : ℕ) : Type 0 where
  pub reached : Reached fit n x al q tail
  pub done : head ≤ tail
  pub marked : (s : ℕ) → 0 < s → s < tail → get_or marks (get_or al (step_at q s).claim 0) 0 ≡ 0 → ⊥
  pub held : (g : ℕ) → (get_or marks g 0 ≡ 0 → ⊥) → (s : ℕ) × (0 < s) × (s < tail) × (get_or al (step_at q s).claim 0 ≡ g)
  pub closed : (t g : ℕ) → t < head → fit g (step_at q t).claim ≡ true → get_or marks g 0 ≡ 0 → ⊥

-- what is read past the last step
abbrev pub plain : Step
plain = record { claim = 0; from = 0 }

-- no good before `from` is open to the claim at i
abbrev pub Looked : (ℕ → ℕ → Bool) → List ℕ → ℕ → ℕ → Type 0
Looked fit marks i from = (g : ℕ) → g < from → fit g i ≡ true → get_or marks g 0 ≡ 0 → ⊥

pub queued_claim : (n x : ℕ) (q : List Step) (k s : ℕ) → Queued n x q k → x < n → s < k → (step_at q s).claim < n
queued_claim n x q k s w l b =
    ⊎_elim
    (λ (z : s ≡ 0). subst (λ (v : ℕ). (step_at q v).claim < n) (sym z) (omega (arith, w.first)))
    (λ (nz : s ≡ 0 → ⊥). (w.others s (omega arith) b).0)
    (cases_eq s 0)

-- no good is open to the claim at the head
pub front_next : (fit : ℕ → ℕ → Bool) (n x : ℕ) (al : List ℕ) (q : List Step) (marks : List ℕ) (head tail : ℕ) → Front fit n x al q marks head tail → head < tail →
    ((g : ℕ) → fit g (step_at q head).claim ≡ true → get_or marks g 0 ≡ 0 → ⊥) → Front fit n x al q marks (head + 1) tail
front_next fit n x al q marks head tail f more clear = record {
  reached = f.reached;
  done = omega arith;
  marked = f.marked;
  held = f.held;
  closed = λ t g l y. ⊎_elim
      (λ (e : t ≡ head). clear g (subst (λ (v : ℕ). fit g (step_at q v).claim ≡ true) e y))
      (λ (ne : t ≡ head → ⊥). f.closed t g (omega arith) y)
      (cases_eq t head);
}

-- a mark more leaves the others
grows : (marks : List ℕ) (o g : ℕ) → o < length marks → (get_or marks g 0 ≡ 0 → ⊥) → get_or (set marks o 1) g 0 ≡ 0 → ⊥
grows marks o g l ne = set_case (λ g v. v ≡ 0 → ⊥) marks o 1 l (λ e. omega arith) g (λ _. ne)

-- the next good is not open to the claim
pub looked_past : (fit : ℕ → ℕ → Bool) (marks : List ℕ) (i g : ℕ) → Looked fit marks i g → (fit g i ≡ true → get_or marks g 0 ≡ 0 → ⊥) → Looked fit marks i (g + 1)
looked_past fit marks i g seen here k l y = ⊎_elim
    (λ (e : k ≡ g). subst (λ (j : ℕ). get_or marks j 0 ≡ 0 → ⊥) (sym e) (here (subst (λ (j : ℕ). fit j i ≡ true) e y)))
    (λ (ne : k ≡ g → ⊥). seen k (omega arith) y)
    (cases_eq k g)

-- or it is marked for it
pub looked_push : (fit : ℕ → ℕ → Bool) (marks : List ℕ) (i o : ℕ) → o < length marks → Looked fit marks i o → Looked fit (set marks o 1) i (o + 1)
looked_push fit marks i o ol seen = looked_past fit (set marks o 1) i o (λ g l y. grows marks o g ol (seen g l y)) (λ y z. let w = get_or-set_same marks o 1 0 ol in omega arith)

module _ (fit : ℕ → ℕ → Bool) (n x : ℕ) (al : List ℕ) (q : List Step) (marks : List ℕ) (head tail : ℕ) (f : Front fit n x al q marks head tail) (more : head < tail)
    (o h : ℕ) (suits : fit o (step_at q head).claim ≡ true) (unmarked : get_or marks o 0 ≡ 0) (low : x < n) (below : h < n) (other : h ≡ x → ⊥) (has : get_or al h 0 ≡ o) where
  -- the holder of an unmarked good is not reached yet
  fresh_good : (t : ℕ) → 0 < t → t < tail → get_or al (step_at q t).claim 0 ≡ get_or al h 0 → ⊥
  fresh_good t a l e = f.marked t a l (ap (λ (v : ℕ). get_or marks v 0) (e ∙ has) ∙ unmarked)

  fresh : (t : ℕ) → t < tail → (step_at q t).claim ≡ h → ⊥
  fresh t l e =
      ⊎_elim
      (λ (z : t ≡ 0). other (sym e ∙ ap (λ (v : ℕ). (step_at q v).claim) z ∙ f.reached.queued.first))
      (λ (nz : t ≡ 0 → ⊥). fresh_good t (omega arith) l (ap (λ (v : ℕ). get_or al v 0) e))
      (cases_eq t 0)

  -- the holder, and then the claims reached
  among_them : ℕ → ℕ
  among_them zero = h
  among_them (suc s) = (step_at q s).claim

  boxes : n ≤ tail → (i : ℕ) → i ≤ n → (j : ℕ) × (j < n) × (among_them i ≡ j)
  unfolding among_them
  boxes l zero le = (h, below, refl)
  boxes l (suc s) le = ((step_at q s).claim, queued_claim n x q tail s f.reached.queued low (omega arith), refl)

  distinct : n ≤ tail → (i j : ℕ) → i ≤ n → j ≤ n → among_them i ≡ among_them j → i ≡ j
  unfolding among_them
  distinct l zero zero li lj e = refl
  distinct l zero (suc t) li lj e = absurd (fresh t (omega arith) (sym e))
  distinct l (suc s) zero li lj e = absurd (fresh s (omega arith) e)
  distinct l (suc s) (suc t) li lj e = ap suc (reached-apart fit n x al q tail s t f.reached (omega arith) (omega arith) e)

  -- so there is room for it
  pub front_room : tail < n
  front_room =
      ⊎_elim
      (λ (l : tail < n). l)
      (λ (l : n ≤ tail). absurd (pigeon n among_them (λ j. j) (boxes l) (distinct l)))
      (cases_lt tail n)

  module _ (len : length q ≡ tail) (ol : o < length marks) where
    abbrev new : Step
    new = record { claim = h; from = head }

    abbrev pushed : List Step
    pushed = q ++ new ∷ []

    old : (s : ℕ) → s < tail → step_at pushed s ≡ step_at q s
    old s l = get_or_append_left q (new ∷ []) plain s (omega arith)

    last : step_at pushed tail ≡ new
    last = ap (step_at (q ++ new ∷ [])) (sym len) ∙ get_or-append_seam q new [] plain

    -- each step but the first is an old one, or the new one
    each : (P : ℕ → Step → Type 0) → P tail new → ((s : ℕ) → 0 < s → s < tail → P s (step_at q s)) → (s : ℕ) → 0 < s → s < tail + 1 → P s (step_at pushed s)
    each P here before s a b =
        ⊎_elim
        (λ (e : s ≡ tail). subst (λ (j : ℕ). P j (step_at pushed j)) (sym e) (subst (P tail) (sym last) here))
        (λ (ne : s ≡ tail → ⊥). subst (P s) (sym (old s (omega arith))) (before s a (omega arith)))
        (cases_eq s tail)

    queued_push : Queued n x pushed (tail + 1)
    queued_push =
        let w = f.reached.queued in
        let some = f.reached.some in
        record {
          first = ap (λ (v : Step). v.claim) (old 0 (omega arith)) ∙ w.first;
          others = each (λ s v. (v.claim < n) × (v.claim ≡ x → ⊥)) (below, other) (λ s a b. w.others s a b);
          earlier = each (λ s v. v.from < s) more (λ s a b. w.earlier s a b);
        }

    step_push : (s : ℕ) → 0 < s → s < tail + 1 → fit (get_or al (step_at pushed s).claim 0) (step_at pushed (step_at pushed s).from).claim ≡ true
    step_push =
        each (λ s v. fit (get_or al v.claim 0) (step_at pushed v.from).claim ≡ true)
        (subst (λ (v : Step). fit (get_or al h 0) v.claim ≡ true) (sym (old head more)) (subst (λ (g : ℕ). fit g (step_at q head).claim ≡ true) (sym has) suits))
        (λ s a b. subst (λ (v : Step). fit (get_or al (step_at q s).claim 0) v.claim ≡ true) (sym (old (step_at q s).from (let l = f.reached.queued.earlier s a b in omega arith))) (f.reached.step s a b))

    apart_push : (s t : ℕ) → 0 < s → s < tail + 1 → 0 < t → t < tail + 1 → get_or al (step_at pushed s).claim 0 ≡ get_or al (step_at pushed t).claim 0 → s ≡ t
    apart_push s t a ls b lt =
        each (λ s v. get_or al v.claim 0 ≡ get_or al (step_at pushed t).claim 0 → s ≡ t)
        (each (λ t v. get_or al h 0 ≡ get_or al v.claim 0 → tail ≡ t) (λ e. refl) (λ t b l e. absurd (fresh_good t b l (sym e))) t b lt)
        (λ s a l. each (λ t v. get_or al (step_at q s).claim 0 ≡ get_or al v.claim 0 → s ≡ t) (λ e. absurd (fresh_good s a l e)) (λ t b m e. f.reached.apart s t a l b m e) t b lt)
        s a ls

    -- the holder comes to the end of the steps, and the good is marked
    pub front_push : Front fit n x al (q ++ record { claim = h; from = head } ∷ []) (set marks o 1) head (tail + 1)
    front_push =
        let room : tail < n = front_room in
        let some = f.reached.some in
        record {
          reached = record { some = omega arith; upto = omega arith; queued = queued_push; step = step_push; apart = apart_push };
          done = omega arith;
          marked = each (λ s v. get_or (set marks o 1) (get_or al v.claim 0) 0 ≡ 0 → ⊥)
              (subst (λ (v : ℕ). get_or (set marks o 1) v 0 ≡ 0 → ⊥) (sym has) (λ e. let z = get_or-set_same marks o 1 0 ol in omega arith))
              (λ s a b. grows marks o (get_or al (step_at q s).claim 0) ol (f.marked s a b));
          held = λ g ng. ⊎_elim
              (λ (e : g ≡ o). (tail, some, omega arith, ap (λ (v : Step). get_or al v.claim 0) last ∙ has ∙ sym e))
              (λ (ne : g ≡ o → ⊥).
              let w = f.held g (λ z. ng (get_or-set_other marks o g 1 0 ne ∙ z)) in
              (w.0, w.1, (let l = w.2 in omega arith), ap (λ (v : Step). get_or al v.claim 0) (old w.0 w.2) ∙ w.3))
              (cases_eq g o);
          closed = λ t g l y. grows marks o g ol (f.closed t g l (subst (λ (v : Step). fit g v.claim ≡ true) (old t (omega arith)) y));
        }

-- a good that no other claim has is open to the claim at the head
pub front_found : (fit : ℕ → ℕ → Bool) (n x : ℕ) (al : List ℕ) (q : List Step) (marks : List ℕ) (head tail : ℕ) → Front fit n x al q marks head tail → head < tail →
    (g : ℕ) → fit g (step_at q head).claim ≡ true → ((i : ℕ) → i < n → (i ≡ x → ⊥) → get_or al i 0 ≡ g → ⊥) → Path fit n x al q head g
front_found fit n x al q marks head tail f more g here free = record {
  reached = reached_less fit n x al q tail (head + 1) f.reached (omega arith) (omega arith);
  here = here;
  free = free;
}

-- claims that are more than the goods for them cannot all have one
pub shortage_none : (fit : ℕ → ℕ → Bool) (n x : ℕ) (al : List ℕ) (q : List Step) (k : ℕ) → x < n → Shortage fit n x al q k → (mt : List ℕ) → Allots fit (all_of n) mt → ⊥
shortage_none fit n x al q k low w mt mat =
    let r = w.reached in
    let some = r.some in
    let claim : (t : ℕ) → t ≤ k - 1 → (step_at q t).claim < n = (λ t le. queued_claim n x q k t r.queued low (omega arith)) in
    pigeon (k - 1) (λ t. get_or mt (step_at q t).claim 0) (λ s. get_or al ((step_at q (s + 1)).claim) 0)
    (λ t le.
    let v = w.held t (get_or mt (step_at q t).claim 0) (omega arith) (mat.suit (step_at q t).claim (claim t le)) in
    let a = v.1 in
    let b = v.2 in
    let same : v.0 ≡ v.0 - 1 + 1 = omega arith in
    (v.0 - 1, omega arith, subst (λ (u : ℕ). get_or mt (step_at q t).claim 0 ≡ get_or al (step_at q u).claim 0) same (sym v.3)))
    (λ t s lt ls e. reached-apart fit n x al q k t s r (omega arith) (omega arith) (mat.apart (step_at q t).claim (step_at q s).claim (claim t lt) (claim s ls) e))
