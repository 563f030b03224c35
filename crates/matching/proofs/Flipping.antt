-- One step back along a path, and its end.
use Rattle.std.proofs.Common.{◌≡◌, ℕ, ◌+◌, ◌<◌, ◌≤◌, Bool, true, List, length, get_or, set, sym, refl, ap, ◌∙◌, subst, ⊎_elim, arith}
use Rattle.std.proofs.lemmas.List.{get_or-set_same, get_or-set_other}
use Rattle.std.proofs.lemmas.Bool.{cases_eq}
use Rattle.matching.specs.declared.way.Step.{Step}
use Rattle.matching.specs.Paths.{Allots, Path, Queued, Reached, all_but, step_at}

-- what holds of each pair of place and value holds after one write
pub set_case : (P : ℕ → ℕ → Type 0) (xs : List ℕ) (c v : ℕ) → c < length xs → P c v → (i : ℕ) → ((i ≡ c → ⊥) → P i (get_or xs i 0)) → P i (get_or (set xs c v) i 0)
set_case P xs c v l here i old =
    ⊎_elim
    (λ (e : i ≡ c). subst (λ (x : ℕ). P x (get_or (set xs c v) x 0)) (sym e) (subst (P c) (sym (get_or-set_same xs c v 0 l)) here))
    (λ (ne : i ≡ c → ⊥). subst (P i) (sym (get_or-set_other xs c i v 0 ne)) (old ne))
    (cases_eq i c)

-- a claim takes a good that no other has
allots_set : (fit : ℕ → ℕ → Bool) (who who' : ℕ → Type 0) (al : List ℕ) (c g : ℕ) → c < length al → Allots fit who al →
    fit g c ≡ true → ((i : ℕ) → who i → get_or al i 0 ≡ g → ⊥) → ((i : ℕ) → who' i → (i ≡ c → ⊥) → who i) → Allots fit who' (set al c g)
allots_set fit who who' al c g l a here free old = record {
  suit = λ i w. set_case (λ i v. fit v i ≡ true) al c g l here i (λ ne. a.suit i (old i w ne));
  apart = λ i j wi wj. set_case (λ i v. v ≡ get_or (set al c g) j 0 → i ≡ j) al c g l
      (set_case (λ j y. g ≡ y → c ≡ j) al c g l (λ e. refl) j (λ ne e. absurd (free j (old j wj ne) (sym e))))
      i
      (λ ni. set_case (λ j y. get_or al i 0 ≡ y → i ≡ j) al c g l (λ e. absurd (free i (old i wi ni) e)) j (λ nj e. a.apart i j (old i wi ni) (old j wj nj) e));
}

pub queued_less : (n x : ℕ) (q : List Step) (k j : ℕ) → Queued n x q k → j ≤ k → Queued n x q j
queued_less n x q k j w le = record {
  first = w.first;
  others = λ s a b. w.others s a (omega arith);
  earlier = λ s a b. w.earlier s a (omega arith);
}

pub reached_less : (fit : ℕ → ℕ → Bool) (n x : ℕ) (al : List ℕ) (q : List Step) (k j : ℕ) → Reached fit n x al q k → 0 < j → j ≤ k → Reached fit n x al q j
reached_less fit n x al q k j r some le = record {
  some = some;
  upto = omega (arith, r.upto);
  queued = queued_less n x q k j r.queued le;
  step = λ s a b. r.step s a (omega arith);
  apart = λ s t a b c d e. r.apart s t a (omega arith) c (omega arith) e;
}

-- no claim is reached twice
pub reached-apart : (fit : ℕ → ℕ → Bool) (n x : ℕ) (al : List ℕ) (q : List Step) (k s t : ℕ) → Reached fit n x al q k → s < k → t < k → (step_at q s).claim ≡ (step_at q t).claim → s ≡ t
reached-apart fit n x al q k s t r ls lt e =
    ⊎_elim
    (λ (zs : s ≡ 0). ⊎_elim
    (λ (zt : t ≡ 0). omega arith)
    (λ (nt : t ≡ 0 → ⊥). absurd ((r.queued.others t (omega arith) lt).1 (sym e ∙ ap (λ (v : ℕ). (step_at q v).claim) zs ∙ r.queued.first)))
    (cases_eq t 0))
    (λ (ns : s ≡ 0 → ⊥). ⊎_elim
    (λ (zt : t ≡ 0). absurd ((r.queued.others s (omega arith) ls).1 (e ∙ ap (λ (v : ℕ). (step_at q v).claim) zt ∙ r.queued.first)))
    (λ (nt : t ≡ 0 → ⊥). r.apart s t (omega arith) ls (omega arith) lt (ap (λ (v : ℕ). get_or al v 0) e))
    (cases_eq t 0))
    (cases_eq s 0)

-- the last claim of a path takes the free good, and its own good is free
pub path_step : (fit : ℕ → ℕ → Bool) (n x : ℕ) (al : List ℕ) (q : List Step) (p g : ℕ) → n ≤ length al → 0 < p →
    Path fit n x al q p g → Allots fit (all_but n x) al →
    Path fit n x (set al (step_at q p).claim g) q (step_at q p).from (get_or al (step_at q p).claim 0) × Allots fit (all_but n x) (set al (step_at q p).claim g)
path_step fit n x al q p g room more w a =
    let r = w.reached in
    let c = (step_at q p).claim in
    let o = r.queued.others p more (omega arith) in
    let cn = o.0 in
    let cl : (step_at q p).claim < length al = omega arith in
    let bp : (step_at q p).from < p = r.queued.earlier p more (omega arith) in
    let same : (s : ℕ) → s < p → get_or (set al (step_at q p).claim g) (step_at q s).claim 0 ≡ get_or al (step_at q s).claim 0 =
    (λ s l. get_or-set_other al c (step_at q s).claim g 0 (λ e. let z : s ≡ p = reached-apart fit n x al q (p + 1) s p r (omega arith) (omega arith) e in omega arith)) in (
      record {
        reached = record {
          some = omega arith;
          upto = omega (arith, r.upto);
          queued = queued_less n x q (p + 1) ((step_at q p).from + 1) r.queued (omega arith);
          step = λ s b l. subst (λ (v : ℕ). fit v ((step_at q (step_at q s).from).claim) ≡ true) (sym (same s (omega arith))) (r.step s b (omega arith));
          apart = λ s t bs ls bt lt e. r.apart s t bs (omega arith) bt (omega arith) (sym (same s (omega arith)) ∙ e ∙ same t (omega arith));
        };
        here = r.step p more (omega arith);
        free = λ i b nx. set_case (λ i v. v ≡ get_or al (step_at q p).claim 0 → ⊥) al c g cl
            (λ e. w.free c cn o.1 (sym e))
            i
            (λ ne e. ne (a.apart i c (b, nx) (cn, o.1) e));
      },
      allots_set fit (all_but n x) (all_but n x) al c g cl a w.here (λ i b. w.free i b.0 b.1) (λ i b _. b),
    )
