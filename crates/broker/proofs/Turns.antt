-- Which of the live promises a minute leaves, and which of them is the first to go.
use Rattle.std.proofs.Common.{◌≡◌, ℕ, Bool, true, false, cond, not, List, [], ◌∷◌, length, Some, None, Option, Bor, IfSome, sym, refl, ap, ◌∙◌, subst, arith}
use Rattle.std.specs.List.{filter, FoldsTo}
use Rattle.std.specs.Fn.{Mut, CalledAt}
use Rattle.std.specs.Iterator.{Yields, YieldsThen}
use Rattle.std.proofs.lemmas.List.{drop_all}
use Rattle.claims.specs.Book.{Book}
use Rattle.broker.specs.declared.held.Promise.{Promise as Held}
use Rattle.broker.specs.Held.{promise_view, live_view}
use Rattle.machine.specs.Machine.{lapsed, standing, kept, keys_of, lift_all}

abbrev pub stays : ℕ → Held → Bool
stays clock p = not (lapsed clock (promise_view p))

pub standing_filter : (clock : ℕ) (xs : List Held) → live_view (filter (stays clock) xs) ≡ standing clock (live_view xs)
standing_filter clock [] = refl
standing_filter clock (x ∷ xs) = go (lapsed clock (promise_view x)) (standing_filter clock xs)
  where
    go : (q : Bool) → live_view (filter (stays clock) xs) ≡ standing clock (live_view xs) →
        live_view (cond (not q) (x ∷ filter (stays clock) xs) (filter (stays clock) xs)) ≡ cond q (standing clock (live_view xs)) (promise_view x ∷ standing clock (live_view xs))
    go true ih = ih
    go false ih = ap (λ ys. promise_view x ∷ ys) ih

abbrev pub goes : ℕ → Held → Bool
goes clock p = lapsed clock (promise_view p)

-- none of the promises before those that are left lapses
pub record Passed (clock : ℕ) (all left : List Held) : Type 0 where
  pub lifts : (b : Book) → kept clock (live_view all) b ≡ kept clock (live_view left) b
  pub stands : standing clock (live_view left) ≡ live_view left → standing clock (live_view all) ≡ live_view all

module _ (clock : ℕ) where
  passed_one : (x : Held) (all after left : List Held) → all ≡ x ∷ after → false ≡ goes clock x → Passed clock after left → Passed clock all left
  passed_one x all after left is stays_on p = subst (λ ys. Passed clock ys left) (sym is) (record {
    lifts = λ b. ap (λ q. kept clock (live_view after) (cond q (lift_all (keys_of (promise_view x)) b) b)) (sym stays_on) ∙ p.lifts b;
    stands = λ h. ap (λ q. cond q (standing clock (live_view after)) (promise_view x ∷ standing clock (live_view after))) (sym stays_on) ∙ ap (λ ys. promise_view x ∷ ys) (p.stands h);
  })

  -- the first that lapses, and those after it; or else none lapses
  abbrev pub FirstGone : List Held → Option (Bor Held) → List Held → Type 0
  FirstGone all None left = (standing clock (live_view all) ≡ live_view all) × ((b : Book) → kept clock (live_view all) b ≡ b)
  FirstGone all (Some x) left = (b : Book) → kept clock (live_view all) b ≡ kept clock (live_view left) (lift_all (keys_of (promise_view x.now)) b)

  -- what a walk along an iterator's promises finds, by a closure that says which one lapses
  module _ {S F : Type 0} (rest : S → List Held) (steps : S → Option (Bor Held) → S → Type 0) (one : (s t : S) (x : Bor Held) → steps s (Some x) t → rest s ≡ x.now ∷ rest t) (none : (s t : S) → steps s None t → length (rest s) ≡ 0) (g : Mut F (Bor (Bor Held) × Unit {0}) Bool) (f : F) (each : (x : Bor Held) (b : Bool) (q : F) → CalledAt g f x b q → (q ≡ f) × (b ≡ goes clock x.now)) where
    passed : (xs : List (Bor Held)) (s t : S) (p j : F) → p ≡ f → Yields steps s xs t → FoldsTo (λ p x q. CalledAt g p x false q) p xs j → (j ≡ f) × Passed clock (rest s) (rest t)
    passed [] s t p j e walk calls = (
      sym calls ∙ e,
      record {
        lifts = λ b. ap (λ u. kept clock (live_view (rest u)) b) walk;
        stands = subst (λ u. standing clock (live_view (rest u)) ≡ live_view (rest u) → standing clock (live_view (rest s)) ≡ live_view (rest s)) walk (λ h. h);
      },
    )
    passed (x ∷ xs) s t p j e (m, step, walk) (q, call, calls) =
        let here = each x false q (subst (λ (y : F). CalledAt g y x false q) e call) in
        let more = passed xs m t q j here.0 walk calls in
        (more.0, passed_one x.now (rest s) (rest m) (rest t) (one s m x step) here.1 more.1)

    pub first_gone : (s u : S) (r : Option (Bor Held)) → (xs : List (Bor Held)) × (j : F) × YieldsThen steps s xs r u × FoldsTo (λ p x q. CalledAt g p x false q) f xs j × IfSome r (λ x. (h : F) × CalledAt g j x true h) → FirstGone (rest s) r (rest u)
    first_gone s u None (xs, j, (t, walk, last), calls, hit) =
        let p = subst (Passed clock (rest s)) (drop_all 0 (rest t) (omega (arith, none t u last))) (passed xs s t f j refl walk calls).1 in
        (p.stands refl, p.lifts)
    first_gone s u (Some x) (xs, j, (t, walk, last), calls, (h, call)) = λ b.
        let (same, before) = passed xs s t f j refl walk calls in
        let p = subst (Passed clock (rest s)) (one t u x last) before in
        p.lifts b ∙ ap (λ q. kept clock (live_view (rest u)) (cond q (lift_all (keys_of (promise_view x.now)) b) b)) (sym (each x true h (subst (λ (y : F). CalledAt g y x true h) same call)).1)
