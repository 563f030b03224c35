-- Where a promise stands among the live ones.
use Rattle.std.proofs.Common.{◌≡◌, ℕ, suc, ◌+◌, ◌<◌, ◌≤◌, Bool, true, false, cond, not, eqb, List, [], ◌∷◌, length, None, refl, sym, ap, subst, one-add, arith}
use Rattle.std.specs.List.{position, position_or_len}
use Rattle.broker.specs.declared.held.Promise.{Promise as Held}
use Rattle.broker.specs.Held.{promise_view, live_view}
use Rattle.broker.specs.Holds.{Stands, Found}
use Rattle.machine.specs.Machine.{promise_of, ended, marked_taken}
use Rattle.broker.proofs.Firsts.{at_position}

abbrev pub numbered : ℕ → Held → Bool
numbered n x = eqb x.number.0 n

abbrev place : ℕ → List Held → ℕ
place n xs = position_or_len (numbered n) xs

module _ (n : ℕ) (x : Held) (xs : List Held) where
  stands_here : numbered n x ≡ true → Stands n (x ∷ xs) 0
  stands_here t = record {
    within = omega arith;
    there = λ d. rw (t, promise_of);
    others = rw (t, ended);
    marked = λ d. rw (t, marked_taken);
  }

  stands_past : numbered n x ≡ false → (i : ℕ) → Stands n xs i → Stands n (x ∷ xs) (suc i)
  stands_past f i s = record {
    within = omega (arith, s.within);
    there = λ d. rw (f, promise_of) (s.there d);
    others = rw (f, ended) (ap (λ ys. promise_view x ∷ ys) s.others);
    marked = λ d. rw (f, marked_taken) (ap (λ ys. promise_view x ∷ ys) (s.marked d));
  }

stands_at : (n : ℕ) (xs : List Held) → place n xs < length xs → Stands n xs (place n xs)
stands_at n [] h = absurd (omega arith)
stands_at n (x ∷ xs) h = go (numbered n x) refl h (λ l. stands_at n xs l)
  where
    go : (q : Bool) → numbered n x ≡ q → cond (not q) (1 + place n xs) 0 < length (x ∷ xs) → (place n xs < length xs → Stands n xs (place n xs)) → Stands n (x ∷ xs) (cond (not q) (1 + place n xs) 0)
    go true t l ih = stands_here n x xs t
    go false f l ih = subst (λ (i : ℕ). Stands n (x ∷ xs) i) (sym (one-add (place n xs))) (stands_past n x xs f (place n xs) (ih (omega arith)))

none_stands : (n : ℕ) (xs : List Held) → length xs ≤ place n xs → promise_of n (live_view xs) ≡ None
none_stands n [] h = refl
none_stands n (x ∷ xs) h = go (numbered n x) refl h (λ l. none_stands n xs l)
  where
    go : (q : Bool) → numbered n x ≡ q → length (x ∷ xs) ≤ cond (not q) (1 + place n xs) 0 → (length xs ≤ place n xs → promise_of n (live_view xs) ≡ None) → promise_of n (live_view (x ∷ xs)) ≡ None
    go true t l ih = absurd (omega arith)
    go false f l ih = rw (f, promise_of) (ih (omega arith))

pub found : (n : ℕ) (xs : List Held) → Found n xs (position (numbered n) xs)
found n xs = at_position (numbered n) xs (λ o. Found n xs o) (stands_at n xs) (none_stands n xs)
