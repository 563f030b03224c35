-- What holds of the first place at which a test passes, by whether there is one.
use Rattle.std.proofs.Common.{ℕ, ◌<◌, ◌≤◌, Bool, ltb, List, length, Some, None, Option, sym, subst, ⊎_elim}
use Rattle.std.specs.List.{position, position_or_len}
use Rattle.std.proofs.lemmas.Bool.{cases_lt, lt-ltb, le-ltb, cond-true, cond-false}

pub at_position : {X : Type 0} (p : X → Bool) (xs : List X) (Q : Option ℕ → Type 0) → (position_or_len p xs < length xs → Q (Some (position_or_len p xs))) → (length xs ≤ position_or_len p xs → Q None) → Q (position p xs)
at_position p xs Q there none =
    let i = position_or_len p xs in
    ⊎_elim
    (λ (l : i < length xs). subst Q (sym (cond-true (ltb i (length xs)) (Some i) None (lt-ltb i (length xs) l))) (there l))
    (λ (l : length xs ≤ i). subst Q (sym (cond-false (ltb i (length xs)) (Some i) None (le-ltb i (length xs) l))) (none l))
    (cases_lt i (length xs))
