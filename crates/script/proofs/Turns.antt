-- A script is answered line by line.
use Rattle.std.proofs.Common.{◌≡◌, ℕ, ◌+◌, ◌≤◌, Bool, true, false, eqb, List, [], ◌∷◌, ◌++◌, length, length-append, sym, refl, ap, ◌∙◌, subst, append_assoc, append-nil, arith}
use Rattle.std.proofs.lemmas.List.{length_push}
use Rattle.broker.specs.declared.call.Call.{Call}
use Rattle.script.specs.Limits.{most_bytes}
use Rattle.script.specs.Lines.{before, lines_of}
use Rattle.script.specs.Rows.{line_feed, row_bytes}
use Rattle.script.specs.Scripts.{Line, Rows, Answered, Stopped}

-- no more lines than bytes
lines_few : (script : List ℕ) → length (lines_of script) ≤ length script
lines_few [] = omega arith
lines_few (b ∷ script) = go (eqb b line_feed) (lines_of script) (lines_few script)
  where
    go : (t : Bool) (lines : List (List ℕ)) → length lines ≤ length script → length (before t b lines) ≤ length (b ∷ script)
    go true lines l = omega arith
    go false [] l = omega arith
    go false (line ∷ lines) l = omega arith

module _ {S : Type 0} (Deals : S → Call → List ℕ → S → Type 0) where
  rows_push : (n : ℕ) (s t u : S) (lines : List (List ℕ)) (line out words : List ℕ) → Rows Deals n s lines out t → Line Deals (n + length lines) t line words u → Rows Deals n s (lines ++ line ∷ []) (out ++ row_bytes (n + length lines) words) u
  rows_push n s t u [] line out words (none, same) told =
      let e : n + 0 ≡ n = omega arith in
      (words, u, [], subst (λ v. Line Deals n v line words u) same (subst (λ k. Line Deals k t line words u) e told), (λ i. none i ++ row_bytes (e i) words) ∙ sym (append-nil (row_bytes n words)), (refl, refl))
  rows_push n s t u (first ∷ lines) line out words (said, next, rest, was, is, more) told =
      let e : n + length (first ∷ lines) ≡ (n + 1) + length lines = omega arith in
      let on = rows_push (n + 1) next t u lines line rest words more (subst (λ k. Line Deals k t line words u) e told) in
      (said, next, rest ++ row_bytes (n + 1 + length lines) words, was, (λ i. is i ++ row_bytes (e i) words) ∙ append_assoc (row_bytes n said) rest (row_bytes (n + 1 + length lines) words), on)

  -- the loop's invariant: the lines before those that are left are dealt with, and have their rows
  pub record Sofar (s : S) (script old : List ℕ) (left : List (List ℕ)) (next : ℕ) (t : S) (now : List ℕ) : Type 0 where
    pub first : List (List ℕ)
    pub cut : lines_of script ≡ first ++ left
    pub many : next ≡ length first + 1
    pub rows : List ℕ
    pub added : now ≡ old ++ rows
    pub told : Rows Deals 1 s first rows t

  module _ {s : S} {script old : List ℕ} {left : List (List ℕ)} {next : ℕ} {t : S} {now : List ℕ} (was : Sofar s script old left next t now) where
    -- there are numbers enough
    pub numbered : length script ≤ most_bytes → next ≤ most_bytes + 1
    numbered short = omega (arith, was.many, lines_few script, ap length was.cut, length-append {A = List ℕ})

    module _ (n : ℕ) (line : List ℕ) (more : List (List ℕ)) (words : List ℕ) (u : S) (is : n ≡ next) (cut : left ≡ line ∷ more) (told : Line Deals n t line words u) where
      one : 1 + length was.first ≡ n
      one = omega (arith, was.many, is)

      cut_more : lines_of script ≡ (was.first ++ line ∷ []) ++ more
      cut_more = was.cut ∙ ap (λ l. was.first ++ l) cut ∙ sym (append_assoc was.first (line ∷ []) more)

      told_more : Rows Deals 1 s (was.first ++ line ∷ []) (was.rows ++ row_bytes n words) u
      told_more =
          subst (λ k. Rows Deals 1 s (was.first ++ line ∷ []) (was.rows ++ row_bytes k words) u) one
          (rows_push 1 s t u was.first line was.rows words was.told (subst (λ k. Line Deals k t line words u) (sym one) told))

      pub one_more : (after : ℕ) (new : List ℕ) → after ≡ n + 1 → new ≡ now ++ row_bytes n words → Sofar s script old more after u new
      one_more after new on put = record {
        first = was.first ++ line ∷ [];
        cut = cut_more;
        many = omega (arith, one, on, length_push was.first line);
        rows = was.rows ++ row_bytes n words;
        added = put ∙ ap (λ l. l ++ row_bytes n words) was.added ∙ append_assoc old was.rows (row_bytes n words);
        told = told_more;
      }

      pub stopped : length script ≤ most_bytes → Stopped Deals s script was.rows u
      stopped short =
          let e : n ≡ length (was.first ++ line ∷ []) = omega (arith, one, length_push was.first line) in
          record {
            long = λ l. absurd (omega arith);
            short = λ _. (
              was.first ++ line ∷ [],
              more,
              words,
              cut_more,
              subst (λ k. Rows Deals 1 s (was.first ++ line ∷ []) (was.rows ++ row_bytes k words) u) e told_more,
            );
          }

    pub answered : left ≡ [] → length script ≤ most_bytes → Answered Deals s script was.rows t
    answered none short =
        let all : lines_of script ≡ was.first = was.cut ∙ ap (λ l. was.first ++ l) none ∙ append-nil was.first in
        record { long = λ l. absurd (omega arith); short = λ _. subst (λ ls. Rows Deals 1 s ls was.rows t) (sym all) was.told }
