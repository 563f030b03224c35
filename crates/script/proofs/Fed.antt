-- The lines of a script, put together again.
use Rattle.std.proofs.Common.{◌≡◌, ℕ, ◌<◌, Bool, true, false, eqb, List, [], ◌∷◌, length, sym, refl, ap, ◌∙◌, arith, eqb-true}
use borrow.Author.Tests.{eqb-false}
use Rattle.std.specs.List.{AllByRecursion}
use Rattle.script.specs.Lines.{before, lines_of, fed, closed, Whole, LinesAreTheScript}

some_line : (t : Bool) (b : ℕ) (ls : List (List ℕ)) → 0 < length (before t b ls)
some_line true b ls = omega arith
some_line false b [] = omega arith
some_line false b (l ∷ ls) = omega arith

fed-step : (b : ℕ) (ls : List (List ℕ)) → 0 < length ls → fed (before (eqb b 10) b ls) ≡ b ∷ fed ls
fed-step b [] h = absurd (omega arith)
fed-step b (l ∷ ls) h = go (eqb b 10) refl
  where
    go : (t : Bool) → eqb b 10 ≡ t → fed (before t b (l ∷ ls)) ≡ b ∷ fed (l ∷ ls)
    go true e = ap (λ x. x ∷ fed (l ∷ ls)) (sym (eqb-true b 10 e))
    go false e = refl

fed-last : (b : ℕ) → fed (before (eqb b 10) b []) ≡ closed (b ∷ [])
fed-last b = go (eqb b 10) refl
  where
    go : (t : Bool) → eqb b 10 ≡ t → fed (before t b []) ≡ elim t [ true ↦ b ∷ [] | false ↦ b ∷ 10 ∷ [] ]
    go true e = ap (λ x. x ∷ []) (sym (eqb-true b 10 e))
    go false e = refl

fed_lines : (bytes : List ℕ) → fed (lines_of bytes) ≡ closed bytes
fed_lines [] = refl
fed_lines (b ∷ []) = fed-last b
fed_lines (b ∷ d ∷ bytes) = fed-step b (lines_of (d ∷ bytes)) (some_line (eqb d 10) d (lines_of bytes)) ∙ ap (λ l. b ∷ l) (fed_lines (d ∷ bytes))

whole_before : (t : Bool) (b : ℕ) (ls : List (List ℕ)) → eqb b 10 ≡ t → AllByRecursion Whole ls → AllByRecursion Whole (before t b ls)
whole_before true b ls e h = (tt, h)
whole_before false b [] e h = ((eqb-false b 10 e, tt), tt)
whole_before false b (l ∷ ls) e h = ((eqb-false b 10 e, h.0), h.1)

whole_lines : (bytes : List ℕ) → AllByRecursion Whole (lines_of bytes)
whole_lines [] = tt
whole_lines (b ∷ bytes) = whole_before (eqb b 10) b (lines_of bytes) refl (whole_lines bytes)

pub lines_are_the_script : LinesAreTheScript
lines_are_the_script bytes = (fed_lines bytes, whole_lines bytes)
