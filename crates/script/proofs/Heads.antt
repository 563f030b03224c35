-- The first line of what is left of a script.
use Rattle.std.proofs.Common.{◌≡◌, ℕ, ◌+◌, ◌<◌, ◌≤◌, min, false, true, eqb, List, [], ◌∷◌, ◌++◌, length, length-append, take, drop, get_or, Some, None, Option, sym, refl, ap, ◌∙◌, subst, append_assoc, append-nil, arith, eqb-true, MatchOption, unwrap_or, ⊎_elim, ◌≢◌, Bor}
use Rattle.std.specs.List.{All, IsFirstMatchOrLen, between}
use Rattle.std.proofs.Math.ListN.{get_or-append}
use Rattle.std.proofs.Math.Seq.{drop-append_seam}
use Rattle.std.proofs.lemmas.Bool.{cases_lt}
use Rattle.std.proofs.lemmas.List.{take_more, take_all}
use Rattle.std.proofs.lemmas.List.Elements.{All-head, All-tail}
use Rattle.std.proofs.lemmas.Slice.{between_to_end}
use Rattle.script.specs.Lines.{before, lines_of}
use Rattle.script.specs.Rows.{line_feed}

-- no byte ends a line
abbrev pub Inner : List ℕ → Type 0
Inner bytes = All (λ b. eqb b line_feed ≡ false) bytes

inner_head : (b : ℕ) (part : List ℕ) → Inner (b ∷ part) → eqb b line_feed ≡ false
inner_head b part f = All-head (λ b. eqb b line_feed ≡ false) b part f

inner_tail : (b : ℕ) (part : List ℕ) → Inner (b ∷ part) → Inner part
inner_tail b part f = All-tail (λ b. eqb b line_feed ≡ false) b part f

line_fed : (part rest : List ℕ) → Inner part → lines_of (part ++ (line_feed ∷ rest)) ≡ part ∷ lines_of rest
line_fed [] rest f = refl
line_fed (b ∷ part) rest f =
    ap (λ t. before t b (lines_of (part ++ (line_feed ∷ rest)))) (inner_head b part f) ∙ ap (before false b) (line_fed part rest (inner_tail b part f))

line_last : (b : ℕ) (part : List ℕ) → Inner (b ∷ part) → lines_of (b ∷ part) ≡ (b ∷ part) ∷ []
line_last b [] f = ap (λ t. before t b []) (inner_head b [] f)
line_last b (d ∷ part) f =
    ap (λ t. before t b (lines_of (d ∷ part))) (inner_head b (d ∷ part) f) ∙ ap (before false b) (line_last d part (inner_tail b (d ∷ part) f))

module _ (rest part after : List ℕ) (i : ℕ) (cut : rest ≡ part ++ after) (some : 0 < length rest) (long : length part ≡ min (i + 1) (length rest)) (first : IsFirstMatchOrLen (λ b. eqb b line_feed) rest i) where
  inner : (xs ys : List ℕ) → part ≡ xs ++ ys → length xs ≤ i → Inner xs
  inner xs ys e l = λ k d m.
      let is : rest ≡ xs ++ (ys ++ after) = cut ∙ ap (λ p. p ++ after) e ∙ append_assoc xs ys after in
      let low : k < length rest = omega (arith, length-append {A = ℕ}, ap length is) in
      subst (λ b. eqb b line_feed ≡ false) (ap (λ r. get_or r k d) is ∙ get_or-append xs (ys ++ after) d k m) (first.0 k d (omega arith) (omega arith))

  -- where there is a line feed, the part ends with it
  feeds : i < length rest → part ≡ take i part ++ (line_feed ∷ [])
  feeds l =
      let all : length part ≤ i + 1 = omega (arith, long) in
      let in' : i < length part = omega (arith, long) in
      let hit : get_or part i 0 ≡ line_feed = eqb-true _ line_feed (subst (λ b. eqb b line_feed ≡ true) (ap (λ r. get_or r i 0) cut ∙ get_or-append part after 0 i in') (first.1 l 0)) in
      sym (take_all (i + 1) part all) ∙ take_more part i 0 in' ∙ ap (λ b. take i part ++ (b ∷ [])) hit

  fed : (line : List ℕ) → part ≡ line ++ (line_feed ∷ []) → lines_of rest ≡ line ∷ lines_of after
  fed line e =
      let short : length line ≤ i = omega (arith, length-append {A = ℕ}, long, ap length e) in
      ap lines_of (cut ∙ ap (λ p. p ++ after) e ∙ append_assoc line (line_feed ∷ []) after) ∙ line_fed line after (inner line (line_feed ∷ []) e short)

  last : length rest ≤ i → lines_of rest ≡ part ∷ lines_of after
  last l = go part refl after refl
    where
      go : (p : List ℕ) → part ≡ p → (q : List ℕ) → after ≡ q → lines_of rest ≡ p ∷ lines_of q
      go [] e q f = absurd (omega (arith, long, ap length e))
      go (b ∷ p) e (d ∷ q) f = absurd (omega (arith, length-append {A = ℕ}, long, ap length cut, ap length f, ap length e))
      go (b ∷ p) e [] f = ap lines_of (cut ∙ ap (λ p. p ++ after) e ∙ ap (λ q. (b ∷ p) ++ q) f ∙ append-nil (b ∷ p)) ∙ line_last b p (inner (b ∷ p) [] (e ∙ sym (append-nil (b ∷ p))) (omega (arith, long, ap length e)))

  cut_line : (o : Option (Bor (List ℕ))) (whole : Bor (List ℕ)) → whole.now ≡ part → MatchOption o ((front : List ℕ) → part ≢ front ++ (line_feed ∷ [])) (λ x. part ≡ x.now ++ (line_feed ∷ [])) → lines_of rest ≡ (unwrap_or o whole).now ∷ lines_of after
  cut_line (Some x) whole is ends = fed x.now ends
  cut_line None whole is ends = ⊎_elim (λ l. absurd (ends (take i part) (feeds l))) (λ l. last l ∙ ap (λ p. p ∷ lines_of after) (sym is)) (cases_lt i (length rest))

  -- the first line is the part without its line feed, and what is left is behind the part
  pub next_line : (o : Option (Bor (List ℕ))) (whole : Bor (List ℕ)) → whole.now ≡ part → MatchOption o ((front : List ℕ) → part ≢ front ++ (line_feed ∷ [])) (λ x. part ≡ x.now ++ (line_feed ∷ [])) → lines_of rest ≡ (unwrap_or o whole).now ∷ lines_of (between (length part) (length rest) rest)
  next_line o whole is ends =
      let left : between (length part) (length rest) rest ≡ after = between_to_end rest (length part) (length rest) (omega arith) ∙ ap (drop (length part)) cut ∙ drop-append_seam part after in
      cut_line o whole is ends ∙ ap (λ l. (unwrap_or o whole).now ∷ lines_of l) (sym left)
