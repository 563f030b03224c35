-- The numbers of a line, field by field: the parts between its spaces.
use Rattle.std.proofs.Common.{◌≡◌, ℕ, ◌^◌, ◌<◌, false, eqb, List, [], ◌∷◌, ◌++◌, map, length, get_or, Some, None, Ok, Err, Option, decimal, Result, sym, refl, ap, ◌∙◌, subst, append-nil, arith, ne_eqb, is_ok, true, MatchResult, Bor}
use Rattle.std.proofs.lemmas.Iterator.{YieldsList}
use Rattle.std.specs.List.{All, slice_split, join_with_byte}
use Rattle.std.proofs.lemmas.List.{append_assoc, length_push, map-append}
use Rattle.std.proofs.lemmas.List.Elements.{All-from_get_or, All-push, All-from_recursion, recursion_from_All}
use Rattle.std.proofs.lemmas.List.Splits.{slice_split_none, slice_split_at, join_with_byte-slice_split}
use Rattle.std.specs.Prelude.{◌↔◌, IsOk, OnOk, OnErr}
use Rattle.arrayvec.specs.ArrayVec.{ArrayVec}
use Rattle.script.specs.Limits.{most_numbers}
use Rattle.script.specs.Spaced.{space, field, spaced, Small}
use Rattle.script.proofs.Numbers.{Unwritten, decimal_at}

-- the parts between the spaces
abbrev pub parts : List ℕ → List (List ℕ)
parts bytes = slice_split (λ b. eqb b space) bytes

decimal_whole : (n : ℕ) → n < 2 ^ 32 → All (λ b. eqb b space ≡ false) (decimal n)
decimal_whole n small = All-from_get_or (λ b. eqb b space ≡ false) (decimal n) 0 (λ k l. ne_eqb (get_or (decimal n) k 0) space (λ (e : get_or (decimal n) k 0 ≡ 32). omega (arith, (decimal_at n k small l).0)))

parts_after : (n : ℕ) (ns : List ℕ) → n < 2 ^ 32 → Small ns → parts (decimal n ++ spaced ns) ≡ decimal n ∷ map decimal ns
parts_after n [] l s = ap parts (append-nil (decimal n)) ∙ slice_split_none _ (decimal n) (decimal_whole n l)
parts_after n (m ∷ ms) l s = slice_split_at _ (decimal n) space (decimal m ++ spaced ms) (decimal_whole n l) refl ∙ ap (λ p. decimal n ∷ p) (parts_after m ms s.0 s.1)

-- the parts of a spelling: nothing before the first space, and then the numbers
pub parts_spaced : (ns : List ℕ) → Small ns → parts (spaced ns) ≡ [] ∷ map decimal ns
parts_spaced [] s = refl
parts_spaced (n ∷ ns) s = ap (λ p. [] ∷ p) (parts_after n ns s.0 s.1)

joined : (n : ℕ) (ns : List ℕ) → join_with_byte space (decimal n ∷ map decimal ns) ≡ decimal n ++ spaced ns
joined n [] = sym (append-nil (decimal n))
joined n (m ∷ ms) = ap (λ l. decimal n ++ (space ∷ l)) (joined m ms)

-- bytes with such parts are a spelling
pub spaced_parts : (bytes ns : List ℕ) → parts bytes ≡ [] ∷ map decimal ns → bytes ≡ spaced ns
spaced_parts bytes ns cut = sym (join_with_byte-slice_split space bytes) ∙ ap (join_with_byte space) cut ∙ go ns
  where
    go : (ns : List ℕ) → join_with_byte space ([] ∷ map decimal ns) ≡ spaced ns
    go [] = refl
    go (n ∷ ns) = ap (λ l. space ∷ l) (joined n ns)

-- a part that is no number is no part of a spelling
unspelled : (seen ns : List ℕ) (field : List ℕ) (left : List (List ℕ)) → Small ns → Unwritten field → map decimal ns ≡ map decimal seen ++ (field ∷ left) → ⊥
unspelled [] [] field left s none e = absurd (omega (arith, ap length e))
unspelled [] (n ∷ ns) field left s none e = let f : field ≡ decimal n = cc in none n s.0 f
unspelled (m ∷ seen) [] field left s none e = absurd (omega (arith, ap length e))
unspelled (m ∷ seen) (n ∷ ns) field left s none e = let f : map decimal ns ≡ map decimal seen ++ (field ∷ left) = cc in unspelled seen ns field left s.1 none f

-- one number more
pub spaced_push : (ns : List ℕ) (n : ℕ) → spaced (ns ++ n ∷ []) ≡ spaced ns ++ field n
spaced_push [] n = append-nil (field n)
spaced_push (m ∷ ns) n = ap (λ l. field m ++ l) (spaced_push ns n) ∙ sym (append_assoc (field m) (spaced ns) (field n))

module _ (bytes : List ℕ) where
  -- a spelling has nothing before its first space
  pub no_space : (first : List ℕ) (left : List (List ℕ)) → parts bytes ≡ first ∷ left → 0 < length first → (ns : List ℕ) → Small ns → bytes ≡ spaced ns → ⊥
  no_space first left cut some ns s w =
      let e : first ∷ left ≡ [] ∷ map decimal ns = sym cut ∙ ap parts w ∙ parts_spaced ns s in
      let f : first ≡ [] = cc in
      omega (arith, ap length f)

  -- a spelling has a part
  pub some_part : parts bytes ≡ [] → (ns : List ℕ) → Small ns → bytes ≡ spaced ns → ⊥
  some_part none ns s w = omega (arith, ap length (sym none ∙ ap parts w ∙ parts_spaced ns s))

  -- the numbers that are read before the parts that are left
  pub record Seen (numbers : List ℕ) (left : List (List ℕ)) : Type 0 where
    pub cut : parts bytes ≡ [] ∷ (map decimal numbers ++ left)
    pub small : Small numbers

  pub seen_none : (first : List ℕ) (left : List (List ℕ)) → parts bytes ≡ first ∷ left → length first ≡ 0 → Seen [] left
  seen_none [] left cut none = record { cut = cut; small = tt }
  seen_none (b ∷ first) left cut none = absurd (omega arith)

  module _ {numbers : List ℕ} {field : List ℕ} {left : List (List ℕ)} (seen : Seen numbers (field ∷ left)) where
    pub no_number : Unwritten field → (ns : List ℕ) → Small ns → bytes ≡ spaced ns → ⊥
    no_number none ns s w =
        let e : [] ∷ (map decimal numbers ++ (field ∷ left)) ≡ [] ∷ map decimal ns = sym seen.cut ∙ ap parts w ∙ parts_spaced ns s in
        let f : map decimal ns ≡ map decimal numbers ++ (field ∷ left) = cc in
        unspelled numbers ns field left s none f

    pub one_more : (n : ℕ) → n < 2 ^ 32 → field ≡ decimal n → Seen (numbers ++ n ∷ []) left
    one_more n small is = record {
      cut = seen.cut ∙ ap (λ l. [] ∷ l) (ap (λ f. map decimal numbers ++ (f ∷ left)) is ∙ sym (ap (λ l. l ++ left) (map-append decimal numbers (n ∷ [])) ∙ append_assoc (map decimal numbers) (decimal n ∷ []) left));
      small = recursion_from_All _ _ (All-push (λ m. m < 2 ^ 32) numbers n (All-from_recursion (λ m. m < 2 ^ 32) numbers seen.small) small);
    }

  pub all_seen : {numbers : List ℕ} → Seen numbers [] → bytes ≡ spaced numbers
  all_seen {numbers} seen = spaced_parts bytes numbers (seen.cut ∙ ap (λ l. [] ∷ l) (append-nil (map decimal numbers)))

-- what is kept of the numbers that are read: all of them, or as many as there is room for
abbrev pub Kept : {T E : Type 0} → Result T E → List ℕ → List ℕ → Type 0
Kept kept room numbers = MatchResult kept (λ _. room ≡ numbers) (λ _. (length room ≡ most_numbers) × (most_numbers < length numbers))

-- what a call of `next` that gives a part leaves
pub one_part : {S : Type 0} {steps : S → Option (Bor (List ℕ)) → S → Type 0} {s t : S} {x : Bor (List ℕ)} (left : List (List ℕ)) → YieldsList steps (λ p. p.now) s left → steps s (Some x) t → (rest : List (List ℕ)) × (left ≡ x.now ∷ rest) × YieldsList steps (λ p. p.now) t rest
one_part [] gives step = absurd (gives.runs _ _ step)
one_part (y ∷ rest) gives step = let m = gives.runs.1 _ _ step in (rest, ap (λ z. z ∷ rest) (sym m.0), record { runs = m.1 })

-- nothing is left where no part comes
pub no_part : {S : Type 0} {steps : S → Option (Bor (List ℕ)) → S → Type 0} {s t : S} (left : List (List ℕ)) → YieldsList steps (λ p. p.now) s left → steps s None t → left ≡ []
no_part [] gives step = refl
no_part (y ∷ rest) gives step = absurd (gives.runs.0 _ step)

-- the loop's invariant: so many numbers are read, and these parts are left
pub record Sofar {S T E : Type 0} (steps : S → Option (Bor (List ℕ)) → S → Type 0) (bytes : List ℕ) (fields : S) (kept : Result T E) (room : List ℕ) : Type 0 where
  pub numbers : List ℕ
  pub left : List (List ℕ)
  pub seen : Seen bytes numbers left
  pub gives : YieldsList steps (λ p. p.now) fields left
  pub stored : Kept kept room numbers

module _ {S T E : Type 0} {steps : S → Option (Bor (List ℕ)) → S → Type 0} {bytes : List ℕ} {fields next : S} {kept : Result T E} {room : List ℕ} (was : Sofar steps bytes fields kept room) where
  module _ (field : Bor (List ℕ)) (step : steps fields (Some field) next) where
    cut : (rest : List (List ℕ)) × (was.left ≡ field.now ∷ rest) × YieldsList steps (λ p. p.now) next rest
    cut = one_part was.left was.gives step

    seen : Seen bytes was.numbers (field.now ∷ cut.0)
    seen = subst (Seen bytes was.numbers) cut.1 was.seen

    pub unread : Unwritten field.now → (ns : List ℕ) → Small ns → bytes ≡ spaced ns → ⊥
    unread none = no_number bytes seen none

    pub one_read : {T' E' : Type 0} (n : ℕ) (kept' : Result T' E') (room' : List ℕ) → n < 2 ^ 32 → field.now ≡ decimal n → Kept kept' room' (was.numbers ++ n ∷ []) → Sofar steps bytes next kept' room'
    one_read n kept' room' small is stored = record {
      numbers = was.numbers ++ n ∷ [];
      left = cut.0;
      seen = one_more bytes seen n small is;
      gives = cut.2;
      stored = stored;
    }

  pub all_read : steps fields None next → Small was.numbers × (bytes ≡ spaced was.numbers)
  all_read step = (was.seen.small, all_seen bytes (subst (Seen bytes was.numbers) (no_part was.left was.gives step) was.seen))

-- one number more is kept, if there is room
pub keep_more : {T E T' E' : Type 0} (kept : Result T E) (kept' : Result T' E') (room room' : ArrayVec ℕ) (numbers : List ℕ) (n : ℕ) → Kept kept room.items numbers → (IsOk kept' ↔ (length room.items < most_numbers)) → OnOk kept' (room'.items ≡ room.items ++ n ∷ []) → OnErr kept' (room' ≡ room) → OnErr kept' (length room.items ≡ most_numbers) → Kept kept' room'.items (numbers ++ n ∷ [])
keep_more (Ok a) (Ok b) room room' numbers n same fits put stands full = put ∙ ap (λ l. l ++ n ∷ []) same
keep_more (Ok a) (Err f) room room' numbers n same fits put stands full = (ap (λ v. length v.items) stands ∙ full, omega (arith, ap length same, full, length_push numbers n))
keep_more (Err e) (Ok b) room room' numbers n (full, more) fits put stands _ = absurd (omega (arith, full, fits.0 refl))
keep_more (Err e) (Err f) room room' numbers n (full, more) fits put stands _ = (ap (λ v. length v.items) stands ∙ full, omega (arith, more, length_push numbers n))

-- all of them are kept where the last was, and else there are too many
pub all_kept : {T E : Type 0} (kept : Result T E) (room numbers : List ℕ) → is_ok kept ≡ true → Kept kept room numbers → room ≡ numbers
all_kept (Ok x) room numbers ok same = same
all_kept (Err e) room numbers ok h = absurd (let z : ◌≡◌ {A = ℕ} 0 1 = cc in omega arith)

pub too_many : {T E : Type 0} (kept : Result T E) (room numbers : List ℕ) → is_ok kept ≡ false → Kept kept room numbers → most_numbers < length numbers
too_many (Ok x) room numbers bad same = absurd (let z : ◌≡◌ {A = ℕ} 0 1 = cc in omega arith)
too_many (Err e) room numbers bad (full, more) = more
