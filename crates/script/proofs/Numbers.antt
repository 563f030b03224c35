-- Which bytes are a number as it is written.
use Rattle.std.proofs.Common.{Bool, true, false, eqb, [], ◌∷◌, ◌≡◌, ℕ, zero, suc, ◌^◌, ◌<◌, ◌≤◌, List, length, get_or, Ok, Err, IsUtf8, decimal, Result, sym, ap, ◌∙◌, subst, ◌⊎◌, ⊎_elim, arith, MatchOption}
use Rattle.std.specs.Bool.{Decides}
use Rattle.std.specs.List.{starts_with}
use Rattle.std.proofs.lemmas.Bool.Decides.{nat_tests}
use Rattle.std.specs.Result.{OkIff, result_ok}
use Rattle.std.specs.Str.Parse.{ParsesUnsigned, AllDigits, digits_value}
use Rattle.std.specs.Int.{IsInRange}
use Rattle.std.proofs.lemmas.Str.Parse.{IsNumeralModel, numerals_by_value, tells_digits, parse_plain, digit_at}
use Rattle.std.proofs.lemmas.Fmt.{decimal-digits_value, digits_decimal, digits_value-decimal, decimal_nonempty, first_decimal, decimal_digit, IsAscii-decimal}
use Rattle.std.proofs.lemmas.Str.{IsUtf8-from_ascii}

own : IsNumeralModel (AllDigits 10) (digits_value 10)
own = numerals_by_value (AllDigits 10) tells_digits

-- no number below 2 ^ 32 is written so
abbrev pub Unwritten : List ℕ → Type 0
Unwritten bs = (n : ℕ) → n < 2 ^ 32 → bs ≡ decimal n → ⊥

pub decimal_at : (n k : ℕ) → n < 2 ^ 32 → k < length (decimal n) → IsInRange 48 57 (get_or (decimal n) k 0)
decimal_at n k small l = digit_at (decimal n) k (digits_decimal own n (omega arith)) l

pub plus_unwritten : (bs : List ℕ) → get_or bs 0 0 ≡ 43 → Unwritten bs
plus_unwritten bs plus n small e =
    let d = decimal_at n 0 small (decimal_nonempty n (omega arith)) in
    let f : get_or (decimal n) 0 0 ≡ 43 = ap (λ l. get_or l 0 0) (sym e) ∙ plus in
    omega (arith, d.0, d.1, f)

zero_short : (n : ℕ) → n < 2 ^ 32 → get_or (decimal n) 0 0 ≡ 48 → length (decimal n) ≡ 1
zero_short zero small e = ap length (decimal_digit 0 (omega arith))
zero_short (suc n) small e = absurd (omega (arith, first_decimal (suc n) (omega arith) (omega arith)))

pub zero_unwritten : (bs : List ℕ) → get_or bs 0 0 ≡ 48 → 1 < length bs → Unwritten bs
zero_unwritten bs z more n small e =
    omega (arith, ap length e, zero_short n small (ap (λ l. get_or l 0 0) (sym e) ∙ z))

-- whether a byte stands in front
pub first_told : (bs : List ℕ) (b : ℕ) (r : Bool) → 0 < b → r ≡ starts_with eqb bs (b ∷ []) → Decides r (get_or bs 0 0 ≡ b)
first_told [] b r some e = (λ t. absurd (let z : ◌≡◌ {A = Bool} true false = sym t ∙ e in cc), λ z. absurd (omega arith))
first_told (x ∷ bs) b r some e = grind (arith, nat_tests)

-- neither a sign, nor a zero before another digit
pub unmarked : (bs : List ℕ) (signed zeroed : Bool) → Decides signed (get_or bs 0 0 ≡ 43) → Decides zeroed (get_or bs 0 0 ≡ 48) → signed ≡ false → (zeroed ≡ true × length bs ≤ 1) ⊎ (zeroed ≡ false) → (get_or bs 0 0 ≡ 43 → ⊥) × (get_or bs 0 0 ≡ 48 → length bs ≡ 1)
unmarked bs signed zeroed plus leads plain either =
    ((λ e. let h = plus.1 e in absurd (grind arith)), λ e. let h = leads.1 e in ⊎_elim (λ z. single bs e z.1) (λ z. absurd (grind arith)) either)
  where
    single : (bs : List ℕ) → get_or bs 0 0 ≡ 48 → length bs ≤ 1 → length bs ≡ 1
    single [] e l = absurd (omega arith)
    single (b ∷ bs) e l = omega arith

pub strange_unwritten : (bs : List ℕ) → (IsUtf8 bs → ⊥) → Unwritten bs
strange_unwritten bs strange n small e = strange (subst IsUtf8 (sym e) (IsUtf8-from_ascii (decimal n) (IsAscii-decimal n (omega arith))))

pub parsed : {E : Type 0} (bs : List ℕ) (r : Result ℕ E) → ParsesUnsigned 32 10 bs r → (get_or bs 0 0 ≡ 43 → ⊥) → (get_or bs 0 0 ≡ 48 → length bs ≡ 1) → MatchOption (result_ok r) (Unwritten bs) (λ n. bs ≡ decimal n)
parsed {E} bs r reads plain plainly = go r (parse_plain own 32 bs r reads plain)
  where
    go : (r : Result ℕ E) → OkIff r (AllDigits 10 bs × (0 < length bs) × (digits_value 10 bs < 2 ^ 32)) (digits_value 10 bs) → MatchOption (result_ok r) (Unwritten bs) (λ n. bs ≡ decimal n)
    go (Ok n) h = sym (decimal-digits_value own bs h.0.0 h.0.1 plainly (omega (arith, h.0.2))) ∙ ap decimal (sym h.1)
    go (Err e) h = λ n small e. h (
      subst (AllDigits 10) (sym e) (digits_decimal own n (omega arith)),
      omega (arith, ap length e, decimal_nonempty n (omega arith)),
      omega (arith, ap (digits_value 10) e ∙ digits_value-decimal own n (omega arith)),
    )
