-- A draft is read demand by demand, three numbers for each.
use Rattle.std.proofs.Common.{◌≡◌, ℕ, zero, suc, drop, get_or-take, get_or-drop, ◌+◌, ◌*◌, ◌<◌, ◌≤◌, ltb, List, [], ◌∷◌, ◌++◌, length, get_or, take, Some, None, Result, sym, refl, ap, ◌∙◌, ⊎_elim, append_assoc, arith}
use Rattle.std.specs.Result.{result_ok}
use Rattle.std.proofs.lemmas.List.{take_more, length-take-le}
use Rattle.std.proofs.lemmas.Bool.{cases_lt, lt-ltb, le-ltb, cond-true, cond-false}
use Rattle.std.specs.Simd.{first_chunks}
use Rattle.claims.specs.declared.Demand.{Demand}
use Rattle.machine.specs.declared.Refusal.{Refusal}
use Rattle.machine.specs.Limits.{most_demands}
use Rattle.broker.specs.Drafts.{push_answer, with_demand}
use Rattle.script.specs.Format.{triples, Drafted}

pub triples-length : (ds : List Demand) → length (triples ds) ≡ 3 * length ds
triples-length [] = refl
triples-length (d ∷ ds) = omega (arith, triples-length ds)

triples_push : (ds : List Demand) (d : Demand) → triples (ds ++ d ∷ []) ≡ triples ds ++ (d.shelf ∷ d.first ∷ d.second ∷ [])
triples_push [] d = refl
triples_push (e ∷ ds) d = ap (λ l. e.shelf ∷ e.first ∷ e.second ∷ l) (triples_push ds d)

take_three : (xs : List ℕ) (n : ℕ) → n + 3 ≤ length xs → take (n + 3) xs ≡ take n xs ++ (get_or xs n 0 ∷ get_or xs (n + 1) 0 ∷ get_or xs (n + 2) 0 ∷ [])
take_three xs n l =
    let a = take_more xs n 0 (omega arith) in
    let b = take_more xs (n + 1) 0 (omega arith) in
    let c = take_more xs (n + 2) 0 (omega arith) in
    let p : n + 1 + 1 ≡ n + 2 = omega arith in
    let q : n + 2 + 1 ≡ n + 3 = omega arith in
    ap (λ m. take m xs) (sym q) ∙ c
    ∙ ap (λ l. l ++ get_or xs (n + 2) 0 ∷ []) (ap (λ m. take m xs) (sym p) ∙ b ∙ ap (λ l. l ++ get_or xs (n + 1) 0 ∷ []) a)
    ∙ append_assoc (take n xs ++ get_or xs n 0 ∷ []) (get_or xs (n + 1) 0 ∷ []) (get_or xs (n + 2) 0 ∷ [])
    ∙ append_assoc (take n xs) (get_or xs n 0 ∷ []) (get_or xs (n + 1) 0 ∷ get_or xs (n + 2) 0 ∷ [])

-- the numbers of the chunks of three
chunk_item : (k : ℕ) (xs : List ℕ) (i j : ℕ) (d : List ℕ) → i < k → j < 3 → get_or (get_or (first_chunks 3 k xs) i d) j 0 ≡ get_or xs (3 * i + j) 0
chunk_item zero xs i j d l m = absurd (omega arith)
chunk_item (suc k) xs zero j d l m = let n : j ≡ 3 * 0 + j = omega arith in get_or-take 3 xs j 0 m ∙ ap (λ m. get_or xs m 0) n
chunk_item (suc k) xs (suc i) j d l m =
    let n : 3 + (3 * i + j) ≡ 3 * suc i + j = omega arith in
    chunk_item k (drop 3 xs) i j d (omega arith) m ∙ get_or-drop 3 xs (3 * i + j) 0 ∙ ap (λ m. get_or xs m 0) n

-- the demand that such a chunk is
pub chunk_demand : (numbers : List ℕ) (chunks : List (List ℕ)) (k i : ℕ) → chunks ≡ first_chunks 3 k numbers → i < k
    → ◌≡◌ {A = Demand} (record { shelf = get_or (get_or chunks i []) 0 0; first = get_or (get_or chunks i []) 1 0; second = get_or (get_or chunks i []) 2 0 }) (record { shelf = get_or numbers (3 * i) 0; first = get_or numbers (3 * i + 1) 0; second = get_or numbers (3 * i + 2) 0 })
chunk_demand numbers chunks k i is l =
    let start : 3 * i + 0 ≡ 3 * i = omega arith in
    let a = ap (λ cs. get_or (get_or cs i []) 0 0) is ∙ chunk_item k numbers i 0 [] l (omega arith) ∙ ap (λ m. get_or numbers m 0) start in
    let b = ap (λ cs. get_or (get_or cs i []) 1 0) is ∙ chunk_item k numbers i 1 [] l (omega arith) in
    let c = ap (λ cs. get_or (get_or cs i []) 2 0) is ∙ chunk_item k numbers i 2 [] l (omega arith) in
    (λ t. record { shelf = a t; first = b t; second = c t })

module _ (numbers : List ℕ) (ds : List Demand) (i : ℕ) (more : 3 * i + 3 ≤ length numbers) (old : triples ds ≡ take (3 * i) numbers) (r : Result (Unit {0}) Refusal) (answer : r ≡ push_answer ds) where
  -- as many demands as were read
  many : length ds ≡ i
  many = omega (arith, triples-length ds, ap length old, length-take-le (3 * i) numbers (omega arith))

  full : result_ok r ≡ None → most_demands ≤ length ds
  full none =
      ⊎_elim
      (λ l. let e = ap result_ok (answer ∙ cond-true (ltb (length ds) most_demands) _ _ (lt-ltb (length ds) most_demands l)) in
      let z : ◌≡◌ {A = ℕ} 0 1 = cc in absurd (omega arith))
      (λ l. l)
      (cases_lt (length ds) most_demands)

  pub room : result_ok r ≡ Some tt → length ds < most_demands
  room some =
      ⊎_elim
      (λ l. l)
      (λ l. let e = ap result_ok (answer ∙ cond-false (ltb (length ds) most_demands) _ _ (le-ltb (length ds) most_demands l)) in
      let z : ◌≡◌ {A = ℕ} 0 1 = cc in absurd (omega arith))
      (cases_lt (length ds) most_demands)

  pub one_too_many : result_ok r ≡ None → Drafted (length numbers) → ⊥
  one_too_many none (k, few, e) = omega (arith, many, full none)

  pub demand_more : result_ok r ≡ Some tt → (after : List Demand) → after ≡ with_demand (record { shelf = get_or numbers (3 * i) 0; first = get_or numbers (3 * i + 1) 0; second = get_or numbers (3 * i + 2) 0 }) ds → triples after ≡ take (3 * (i + 1)) numbers
  demand_more some after put =
      let d : Demand = record { shelf = get_or numbers (3 * i) 0; first = get_or numbers (3 * i + 1) 0; second = get_or numbers (3 * i + 2) 0 } in
      let n : 3 * i + 3 ≡ 3 * (i + 1) = omega arith in
      let is = put ∙ cond-true (ltb (length ds) most_demands) _ _ (lt-ltb (length ds) most_demands (room some)) in
      ap triples is ∙ triples_push ds d
      ∙ ap (λ l. l ++ (d.shelf ∷ d.first ∷ d.second ∷ [])) old
      ∙ sym (take_three numbers (3 * i) more) ∙ ap (λ m. take m numbers) n
