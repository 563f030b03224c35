-- What the loop that draws the claims of a promise keeps.
use Rattle.std.proofs.Common.{◌≡◌, ℕ, ◌+◌, ◌<◌, List, [], ◌∷◌, ◌++◌, map, length, get_or, drop, Some, None, Ok, Err, Option, Result, sym, ap, ◌∙◌, subst, arith}
use Rattle.std.proofs.lemmas.List.{drop_more, map_push, append_assoc}
use Rattle.claims.specs.declared.Cause.{Cause}
use Rattle.claims.specs.declared.Cause.TheVariants.{AlreadyOut}
use Rattle.claims.specs.declared.Claim.{Claim}
use Rattle.claims.specs.declared.ClaimKey.{ClaimKey}
use Rattle.claims.specs.declared.ClaimState.{ClaimState}
use Rattle.claims.specs.declared.ClaimState.TheVariants.{Waiting, Out}
use Rattle.claims.specs.declared.Demand.{Demand}
use Rattle.claims.specs.declared.Fault.{Fault}
use Rattle.claims.specs.declared.ItemNumber.{ItemNumber}
use Rattle.claims.specs.Book.{Book, find, out}
use Rattle.claims.specs.Rules.{Rules}
use Rattle.resource.specs.Calls.{Drawn, kept_in, unit_or, gone_out}
use Rattle.resource.specs.Draws.{drawn}
use Rattle.machine.specs.Entries.{Waits}
use Rattle.machine.specs.Machine.{keys_from, draws, out_all}
use Rattle.machine.proofs.Bundles.{waits_out}

abbrev numbers : List ItemNumber → List ℕ
numbers items = map (λ i. i.0) items

-- the first j claims are drawn: the units so far and those to come, the book so far, and who still waits
pub record Drawing (r : Rules) (b : Book) (k : ℕ) (ds : List Demand) (j : ℕ) (items : List ItemNumber) (b' : Book) : Type 0 where
  pub units : numbers items ++ draws r b' (keys_from (k + j) (drop j ds)) ≡ draws r b (keys_from k ds)
  pub books : out_all r b' (keys_from (k + j) (drop j ds)) ≡ out_all r b (keys_from k ds)
  pub waits : Waits (k + j) (drop j ds) b'

-- a claim that waits is drawn
kept-waiting : (o : Option Claim) (c : Claim) → o ≡ Some c → c.state ≡ Waiting → kept_in o ≡ None
kept-waiting o c e w = ap kept_in e ∙ ap (λ (s : ClaimState). elim s as (λ _. Option Cause) [ Waiting ↦ None | Out i ↦ Some AlreadyOut ]) w

module _ (r : Rules) (b : Book) (k : ℕ) (ds : List Demand) (j : ℕ) (items : List ItemNumber) (b' : Book) (h : j < length ds) (d : Demand) (dr : Drawing r b k ds j items b') where
  left : drop j ds ≡ get_or ds j d ∷ drop (j + 1) ds
  left = drop_more ds j d h

  waiting : Waits (k + j) (get_or ds j d ∷ drop (j + 1) ds) b'
  waiting = subst (λ (xs : List Demand). Waits (k + j) xs b') left dr.waits

  pub stays_in : kept_in (find b' (k + j)) ≡ None
  stays_in = kept-waiting (find b' (k + j)) waiting.0.0 waiting.0.1 waiting.0.2

  pub drawing_more : Drawing r b k ds (j + 1) (items ++ (record { 0 = drawn r b' (k + j) } ∷ [])) (out (k + j) (drawn r b' (k + j)) b')
  drawing_more =
      let u = drawn r b' (k + j) in
      let x : ItemNumber = record { 0 = u } in
      let b'' = out (k + j) u b' in
      let next : (k + j) + 1 ≡ k + (j + 1) = omega arith in
      let rest = drop (j + 1) ds in
      let f : numbers (items ++ (x ∷ [])) ≡ numbers items ++ (u ∷ []) = map_push (λ (i : ItemNumber). i.0) items x in
      record {
        units =
            ap (λ i. numbers (items ++ (x ∷ [])) ++ draws r b'' (keys_from i rest)) (sym next)
            ∙ ap (λ us. us ++ draws r b'' (keys_from ((k + j) + 1) rest)) f
            ∙ append_assoc (numbers items) (u ∷ []) (draws r b'' (keys_from ((k + j) + 1) rest))
            ∙ ap (λ xs. numbers items ++ draws r b' (keys_from (k + j) xs)) (sym left)
            ∙ dr.units;
        books = ap (λ i. out_all r b'' (keys_from i rest)) (sym next) ∙ sym (ap (λ xs. out_all r b' (keys_from (k + j) xs)) left) ∙ dr.books;
        waits = subst (λ (i : ℕ). Waits i rest b'') next (waits_out (k + j) u ((k + j) + 1) rest b' (omega arith) waiting.1);
      }

  -- one turn of the loop, by what the call of `draw` answered
  module _ (key : ClaimKey) (key-is : key.0 ≡ k + j) (s : Rules) (same : s ≡ r) (t : Rules) (b'' : Book) where
    here : kept_in (find b' key.0) ≡ None
    here = ap (λ i. kept_in (find b' i)) key-is ∙ stays_in

    unit_is : drawn s b' key.0 ≡ drawn r b' (k + j)
    unit_is = ap (λ z. drawn z b' key.0) same ∙ ap (drawn r b') key-is

    value_is : (answer : Result ItemNumber Fault) → Drawn key s b' answer t b'' → answer ≡ Ok (record { 0 = drawn r b' (k + j) })
    value_is answer q = q.value ∙ ap (unit_or key (drawn s b' key.0)) here ∙ ap (λ u. Ok (record { 0 = u })) unit_is

    book_is : (answer : Result ItemNumber Fault) → Drawn key s b' answer t b'' → b'' ≡ out (k + j) (drawn r b' (k + j)) b'
    book_is answer q = q.after ∙ ap (gone_out key (drawn s b' key.0) b') here ∙ ap (λ u. out key.0 u b') unit_is ∙ ap (λ i. out i (drawn r b' (k + j)) b') key-is

    pub turn_drawn : (unit : ItemNumber) → Drawn key s b' (Ok unit) t b'' → Drawing r b k ds (j + 1) (items ++ (unit ∷ [])) b''
    turn_drawn unit q =
        let p = value_is (Ok unit) q in
        let u : unit ≡ record { 0 = drawn r b' (k + j) } = cc in
        subst (λ (x : ItemNumber). Drawing r b k ds (j + 1) (items ++ (x ∷ [])) b'') (sym u)
        (subst (λ (z : Book). Drawing r b k ds (j + 1) (items ++ (record { 0 = drawn r b' (k + j) } ∷ [])) z) (sym (book_is (Ok unit) q)) drawing_more)

    pub never_refused : (f : Fault) → Drawn key s b' (Err f) t b'' → ⊥
    never_refused f q = let p = value_is (Err f) q in cc
