-- What holds of every kind of goods on a shelf: how it takes claims in, and which laws follow from those of its goods.
use Rattle.std.proofs.Common.{◌≡◌, ℕ, ◌<◌, ◌≤◌, Bool, true, false, cond, ◌&&◌, eqb, ltb, leb, [], length, is_some, Some, None, Ok, Err, Option, Result, sym, refl, ap, ◌∙◌, subst, add-one, arith}
use Rattle.std.proofs.lemmas.Bool.{and_parts, and_from, eqb-true, leb-true, le-leb, cond-true, cond-false}
use Rattle.claims.specs.declared.Cause.{Cause}
use Rattle.claims.specs.declared.Cause.TheVariants.{Unreadable, KeyTaken, NoSuchKey, AlreadyOut, TooManyClaims}
use Rattle.claims.specs.declared.Claim.{Claim}
use Rattle.claims.specs.declared.ClaimKey.{ClaimKey}
use Rattle.claims.specs.declared.ClaimState.{ClaimState}
use Rattle.claims.specs.declared.ClaimState.TheVariants.{Waiting, Out}
use Rattle.claims.specs.declared.Demand.{Demand}
use Rattle.claims.specs.declared.Fault.{Fault}
use Rattle.claims.specs.declared.ItemNumber.{ItemNumber}
use Rattle.claims.specs.Book.{Book, key_of, find, insert, without, out, Rising, every}
use Rattle.claims.specs.Limits.{most_claims, last_shelf, most_units, last_unit}
use Rattle.claims.specs.Rules.{Rules, Laws, refusal, answered, added, lifted, shut_out, caused, readable, is_party}
use Rattle.claims.proofs.Books.{length-insert, length_without, length-out, every-insert, every-without, without_absent}
use Rattle.claims.proofs.Ranks.{not_shut_out}
use Rattle.resource.specs.Calls.{Placed, Lifted}
use Rattle.resource.proofs.Refusals.{welcomed}
use Rattle.shelf.specs.Asked.{barred, found, found_waiting}
use Rattle.shelf.specs.Shelves.{Kind, on_shelf, one_number, shelved}

pub one_number_says : (most : ℕ) (d : Demand) → one_number most d ≡ true → (1 ≤ d.first) × (d.first ≤ most)
one_number_says most d e =
    let p = (and_parts (leb 1 d.first && leb d.first most) (eqb d.second 0) e).0 in
    let q = and_parts (leb 1 d.first) (leb d.first most) p in
    (leb-true 1 d.first q.0, leb-true d.first most q.1)

-- the refusal of a claim that is barred, or for which there may not be enough
abbrev or_short : Option Cause → Bool → Cause → Option Cause
or_short (Some x) e short = Some x
or_short None e short = cond e None (Some short)

-- what is answered Ok has nothing against it
unbarred : (k : ClaimKey) (o : Option Cause) → Ok tt ≡ answered k o → o ≡ None
unbarred k None e = refl
unbarred k (Some x) e = cc

let_in : (q : Bool) (o : Option Cause) → cond q o (Some Unreadable) ≡ None → o ≡ None
let_in true o e = e
let_in false o e = cc

-- what a claim is that passes the bars
pub record Passed (b : Book) (c : Claim) : Type 0 where
  pub comes : (b' : Book) → b' ≡ added c b (shut_out b c) → b' ≡ insert c b
  pub absent : find b (key_of c) ≡ None
  pub room : length b < most_claims

pub passed_bars : (b : Book) (c : Claim) (read : Bool) → Ok tt ≡ answered c.key (barred read b c) → Passed b c
passed_bars b c read e =
    let open-to = let_in (is_party c.party && read) (shut_out b c) (unbarred c.key (barred read b c) e) in
    let t = not_shut_out b c (sym (ap caused open-to)) in
    record { comes = λ b' after. after ∙ ap (added c b) open-to; absent = t.1; room = t.2 }

-- a claim that has come into a book
pub record Entered (s : ℕ) (k : Kind) (b b' : Book) (c : Claim) : Type 0 where
  pub inserted : b' ≡ insert c b
  pub carried : (shelved s k).carries b' ≡ true
  pub all_read : every (readable (shelved s k)) b' ≡ true
  pub placed : Placed c (shelved s k) b (Ok tt) (shelved s k) b'

module _ (s : ℕ) (k : Kind) where
  pub carries_says : (b : Book) → (shelved s k).carries b ≡ true → (length b ≤ most_claims) × (k.enough b ≡ true)
  carries_says b e = let p = and_parts (leb (length b) most_claims) (k.enough b) e in (leb-true (length b) most_claims p.0, p.1)

  pub carries_shows : (b : Book) → length b ≤ most_claims → k.enough b ≡ true → (shelved s k).carries b ≡ true
  carries_shows b l e = and_from (leb (length b) most_claims) (k.enough b) (le-leb (length b) most_claims l) e

  -- a refusal looks at the bars first, and then at the goods
  refusal_is : (b : Book) (c : Claim) (read : Bool) → read ≡ (shelved s k).reads c.demand → refusal (shelved s k) b c ≡ or_short (barred read b c) (k.enough (insert c b)) k.short
  refusal_is b c read e =
      ap (λ (l : Bool). ways (readable (shelved s k) c) (is_some (find b (key_of c))) l) (ap (λ (n : ℕ). leb n most_claims) (length-insert c b ∙ add-one (length b)))
      ∙ same (readable (shelved s k) c) (is_some (find b (key_of c))) (ltb (length b) most_claims)
      ∙ ap (λ (q : Bool). or_short (barred q b c) (k.enough (insert c b)) k.short) (sym e)
    where
      ways : Bool → Bool → Bool → Option Cause
      ways q f l = cond q (cond f (Some KeyTaken) (cond (l && k.enough (insert c b)) None (Some (cond l k.short TooManyClaims)))) (Some Unreadable)

      same : (q f l : Bool) → ways q f l ≡ or_short (cond q (cond f (Some KeyTaken) (cond l None (Some TooManyClaims))) (Some Unreadable)) (k.enough (insert c b)) k.short
      same true true l = refl
      same true false true = refl
      same true false false = refl
      same false f l = refl

  placed_by : (b : Book) (c : Claim) (o : Option Cause) → refusal (shelved s k) b c ≡ o → Placed c (shelved s k) b (answered c.key o) (shelved s k) (added c b o)
  placed_by b c o r = record { same = refl; value = ap (answered c.key) (sym r); after = ap (added c b) (sym r) }

  module _ (b : Book) (c : Claim) (read : Bool) (known : read ≡ (shelved s k).reads c.demand) where
    -- a claim is turned away at the bars,
    pub turned_away : (f : Fault) → Err f ≡ answered c.key (barred read b c) → Placed c (shelved s k) b (Err f) (shelved s k) b
    turned_away f e = go (barred read b c) (refusal_is b c read known) e
      where
        go : (o : Option Cause) → refusal (shelved s k) b c ≡ or_short o (k.enough (insert c b)) k.short → Err f ≡ answered c.key o → Placed c (shelved s k) b (Err f) (shelved s k) b
        go None r g = absurd (let z : ◌≡◌ {A = ℕ} 0 1 = cc in omega arith)
        go (Some x) r g = subst (λ (a : Result (Unit {0}) Fault). Placed c (shelved s k) b a (shelved s k) b) (sym g) (placed_by b c (Some x) r)

    -- or falls short of goods,
    pub falls_short : Ok tt ≡ answered c.key (barred read b c) → k.enough (insert c b) ≡ false → Placed c (shelved s k) b (Err (record { cause = k.short; key = c.key })) (shelved s k) b
    falls_short e n = placed_by b c (Some k.short)
        (refusal_is b c read known ∙ ap (λ (o : Option Cause). or_short o (k.enough (insert c b)) k.short) (unbarred c.key (barred read b c) e) ∙ cond-false (k.enough (insert c b)) None (Some k.short) n)

    -- or comes in
    pub comes_in : (b' : Book) → every (readable (shelved s k)) b ≡ true → Ok tt ≡ answered c.key (barred read b c) → k.enough (insert c b) ≡ true → b' ≡ added c b (shut_out b c) → Entered s k b b' c
    comes_in b' all e y after =
        let free = unbarred c.key (barred read b c) e in
        let r = refusal_is b c read known ∙ ap (λ (o : Option Cause). or_short o (k.enough (insert c b)) k.short) free ∙ cond-true (k.enough (insert c b)) None (Some k.short) y in
        let w = welcomed (shelved s k) b c r in
        let in' : b' ≡ insert c b = after ∙ ap (added c b) (let_in (is_party c.party && read) (shut_out b c) free) in
        record {
          inserted = in';
          carried = ap (shelved s k).carries in' ∙ w.2;
          all_read = ap (every (readable (shelved s k))) in' ∙ every-insert (readable (shelved s k)) c b w.0 all;
          placed = subst (λ (z : Book). Placed c (shelved s k) b (Ok tt) (shelved s k) z) (sym in') (placed_by b c None r);
        }

  -- the laws of a kind, from those of its goods
  pub shelved_laws :
      k.enough [] ≡ true →
      ((b : Book) (j : ℕ) → Rising b → k.enough b ≡ true → k.enough (without j b) ≡ true) →
      ((b : Book) (j : ℕ) (c : Claim) → Rising b → k.enough b ≡ true → find b j ≡ Some c → c.state ≡ Waiting → (u : ℕ) × (k.enough (out j u b) ≡ true)) →
      ((b : Book) (j : ℕ) (c : Claim) (i : ItemNumber) → Rising b → k.enough b ≡ true → find b j ≡ Some c → c.state ≡ Out i → i.0 ≤ last_unit) →
      ((d : Demand) → k.formed d ≡ true → (1 ≤ k.amount d) × (k.amount d ≤ most_units)) →
      Laws (shelved s k)
  shelved_laws none fewer goes small amounts = record {
    empty = carries_shows [] (omega arith) none;
    fewer = λ b j h e. let p = carries_says b e in carries_shows (without j b) (omega (arith, length_without j b, p.0)) (fewer b j h p.1);
    goes = λ b j c h e f w.
        let p = carries_says b e in
        let u = goes b j c h p.1 f w in
        (u.0, carries_shows (out j u.0 b) (omega (arith, length-out j u.0 b, p.0)) u.1);
    few = λ b h e. (carries_says b e).0;
    small = λ b j c i h e. small b j c i h (carries_says b e).1;
    shelves = λ d e.
        let p = (and_parts (on_shelf s d) (k.formed d) e).0 in
        let q = and_parts (leb 1 s && leb s last_shelf) (eqb d.shelf s) p in
        let r = and_parts (leb 1 s) (leb s last_shelf) q.0 in
        let z = eqb-true d.shelf s q.1 in
        (omega (arith, leb-true 1 s r.0), omega (arith, leb-true s last_shelf r.1));
    amounts = λ d e.
        let p = amounts d (and_parts (on_shelf s d) (k.formed d) e).1 in
        let z = cond-true (on_shelf s d && k.formed d) (k.amount d) 0 e in
        (omega (arith, p.0), omega (arith, p.1));
    nothing = λ d e. cond-false (on_shelf s d && k.formed d) (k.amount d) 0 e;
  }

-- what was found under a key
pub waits_there : (k : ClaimKey) (o : Option Claim) (c : Claim) → found_waiting k o ≡ Ok c → (o ≡ Some c) × (c.state ≡ Waiting)
waits_there k None c e = absurd (let z : ◌≡◌ {A = ℕ} 0 1 = cc in omega arith)
waits_there k (Some x) c e = go x.state refl e
  where
    go : (q : ClaimState) → x.state ≡ q → ◌≡◌ {A = Result Claim Fault} (elim q as (λ _. Result Claim Fault) [ Waiting ↦ Ok x | Out i ↦ Err (record { cause = AlreadyOut; key = k }) ]) (Ok c) → (Some x ≡ Some c) × (c.state ≡ Waiting)
    go Waiting w f = let same : x ≡ c = cc in (ap Some same, ap (λ (y : Claim). y.state) (sym same) ∙ w)
    go (Out i) w f = absurd (let z : ◌≡◌ {A = ℕ} 0 1 = cc in omega arith)

pub lies_there : (k : ClaimKey) (o : Option Claim) (c : Claim) → found k o ≡ Ok c → o ≡ Some c
lies_there k None c e = cc
lies_there k (Some x) c e = cc

-- nothing is lifted where there is no claim
pub stays : (k : ClaimKey) (r : Rules) (b : Book) (f : Fault) → found k (find b k.0) ≡ Err f → Lifted k r b (Err f) r b
stays k r b f e = go (find b k.0) refl e
  where
    go : (o : Option Claim) → find b k.0 ≡ o → found k o ≡ Err f → Lifted k r b (Err f) r b
    go None n g = let same : record { cause = NoSuchKey; key = k } ≡ f = cc in record { same = refl; value = ap Err (sym same) ∙ ap (lifted k) (sym n); after = sym (without_absent k.0 b n) }
    go (Some c) n g = absurd (let z : ◌≡◌ {A = ℕ} 0 1 = cc in omega arith)

-- a claim that is lifted leaves the rest carried
pub leaves : (r : Rules) → Laws r → (b b' : Book) (j : ℕ) → Rising b → r.carries b ≡ true → every (readable r) b ≡ true → b' ≡ without j b → (r.carries b' ≡ true) × (every (readable r) b' ≡ true)
leaves r laws b b' j h e all after = (ap r.carries after ∙ laws.fewer b j h e, ap (every (readable r)) after ∙ every-without (readable r) j b all)
