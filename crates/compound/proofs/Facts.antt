-- What holds of what is open, of what is newly made, and of sums within limits, for whoever builds on banks and quotas.
use Rattle.std.specs.Prelude.{◌≡◌, ℕ, ◌+◌, ◌-◌, ◌^◌, ◌<◌, min, Bool, true, false, ◌&&◌, List, [], ◌∷◌, length, is_some, Decides, Option, Result, ◌==◌, ◌≢◌, refl}
use Rattle.std.proofs.Common.{sym, ap, ◌∙◌, arith}
use Rattle.std.proofs.lemmas.Bool.{false≢true, eq-eqb, eqb-true}
use Rattle.std.proofs.lemmas.Bool.Decides.{Decides-and, Decides-like}
use Rattle.claims.specs.declared.Claim.{Claim}
use Rattle.claims.specs.declared.ClaimKey.{ClaimKey}
use Rattle.claims.specs.declared.Demand.{Demand}
use Rattle.claims.specs.declared.Fault.{Fault}
use Rattle.claims.specs.declared.ItemNumber.{ItemNumber}
use Rattle.claims.specs.Book.{Book, find, merge}
use Rattle.claims.specs.Rules.{Rules}
use Rattle.claims.specs.Units.{units_of}
use Rattle.claims.proofs.Books.{length-merge}
use Rattle.resource.specs.Calls.{Placed, Lifted, Drawn}
use Rattle.resource.specs.Standing.{Standing}
use Rattle.compound.specs.Limits.{KeepsLimits}
use Rattle.compound.specs.Sides.{Sides}
use Rattle.compound.specs.Limited.{limited}
use Rattle.compound.specs.Opened.{closed, opened, open_book}
use Rattle.compound.proofs.Sums.{units-few, counts-few}
use Rattle.compound.proofs.Wholes.{lifted-whole}

-- what is open is as it is meant
pub book_open : (o : Bool) (b : Book) → o ≡ true → open_book o b ≡ b
book_open true b e = refl
book_open false b e = absurd (false≢true e)

pub rules_open : (o : Bool) (r : Rules) → o ≡ true → opened o r ≡ r
rules_open true r e = refl
rules_open false r e = absurd (false≢true e)

pub held_open : (o : Bool) (b : Book) (k : ℕ) → o ≡ true → find (open_book o b) k ≡ find b k
held_open o b k e = ap (λ (z : Book). find z k) (book_open o b e)

pub units_open : (o : Bool) (r : Rules) (b : Book) (p : ℕ) → o ≡ true → units_of (opened o r).counts p (open_book o b) ≡ units_of r.counts p b
units_open true r b p e = refl
units_open false r b p e = absurd (false≢true e)

pub fewer_open : (o : Bool) (b : Book) {n most : ℕ} → o ≡ true → n ≡ length (open_book o b) → n < most → length b < most
fewer_open o b is e l = let f = ap length (book_open o b is) in omega arith

module _ {r r' : Rules} {b b' : Book} (o : Bool) (is : o ≡ true) where
  pub placed_open : {c : Claim} {y : Result (Unit {0}) Fault} → Placed c r b y r' b' → Placed c (opened o r) (open_book o b) y (opened o r') (open_book o b')
  placed_open {c} {y} h = elim o as (λ v. v ≡ true → Placed c (opened v r) (open_book v b) y (opened v r') (open_book v b')) [ true ↦ λ _. h | false ↦ λ e. absurd (false≢true e) ] is

  pub lifted_open : {k : ClaimKey} {y : Result (Unit {0}) Fault} → Lifted k r b y r' b' → Lifted k (opened o r) (open_book o b) y (opened o r') (open_book o b')
  lifted_open {k} {y} h = elim o as (λ v. v ≡ true → Lifted k (opened v r) (open_book v b) y (opened v r') (open_book v b')) [ true ↦ λ _. h | false ↦ λ e. absurd (false≢true e) ] is

  pub drawn_open : {k : ClaimKey} {y : Result ItemNumber Fault} → Drawn k r b y r' b' → Drawn k (opened o r) (open_book o b) y (opened o r') (open_book o b')
  drawn_open {k} {y} h = elim o as (λ v. v ≡ true → Drawn k (opened v r) (open_book v b) y (opened v r') (open_book v b')) [ true ↦ λ _. h | false ↦ λ e. absurd (false≢true e) ] is

-- what is made to be open exactly where nothing is claimed below
pub fresh_rules : (o : Bool) (below : Book) (meant : Rules) → Decides o (below ≡ []) → (open_book o below ≡ []) × (below ≡ [] → opened o meant ≡ meant) × ((below ≢ []) → opened o meant ≡ closed meant)
fresh_rules true below meant h = (h.0 refl, λ e. refl, λ n. absurd (n (h.0 refl)))
fresh_rules false below meant h = (refl, λ e. absurd (false≢true (h.1 e)), λ n. refl)

-- a count says whether there are claims
pub decides_none : (n : ℕ) (b : Book) → n ≡ length b → Decides (n == 0) (b ≡ [])
decides_none n [] e = (λ h. refl, λ h. eq-eqb n 0 e)
decides_none n (c ∷ b) e = (λ h. let z = eqb-true n 0 h in absurd (omega arith), λ h. let z : length (c ∷ b) ≡ 0 = ap length h in absurd (omega arith))

pub decides_neither : (x y : Bool) (a b : Book) → Decides x (a ≡ []) → Decides y (b ≡ []) → Decides (x && y) (merge a b ≡ [])
decides_neither x y a b p q =
    Decides-like (x && y)
    (λ h. ap (λ (z : Book). merge z b) h.0 ∙ h.1)
    (λ h. let n : length (merge a b) ≡ 0 = ap length h in let m = length-merge a b in (none_of a (omega arith), none_of b (omega arith)))
    (Decides-and x y p q)
  where
    none_of : (c : Book) → length c ≡ 0 → c ≡ []
    none_of [] e = refl
    none_of (z ∷ c) e = absurd (omega arith)

-- whether a side that was asked has a claim
pub has : {t : Bool} {o held : Option Claim} → t ≡ is_some o → o ≡ held → is_some held ≡ t
has e f = sym (e ∙ ap is_some f)

-- no claims keep to any limits
pub keeps_none : (limits : List ℕ) (counts : Demand → ℕ) (b : Book) → b ≡ [] → KeepsLimits limits counts b
keeps_none limits counts b e p low high = let z : units_of counts p b ≡ 0 = ap (units_of counts p) e in omega arith

-- the units of a party with one more demand are few enough to be summed
pub summed : {r : Rules} {b : Book} → Standing r b → (p : ℕ) (d : Demand) {n m sum : ℕ} → n ≡ units_of r.counts p b → m ≡ r.counts d → sum ≡ min (n + m) (2 ^ 64 - 1) → sum ≡ units_of r.counts p b + r.counts d
summed {r} {b} h p d e f s =
    let x = units-few r h.laws p b in
    let y = counts-few r h.laws d in
    let z = h.laws.few b h.rising h.carried in
    omega arith

pub lifted-below : (limits : List ℕ) {r r' : Rules} {b b' : Book} {k : ClaimKey} {y : Result (Unit {0}) Fault} → Lifted k r b y r' b' → Lifted k (limited limits r) b y (limited limits r') b'
lifted-below limits = lifted-whole (limited limits) (λ z. z) refl refl

-- the sides of a bank that has no claims
pub sides_none : (s : ℕ) (a b : Book) → a ≡ [] → b ≡ [] → Sides s a b
sides_none s [] [] e f = record { lows = refl; highs = refl; distinct = refl; room = omega arith }
sides_none s (c ∷ a) b e f = absurd (let z : length (c ∷ a) ≡ 0 = ap length e in omega arith)
sides_none s [] (c ∷ b) e f = absurd (let z : length (c ∷ b) ≡ 0 = ap length f in omega arith)
