-- What a call to one of two sides answers and leaves, as the whole would.
use Rattle.std.proofs.Common.{◌≡◌, ℕ, ◌+◌, ◌*◌, ◌<◌, ◌≤◌, Bool, true, false, not, ◌&&◌, leb, length, is_some, Some, None, Ok, Err, Option, Result, sym, refl, ap, ◌∙◌, arith}
use mathlib.Core.Bool.{and-true}
use Rattle.std.proofs.lemmas.Bool.{cond-true, cond-false, le-leb, lt-leb, not-true}
use Rattle.claims.specs.declared.Cause.TheVariants.{TooManyClaims}
use Rattle.claims.specs.declared.Claim.{Claim}
use Rattle.claims.specs.declared.ClaimKey.{ClaimKey}
use Rattle.claims.specs.declared.Fault.{Fault}
use Rattle.claims.specs.declared.ItemNumber.{ItemNumber}
use Rattle.claims.specs.Book.{Book, key_of, find, insert, out, kept, merge}
use Rattle.claims.specs.Limits.{most_claims, most_units}
use Rattle.claims.specs.Rules.{Rules, is_party, refusal, answered, added}
use Rattle.claims.specs.Units.{units_of}
use Rattle.claims.proofs.Books.{length-out, length-insert, length-merge, kept_out, out_absent, kept-insert_in, kept-insert-out, find-merge_none, every-insert, apart-insert-first, apart-insert-second, merge-insert-first, merge-insert-second, merge-without-first, merge-without-second, merge-out-first, merge-out-second, find-merge-first, find-apart, some_is, none_is}
use Rattle.resource.specs.declared.Resource.{Ghosts}
use Rattle.resource.specs.Calls.{Placed, Lifted, Drawn}
use Rattle.resource.specs.Draws.{drawn}
use Rattle.resource.specs.Standing.{Standing}
use Rattle.compound.specs.declared.bank.Bank.{Bank}
use Rattle.compound.specs.Asked.{turned_away}
use Rattle.compound.specs.Sides.{low, high, Sides}
use Rattle.compound.specs.Joined.{joined, bank_rules, bank_book}
use Rattle.compound.specs.Banks.{Joint, joint, first_part, second_part, merge-rises, merge-few}
use Rattle.compound.proofs.Openings.{asked}
use Rattle.compound.proofs.Sums.{units-merge, units_agree, units-few}
use Rattle.compound.proofs.Wholes.{drawn_like, placed-not, placed-whole, lifted-whole, drawn-whole}

module _ {s : ℕ} {p q : Rules} {a b : Book} (j : Joint s p q a b) where
  -- the units of a party on both sides, which are few
  pub joint_units : (n : ℕ) → units_of (joined s p q).counts n (merge a b) ≡ units_of p.counts n a + units_of q.counts n b
  joint_units n =
      let w = units-merge (joined s p q).counts n a b in
      let x = units_agree (joined s p q).counts p.counts n (low s) (λ c t. cond-true (low s c) (p.counts c.demand) (q.counts c.demand) t) a j.sides.lows in
      let y = units_agree (joined s p q).counts q.counts n (high s) (λ c t. cond-false (low s c) (p.counts c.demand) (q.counts c.demand) (not-true (low s c) t)) b j.sides.highs in
      omega arith

  pub joint_units-few : (n : ℕ) → units_of p.counts n a + units_of q.counts n b ≤ most_units * most_claims
  joint_units-few n =
      let x = units-few p j.left.laws n a in
      let y = units-few q j.right.laws n b in
      let r = j.sides.room in
      omega arith

  -- the claim under a key stands on one side alone
  first_has : (k : ℕ) → is_some (find a k) ≡ true → (find (merge a b) k ≡ find a k) × (find b k ≡ None)
  first_has k h =
      let x = some_is (find a k) h in
      (find-merge-first k x.0 a b j.left.rising j.sides.distinct x.1 ∙ sym x.1, find-apart k x.0 a b j.sides.distinct x.1)

  pub lifted-first : {k : ClaimKey} {y : Result (Unit {0}) Fault} {p' : Rules} {a' : Book} → is_some (find a k.0) ≡ true → Lifted k p a y p' a' → Lifted k (joined s p q) (merge a b) y (joined s p' q) (merge a' b)
  lifted-first {k} h =
      lifted-whole (λ r. joined s r q) (λ z. merge z b) (first_has k.0 h).0 (merge-without-first k.0 a b j.left.rising j.right.rising j.sides.distinct (first_has k.0 h).1)

  pub lifted-second : {k : ClaimKey} {y : Result (Unit {0}) Fault} {q' : Rules} {b' : Book} → is_some (find a k.0) ≡ false → Lifted k q b y q' b' → Lifted k (joined s p q) (merge a b) y (joined s p q') (merge a b')
  lifted-second {k} h =
      let n = none_is (find a k.0) h in
      lifted-whole (λ r. joined s p r) (λ z. merge a z) (find-merge_none k.0 a b n) (merge-without-second k.0 a b j.left.rising j.right.rising j.sides.distinct n)

  -- a book is carried as its parts are
  by_parts : (m x y : Book) → length m ≤ most_claims → kept (low s) m ≡ x → kept (high s) m ≡ y → (joined s p q).carries m ≡ (p.carries x && q.carries y)
  by_parts m x y n e f = rw (le-leb (length m) most_claims n, e, f)

  out-carried : (k u : ℕ) → (joined s p q).carries (out k u (merge a b)) ≡ (p.carries (out k u a) && q.carries (out k u b))
  out-carried k u =
      let n = length-out k u (merge a b) in
      let m = merge-few j in
      by_parts (out k u (merge a b)) (out k u a) (out k u b) (omega arith)
      (kept_out (low s) (λ v c. refl) k u (merge a b) (merge-rises j) ∙ ap (out k u) (first_part j))
      (kept_out (high s) (λ v c. refl) k u (merge a b) (merge-rises j) ∙ ap (out k u) (second_part j))

  drawn_of_first : (k : ℕ) → find b k ≡ None → drawn (joined s p q) (merge a b) k ≡ drawn p a k
  drawn_of_first k n =
      drawn_like (joined s p q) p (merge a b) a k
      (λ u. rw (out-carried k u, out_absent k u b n, j.right.carried) (and-true (p.carries (out k u a))))

  drawn_of_second : (k : ℕ) → find a k ≡ None → drawn (joined s p q) (merge a b) k ≡ drawn q b k
  drawn_of_second k n =
      drawn_like (joined s p q) q (merge a b) b k
      (λ u. rw (out-carried k u, out_absent k u a n, j.left.carried))

  pub drawn-first : {k : ClaimKey} {y : Result ItemNumber Fault} {p' : Rules} {a' : Book} → is_some (find a k.0) ≡ true → Drawn k p a y p' a' → Drawn k (joined s p q) (merge a b) y (joined s p' q) (merge a' b)
  drawn-first {k} h =
      let n = first_has k.0 h in
      drawn-whole (λ r. joined s r q) (λ z. merge z b) n.0 (drawn_of_first k.0 n.1) (λ u. merge-out-first k.0 u a b j.left.rising j.sides.distinct n.1)

  pub drawn-second : {k : ClaimKey} {y : Result ItemNumber Fault} {q' : Rules} {b' : Book} → is_some (find a k.0) ≡ false → Drawn k q b y q' b' → Drawn k (joined s p q) (merge a b) y (joined s p q') (merge a b')
  drawn-second {k} h =
      let n = none_is (find a k.0) h in
      drawn-whole (λ r. joined s p r) (λ z. merge a z) (find-merge_none k.0 a b n) (drawn_of_second k.0 n) (λ u. merge-out-second k.0 u a b n)

-- a claim that reaches the two sides: under a new key, and the whole has room for it
pub record Enters (s : ℕ) (p q : Rules) (a b : Book) (x : Claim) : Type 0 where
  pub joint : Joint s p q a b
  pub new : find (merge a b) (key_of x) ≡ None
  pub room : length (merge a b) < most_claims

-- the sides of a bank that is open, where what stands of their types is known
pub open_joint : {F S : Type 0} {f : Ghosts F} {t : Ghosts S} → ((a : F) → Standing (f.rules a) (f.book a)) → ((b : S) → Standing (t.rules b) (t.book b)) → (v : Bank F S f t) → v.is_open ≡ true → Joint v.split (f.rules v.first) (t.rules v.second) (f.book v.first) (t.book v.second)
open_joint l r v is = joint v (l v.first) (r v.second) is

-- what the questions of a bank show, where all are passed
pub enters : {F S : Type 0} {f : Ghosts F} {t : Ghosts S} → ((a : F) → Standing (f.rules a) (f.book a)) → ((b : S) → Standing (t.rules b) (t.book b)) → (v : Bank F S f t) (x : Claim) {read : Bool} {held : Option Claim} {n : ℕ} → read ≡ (bank_rules f t v).reads x.demand → held ≡ find (bank_book f t v) (key_of x) → Ok tt ≡ answered x.key (turned_away read held x) → n ≡ length (bank_book f t v) → n < most_claims → (v.is_open ≡ true) × Enters v.split (f.rules v.first) (t.rules v.second) (f.book v.first) (t.book v.second) x
enters l r v x e h y m less =
    let q = asked v.is_open _ _ x e h y in
    (q.is_open, record { joint = open_joint l r v q.is_open; new = q.new; room = let m' = rw q.is_open at m in omega arith })

module _ {s : ℕ} {p q : Rules} {a b : Book} {x : Claim} (w : Enters s p q a b x) where
  lack : (find a (key_of x) ≡ None) × (find b (key_of x) ≡ None)
  lack = go (find a (key_of x)) refl
    where
      go : (o : Option Claim) → find a (key_of x) ≡ o → (find a (key_of x) ≡ None) × (find b (key_of x) ≡ None)
      go None e = (e, sym (find-merge_none (key_of x) a b e) ∙ w.new)
      go (Some y) e = let m = find-merge-first (key_of x) y a b w.joint.left.rising w.joint.sides.distinct e in let n = w.new in absurd cc

  fits : leb (length (insert x (merge a b))) most_claims ≡ true
  fits = le-leb (length (insert x (merge a b))) most_claims (omega (arith, w.room, length-insert x (merge a b)))

  refusal-low : low s x ≡ true → refusal (joined s p q) (merge a b) x ≡ refusal p a x
  refusal-low t = go (p.carries (insert x a)) refl
    where
      e : kept (low s) (insert x (merge a b)) ≡ insert x a
      e = kept-insert_in (low s) x (merge a b) (merge-rises w.joint) t ∙ ap (insert x) (first_part w.joint)

      f : kept (high s) (insert x (merge a b)) ≡ b
      f = kept-insert-out (high s) x (merge a b) (ap not t) ∙ second_part w.joint

      go : (v : Bool) → p.carries (insert x a) ≡ v → refusal (joined s p q) (merge a b) x ≡ refusal p a x
      go true v = simp (w.new, lack.0, t, fits, e, f, w.joint.right.carried, v)
      go false v = simp (w.new, lack.0, t, fits, e, f, w.joint.right.carried, v)

  refusal-high : low s x ≡ false → refusal (joined s p q) (merge a b) x ≡ refusal q b x
  refusal-high t = go (q.carries (insert x b)) refl
    where
      e : kept (low s) (insert x (merge a b)) ≡ a
      e = kept-insert-out (low s) x (merge a b) t ∙ first_part w.joint

      f : kept (high s) (insert x (merge a b)) ≡ insert x b
      f = kept-insert_in (high s) x (merge a b) (merge-rises w.joint) (ap not t) ∙ ap (insert x) (second_part w.joint)

      go : (v : Bool) → q.carries (insert x b) ≡ v → refusal (joined s p q) (merge a b) x ≡ refusal q b x
      go true v = simp (w.new, lack.1, t, fits, e, f, w.joint.left.carried, v)
      go false v = simp (w.new, lack.1, t, fits, e, f, w.joint.left.carried, v)

  pub placed-low : {y : Result (Unit {0}) Fault} {p' : Rules} {a' : Book} → low s x ≡ true → Placed x p a y p' a' → Placed x (joined s p q) (merge a b) y (joined s p' q) (merge a' b)
  placed-low t = placed-whole (λ r. joined s r q) (λ z. merge z b) (refusal-low t) (merge-insert-first x a b lack.0)

  pub placed-high : {y : Result (Unit {0}) Fault} {q' : Rules} {b' : Book} → low s x ≡ false → Placed x q b y q' b' → Placed x (joined s p q) (merge a b) y (joined s p q') (merge a b')
  placed-high t = placed-whole (λ r. joined s p r) (λ z. merge a z) (refusal-high t) (merge-insert-second x a b lack.0)

  pub sides_low : {y : Result (Unit {0}) Fault} {p' : Rules} {a' : Book} → low s x ≡ true → Placed x p a y p' a' → Sides s a' b
  sides_low t d = rw d.after (elim (refusal p a x) as (λ o. Sides s (added x a o) b) [
    | None ↦ record { lows = every-insert (low s) x a t w.joint.sides.lows; highs = w.joint.sides.highs; distinct = apart-insert-first x a b lack.1 w.joint.sides.distinct; room = omega (arith, w.room, length-insert x a, length-merge a b) }
    | Some z ↦ w.joint.sides
  ])

  pub sides_high : {y : Result (Unit {0}) Fault} {q' : Rules} {b' : Book} → low s x ≡ false → Placed x q b y q' b' → Sides s a b'
  sides_high t d = rw d.after (elim (refusal q b x) as (λ o. Sides s a (added x b o)) [
    | None ↦ record { lows = w.joint.sides.lows; highs = every-insert (high s) x b (ap not t) w.joint.sides.highs; distinct = apart-insert-second x a b lack.0 w.joint.sides.distinct; room = omega (arith, w.room, length-insert x b, length-merge a b) }
    | Some z ↦ w.joint.sides
  ])

-- no room in the whole
pub refusal_full : (s : ℕ) (p q : Rules) (m : Book) (x : Claim) → (is_party x.party && (joined s p q).reads x.demand) ≡ true → find m (key_of x) ≡ None → most_claims ≤ length m → refusal (joined s p q) m x ≡ Some TooManyClaims
refusal_full s p q m x r n full =
    let over : leb (length (insert x m)) most_claims ≡ false = lt-leb (length (insert x m)) most_claims (omega (arith, length-insert x m)) in
    simp (r, n, over)

pub placed_full : {F S : Type 0} {f : Ghosts F} {t : Ghosts S} (v : Bank F S f t) (x : Claim) {read : Bool} {held : Option Claim} {n : ℕ} → read ≡ (bank_rules f t v).reads x.demand → held ≡ find (bank_book f t v) (key_of x) → Ok tt ≡ answered x.key (turned_away read held x) → n ≡ length (bank_book f t v) → most_claims ≤ n → Placed x (bank_rules f t v) (bank_book f t v) (Err (record { cause = TooManyClaims; key = x.key })) (bank_rules f t v) (bank_book f t v)
placed_full {F} {S} {f} {t} v x e h y m more =
    let r = joined v.split (f.rules v.first) (t.rules v.second) in
    let b = merge (f.book v.first) (t.book v.second) in
    let q = asked v.is_open r b x e h y in
    let n = rw q.is_open at m in
    rw q.is_open (placed-not x r b TooManyClaims (refusal_full v.split (f.rules v.first) (t.rules v.second) b x q.readable q.new (omega arith)))
