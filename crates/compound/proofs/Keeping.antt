-- What a call to what is below answers and leaves, as the quota would.
use Rattle.std.proofs.Common.{◌≡◌, ℕ, ◌+◌, ◌<◌, ◌≤◌, true, ◌&&◌, List, Some, None, Result, ◌==◌, nat_le, refl, subst, ⊎_elim, arith}
use Rattle.std.proofs.lemmas.Bool.{not-true, cases_eq, cond-true, cond-false, leb-true, eq-eqb, ne_eqb, and_parts}
use Rattle.std.proofs.lemmas.Bool.Decides.{Decides-not}
use Rattle.claims.specs.declared.Cause.TheVariants.{OverLimit}
use Rattle.claims.specs.declared.Claim.{Claim}
use Rattle.claims.specs.declared.ClaimKey.{ClaimKey}
use Rattle.claims.specs.declared.Demand.{Demand}
use Rattle.claims.specs.declared.Fault.{Fault}
use Rattle.claims.specs.declared.ItemNumber.{ItemNumber}
use Rattle.claims.specs.Book.{Book, key_of, find, insert, out}
use Rattle.claims.specs.Limits.{last_party}
use Rattle.claims.specs.Rules.{Rules, is_party, refusal, added}
use Rattle.claims.specs.Units.{share, units_of}
use Rattle.resource.specs.Calls.{Placed, Lifted, Drawn, kept_in, gone_out}
use Rattle.resource.specs.Draws.{drawn}
use Rattle.compound.specs.Limits.{limit_of, KeepsLimits}
use Rattle.compound.specs.Limited.{within, limited}
use Rattle.compound.specs.Quotas.{within_decides, keeps_without, keeps_out}
use Rattle.compound.proofs.Sums.{units-insert}
use Rattle.compound.proofs.Wholes.{drawn_like, placed-whole, drawn-whole}

-- where the party of a new claim has room for it, the others keep their limits too
pub keeps_insert : (limits : List ℕ) (counts : Demand → ℕ) (x : Claim) (b : Book) → KeepsLimits limits counts b → units_of counts x.party.0 b + counts x.demand ≤ limit_of limits x.party.0 → KeepsLimits limits counts (insert x b)
keeps_insert limits counts x b h room p low high =
    let n = units-insert counts p x b in
    ⊎_elim
    (λ (e : x.party.0 ≡ p).
    let z : share counts p x ≡ counts x.demand = cond-true (x.party.0 == p) (counts x.demand) 0 (eq-eqb x.party.0 p e) in
    let l = subst (λ (q : ℕ). units_of counts q b + counts x.demand ≤ limit_of limits q) e room in
    omega arith)
    (λ (ne : x.party.0 ≡ p → ⊥).
    let z : share counts p x ≡ 0 = cond-false (x.party.0 == p) (counts x.demand) 0 (ne_eqb x.party.0 p ne) in
    let l = h p low high in
    omega arith)
    (cases_eq x.party.0 p)

module _ (limits : List ℕ) (r : Rules) (b : Book) (x : Claim) where
  -- a claim with which its party passes its limit
  pub refusal_over : (is_party x.party && r.reads x.demand) ≡ true → find b (key_of x) ≡ None → limit_of limits x.party.0 < units_of r.counts x.party.0 b + r.counts x.demand → refusal (limited limits r) b x ≡ Some OverLimit
  refusal_over read new over =
      let party = and_parts (nat_le 1 x.party.0) (nat_le x.party.0 last_party) (and_parts (is_party x.party) (r.reads x.demand) read).0 in
      let low = leb-true 1 x.party.0 party.0 in
      let high = leb-true x.party.0 last_party party.1 in
      let m = units-insert r.counts x.party.0 x b in
      let z : share r.counts x.party.0 x ≡ r.counts x.demand = cond-true (x.party.0 == x.party.0) (r.counts x.demand) 0 (eq-eqb x.party.0 x.party.0 refl) in
      let past = not-true (within limits r.counts (insert x b) last_party) ((Decides-not _ (within_decides limits r.counts (insert x b))).1 (λ keeps. let n = keeps x.party.0 low high in omega arith)) in
      simp (read, new, past)

  -- a claim with which all keep their limits is refused as below
  refusal-below : KeepsLimits limits r.counts (insert x b) → refusal (limited limits r) b x ≡ refusal r b x
  refusal-below h = let w = (within_decides limits r.counts (insert x b)).1 h in simp w

  pub placed_below : {y : Result (Unit {0}) Fault} {r' : Rules} {b' : Book} → KeepsLimits limits r.counts (insert x b) → Placed x r b y r' b' → Placed x (limited limits r) b y (limited limits r') b'
  placed_below h = placed-whole (limited limits) (λ z. z) (refusal-below h) refl

module _ (limits : List ℕ) (r : Rules) (b : Book) (h : KeepsLimits limits r.counts b) where
  pub keeps_placed : {x : Claim} {y : Result (Unit {0}) Fault} {r' : Rules} {b' : Book} → KeepsLimits limits r.counts (insert x b) → Placed x r b y r' b' → KeepsLimits limits r'.counts b'
  keeps_placed {x} more d = rw (d.same, d.after) (elim (refusal r b x) as (λ o. KeepsLimits limits r.counts (added x b o)) [ None ↦ more | Some z ↦ h ])

  pub keeps_lifted : {k : ClaimKey} {y : Result (Unit {0}) Fault} {r' : Rules} {b' : Book} → Lifted k r b y r' b' → KeepsLimits limits r'.counts b'
  keeps_lifted {k} d = rw (d.same, d.after) (keeps_without limits r.counts k.0 b h)

  pub keeps_drawn : {k : ClaimKey} {y : Result ItemNumber Fault} {r' : Rules} {b' : Book} → Drawn k r b y r' b' → KeepsLimits limits r'.counts b'
  keeps_drawn {k} d = rw (d.same, d.after) (elim (kept_in (find b k.0)) as (λ o. KeepsLimits limits r.counts (gone_out k (drawn r b k.0) b o)) [ None ↦ keeps_out limits r.counts k.0 (drawn r b k.0) b h | Some z ↦ h ])

  pub drawn-below : {k : ClaimKey} {y : Result ItemNumber Fault} {r' : Rules} {b' : Book} → Drawn k r b y r' b' → Drawn k (limited limits r) b y (limited limits r') b'
  drawn-below {k} =
      drawn-whole (limited limits) (λ z. z) refl
      (drawn_like (limited limits r) r b b k.0 (λ u. rw ((within_decides limits r.counts (out k.0 u b)).1 (keeps_out limits r.counts k.0 u b h))))
      (λ u. refl)
