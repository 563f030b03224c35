-- What holds of a quota between calls, from what holds of the goods below it.
use Rattle.std.specs.Prelude.{◌≡◌, ℕ, suc, ◌-◌, ◌≤◌, List, [], Decides, leb, refl}
use Rattle.std.proofs.Common.{subst, arith}
use Rattle.std.proofs.lemmas.Bool.{leb-true, le-leb}
use Rattle.std.proofs.lemmas.Bool.Decides.{Decides-like, Decides-and, Decides-below_and}
use Rattle.claims.specs.declared.Demand.{Demand}
use Rattle.claims.specs.Book.{Book, without, out}
use Rattle.claims.specs.Limits.{last_party}
use Rattle.claims.specs.Rules.{Rules, Laws}
use Rattle.claims.specs.Units.{units_of}
use Rattle.resource.specs.declared.Resource.{Ghosts}
use Rattle.resource.specs.Standing.{Standing}
use Rattle.compound.specs.declared.quota.Quota.{Quota}
use Rattle.compound.specs.Limits.{limit_of, KeepsLimits}
use Rattle.compound.specs.Limited.{within, limited, CarriedWithin, quota_rules, quota_book}
use Rattle.compound.specs.Openings.{opened_stands}
use Rattle.compound.specs.Sums.{units-without, units-out}

-- the test of the limits says what it should
pub within_decides : (limits : List ℕ) (counts : Demand → ℕ) (b : Book) → Decides (within limits counts b last_party) (KeepsLimits limits counts b)
unfolding within
within_decides limits counts b =
    Decides-like (within limits counts b last_party)
    (λ h p low high. let e : suc (p - 1) ≡ p = omega arith in subst (λ (n : ℕ). units_of counts n b ≤ limit_of limits n) e (h (p - 1) (omega arith)))
    (λ h k l. h (suc k) (omega arith) (omega arith))
    (Decides-below_and (λ k. leb (units_of counts (suc k) b) (limit_of limits (suc k))) (λ k. units_of counts (suc k) b ≤ limit_of limits (suc k)) (within limits counts b) (λ k. (leb-true _ _, le-leb _ _)) refl (λ n. refl) last_party)

pub limited-carries : (limits : List ℕ) (r : Rules) (b : Book) → Decides ((limited limits r).carries b) (CarriedWithin limits r b)
limited-carries limits r b =
    Decides-like ((limited limits r).carries b)
    (λ h. record { below = h.1; parties = h.0 })
    (λ h. (h.parties, h.below))
    (Decides-and (within limits r.counts b last_party) (r.carries b) (within_decides limits r.counts b) ((λ e. e, λ e. e)))

-- fewer claims, and claims that go out, keep the limits
pub keeps_without : (limits : List ℕ) (counts : Demand → ℕ) (k : ℕ) (b : Book) → KeepsLimits limits counts b → KeepsLimits limits counts (without k b)
keeps_without limits counts k b h p low high = let n = units-without counts p k b in let m = h p low high in omega arith

pub keeps_out : (limits : List ℕ) (counts : Demand → ℕ) (k u : ℕ) (b : Book) → KeepsLimits limits counts b → KeepsLimits limits counts (out k u b)
keeps_out limits counts k u b h p low high = let n = units-out counts p k u b in let m = h p low high in omega arith

pub limited_laws : (limits : List ℕ) (r : Rules) → Laws r → Laws (limited limits r)
limited_laws limits r l = record {
  empty = (limited-carries limits r []).1 (record { below = l.empty; parties = λ p low high. omega arith });
  fewer = λ b k up h.
      let c = (limited-carries limits r b).0 h in
      (limited-carries limits r (without k b)).1 (record { below = l.fewer b k up c.below; parties = keeps_without limits r.counts k b c.parties });
  goes = λ b k x up h f w.
      let c = (limited-carries limits r b).0 h in
      let g = l.goes b k x up c.below f w in
      (g.0, (limited-carries limits r (out k g.0 b)).1 (record { below = g.1; parties = keeps_out limits r.counts k g.0 b c.parties }));
  few = λ b up h. l.few b up ((limited-carries limits r b).0 h).below;
  small = λ b k x i up h. l.small b k x i up ((limited-carries limits r b).0 h).below;
  shelves = l.shelves;
  amounts = l.amounts;
  nothing = l.nothing;
}

pub limited_stands : (limits : List ℕ) {r : Rules} {b : Book} → Standing r b → KeepsLimits limits r.counts b → Standing (limited limits r) b
limited_stands limits {r} {b} h k = record {
  laws = limited_laws limits r h.laws;
  rising = h.rising;
  carried = (limited-carries limits r b).1 (record { below = h.carried; parties = k });
  read = h.read;
}

-- what holds of a quota between calls, from what holds of the goods below it
pub quota_stands : {R : Type 0} (m : Ghosts R) (q : Quota R m) → Standing (m.rules q.below) (m.book q.below) → Standing (quota_rules m q) (quota_book m q)
quota_stands m q p = opened_stands q.is_open _ _ (limited_laws q.limits _ p.laws) (λ is. limited_stands q.limits p (q.keeps is))
