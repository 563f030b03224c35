-- A call that a part of a whole answers, where the part answers as the whole would.
use Rattle.std.proofs.Common.{◌≡◌, ℕ, suc, Bool, Some, None, Err, Option, Result, refl, ap}
use Rattle.std.proofs.Math.Path.{fun_ext}
use Rattle.claims.specs.declared.Cause.{Cause}
use Rattle.claims.specs.declared.Claim.{Claim}
use Rattle.claims.specs.declared.ClaimKey.{ClaimKey}
use Rattle.claims.specs.declared.Fault.{Fault}
use Rattle.claims.specs.declared.ItemNumber.{ItemNumber}
use Rattle.claims.specs.Book.{Book, find, insert, without, out}
use Rattle.claims.specs.Limits.{last_unit}
use Rattle.claims.specs.Rules.{Rules, refusal, added}
use Rattle.resource.specs.Calls.{Placed, Lifted, Drawn, kept_in, gone_out}
use Rattle.resource.specs.Draws.{least_from, drawn}

-- a claim that is turned away
pub placed-not : (x : Claim) (r : Rules) (b : Book) (z : Cause) → refusal r b x ≡ Some z → Placed x r b (Err (record { cause = z; key = x.key })) r b
placed-not x r b z e = record { same = refl; value = rw e; after = rw e }

-- where the whole carries a claim out with each unit as the part does, both draw the same
pub drawn_like : (w r : Rules) (m a : Book) (k : ℕ) → ((u : ℕ) → w.carries (out k u m) ≡ r.carries (out k u a)) → drawn w m k ≡ drawn r a k
drawn_like w r m a k h = ap (λ (f : ℕ → Bool). least_from f 0 (suc last_unit)) (fun_ext h)

-- the whole has the rules W r and the book M a, where its part has r and a
module _ (W : Rules → Rules) (M : Book → Book) {r r' : Rules} {a a' : Book} where
  pub placed-whole : {x : Claim} {y : Result (Unit {0}) Fault} → refusal (W r) (M a) x ≡ refusal r a x → M (insert x a) ≡ insert x (M a) → Placed x r a y r' a' → Placed x (W r) (M a) y (W r') (M a')
  placed-whole {x} {y} e i d = record {
    same = ap W d.same;
    value = rw e d.value;
    after = rw (e, d.after) (go (refusal r a x));
  }
    where
      go : (o : Option Cause) → M (added x a o) ≡ added x (M a) o
      go None = i
      go (Some z) = refl

  pub lifted-whole : {k : ClaimKey} {y : Result (Unit {0}) Fault} → find (M a) k.0 ≡ find a k.0 → M (without k.0 a) ≡ without k.0 (M a) → Lifted k r a y r' a' → Lifted k (W r) (M a) y (W r') (M a')
  lifted-whole {k} {y} e i d = record {
    same = ap W d.same;
    value = rw e d.value;
    after = rw d.after i;
  }

  pub drawn-whole : {k : ClaimKey} {y : Result ItemNumber Fault} → find (M a) k.0 ≡ find a k.0 → drawn (W r) (M a) k.0 ≡ drawn r a k.0 → ((u : ℕ) → M (out k.0 u a) ≡ out k.0 u (M a)) → Drawn k r a y r' a' → Drawn k (W r) (M a) y (W r') (M a')
  drawn-whole {k} {y} e n i d = record {
    same = ap W d.same;
    value = rw (e, n) d.value;
    after = rw (e, n, d.after) (go (drawn r a k.0) (kept_in (find a k.0)));
  }
    where
      go : (u : ℕ) (o : Option Cause) → M (gone_out k u a o) ≡ gone_out k u (M a) o
      go u None = i u
      go u (Some z) = refl
