-- What a resource means where each party has a limit.
use Rattle.std.specs.Prelude.{◌≡◌, ℕ, zero, suc, Bool, true, cond, ◌&&◌, List, nat_le}
use Rattle.claims.specs.declared.Cause.TheVariants.{OverLimit}
use Rattle.claims.specs.declared.Demand.{Demand}
use Rattle.claims.specs.Book.{Book}
use Rattle.claims.specs.Limits.{last_party}
use Rattle.claims.specs.Rules.{Rules}
use Rattle.claims.specs.Units.{units_of}
use Rattle.resource.specs.declared.Resource.{Ghosts}
use Rattle.compound.specs.declared.quota.Quota.{Quota}
use Rattle.compound.specs.Limits.{limit_of, KeepsLimits}
use Rattle.compound.specs.Opened.{opened, open_book}

-- whether none of the first n parties passes its limit
unfoldable pub within : List ℕ → (Demand → ℕ) → Book → ℕ → Bool
within limits counts b zero = true
within limits counts b (suc n) = nat_le (units_of counts (suc n) b) (limit_of limits (suc n)) && within limits counts b n

-- the rules of a resource under limits
abbrev pub limited : List ℕ → Rules → Rules
limited limits r = record {
  reads = r.reads;
  counts = r.counts;
  carries = λ b. within limits r.counts b last_party && r.carries b;
  cause = λ b. cond (within limits r.counts b last_party) (r.cause b) OverLimit;
}

-- which books it carries: those that the resource below carries, in which no party passes its limit
pub record CarriedWithin (limits : List ℕ) (r : Rules) (b : Book) : Type 0 where
  pub below : r.carries b ≡ true
  pub parties : KeepsLimits limits r.counts b

-- the rules of a quota
abbrev pub quota_rules : {R : Type 0} → (m : Ghosts R) → Quota R m → Rules
quota_rules m q = opened q.is_open (limited q.limits (m.rules q.below))

-- its book: the claims of what is below
abbrev pub quota_book : {R : Type 0} → (m : Ghosts R) → Quota R m → Book
quota_book m q = open_book q.is_open (m.book q.below)

-- a quota as a resource
abbrev pub quota : {R : Type 0} → (m : Ghosts R) → Ghosts (Quota R m)
quota m = record { rules = quota_rules m; book = quota_book m }
