-- What is below answers as the quota would, where the claim's party keeps to its limit.
use Rattle.std.proofs.Common.{arith}
use Rattle.claims.specs.declared.Cause.TheVariants.{OverLimit}
use Rattle.compound.specs.Limited.{limited}
use Rattle.compound.proofs.Openings.{asked, both_asked}
use Rattle.compound.proofs.Wholes.{placed-not}
use Rattle.compound.proofs.Keeping.{keeps_insert, keeps_placed, refusal_over, placed_below}
use Rattle.compound.proofs.quota.QuotaResource.take_in.Goals as goal

pub invariant_of-self : goal.invariant_of-self
invariant_of-self g c =
    let s = c.args.self.now in
    record { keeps = λ o. keeps_placed s.limits _ _ (s.keeps o) (keeps_insert s.limits _ c.args.claim _ (s.keeps o) (omega (arith, c.if-units-limit.false, c.limit.ensures, c.party_units-before.ensures, c.units.ensures))) c.take_in.ensures }

pub returns-then-units-limit : goal.returns-then-units-limit
returns-then-units-limit g c =
    let s = c.args.self.now in
    let q = asked s.is_open (limited s.limits (g.R.Resource.rules s.below)) (g.R.Resource.book s.below) c.args.claim c.reads.ensures c.claim.ensures (both_asked c.args.claim _ _ c.in_ok-check_read.ensures c.in_ok-check_new.ensures) in
    rw q.is_open (placed-not c.args.claim _ _ OverLimit (refusal_over s.limits (g.R.Resource.rules s.below) (g.R.Resource.book s.below) c.args.claim q.readable q.new (omega (arith, c.if-units-limit.true, c.limit.ensures, c.party_units-before.ensures, c.units.ensures))))

pub returns : goal.returns
returns g c =
    let s = c.args.self.now in
    let q = asked s.is_open (limited s.limits (g.R.Resource.rules s.below)) (g.R.Resource.book s.below) c.args.claim c.reads.ensures c.claim.ensures (both_asked c.args.claim _ _ c.in_ok-check_read.ensures c.in_ok-check_new.ensures) in
    rw q.is_open (placed_below s.limits _ _ c.args.claim (keeps_insert s.limits _ c.args.claim _ (s.keeps q.is_open) (omega (arith, c.if-units-limit.false, c.limit.ensures, c.party_units-before.ensures, c.units.ensures))) c.take_in.ensures)
