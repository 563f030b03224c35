-- What is below keeps to the limits where a claim leaves.
use Rattle.compound.proofs.Keeping.{keeps_lifted}
use Rattle.compound.proofs.quota.QuotaResource.lift.Goals as goal

pub invariant_of-self : goal.invariant_of-self
invariant_of-self g c = let s = c.args.self.now in record { keeps = λ o. keeps_lifted s.limits _ _ (s.keeps o) c.lift.ensures }
