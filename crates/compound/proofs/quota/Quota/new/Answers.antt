-- Open or closed, a new quota carries the books in which no party passes its limit.
use Rattle.compound.specs.Limited.{limited, CarriedWithin}
use Rattle.compound.specs.Quotas.{limited-carries}
use Rattle.compound.proofs.Openings.{opened-carries}
use Rattle.compound.proofs.quota.Quota.new.Goals as goal

pub returns-clause-carries : goal.returns-clause-carries
returns-clause-carries g c z =
    let r = g.R.Resource.rules c.args.below in
    opened-carries _ (limited c.args.limits r) z (CarriedWithin c.args.limits r z) (limited-carries c.args.limits r z)
