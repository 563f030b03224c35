-- What is below answers as the quota would.
use Rattle.compound.proofs.Keeping.{drawn-below, keeps_drawn}
use Rattle.compound.proofs.quota.QuotaResource.draw.Goals as goal

pub invariant_of-self : goal.invariant_of-self
invariant_of-self g c = let s = c.args.self.now in record { keeps = λ o. keeps_drawn s.limits _ _ (s.keeps o) c.draw.ensures }

pub returns : goal.returns
returns g c =
    let s = c.args.self.now in
    let is = c.in_ok-check_open.ensures in
    rw is (drawn-below s.limits _ _ (s.keeps is) c.draw.ensures)
