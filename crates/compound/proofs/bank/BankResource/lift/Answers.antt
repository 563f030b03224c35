-- The side that holds the claim answers as the bank would.
use Rattle.compound.proofs.Sides.{sides_lifted-first, sides_lifted-second}
use Rattle.compound.proofs.Parts.{lifted-first, lifted-second, open_joint}
use Rattle.compound.proofs.bank.BankResource.lift.Goals as goal

pub invariant_of-self : goal.invariant_of-self
invariant_of-self g c = record { sides = λ o. sides_lifted-first (c.args.self.now.sides o) c.lift.ensures }

pub invariant_of-self-else-is_some : goal.invariant_of-self-else-is_some
invariant_of-self-else-is_some g c = record { sides = λ o. sides_lifted-second (c.args.self.now.sides o) c.lift-else-is_some.ensures }

pub returns-then-is_some : goal.returns-then-is_some
returns-then-is_some g c =
    let is = c.in_ok-check_open.ensures in
    rw is (lifted-first (open_joint g.met.F.Resource.standing g.met.S.Resource.standing c.args.self.now is) (cc) c.lift.ensures)

pub returns-else-is_some : goal.returns-else-is_some
returns-else-is_some g c =
    let is = c.in_ok-check_open.ensures in
    rw is (lifted-second (open_joint g.met.F.Resource.standing g.met.S.Resource.standing c.args.self.now is) (cc) c.lift-else-is_some.ensures)
