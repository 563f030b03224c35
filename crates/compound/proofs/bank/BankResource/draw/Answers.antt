-- The side that holds the claim answers as the bank would.
use Rattle.compound.proofs.Sides.{sides_drawn-first, sides_drawn-second}
use Rattle.compound.proofs.Parts.{drawn-first, drawn-second, open_joint}
use Rattle.compound.proofs.bank.BankResource.draw.Goals as goal

pub invariant_of-self : goal.invariant_of-self
invariant_of-self g c = record { sides = λ o. sides_drawn-first (c.args.self.now.sides o) c.draw.ensures }

pub invariant_of-self-else-is_some : goal.invariant_of-self-else-is_some
invariant_of-self-else-is_some g c = record { sides = λ o. sides_drawn-second (c.args.self.now.sides o) c.draw-else-is_some.ensures }

pub returns-then-is_some : goal.returns-then-is_some
returns-then-is_some g c =
    let is = c.in_ok-check_open.ensures in
    rw is (drawn-first (open_joint g.met.F.Resource.standing g.met.S.Resource.standing c.args.self.now is) (cc) c.draw.ensures)

pub returns-else-is_some : goal.returns-else-is_some
returns-else-is_some g c =
    let is = c.in_ok-check_open.ensures in
    rw is (drawn-second (open_joint g.met.F.Resource.standing g.met.S.Resource.standing c.args.self.now is) (cc) c.draw-else-is_some.ensures)
