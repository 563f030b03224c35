-- The units of a party on both sides are few enough to be summed.
use Rattle.std.proofs.Common.{arith}
use Rattle.compound.proofs.Parts.{joint_units, joint_units-few, open_joint}
use Rattle.compound.proofs.bank.BankResource.party_units.Goals as goal

pub overflow_add-result : goal.overflow_add-result
overflow_add-result g c =
    let j = open_joint g.met.F.Resource.standing g.met.S.Resource.standing c.args.self.now c.if-self.true in
    omega (arith, joint_units-few j c.args.party.0, c.party_units.ensures, c.party_units-then-self.ensures)

pub returns-then-self : goal.returns-then-self
returns-then-self g c =
    let j = open_joint g.met.F.Resource.standing g.met.S.Resource.standing c.args.self.now c.if-self.true in
    rw c.if-self.true (omega (arith, joint_units j c.args.party.0, c.party_units.ensures, c.party_units-then-self.ensures))
