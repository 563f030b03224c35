-- The side that takes the claim answers as the bank would.
use Rattle.std.proofs.Common.{◌≡◌, true, sym, ◌∙◌}
use Rattle.compound.proofs.Openings.{both_asked}
use Rattle.compound.proofs.Parts.{Enters, enters, placed-low, placed-high, placed_full, sides_low, sides_high}
use Rattle.compound.proofs.bank.BankResource.take_in.Given.{Over}
use Rattle.compound.proofs.bank.BankResource.take_in.Goals as goal
use Rattle.compound.proofs.bank.BankResource.take_in.Goals.{After-is_for_first}

pub returns-then-count-ge-MOST_CLAIMS : goal.returns-then-count-ge-MOST_CLAIMS
returns-then-count-ge-MOST_CLAIMS g c = placed_full c.args.self.now c.args.claim c.reads.ensures c.claim.ensures (both_asked c.args.claim _ _ c.in_ok-check_read.ensures c.in_ok-check_new.ensures) c.count.ensures c.if-count-ge-MOST_CLAIMS.true

-- past all questions the bank is open, and the claim reaches its sides
entering : (g : Over) (c : After-is_for_first g) → (c.args.self.now.is_open ≡ true) × Enters c.args.self.now.split (g.F.Resource.rules c.args.self.now.first) (g.S.Resource.rules c.args.self.now.second) (g.F.Resource.book c.args.self.now.first) (g.S.Resource.book c.args.self.now.second) c.args.claim
entering g c = enters g.met.F.Resource.standing g.met.S.Resource.standing c.args.self.now c.args.claim c.reads.ensures c.claim.ensures (both_asked c.args.claim _ _ c.in_ok-check_read.ensures c.in_ok-check_new.ensures) c.count.ensures c.if-count-ge-MOST_CLAIMS.false

pub invariant_of-self : goal.invariant_of-self
invariant_of-self g c = record { sides = λ o. sides_low (entering g (goal.at.invariant_of-self g c).After-is_for_first).1 (sym c.is_for_first.ensures ∙ c.if-is_for_first.true) c.take_in.ensures }

pub returns-then-is_for_first : goal.returns-then-is_for_first
returns-then-is_for_first g c =
    let w = entering g (goal.at.returns-then-is_for_first g c).After-is_for_first in
    rw w.0 (placed-low w.1 (sym c.is_for_first.ensures ∙ c.if-is_for_first.true) c.take_in.ensures)

pub invariant_of-self-else-is_for_first : goal.invariant_of-self-else-is_for_first
invariant_of-self-else-is_for_first g c = record { sides = λ o. sides_high (entering g (goal.at.invariant_of-self-else-is_for_first g c).After-is_for_first).1 (sym c.is_for_first.ensures ∙ c.if-is_for_first.false) c.take_in-else-is_for_first.ensures }

pub returns-else-is_for_first : goal.returns-else-is_for_first
returns-else-is_for_first g c =
    let w = entering g (goal.at.returns-else-is_for_first g c).After-is_for_first in
    rw w.0 (placed-high w.1 (sym c.is_for_first.ensures ∙ c.if-is_for_first.false) c.take_in-else-is_for_first.ensures)
