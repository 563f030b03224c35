-- The claim and its good leave from the same place.
use Rattle.std.proofs.Common.{◌≡◌, length, sym, ap, ◌∙◌, arith}
use Rattle.std.specs.List.{remove}
use Rattle.std.proofs.lemmas.List.Edits.{length-remove}
use Rattle.claims.specs.Held.{claims_book}
use Rattle.claims.proofs.Books.{without_absent}
use Rattle.claims.proofs.Ranks.{stands_removed, stands_some}
use Rattle.listed.proofs.lots.Lots.remove.Goals as goal

pub returns-in_err-at-clause-claims : goal.returns-in_err-at-clause-claims
returns-in_err-at-clause-claims c = sym (without_absent c.args.key.0 (claims_book c.args.self.now.claims) c.in_err-at.ensures)

-- where a claim stands, one is found
pub returns-clause-kept : goal.returns-clause-kept
returns-clause-kept c = rw (c.remove-2.ensures.value, (stands_some c.args.key.0 (claims_book c.args.self.now.claims) c.in_ok-at.at c.in_ok-at.ensures).1) tt

pub invariant_of-self : goal.invariant_of-self
invariant_of-self c =
    let s = c.args.self.now in
    let b = claims_book s.claims in
    let at = c.in_ok-at.ensures in
    let gone : length (claims_book c.remove-2.new.self) ≡ length (remove (claims_book c.args.self.now.claims) c.in_ok-at.at) = ap length (c.remove-2.ensures.after ∙ sym (stands_removed c.args.key.0 b c.in_ok-at.at (stands_some c.args.key.0 b c.in_ok-at.at at).0 at)) in
    let less = length-remove b c.in_ok-at.at at.within in
    record { paired = omega (arith, s.paired, gone, c.remove.ensures.len); roomy = omega (arith, s.roomy, c.remove.ensures.capacity) }
