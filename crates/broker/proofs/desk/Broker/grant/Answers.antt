use Rattle.std.proofs.Common.{◌≡◌, ◌+◌, ◌<◌, Err, vec_items, vec_len, Result, ap, ◌∙◌, arith}
use Rattle.std.proofs.Math.Logic.{∥∥₁_map}
use Rattle.std.proofs.lemmas.Result.{err_from_is_err_and}
use Rattle.claims.specs.declared.PromiseNumber.{PromiseNumber}
use Rattle.machine.specs.declared.Refusal.{Refusal}
use Rattle.machine.specs.Limits.{most_promises}
use Rattle.machine.specs.Machine.{State, Answer}
use Rattle.broker.specs.Calls.{granted_or}
use Rattle.broker.specs.Drafts.{demands_of}
use Rattle.broker.specs.Held.{state}
use Rattle.broker.proofs.Consistency.{by_consistent}
use Rattle.broker.proofs.Granting.{falls_short, short_keeps, makes, made_keeps}
use Rattle.broker.proofs.desk.Broker.grant.Goals as goal

pub invariant_of-self : goal.invariant_of-self
invariant_of-self g c =
    let b = c.args.self.now in
    let m = g.R.Resource in
    let room : vec_len b.live < most_promises = omega (arith, c.len.ensures, c.if-len-ge-MOST_PROMISES.false) in
    record {
      room = b.room;
      few = b.few;
      consistent = ∥∥₁_map b.consistent (λ k. short_keeps m b room c.in_ok-number.number c.in_ok-number.ensures.ok_part c.args.party.0 c.args.minutes (demands_of c.args.draft) c.requires.fits c.requires.readable _ k c.in_err-place_claims.field-0.0 c.in_err-place_claims.ensures);
    }

pub returns-in_err-place_claims-clause-after : goal.returns-in_err-place_claims-clause-after
returns-in_err-place_claims-clause-after g c =
    let b = c.args.self.now in
    let m = g.R.Resource in
    let room : vec_len b.live < most_promises = omega (arith, c.len.ensures, c.if-len-ge-MOST_PROMISES.false) in
    let p = err_from_is_err_and c.from_residual-in_err-place_claims.result c.from_residual-in_err-place_claims.ensures.1 in
    let put : Result PromiseNumber Refusal → State × Answer = λ o. (state b.clock b.next (vec_items b.live) (m.book c.place_claims.new.resource), granted_or o) in
    by_consistent b.consistent (λ k. ap put (p.1 ∙ ap Err p.2) ∙ falls_short m b room c.in_ok-number.number c.in_ok-number.ensures.ok_part c.args.party.0 c.args.minutes (demands_of c.args.draft) c.requires.fits c.requires.readable _ k c.in_err-place_claims.field-0.0 c.in_err-place_claims.ensures)

pub invariant_of-self-2-clause-consistent : goal.invariant_of-self-2-clause-consistent
invariant_of-self-2-clause-consistent g c =
    let b = c.args.self.now in
    let m = g.R.Resource in
    let room : vec_len b.live < most_promises = omega (arith, c.len.ensures, c.if-len-ge-MOST_PROMISES.false) in
    let last : c.from.result + c.from-2.result ≡ b.clock + c.args.minutes = omega (arith, c.from.ensures, c.from-2.ensures) in
    ∥∥₁_map b.consistent (λ k. made_keeps m b room c.in_ok-number.number c.in_ok-number.ensures.ok_part c.args.party.0 c.args.minutes (demands_of c.args.draft) c.requires.fits c.requires.readable _ k c.in_ok-place_claims.ensures _ c.following-self.ensures _ (rw last) _ c.push_reserved.ensures.items)

pub returns-clause-after : goal.returns-clause-after
returns-clause-after g c =
    let b = c.args.self.now in
    let m = g.R.Resource in
    let room : vec_len b.live < most_promises = omega (arith, c.len.ensures, c.if-len-ge-MOST_PROMISES.false) in
    let last : c.from.result + c.from-2.result ≡ b.clock + c.args.minutes = omega (arith, c.from.ensures, c.from-2.ensures) in
    by_consistent b.consistent (λ k. makes m b room c.in_ok-number.number c.in_ok-number.ensures.ok_part c.args.party.0 c.args.minutes (demands_of c.args.draft) c.requires.fits c.requires.readable _ k c.in_ok-place_claims.ensures _ c.following-self.ensures _ (rw last) _ c.push_reserved.ensures.items)
