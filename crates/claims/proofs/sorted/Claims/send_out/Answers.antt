use Rattle.std.proofs.Common.{vec_items, sym, ap, ◌∙◌}
use Rattle.claims.specs.Book.{out}
use Rattle.claims.specs.Places.{rises}
use Rattle.claims.proofs.Books.{rising-out, out_absent}
use Rattle.claims.proofs.Ranks.{rises_says, rises_shows, stands_out}
use Rattle.claims.proofs.sorted.Claims.send_out.Goals as goal

pub invariant_of-self : goal.invariant_of-self
invariant_of-self c =
    let s = c.args.self.now in
    let b = vec_items s.items in
    let k = c.args.key.0 in
    let u = c.args.unit.0 in
    record {
      roomy = s.roomy;
      few = s.few;
      ordered = ap rises (stands_out k u b c.in-Some.i c.index_mut.result.now c.in-Some.ensures c.index_mut.ensures.value) ∙ rises_shows (out k u b) (rising-out k u b (rises_says b s.ordered));
    }

pub returns-in-Some : goal.returns-in-Some
returns-in-Some c = stands_out c.args.key.0 c.args.unit.0 (vec_items c.args.self.now.items) c.in-Some.i c.index_mut.result.now c.in-Some.ensures c.index_mut.ensures.value

pub returns-in_default : goal.returns-in_default
returns-in_default c = sym (out_absent c.args.key.0 c.args.unit.0 (vec_items c.args.self.now.items) c.in_default.ensures)
