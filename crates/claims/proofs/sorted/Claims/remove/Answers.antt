use Rattle.std.proofs.Common.{◌≡◌, vec_items, sym, ap, ◌∙◌, arith}
use Rattle.claims.specs.Book.{without}
use Rattle.claims.specs.Places.{rises}
use Rattle.claims.proofs.Books.{rising-without, without_absent}
use Rattle.claims.proofs.Ranks.{rises_says, rises_shows, stands_found, stands_removed}
use Rattle.claims.proofs.sorted.Claims.remove.Goals as goal
use Rattle.claims.proofs.sorted.Claims.remove.Goals.{After-remove}

-- the items that are left
left : (c : goal.After-remove) → vec_items c.remove.new.self ≡ without c.args.key.0 (vec_items c.args.self.now.items)
left c = c.remove.ensures.items ∙ stands_removed c.args.key.0 (vec_items c.args.self.now.items) c.in_ok-i.i c.remove.result c.in_ok-i.ensures

pub invariant_of-self : goal.invariant_of-self
invariant_of-self c =
    let s = c.args.self.now in
    let b = vec_items s.items in
    let k = c.args.key.0 in
    record {
      roomy = omega (arith, s.roomy, c.remove.ensures.capacity);
      few = omega (arith, s.few, c.remove.ensures.len);
      ordered = ap rises (left c) ∙ rises_shows (without k b) (rising-without k b (rises_says b s.ordered));
    }

pub returns-in_err-i-clause-after : goal.returns-in_err-i-clause-after
returns-in_err-i-clause-after c = sym (without_absent c.args.key.0 (vec_items c.args.self.now.items) c.in_err-i.ensures)

pub returns-clause-value : goal.returns-clause-value
returns-clause-value c = stands_found c.args.key.0 (vec_items c.args.self.now.items) c.in_ok-i.i c.remove.result c.in_ok-i.ensures c.remove.ensures.value

pub returns-clause-after : goal.returns-clause-after
returns-clause-after c = left (goal.at.returns-clause-after c).After-remove
