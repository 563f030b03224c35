use Rattle.std.proofs.Common.{◌≡◌, ◌<◌, ◌≤◌, true, length, is_ok, None, vec_items, sym, ap, ◌∙◌, arith}
use Rattle.claims.specs.Book.{find, insert}
use Rattle.claims.specs.Held.{claims_book}
use Rattle.claims.specs.Rules.{added, shut_out}
use Rattle.claims.specs.Limits.{most_claims}
use Rattle.claims.specs.Places.{rises}
use Rattle.claims.proofs.Books.{rising-insert, length-insert}
use Rattle.claims.proofs.Ranks.{rank-within, not_shut_out, inserted_there, rises_says, rises_shows}
use Rattle.claims.proofs.sorted.Claims.insert.Goals as goal
use Rattle.claims.proofs.sorted.Claims.insert.Goals.{After-insert}

pub insert-requires : goal.insert-requires
insert-requires c = omega (arith, c.rank-i.ensures, rank-within c.args.claim.key.0 (vec_items c.args.self.now.items), c.args.self.now.items.ok.0)

-- the claim comes in at its place
inserted : (c : goal.After-insert) → (shut_out (claims_book c.args.self.now) c.args.claim ≡ None) × (find (claims_book c.args.self.now) c.args.claim.key.0 ≡ None) × (length (claims_book c.args.self.now) < most_claims) × (vec_items c.insert.new.self ≡ insert c.args.claim (claims_book c.args.self.now))
inserted c =
    let s = c.args.self.now in
    let x = c.args.claim in
    let b = claims_book s in
    let t = not_shut_out b x c.in_ok-check_insert.ensures in
    let ok : is_ok c.insert.result ≡ true = c.insert.ensures.succeeds (omega (arith, s.roomy, t.2, s.items.ok.0)) in
    (t.0, t.1, t.2, inserted_there x b (vec_items c.insert.new.self) c.rank-i.result (is_ok c.insert.result) ok c.rank-i.ensures t.1 c.insert.ensures.items)

pub invariant_of-self : goal.invariant_of-self
invariant_of-self c =
    let s = c.args.self.now in
    let x = c.args.claim in
    let b = claims_book s in
    let t = inserted c in
    let more : length (vec_items c.insert.new.self) ≤ most_claims = omega (arith, t.2, ap length t.3, length-insert x b) in
    record {
      roomy = omega (arith, s.roomy, c.insert.ensures.capacity);
      few = omega (arith, more, c.insert.new.self.ok.0);
      ordered = ap rises t.3 ∙ rises_shows (insert x b) (rising-insert x b (rises_says b s.ordered) t.1);
    }

pub returns-clause-after : goal.returns-clause-after
returns-clause-after c =
    let t = inserted (goal.at.returns-clause-after c).After-insert in
    t.3 ∙ sym (ap (added c.args.claim (claims_book c.args.self.now)) t.0)
