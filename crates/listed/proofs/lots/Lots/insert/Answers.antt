-- The claim and its good come in at the same place.
use Rattle.std.proofs.Common.{◌≡◌, ◌+◌, length, vec_len, ap, ◌∙◌, arith}
use Rattle.std.proofs.lemmas.Bool.{cond-true}
use Rattle.claims.specs.Book.{insert, key_of}
use Rattle.claims.specs.Held.{claims_book}
use Rattle.claims.proofs.Books.{length-insert}
use Rattle.claims.proofs.Ranks.{rank-within}
use Rattle.listed.proofs.Moves.{let_in}
use Rattle.listed.proofs.lots.Lots.insert.Goals as goal
use Rattle.listed.proofs.lots.Lots.insert.Goals.{After-insert-2}

pub insert-requires-2 : goal.insert-requires-2
insert-requires-2 c = omega (arith, c.rank-at.ensures, rank-within (key_of c.args.claim) (claims_book c.args.self.now.claims), c.args.self.now.paired)

booked : (c : goal.After-insert-2) → claims_book c.insert.new.self ≡ insert c.args.claim (claims_book c.args.self.now.claims)
booked c = c.insert.ensures.after ∙ let_in c.args.claim (claims_book c.args.self.now.claims) c.requires.absent c.requires.room

pub invariant_of-self : goal.invariant_of-self
invariant_of-self c =
    let s = c.args.self.now in
    let n : length (claims_book c.insert.new.self) ≡ length (claims_book c.args.self.now.claims) + 1 = ap length (booked (goal.at.invariant_of-self c).After-insert-2) ∙ length-insert c.args.claim (claims_book s.claims) in
    let ok = c.insert-2.ensures.succeeds (omega (arith, s.paired, s.roomy, c.requires.room)) in
    let m = c.insert-2.ensures.len ∙ cond-true _ (vec_len s.allotment + 1) (vec_len s.allotment) ok in
    record { paired = omega (arith, n, m, s.paired); roomy = omega (arith, s.roomy, c.insert-2.ensures.capacity) }
