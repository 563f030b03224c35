-- Each try leaves the allotment, and the claims but for the unit; no unit up to here goes.
use Rattle.std.proofs.Common.{vec_items}
use Rattle.claims.specs.Book.{key_of}
use Rattle.claims.specs.Held.{claims_book}
use Rattle.listed.proofs.Moves.{Tried}
use Rattle.listed.proofs.lots.Lots.send_out.Given as goal

abbrev pub invariant-loop-good : goal.invariant-loop-good
invariant-loop-good g l = Tried g.G.Suits.suiting l.goods (key_of l.claim) (claims_book l.initial.self.claims) (vec_items l.initial.self.allotment) (claims_book l.self.claims) (vec_items l.self.allotment) l.good-iterator.a.rest.now l.good-iterator.b.start
