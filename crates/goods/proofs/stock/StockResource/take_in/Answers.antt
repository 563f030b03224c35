-- Goods take in what their rules do not refuse.
use Rattle.std.proofs.Common.{◌≡◌, true, sym, refl, ap, ◌∙◌, subst}
use Rattle.std.proofs.lemmas.Bool.{and_parts}
use Rattle.std.proofs.lemmas.Result.{err_from_is_err_and}
use Rattle.claims.specs.Book.{insert, every}
use Rattle.claims.specs.Held.{claims_book}
use Rattle.claims.specs.Rules.{readable}
use Rattle.goods.specs.Fixed.{Fixed, kind_of, proper, rules_of}
use Rattle.shelf.proofs.Shelving.{Entered, turned_away, falls_short, comes_in}
use Rattle.goods.proofs.stock.StockResource.take_in.Given.{Over}
use Rattle.goods.proofs.stock.StockResource.take_in.Goals as goal
use Rattle.goods.proofs.stock.StockResource.take_in.Goals.{After-insert}

pub returns-in_err-check_claim : goal.returns-in_err-check_claim
returns-in_err-check_claim g c =
    let s = c.args.self.now in
    let p = err_from_is_err_and c.from_residual.result c.from_residual.ensures.1 in
    rw (p.1, p.2) (turned_away s.shelf (kind_of (g.G.NotingGoods.goods s.goods)) (claims_book s.claims) c.args.claim _ refl _ c.in_err-check_claim.ensures)

pub returns-then-not-is_enough_with : goal.returns-then-not-is_enough_with
returns-then-not-is_enough_with g c =
    let s = c.args.self.now in
    rw c.why_short.ensures (falls_short s.shelf (kind_of (g.G.NotingGoods.goods s.goods)) (claims_book s.claims) c.args.claim _ refl c.in_ok-check_claim.ensures (sym c.if-not-is_enough_with.ensures))

-- the claim that came in
in-book : (g : Over) (c : After-insert g) → Entered c.args.self.now.shelf (kind_of (g.G.NotingGoods.goods c.args.self.now.goods)) (claims_book c.args.self.now.claims) (claims_book c.insert.new.self) c.args.claim
in-book g c =
    let s = c.args.self.now in
    comes_in s.shelf (kind_of (g.G.NotingGoods.goods s.goods)) (claims_book s.claims) c.args.claim _ refl (claims_book c.insert.new.self) s.reads c.in_ok-check_claim.ensures (sym c.if-not-is_enough_with.ensures) c.insert.ensures.after

pub invariant_of-self-clause-carries : goal.invariant_of-self-clause-carries
invariant_of-self-clause-carries g c = rw c.note.ensures.same (in-book g c).carried

-- the goods suffice for the claim, so that they have noted it
pub invariant_of-self-clause-noted : goal.invariant_of-self-clause-noted
invariant_of-self-clause-noted g c =
    let s = c.args.self.now in
    let f = g.G.NotingGoods.goods s.goods in
    let b = insert c.args.claim (claims_book s.claims) in
    let enough = and_parts (f.suffice b) (every (proper f) b) (sym c.if-not-is_enough_with.ensures) in
    ap (g.G.NotingGoods.noted c.note.new.self) (in-book g c).inserted ∙ c.note.ensures.kept (claims_book s.claims) s.noted enough.0

pub invariant_of-self-clause-reads : goal.invariant_of-self-clause-reads
invariant_of-self-clause-reads g c = subst (λ (f : Fixed). every (readable (rules_of c.args.self.now.shelf f)) (claims_book c.insert.new.self) ≡ true) (sym c.note.ensures.same) (in-book g c).all_read

pub returns : goal.returns
returns g c = rw c.note.ensures.same (in-book g (goal.at.returns g c).After-insert).placed
