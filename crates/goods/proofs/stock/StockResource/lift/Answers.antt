-- A lifted claim leaves a book that is carried, and the goods forget it.
use Rattle.std.proofs.Common.{◌≡◌, true, sym, ap, ◌∙◌, subst}
use Rattle.std.proofs.lemmas.Result.{err_from_is_err_and}
use Rattle.claims.specs.Book.{every, find}
use Rattle.claims.specs.Held.{claims_book}
use Rattle.claims.specs.Rules.{readable}
use Rattle.claims.proofs.Ranks.{rises_says}
use Rattle.goods.specs.Fixed.{Fixed, rules_of, fixed_laws}
use Rattle.shelf.proofs.Shelving.{leaves, lies_there, stays}
use Rattle.goods.proofs.stock.StockResource.lift.Given.{Over}
use Rattle.goods.proofs.stock.StockResource.lift.Goals as goal
use Rattle.goods.proofs.stock.StockResource.lift.Goals.{After-forget}

pub returns-in_err-claim : goal.returns-in_err-claim
returns-in_err-claim g c =
    let s = c.args.self.now in
    let p = err_from_is_err_and c.from_residual.result c.from_residual.ensures.1 in
    rw (p.1, p.2) (stays c.args.key (rules_of s.shelf (g.G.NotingGoods.goods s.goods)) (claims_book s.claims) _ (sym c.in_err-claim.ensures))

left : (g : Over) (c : After-forget g) → let r = rules_of c.args.self.now.shelf (g.G.NotingGoods.goods c.args.self.now.goods) in (r.carries (claims_book c.remove.new.self) ≡ true) × (every (readable r) (claims_book c.remove.new.self) ≡ true)
left g c =
    let s = c.args.self.now in
    let f = g.G.NotingGoods.goods s.goods in
    let b = claims_book s.claims in
    leaves (rules_of s.shelf f) (fixed_laws s.shelf f) b _ _ (rises_says b s.claims.ordered) s.carries s.reads c.remove.ensures.after

pub invariant_of-self-clause-carries : goal.invariant_of-self-clause-carries
invariant_of-self-clause-carries g c = rw c.forget.ensures.same (left g c).0

pub invariant_of-self-clause-noted : goal.invariant_of-self-clause-noted
invariant_of-self-clause-noted g c =
    let s = c.args.self.now in
    let k = c.args.key in
    let b = claims_book s.claims in
    ap (g.G.NotingGoods.noted c.forget.new.self) c.remove.ensures.after ∙ c.forget.ensures.kept k.0 b s.noted (lies_there k (find b k.0) c.in_ok-claim.claim (sym c.in_ok-claim.ensures))

pub invariant_of-self-clause-reads : goal.invariant_of-self-clause-reads
invariant_of-self-clause-reads g c =
    subst (λ (f : Fixed). every (readable (rules_of c.args.self.now.shelf f)) (claims_book c.remove.new.self) ≡ true) (sym c.forget.ensures.same) (left g c).1
