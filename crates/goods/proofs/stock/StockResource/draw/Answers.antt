-- A claim goes out with the unit of its demand, the only one with which the book stays carried.
use Rattle.std.proofs.Common.{sym, ap, ◌∙◌}
use Rattle.claims.specs.Held.{claims_book}
use Rattle.goods.specs.Fixed.{Gone, rules_of, goes-out_as}
use Rattle.goods.proofs.stock.StockResource.draw.Given.{Over}
use Rattle.goods.proofs.stock.StockResource.draw.Goals as goal
use Rattle.goods.proofs.stock.StockResource.draw.Goals.{After-send_out}

gone : (g : Over) (c : After-send_out g) → Gone (rules_of c.args.self.now.shelf (g.G.NotingGoods.goods c.args.self.now.goods)) c.args.key (claims_book c.args.self.now.claims) (claims_book c.send_out.new.self) c.unit_given-unit.result
gone g c =
    let s = c.args.self.now in
    goes-out_as s.shelf (g.G.NotingGoods.goods s.goods) c.args.key (claims_book s.claims) _ c.in_ok-claim.claim c.unit_given-unit.result s.carries s.reads (sym c.in_ok-claim.ensures) c.unit_given-unit.ensures c.send_out.ensures

pub invariant_of-self : goal.invariant_of-self
invariant_of-self g c =
    let s = c.args.self.now in
    let w = gone g c in
    record {
      carries = w.carried;
      noted = ap (g.G.NotingGoods.noted s.goods) c.send_out.ensures ∙ g.met.G.NotingGoods.alike s.goods c.args.key.0 c.unit_given-unit.result.0 (claims_book s.claims) s.noted;
      reads = w.all_read;
    }

pub returns : goal.returns
returns g c = (gone g (goal.at.returns g c).After-send_out).drawn
