-- A claim that waits goes out with the least unit around which all are carried.
use Rattle.std.proofs.Common.{◌≡◌, ◌≤◌, List, length, Some, vec_items, sym, ap, ◌∙◌, subst}
use Rattle.claims.specs.declared.ClaimState.TheVariants.{Waiting}
use Rattle.claims.specs.Book.{find}
use Rattle.claims.specs.Held.{claims_book}
use Rattle.claims.proofs.Ranges.{find_key}
use Rattle.claims.proofs.Ranks.{rises_says}
use Rattle.shelf.proofs.Shelving.{waits_there}
use Rattle.matching.specs.Matching.{Matching}
use Rattle.matching.proofs.Matchings.{matching_settled}
use Rattle.listed.specs.Lawful.{claims_few}
use Rattle.listed.specs.Sends.{GoneOut}
use Rattle.listed.specs.Views.{list_book}
use Rattle.listed.proofs.Drawing.{is_drawn, still_read}
use Rattle.listed.proofs.list.ListedResource.draw.Given.{Over}
use Rattle.listed.proofs.list.ListedResource.draw.Goals as goal
use Rattle.listed.proofs.list.ListedResource.draw.Goals.{After-send_out, In_ok-claim}

-- the claim stands in the book, and waits
waiting : (g : Over) (c : goal.In_ok-claim g) → (find (list_book c.args.self.now) c.args.key.0 ≡ Some c.in_ok-claim.claim) × (c.in_ok-claim.claim.state ≡ Waiting)
waiting g c = waits_there c.args.key (find (list_book c.args.self.now) c.args.key.0) c.in_ok-claim.claim (sym c.in_ok-claim.ensures)

pub send_out-requires : goal.send_out-requires
send_out-requires g c =
    let s = c.args.self.now in
    let b = list_book s in
    let w = (waiting g (goal.at.send_out-requires g c).In_ok-claim).0 in
    record {
      few = subst (λ (goods : List g.row.G.Denot). length goods ≤ 256) (sym c.deref.ensures.value) s.sized;
      there = ap (find b) (find_key c.args.key.0 c.in_ok-claim.claim b w) ∙ w;
      matched = subst (λ (goods : List g.row.G.Denot). Matching g.G.Suits.suiting goods b (vec_items s.lots.allotment)) (sym c.deref.ensures.value) (matching_settled g.G.Suits.suiting (vec_items s.goods) b (vec_items s.lots.allotment) s.matched);
    }

gone : (g : Over) (c : goal.After-send_out g) → GoneOut g.G.Suits.suiting (vec_items c.args.self.now.goods) c.in_ok-claim.claim (list_book c.args.self.now) c.send_out.result.0 (claims_book c.send_out.new.self.claims) (vec_items c.send_out.new.self.allotment)
gone g c =
    let s = c.args.self.now in
    subst (λ (goods : List g.row.G.Denot). GoneOut g.G.Suits.suiting goods c.in_ok-claim.claim (list_book s) c.send_out.result.0 (claims_book c.send_out.new.self.claims) (vec_items c.send_out.new.self.allotment)) c.deref.ensures.value c.send_out.ensures

pub invariant_of-self : goal.invariant_of-self
invariant_of-self g c =
    let s = c.args.self.now in
    let x = gone g (goal.at.invariant_of-self g c).After-send_out in
    let w = (waiting g (goal.at.invariant_of-self g c).In_ok-claim).0 in
    record {
      sized = s.sized;
      matched = ∣ x.matched ∣₁;
      all_read = still_read g.G.Suits.suiting g.G.Suits.formed s.shelf (vec_items s.goods) s.sized c.args.key (list_book s) _ _ c.in_ok-claim.claim _ (rises_says (list_book s) s.lots.claims.ordered) (claims_few s.lots.claims) w x s.all_read;
    }

pub returns : goal.returns
returns g c =
    let s = c.args.self.now in
    let x = gone g (goal.at.returns g c).After-send_out in
    let w = waiting g (goal.at.returns g c).In_ok-claim in
    is_drawn g.G.Suits.suiting g.G.Suits.formed s.shelf (vec_items s.goods) s.sized c.args.key (list_book s) _ _ c.in_ok-claim.claim _ (rises_says (list_book s) s.lots.claims.ordered) (claims_few s.lots.claims) w.0 x w.1
