-- A lifted claim leaves with its good.
use Rattle.std.proofs.Common.{vec_items, ap, ◌∙◌}
use Rattle.claims.specs.Book.{every}
use Rattle.claims.specs.Rules.{readable}
use Rattle.claims.proofs.Books.{every-without}
use Rattle.claims.proofs.Ranks.{rises_says}
use Rattle.matching.proofs.Matchings.{matching_settled}
use Rattle.listed.specs.Views.{list_book, list_rules}
use Rattle.listed.proofs.Moves.{lifted_matched}
use Rattle.listed.proofs.list.ListedResource.lift.Goals as goal

pub invariant_of-self : goal.invariant_of-self
invariant_of-self g c =
    let s = c.args.self.now in
    let F = g.G.Suits.suiting in
    let goods = vec_items s.goods in
    let b = list_book s in
    let al = vec_items s.lots.allotment in
    let k = c.args.key.0 in
    record {
      sized = s.sized;
      matched = rw c.remove.ensures.claims (∣ lifted_matched F goods s.sized b al (matching_settled F goods b al s.matched) k _ _ (rises_says b s.lots.claims.ordered) c.remove.ensures.value c.remove.ensures.goods c.remove.ensures.kept ∣₁);
      all_read = ap (every (readable (list_rules g.G.Suits s))) c.remove.ensures.claims ∙ every-without (readable (list_rules g.G.Suits s)) k b s.all_read;
    }
