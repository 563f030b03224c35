use Rattle.std.proofs.Common.{◌≡◌, [], replicate, ap, ◌∙◌}
use Rattle.std.proofs.lemmas.Result.{IfOk-from_err}
use Rattle.claims.specs.Book.{Book, merge}
use Rattle.claims.specs.Limits.{last_party}
use Rattle.claims.specs.Rules.{Rules}
use Rattle.goods.specs.NamedGoods.{named}
use Rattle.goods.specs.Pooled.{pool}
use Rattle.goods.specs.Views.{pool_book, named_book}
use Rattle.compound.specs.Joined.{joined}
use Rattle.compound.specs.Limited.{limited}
use Rattle.meeting.specs.Stock.{Stocked}
use Rattle.meeting.proofs.open_stock.Goals as goal

pub returns-in_err-tables : goal.returns-in_err-tables
returns-in_err-tables c = IfOk-from_err c.from_residual-in_err-tables.result Stocked c.from_residual-in_err-tables.ensures.0

pub returns : goal.returns
returns c =
    let p = c.in_ok-buggies.buggies in
    let t = c.in_ok-tables.tables in
    let pooled = c.in_ok-buggies.ensures.opened in
    let tabled = c.in_ok-tables.ensures.opened in
    let both = c.new-goods.ensures.fresh in
    let none : merge (pool_book p) (named_book t) ≡ [] = ap (λ (a : Book). merge a (named_book t)) pooled.unclaimed ∙ tabled.unclaimed in
    let all = c.new-3.ensures.fresh in
    record {
      ruled = all.unclaimed both.empty ∙ ap (limited (replicate last_party 8)) (both.unclaimed none ∙ ap (λ (r : Rules). joined 1 r (named t.shelf t.goods.count)) pooled.ruled ∙ ap (λ (r : Rules). joined 1 (pool 1 6) r) tabled.ruled);
      unclaimed = all.empty;
    }
