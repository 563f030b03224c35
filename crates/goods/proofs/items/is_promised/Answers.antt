-- The claims are looked through from the first.
use Rattle.std.proofs.Common.{rules, tests, sym, ◌∙◌}
use Rattle.std.proofs.lemmas.Iterator.{YieldsList-from_slice}
use Rattle.std.proofs.lemmas.Iterator.Search.{any_from_yields_List}
use Rattle.claims.specs.Held.{claims_book}
use Rattle.goods.specs.Items.{names_any}
use Rattle.goods.proofs.items.is_promised.Goals as goal

pub returns : goal.returns
returns c =
    any_from_yields_List _ _ _ _ c.any.ensures.ran (YieldsList-from_slice (claims_book c.args.claims.now) cc) (λ x b q k. search (rules, tests))
    ∙ sym (names_any c.args.item (claims_book c.args.claims.now))
