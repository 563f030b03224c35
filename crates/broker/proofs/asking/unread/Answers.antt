use Rattle.std.proofs.Common.{◌≡◌, ◌+◌, sym, ap, ◌∙◌, subst, rules}
use Rattle.std.specs.Option.{option_map}
use Rattle.std.proofs.lemmas.Iterator.{YieldsList-from_slice}
use Rattle.std.proofs.lemmas.Iterator.Search.{position_from_yields_List}
use Rattle.broker.specs.Asks.{Unread}
use Rattle.broker.specs.Drafts.{demands_of}
use Rattle.broker.proofs.Reading.{strange, unread}
use Rattle.broker.proofs.asking.unread.Goals as goal

pub returns : goal.returns
returns g c =
    let r = g.R.Resource.rules c.args.resource.now in
    let ds = demands_of c.args.draft.now in
    let is = position_from_yields_List (strange r) _ _ _ c.position.ensures.ran (YieldsList-from_slice ds cc) (λ x b q k. search rules) in
    let next : c.map.result ≡ option_map (λ i. i + 1) c.position.result = search rules in
    subst (λ o. Unread r ds o) (sym (next ∙ ap (option_map (λ i. i + 1)) is)) (unread r ds)
