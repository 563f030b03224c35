use Rattle.std.proofs.Common.{sym, subst, rules}
use Rattle.std.proofs.lemmas.Iterator.{YieldsList-from_slice}
use Rattle.std.proofs.lemmas.Iterator.Search.{position_from_yields_List}
use Rattle.broker.specs.Holds.{Found}
use Rattle.broker.proofs.Places.{numbered, found}
use Rattle.broker.proofs.holding.position.Goals as goal

pub returns : goal.returns
returns c =
    let xs = c.args.live.now in
    let n = c.args.number.0 in
    let is = position_from_yields_List (numbered n) _ _ _ c.position.ensures.ran (YieldsList-from_slice xs cc) (λ x b q k. search rules) in
    subst (λ o. Found n xs o) (sym is) (found n xs)
