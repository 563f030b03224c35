-- There are few claims, and each quantity is small, so that their sum is small.
use Rattle.std.proofs.Common.{rules, arith, ◌^◌, ◌≤◌, length, sym, ◌∙◌}
use Rattle.std.proofs.lemmas.Iterator.{YieldsList-from_slice, YieldsList-from_map}
use Rattle.std.proofs.lemmas.Iterator.Adapters.{fits_from_length, at_most_from_yields_List}
use Rattle.std.proofs.lemmas.Iterator.Consumers.{sum_by_from_yields_List}
use Rattle.claims.specs.declared.Claim.{Claim}
use Rattle.claims.specs.Held.{claims_book}
use Rattle.claims.specs.Limits.{most_claims}
use Rattle.goods.specs.Pools.{quantities_sum}
use Rattle.goods.proofs.quantity.promised.Goals as goal

pub sum-requires-clause-fits : goal.sum-requires-clause-fits
sum-requires-clause-fits c =
    let few : length c.as_slice.result.now ≤ most_claims = search rules in
    fits_from_length _ _ most_claims (2 ^ 64) (at_most_from_yields_List (YieldsList-from_slice c.as_slice.result.now cc) few) c.map.ensures.closure (omega arith) (λ x r q k. search rules)

pub returns-clause-value : goal.returns-clause-value
returns-clause-value c =
    sum_by_from_yields_List (λ (x : Claim). x.demand.first) (claims_book c.args.claims.now) _ c.sum.result c.sum.ensures.ran
    (YieldsList-from_map _ (λ (x : Claim). x.demand.first) (YieldsList-from_slice (claims_book c.args.claims.now) cc) c.map.ensures.closure (λ x r q k. search rules))
    ∙ sym (quantities_sum (claims_book c.args.claims.now))

pub returns-clause-small : goal.returns-clause-small
returns-clause-small c =
    let few : length c.as_slice.result.now ≤ most_claims = search rules in
    let run = c.sum.ensures.runs tt in
    let below = fits_from_length _ _ most_claims (2 ^ 40) (at_most_from_yields_List (YieldsList-from_slice c.as_slice.result.now cc) few) c.map.ensures.closure (omega arith) (λ x r q k. search rules) run.0 run.0.seen run.1 in
    omega (arith, below, run.3)
