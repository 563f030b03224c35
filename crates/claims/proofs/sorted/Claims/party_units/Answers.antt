use Rattle.std.proofs.Common.{◌≤◌, ◌^◌, length, sym, ap, ◌∙◌, refl, arith, rules, tests}
use Rattle.std.proofs.lemmas.Iterator.{YieldsList-from_slice, YieldsList-from_map}
use Rattle.std.proofs.lemmas.Iterator.Adapters.{fits_from_length, at_most_from_yields_List}
use Rattle.std.proofs.lemmas.Iterator.Consumers.{sum_by_from_yields_List}
use Rattle.std.proofs.lemmas.List.Recursion.{is_sum_by}
use Rattle.claims.specs.Limits.{most_claims}
use Rattle.claims.specs.Units.{share, units_of}
use Rattle.claims.proofs.sorted.Claims.party_units.Goals as goal

-- at most 256 claims, each of at most 60000 units
pub sum-requires-clause-fits : goal.sum-requires-clause-fits
sum-requires-clause-fits g c =
    let s = c.args.self.now in
    let few : length c.deref.result.now ≤ most_claims = omega (arith, s.few, s.items.ok.0, ap length c.deref.ensures.value) in
    fits_from_length _ _ most_claims (2 ^ 64) (at_most_from_yields_List (YieldsList-from_slice c.deref.result.now cc) few) c.map.ensures.closure (omega arith) (λ x r q k. search rules)

pub returns : goal.returns
returns g c =
    let counts = g.C.Counting.counts c.args.counting.now in
    let p = c.args.party.0 in
    let b = c.deref.result.now in
    sum_by_from_yields_List (share counts p) b c.map.result c.sum.result c.sum.ensures.ran
    (YieldsList-from_map _ (share counts p) (YieldsList-from_slice b cc) c.map.ensures.closure (λ x r q k. search (rules, tests)))
    ∙ sym (is_sum_by (units_of counts p) (share counts p) refl (λ _ _. refl) b) ∙ ap (units_of counts p) c.deref.ensures.value
