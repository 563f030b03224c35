use Rattle.std.proofs.Common.{◌≡◌, vec_items, sym, refl, ap, ◌∙◌, subst, arith, rules}
use Rattle.std.proofs.lemmas.Fn.{filter_same, fronts}
use Rattle.std.proofs.lemmas.List.{at_drop_all}
use Rattle.broker.specs.Held.{live_view, promise_view}
use Rattle.machine.specs.Machine.{kept, keys_of, lift_all}
use Rattle.broker.proofs.Turns.{stays, standing_filter, FirstGone, first_gone}
use Rattle.broker.proofs.holding.lapse.Goals as goal
use Rattle.broker.proofs.holding.lapse.Goals.{After-find}

first : (g : _) (c : After-find g) → FirstGone c.args.clock (vec_items c.args.live.now) c.find.result c.find.new.self.rest.now
first g c =
    let all : c.iter-promises.result.rest.now ≡ vec_items c.args.live.now = search rules in
    subst (λ xs. FirstGone c.args.clock xs c.find.result c.find.new.self.rest.now) all
    (first_gone c.args.clock (λ s. s.rest.now) fronts (λ s t x p. p) (λ s t p. p.0) _ _ (λ x b q k. search rules) _ _ c.find.result c.find.ensures.ran)

pub returns-in_default-clause-stand : goal.returns-in_default-clause-stand
returns-in_default-clause-stand g c =
    let none = subst (λ o. FirstGone c.args.clock (vec_items c.args.live.now) o c.find.new.self.rest.now) c.in_default.is (first g (goal.at.returns-in_default-clause-stand g c).After-find) in
    sym none.0

pub returns-in_default-clause-lifted : goal.returns-in_default-clause-lifted
returns-in_default-clause-lifted g c =
    let none = subst (λ o. FirstGone c.args.clock (vec_items c.args.live.now) o c.find.new.self.rest.now) c.in_default.is (first g (goal.at.returns-in_default-clause-lifted g c).After-find) in
    record { same = refl; after = sym (none.1 _) }

pub returns-clause-stand : goal.returns-clause-stand
returns-clause-stand g c =
    ap live_view (filter_same _ (stays c.args.clock) _ (λ x b f' k. search rules) _ _ c.retain.ensures.filtered)
    ∙ standing_filter c.args.clock (vec_items c.args.live.now)

pub returns-clause-lifted : goal.returns-clause-lifted
returns-clause-lifted g c =
    let m = g.R.Resource in
    let b = m.book c.args.resource.now in
    let some = subst (λ o. FirstGone c.args.clock (vec_items c.args.live.now) o c.find.new.self.rest.now) c.in-Some.is (first g (goal.at.returns-clause-lifted g c).After-find) in
    let lifted : m.book c.loop-promise.resource ≡ kept c.args.clock (live_view c.find.new.self.rest.now) (lift_all (keys_of (promise_view c.in-Some.first.now)) b) =
    sym (at_drop_all (λ l. kept c.args.clock (live_view l) (m.book c.loop-promise.resource)) c.loop-promise.promise-iterator.rest.now 0 (omega (arith, c.in-None.ensures.steps.0)))
    ∙ c.loop-promise.invariant.1
    ∙ ap (λ s. kept c.args.clock (live_view s.rest.now) (m.book c.lift_claims.new.resource)) c.into_iter-promise-iterator.ensures.into_iter_gives
    ∙ ap (kept c.args.clock (live_view c.find.new.self.rest.now)) c.lift_claims.ensures.after in
    record { same = c.loop-promise.invariant.0 ∙ c.lift_claims.ensures.same; after = lifted ∙ sym (some b) }
