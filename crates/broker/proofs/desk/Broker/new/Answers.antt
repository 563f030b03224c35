use Rattle.std.proofs.Common.{◌≡◌, vec_items, sym, refl, subst, rules}
use Rattle.machine.specs.Entries.{Consistent}
use Rattle.machine.specs.Machine.{start}
use Rattle.machine.proofs.Keeping.{consistent-start}
use Rattle.broker.specs.Held.{state}
use Rattle.broker.proofs.desk.Broker.new.Goals as goal

pub invariant_of-result-clause-consistent : goal.invariant_of-result-clause-consistent
invariant_of-result-clause-consistent g c =
    let book = g.R.Resource.book c.args.resource in
    let begun : state 0 c.then_some-next.result (vec_items c.in-Ok.live) book ≡ start c.args.first.0 book = search rules in
    ∣ subst Consistent (sym begun) (consistent-start c.args.first.0 book) ∣₁

pub returns-in-Ok : goal.returns-in-Ok
returns-in-Ok g c =
    let book = g.R.Resource.book c.args.resource in
    let begun : state 0 c.then_some-next.result (vec_items c.in-Ok.live) book ≡ start c.args.first.0 book = search rules in
    record {
      goods = refl;
      state = begun;
      consistent = subst Consistent (sym begun) (consistent-start c.args.first.0 book);
    }
