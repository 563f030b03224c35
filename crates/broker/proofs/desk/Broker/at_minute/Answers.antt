use Rattle.std.proofs.Common.{rules}
use Rattle.std.proofs.Math.Logic.{∥∥₁_map}
use Rattle.broker.specs.View.{view}
use Rattle.broker.proofs.Consistency.{minute_keeps}
use Rattle.broker.proofs.desk.Broker.at_minute.Goals as goal

pub invariant_of-self-clause-consistent : goal.invariant_of-self-clause-consistent
invariant_of-self-clause-consistent g c =
    let b = c.args.self.now in
    ∥∥₁_map b.consistent (λ k. minute_keeps c.args.minute (view g.R.Resource b) (search rules) k)

pub returns : goal.returns
returns g c = record {
  kept = λ k. minute_keeps c.args.minute (view g.R.Resource c.args.self.now) (search rules) k;
  same = c.lapse.ensures.lifted.same;
  after = search rules;
}
