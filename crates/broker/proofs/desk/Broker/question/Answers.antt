use Rattle.std.proofs.Common.{refl, rules}
use Rattle.broker.proofs.desk.Broker.question.Goals as goal

pub returns : goal.returns
returns g c = record { kept = λ k. k; same = refl; after = search rules }
