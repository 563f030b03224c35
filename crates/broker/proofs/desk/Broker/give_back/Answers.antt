use Rattle.std.proofs.Common.{rules}
use Rattle.broker.proofs.desk.Broker.give_back.Goals as goal

pub returns : goal.returns
returns g c = record { kept = c.end.ensures.kept; same = c.end.ensures.same; after = search rules }
