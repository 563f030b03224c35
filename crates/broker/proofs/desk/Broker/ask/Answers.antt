use Rattle.std.proofs.Common.{rules}
use Rattle.broker.proofs.Consistency.{is_step}
use Rattle.broker.proofs.desk.Broker.ask.Goals as goal

pub returns-in_err-check_draft : goal.returns-in_err-check_draft
returns-in_err-check_draft g c = record { kept = c.at_minute.ensures.kept; same = c.at_minute.ensures.same; after = search rules }

pub returns : goal.returns
returns g c = is_step g.R.Resource _ _ (search rules) (search rules)
