use Rattle.script.proofs.Pinned.{rows-once}
use Rattle.script.proofs.whole.rows_are_pinned.Goals as goal

pub returns : goal.returns
returns c = rows-once
