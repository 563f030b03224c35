use Rattle.std.proofs.Common.{string_bytes}
use Rattle.script.specs.Lines.{lines_of}
use Rattle.script.specs.Runs.{by_broker}
use Rattle.script.proofs.Turns.{Sofar}
use Rattle.script.proofs.whole.answer_script.Given as goal

abbrev pub invariant-loop-n : goal.invariant-loop-n
invariant-loop-n g l = Sofar (by_broker g.R.Resource) l.initial.broker l.script (string_bytes l.initial.out) (lines_of l.n-iterator.b.0.now) l.n-iterator.a.start l.broker (string_bytes l.out)
