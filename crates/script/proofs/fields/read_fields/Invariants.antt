use Rattle.script.proofs.Splits.{Sofar}
use Rattle.script.proofs.fields.read_fields.Given as goal

abbrev pub invariant-loop-field : goal.invariant-loop-field
invariant-loop-field l = Sofar goal.iterator-loop-field.next_gives l.bytes l.field-iterator l.kept l.numbers.items
