use Rattle.std.proofs.Common.{◌≡◌, ◌*◌, take}
use Rattle.broker.specs.Drafts.{demands_of}
use Rattle.script.specs.Format.{triples}
use Rattle.script.proofs.reader.read_draft.Given as goal

abbrev pub invariant-loop-shelf : goal.invariant-loop-shelf
invariant-loop-shelf l = triples (demands_of l.draft) ≡ take (3 * l.shelf-index) l.numbers
