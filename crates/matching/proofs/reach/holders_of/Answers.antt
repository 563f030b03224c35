-- No claim is entered at first.
use Rattle.std.proofs.Common.{refl}
use Rattle.matching.proofs.Entering.{entered_start}
use Rattle.matching.proofs.reach.holders_of.Goals as goal

pub loop-i-init : goal.loop-i-init
loop-i-init c = (refl, entered_start c.args.allotment.now c.args.new 256)
