use Rattle.std.proofs.Common.{◌-◌, ◌≤◌, length}
use Rattle.booking.proofs.read_some.Given as goal

abbrev pub invariant-loop-len : goal.invariant-loop-len
invariant-loop-len g l = l.len ≤ length l.bytes

abbrev pub decreases-loop-len : goal.decreases-loop-len
decreases-loop-len g l = length l.bytes - l.len
