-- The table is right for the claims up to here.
use Rattle.std.proofs.Common.{◌≡◌, ℕ, ◌<◌, length, get_or, None}
use Rattle.claims.specs.Limits.{most_goods}
use Rattle.matching.proofs.Entering.{Entered}
use Rattle.matching.proofs.reach.holders_of.Given as goal

abbrev pub invariant-loop-i : goal.invariant-loop-i
invariant-loop-i l = (length l.holders ≡ most_goods) × ((g : ℕ) → g < length l.holders → Entered l.allotment l.new l.i g (get_or l.holders g None))
