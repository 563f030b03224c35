-- The path is shorter with each turn, and the claims but the new one keep having goods.
use Rattle.std.proofs.Common.{ℕ, ◌≤◌, Bool, length}
use Rattle.matching.specs.Paths.{Allots, Path, all_but}
use Rattle.matching.proofs.way.Way.flip.Given as goal

abbrev pub invariant-loop-at : goal.invariant-loop-at
invariant-loop-at l =
    (l.at ≤ l.self.place) ×
    ((fit : ℕ → ℕ → Bool) → Path fit (length l.initial.allotment) l.new l.initial.allotment l.steps l.self.place l.self.good → Allots fit (all_but (length l.initial.allotment) l.new) l.initial.allotment →
    Path fit (length l.initial.allotment) l.new l.allotment l.steps l.at l.given × Allots fit (all_but (length l.initial.allotment) l.new) l.allotment)

abbrev pub decreases-loop-at : goal.decreases-loop-at
decreases-loop-at l = l.at
