-- The claims among the steps are reached, and the sheet has their goods.
use Rattle.std.proofs.Common.{◌≡◌, ◌-◌, ◌<◌, ◌≤◌, length, Some}
use Rattle.std.specs.List.{slice_get}
use Rattle.matching.specs.Paths.{fits, step_at}
use Rattle.matching.proofs.Reaching.{Front, Looked}
use Rattle.matching.proofs.reach.reach.Given as goal

abbrev pub invariant-loop-step : goal.invariant-loop-step
invariant-loop-step g l =
    Front (fits g.G.Suits.suiting l.goods l.claims) (length l.claims) l.new l.allotment l.steps.items l.sheet.0.now l.from (length l.steps.items) ×
    (length l.goods ≤ length l.sheet.0.now) × (l.sheet.0.ghost_name ≡ l.initial.sheet.0.ghost_name)

abbrev pub decreases-loop-step : goal.decreases-loop-step
decreases-loop-step g l = length l.claims - l.from

abbrev pub invariant-loop-good : goal.invariant-loop-good
invariant-loop-good g l =
    Front (fits g.G.Suits.suiting l.goods l.claims) (length l.claims) l.new l.allotment l.steps.items l.sheet.0.now l.from (length l.steps.items) ×
    (l.from < length l.steps.items) ×
    (slice_get l.claims (step_at l.steps.items l.from).claim ≡ Some l.asking) ×
    Looked (fits g.G.Suits.suiting l.goods l.claims) l.sheet.0.now (step_at l.steps.items l.from).claim l.good ×
    (length l.goods ≤ length l.sheet.0.now) × (l.sheet.0.ghost_name ≡ l.initial.sheet.0.ghost_name)
