use Rattle.std.proofs.Common.{◌≡◌, ℕ, ◌+◌, ◌<◌, List, ◌++◌, map, take, length, get_or, sym, refl, ap, ◌∙◌, arith}
use Rattle.std.proofs.Output.{has_written_append, has_written_of_eq}
use Rattle.std.proofs.lemmas.List.{map_more}
use Rattle.claims.specs.declared.ItemNumber.{ItemNumber}
use Rattle.script.specs.Spaced.{field, spaced}
use Rattle.script.proofs.Splits.{spaced_push}
use Rattle.script.proofs.rows.HandedDisplay.fmt.Goals as goal

unit_more : (items : List ItemNumber) (i : ℕ) (d : ItemNumber) → i < length items → spaced (map (λ u. u.0) (take i items)) ++ field (get_or items i d).0 ≡ spaced (map (λ u. u.0) (take (i + 1) items))
unit_more items i d l = sym (ap spaced (map_more (λ u. u.0) items i d l) ∙ spaced_push (map (λ u. u.0) (take i items)) (get_or items i d).0)

pub loop-unit-preserved : goal.loop-unit-preserved
loop-unit-preserved g c = λ plain.
    let u = c.args.self.now.0 in
    let old = c.loop-unit.invariant plain in
    let new = c.in_ok-write.ensures.writes old.plain refl in
    has_written_of_eq _ _ _ _ _ (unit_more (take u.count u.items) c.loop-unit.unit-index _ (omega arith)) (has_written_append _ _ _ _ _ _ old new)
