use Rattle.std.proofs.Common.{string_bytes, ◌∙◌, ⊎_elim, arith}
use Rattle.std.proofs.lemmas.Result.{err_from_is_err_and}
use Rattle.script.specs.Lines.{lines_of}
use Rattle.script.specs.Rows.{said}
use Rattle.script.specs.Runs.{by_broker}
use Rattle.script.proofs.Turns.{numbered, one_more, stopped, answered}
use Rattle.script.proofs.Views.{line_said, runs, runs_too_long}
use Rattle.script.proofs.whole.answer_script.Goals as goal

pub returns-then-script-gt-MOST_BYTES : goal.returns-then-script-gt-MOST_BYTES
returns-then-script-gt-MOST_BYTES g c =
    runs_too_long g.R.Resource c.push_row.result c.args.broker.now c.args.script.now (string_bytes c.args.out.now) _ (omega arith) c.push_row.ensures

pub loop-n-preserved : goal.loop-n-preserved
loop-n-preserved g c =
    let m = g.R.Resource in
    let row = c.in_ok-row_of_line.ensures in
    let told = line_said m _ _ _ _ row.answer row.told in
    let step = c.in-Some.ensures.steps in
    one_more (by_broker m) c.loop-n.invariant c.in-Some.n c.in-Some.line.now _ (said row.answer) c.row_of_line.new.broker step.0.0 step.1 told c.next.new.self.a.start _ step.0.1 row.added

pub returns-in_err-row_of_line : goal.returns-in_err-row_of_line
returns-in_err-row_of_line g c =
    let m = g.R.Resource in
    let was = c.loop-n.invariant in
    let row = c.in_err-row_of_line.ensures in
    let p = err_from_is_err_and c.from_residual.result c.from_residual.ensures.1 in
    let told = line_said m _ _ _ _ row.answer row.told in
    rw p.1 (runs m _ c.args.broker.now c.row_of_line.new.broker c.args.script.now (string_bytes c.args.out.now) _ was.rows (row.added ∙ was.added) (stopped (by_broker m) was c.in-Some.n c.in-Some.line.now (lines_of c.next.new.self.b.0.now) (said row.answer) c.row_of_line.new.broker c.in-Some.ensures.steps.0.0 c.in-Some.ensures.steps.1 told (omega arith)))

pub returns : goal.returns
returns g c =
    let m = g.R.Resource in
    let was = c.loop-n.invariant in
    let step = c.in-None.ensures.steps in
    runs m _ c.args.broker.now c.loop-n.broker c.args.script.now (string_bytes c.args.out.now) _ was.rows was.added (answered (by_broker m) was (⊎_elim (λ over. absurd (omega (arith, over.1.0, numbered (by_broker m) was (omega arith)))) (λ over. over.1.0) step) (omega arith))
