use Rattle.std.proofs.Common.{ap, ◌∙◌}
use Rattle.claims.specs.Book.{Book}
use Rattle.machine.specs.Machine.{start}
use Rattle.meeting.specs.Stock.{goods}
use Rattle.meeting.proofs.open_meeting.Goals as goal

pub returns : goal.returns
returns c =
    let s = c.in_ok-stock.ensures in
    let b = c.in_ok-new.ensures in
    record {
      consistent = b.consistent;
      ruled = ap goods.rules b.goods ∙ s.ruled;
      state = b.state ∙ ap (λ (z : Book). start 1 z) s.unclaimed;
    }
