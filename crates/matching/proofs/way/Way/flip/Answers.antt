-- A turn is one step back along the path.
use Rattle.std.proofs.Common.{◌+◌, ◌<◌, ◌≤◌, length, arith}
use Rattle.matching.proofs.Flipping.{path_step}
use Rattle.matching.proofs.way.Way.flip.Goals as goal

pub loop-at-preserved : goal.loop-at-preserved
loop-at-preserved c =
    let q = c.args.steps.now in
    let low : c.loop-at.at < c.args.self.now.place + 1 = omega (arith, c.loop-at.invariant.0) in
    let earlier = c.requires.queued.earlier c.loop-at.at c.loop-at-test.true low in
    let room : length c.args.allotment.now ≤ length c.loop-at.allotment = omega (arith, c.loop-at.auto.allotment) in (
      omega arith,
      λ fit w a.
          let h = c.loop-at.invariant.1 fit w a in
          rw (c.replace-given.ensures.value, c.replace-given.ensures.after)
          (path_step fit (length c.args.allotment.now) c.args.new c.loop-at.allotment q c.loop-at.at c.loop-at.given room c.loop-at-test.true h.0 h.1),
    )
