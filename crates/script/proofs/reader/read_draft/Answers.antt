use Rattle.std.proofs.Common.{◌+◌, ◌*◌, ◌≤◌, ◌/◌, length, sym, ap, ◌∙◌, arith}
use Rattle.broker.specs.Drafts.{demands_of, with_demand}
use Rattle.script.proofs.Triples.{chunk_demand, one_too_many, demand_more}
use Rattle.script.proofs.reader.read_draft.Goals as goal

pub returns-in_err-ok : goal.returns-in_err-ok
returns-in_err-ok c =
    let more : 3 * c.loop-shelf.shelf-index + 3 ≤ length c.args.numbers.now = omega (arith, c.as_chunks.ensures.front_len) in
    rw c.from_residual.ensures (one_too_many c.args.numbers.now (demands_of c.loop-shelf.draft) c.loop-shelf.shelf-index more c.loop-shelf.invariant c.push.result c.push.ensures.value (sym c.ok.ensures.value ∙ c.in_err-ok.was))

pub loop-shelf-preserved : goal.loop-shelf-preserved
loop-shelf-preserved c =
    let i = c.loop-shelf.shelf-index in
    let ns = c.args.numbers.now in
    let more : 3 * i + 3 ≤ length ns = omega (arith, c.as_chunks.ensures.front_len) in
    let same = chunk_demand ns c.as_chunks.result.0.now (length ns / 3) i c.as_chunks.ensures.front (omega (arith, c.as_chunks.ensures.front_len)) in
    demand_more ns (demands_of c.loop-shelf.draft) i more c.loop-shelf.invariant c.push.result c.push.ensures.value (sym c.ok.ensures.value ∙ c.in_ok-ok.was) _ (c.push.ensures.after ∙ ap (λ d. with_demand d (demands_of c.loop-shelf.draft)) same)
