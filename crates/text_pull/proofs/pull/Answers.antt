-- `text_pull::pull` meets its contract: what was fed is what the pull took. Assumes nothing.
use Rattle.std.proofs.Common.{arith}
use Rattle.text_pull.proofs.Pulls.{pull_done}
use Rattle.text_pull.proofs.pull.Goals as goal

pub returns : goal.returns
returns g c =
    pull_done c.args.flow c.args.chunk.now c.args.line.now c.refill-came.result c.refill-came.new.chunk c.refill-came.ensures c.refill-came.auto.chunk (omega arith) (omega arith) c.feed-place.result c.fed.result c.feed-place.new.line c.feed-place.ensures.value c.feed-place.ensures.line_after c.fed.ensures
