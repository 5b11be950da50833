-- `text_pull::refill` meets its contract: what a read answered is taken in. Assumes nothing.
use Rattle.std.proofs.Common.{arith, sym, ◌∙◌}
use Rattle.text_pull.proofs.Stages.{open_reading}
use Rattle.text_pull.proofs.Pulls.{refill_read}
use Rattle.text_pull.proofs.refill.Goals as goal

pub returns : goal.returns
returns g c =
    refill_read c.args.flow c.take_in.result c.args.chunk.now c.read-got.new.chunk c.read-got.result (omega arith)
    (open_reading c.args.flow.stage c.requires.3 (sym c.is_end.ensures ∙ c.if-is_end.false)) c.read-got.auto.chunk c.take_in.ensures
