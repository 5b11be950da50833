-- `text_pull::is_interrupt` meets its contract: no negative error has the bits of this one. Assumes nothing.
use Rattle.text_pull.proofs.Stages.{interrupt_bits}
use Rattle.text_pull.proofs.is_interrupt.Goals as goal

pub returns : goal.returns
returns c = interrupt_bits c.args.errno c.ranges.errno
