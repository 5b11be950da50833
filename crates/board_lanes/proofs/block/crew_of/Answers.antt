-- `block::crew_of` meets its contract: the bytes up to the trailing spaces. Assumes nothing.
use native.Mathlib.Nat.{sub-zero}
use Rattle.board_lanes.proofs.block.crew_of.Goals as goal

pub returns : goal.returns
returns c =
    rw (sub-zero c.crew_length-n.result, c.crew_length-n.ensures.0, c.crew-s.ensures)
