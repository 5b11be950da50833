-- As many zeros as are asked for; over a variable, so that nothing is computed. Assumes nothing.
use Rattle.salvage_shell.proofs.Rooms.{of_length}
use Rattle.salvage_shell.proofs.print_room.Goals as goal

pub returns : goal.returns
returns c = of_length 1048576 0
