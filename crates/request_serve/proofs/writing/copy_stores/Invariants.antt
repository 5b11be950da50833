-- The invariant: to copy the stores of the rows left is all that is left.
use lib.ListN.{take}
use Rattle.request_serve.proofs.Stores.{Copying}
use Rattle.request_serve.proofs.writing.copy_stores.Given as goal

abbrev pub invariant-loop-i : goal.invariant-loop-i
invariant-loop-i l = Copying (take l.table.count l.table.rows) l.from l.initial.to l.to l.i
