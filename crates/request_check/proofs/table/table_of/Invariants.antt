-- The invariant: the first i places hold the rows of the first i codes, and the others none.
use mathlib.Core.Path.{◌≡◌}
use Prim.Native.Nat.{min}
use lib.ListN.{length}
use Rattle.request_check.specs.Row.{no_row, row_of}
use Rattle.request_check.proofs.Rows.{filled}
use Rattle.request_check.proofs.table.table_of.Given as goal

abbrev pub invariant-loop-i : goal.invariant-loop-i
invariant-loop-i l = (l.n ≡ min (length l.codes) 16) × (l.rows ≡ filled (row_of l.nodes) no_row 16 l.codes l.i)
