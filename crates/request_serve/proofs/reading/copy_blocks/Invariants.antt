use mathlib.Core.List.{List}
use lib.ListN.{take}
use Rattle.request_check.specs.declared.table.Row.{Row}
use Rattle.request_check.specs.declared.table.Table.{Table}
use Rattle.request_serve.proofs.Copied.{Copying}
use Rattle.request_serve.proofs.reading.copy_blocks.Given as goal

-- the rows that the table holds
abbrev pub rows_in : Table → List Row
rows_in t = take t.count t.rows

abbrev pub invariant-loop-i : goal.invariant-loop-i
invariant-loop-i l = Copying (rows_in l.table) l.arena l.list l.count l.initial.out l.out l.at l.i
