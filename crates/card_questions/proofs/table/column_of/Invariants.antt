use mathlib.Core.Path.{◌≡◌, sym, ◌∙◌}
use mathlib.Core.List.{map}
use Prim.Native.Nat.{◌-◌}
use native.Mathlib.Omega.{arith}
use lib.ListN.{length, length-map}
use borrow.Author.Rules.{rules}
use Rattle.card_questions.specs.Table.{cell_of}
use Rattle.card_questions.proofs.Columns.{column_read}
use Rattle.card_questions.proofs.Filled.{Filled, none_filled, one_filled, all-filled}
use Rattle.card_questions.proofs.table.column_of.Given as goal

abbrev pub invariant-loop-i : goal.invariant-loop-i
invariant-loop-i l = Filled (map (cell_of l.column) l.node-items) l.initial.cells l.cells l.i
