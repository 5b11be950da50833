use Prim.Native.Nat.{◌-◌}
use mathlib.Core.List.{List}
use lib.ListN.{take}
use Rattle.request_check.specs.declared.table.Row.{Row}
use Rattle.request_check.specs.declared.table.Table.{Table}
use Rattle.request_runs.proofs.Walking.{Between, Inside}
use Rattle.request_runs.proofs.run.apply.Given as goal

-- the rows that the table holds
abbrev pub rows_in : Table → List Row
rows_in t = take t.count t.rows

abbrev pub invariant-scan : goal.invariant-scan
invariant-scan l =
    Inside (rows_in l.table) l.data l.list l.count l.initial.stage l.initial.at l.from l.row l.number l.stage l.at l.end

abbrev pub decreases-scan : goal.decreases-scan
decreases-scan l = l.count - l.end

abbrev pub invariant-runs : goal.invariant-runs
invariant-runs l =
    Between (rows_in l.table) l.data l.list l.count l.initial.stage l.stage l.at l.end

abbrev pub decreases-runs : goal.decreases-runs
decreases-runs l = l.count - l.end
