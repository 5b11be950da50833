-- `fields::less` meets its contract: a difference of two fields fits 64 bits. Assumes nothing.
use mathlib.Core.Path.{sym}
use lib.IntN.{◌-ℤ◌}
use Rattle.byte_parts.proofs.Laws.{minus_mag, op_fits, op_clean}
use Rattle.rule_purse.proofs.fields.less.Goals as goal

pub overflow_sub-x : goal.overflow_sub-x
overflow_sub-x c = op_fits ◌-ℤ◌ minus_mag c.value-x.result c.value-y.result c.value-x.ensures.1 c.value-y.ensures.1

pub returns : goal.returns
returns c =
    let x = c.value-x in
    let y = c.value-y in
    rw (sym x.ensures.0, sym y.ensures.0) (rw (op_clean ◌-ℤ◌ minus_mag x.result y.result x.ensures.1 y.ensures.1) at c.ranged.ensures)
