-- `fields::over` meets its contract: a sum of two fields fits 64 bits. Assumes nothing.
use lib.IntN.{◌+ℤ◌}
use Rattle.byte_parts.proofs.Laws.{plus_mag, op_fits, op_clean}
use Rattle.rule_purse.proofs.fields.over.Goals as goal

pub overflow_add-result : goal.overflow_add-result
overflow_add-result c = op_fits ◌+ℤ◌ plus_mag c.value-x.result c.value-y.result c.value-x.ensures.1 c.value-y.ensures.1

pub returns : goal.returns
returns c =
    rw (op_clean ◌+ℤ◌ plus_mag c.value-x.result c.value-y.result c.value-x.ensures.1 c.value-y.ensures.1, c.value-x.ensures.0, c.value-y.ensures.0)
