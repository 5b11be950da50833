-- `field_count` meets its contract: the fields of the rest, and those passed, are those of the whole. Assumes nothing.
use native.Mathlib.Omega.{arith}
use Rattle.text_fields.proofs.FieldLaws.{count_here, count_next, count-end}
use Rattle.text_fields.proofs.field_count.Goals as goal
use Rattle.text_fields.proofs.field_count.Goals.{then-b-separator, else-b-separator}

pub loop-b-preserved : goal.loop-b-preserved
loop-b-preserved c =
    let a = c.args in
    let s = a.s.now in
    elim c.if-b-separator.branch [
      | then-b-separator w ↦ let e = count_here a.separator s c.loop-b.b-index (omega arith) w.if-b-separator.true in omega arith
      | else-b-separator w ↦ let e = count_next a.separator s c.loop-b.b-index (omega arith) w.if-b-separator.false in omega arith
    ]

pub returns : goal.returns
returns c =
    let a = c.args in
    let e = count-end a.separator a.s.now c.loop-b.b-index (omega arith) in
    omega arith
