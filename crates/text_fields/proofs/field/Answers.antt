-- `field` meets its contract: the field at a place goes to its end. Assumes nothing.
use mathlib.Core.Path.{sym, ◌∙◌}
use Rattle.text_fields.proofs.EndLaws.{end_here}
use Rattle.text_fields.proofs.field.Goals as goal

pub part-requires : goal.part-requires
part-requires c = c.field_end-end.ensures.1

pub returns : goal.returns
returns c =
    let a = c.args in
    c.part.ensures ∙ rw c.field_end-end.ensures.0 (end_here a.separator a.s.now c.field_start-from.result ∙ sym c.field_start-from.ensures)
