-- `field_end` meets its contract: a search, where the place is within the text. Assumes nothing.
use mathlib.Core.Path.{sym, ◌∙◌}
use native.Mathlib.Omega.{arith}
use Rattle.text_fields.proofs.EndLaws.{end-found, end-past}
use Rattle.text_fields.proofs.field_end.Goals as goal

pub returns-then-s-from : goal.returns-then-s-from
returns-then-s-from c = (sym (end-past _ _ _ c.if-s-from.true), omega arith)

pub returns : goal.returns
returns c = (c.find.ensures.value ∙ sym (end-found _ _ _ c.if-s-from.false), c.find.ensures.within)
