-- `codes::is_codes` meets its contract: what is a hex field, and whole codes. Assumes nothing.
use mathlib.Core.Path.{sym}
use Rattle.text_numbers.proofs.CodeLaws.{codes_not, codes-none, codes-some}
use Rattle.text_numbers.proofs.codes.is_codes.Goals as goal

pub returns-then-not-is_hex_field : goal.returns-then-not-is_hex_field
returns-then-not-is_hex_field c = sym (codes_not _ (sym c.if-not-is_hex_field.ensures))

pub returns-then-s-eq1 : goal.returns-then-s-eq1
returns-then-s-eq1 c = sym (codes-none _ c.if-s-eq1.true (sym c.if-not-is_hex_field.ensures))

pub returns : goal.returns
returns c = sym (codes-some _ c.if-s-eq1.false (sym c.if-not-is_hex_field.ensures))
