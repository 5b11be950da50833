-- A generation that was read is at most 255. Assumes nothing.
use mathlib.Core.Path.{sym, ◌∙◌}
use native.Mathlib.Omega.{arith}
use borrow.Author.Rules.{rules}
use Rattle.text_numbers.proofs.DecimalLaws.{decimal-most}
use Rattle.line_image.proofs.line.limit_line.Goals as goal

pub overflow_cast-result : goal.overflow_cast-result
overflow_cast-result c = omega (arith, decimal-most 255 _ _ (sym c.number_at.ensures ∙ c.in_ok-generation.was))
