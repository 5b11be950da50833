-- The arena, then the buffers of a write or a read.
use mathlib.Core.Path.{sym, ◌∙◌}
use borrow.Author.Rules.{rules}
use Rattle.request_plan.proofs.Plans.{short_arena, to_write, to_read}
use Rattle.request_plan.proofs.lent_judged.Goals as goal

pub returns-then-is_short : goal.returns-then-is_short
returns-then-is_short c = short_arena _ _ (sym c.is_short.ensures ∙ c.if-is_short.true)

pub returns-then-write : goal.returns-then-write
returns-then-write c =
    to_write _ _ (sym c.is_short.ensures ∙ c.if-is_short.false) c.if-write.true c.write_judged.ensures

pub returns-else-write : goal.returns-else-write
returns-else-write c =
    to_read _ _ (sym c.is_short.ensures ∙ c.if-is_short.false) c.if-write.false c.read_judged.ensures
