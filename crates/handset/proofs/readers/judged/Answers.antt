-- Its own refusal, or whether both lists find room.
use mathlib.Core.Path.{sym, ◌∙◌}
use borrow.Author.Rules.{rules}
use Rattle.handset_words.specs.Message.{roomed}
use Rattle.handset.proofs.readers.judged.Goals as goal

pub returns-then-both : goal.returns-then-both
unfolding roomed
returns-then-both c = rw (c.in-Ok.is, sym c.both_fit-both.ensures ∙ c.if-both.true)

pub returns-in-Err : goal.returns-in-Err
unfolding roomed
returns-in-Err c = rw c.in-Err.is

pub returns-else-both : goal.returns-else-both
unfolding roomed
returns-else-both c = rw (c.in-Ok.is, sym c.both_fit-both.ensures ∙ c.if-both.false)
