-- Nothing, or the fields of a limit.
use native.Mathlib.Omega.{arith}
use mathlib.Core.Path.{◌∙◌, ap}
use lib.ListN.{length-set}
use mir.Syntax.{w32}
use borrow.Author.Rules.{rules}
use Rattle.byte_parts.specs.Word.{word_of}
use Rattle.byte_parts.proofs.Laws.{clean}
use Rattle.handset_bytes.specs.Field.{fields_put}
use Rattle.handset_bytes.proofs.Writes.{limit-put}
use Rattle.handset_bytes.proofs.node.write_limit.Goals as goal

pub returns-in_default : goal.returns-in_default
unfolding fields_put
returns-in_default c = rw c.in_default.is

pub returns-in-Some : goal.returns-in-Some
returns-in-Some c =
    limit-put _ _ _ _ _ _ _ _ _ (c.bits.ensures ∙ ap word_of (clean w32 _ (omega arith)))
    (c.bits-in-Some.ensures ∙ ap word_of (clean w32 _ (omega arith))) c.put_word.ensures c.put_word-in-Some.ensures
    c.in-Some.is
