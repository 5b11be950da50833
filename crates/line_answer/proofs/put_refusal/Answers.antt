-- `line_answer::put_refusal` meets its contract: five fields, one after the other. Assumes nothing.
use borrow.Author.Rules.{rules}
use native.Mathlib.Omega.{arith}
use mathlib.Core.List.{[], ◌∷◌}
use lib.ListN.{length-set}
use Rattle.text_numbers.specs.Decimal.{dec_text}
use Rattle.text_stream.proofs.Prints.{written-more, written_byte}
use Rattle.text_print.specs.Print.{closed}
use Rattle.line_answer.specs.Answer.{refusal_fields}
use Rattle.line_answer.proofs.put_refusal.Goals as goal

pub shape_of-out : goal.shape_of-out
shape_of-out c = simp length-set (omega arith)

pub returns : goal.returns
unfolding refusal_fields
returns c =
    let a = c.args in
    let w2 = written-more (closed 9 (dec_text a.ordinal)) (closed 9 (33 ∷ [])) c.put_number-a.ensures.written c.put_mark-b.ensures.written in
    let w3 = written-more _ (closed 9 (dec_text a.number)) w2 c.put_number-c.ensures.written in
    let w4 = written-more _ (closed 9 (45 ∷ [])) w3 c.put_mark-d.ensures.written in
    (record { written = written_byte _ 45 w4; upper_bound = omega arith })
