-- `put::put_refusal` meets its contract: `!`, and the number. Assumes nothing.
use borrow.Author.Rules.{rules}
use native.Mathlib.Omega.{arith}
use mathlib.Core.List.{[], ◌∷◌}
use Rattle.answers.specs.Refusal.{refusal_number}
use Rattle.text_numbers.specs.Decimal.{dec_text}
use Rattle.text_stream.proofs.Prints.{written-more}
use Rattle.text_print.specs.Print.{closed}
use Rattle.inspect_fields.specs.Fields.{refusal_told}
use Rattle.inspect_fields.proofs.put.put_refusal.Goals as goal

pub returns : goal.returns
unfolding refusal_told
returns c =
    let a = c.args in
    let e = c.number.ensures in
    (record { written = written-more (closed 9 (33 ∷ [])) (closed 10 (dec_text (refusal_number a.refusal))) c.put_mark-next.ensures.written (rw e at c.put_number.ensures.written); upper_bound = omega (arith, c.put_mark-next.ensures.upper_bound, c.put_number.ensures.upper_bound) })
