-- `line_answer::put_status` meets its contract: five fields, one after the other. Assumes nothing.
use borrow.Author.Rules.{rules}
use native.Mathlib.Omega.{arith}
use mathlib.Core.List.{[], ◌∷◌}
use Rattle.text_numbers.specs.Decimal.{dec_text}
use Rattle.text_numbers.specs.Hex.{hex_text}
use Rattle.text_numbers.proofs.HexLaws.{hex_text-long}
use Rattle.text_stream.proofs.Prints.{written-more}
use Rattle.text_print.specs.Print.{closed}
use Rattle.line_answer.specs.Answer.{where_text, status_fields}
use Rattle.line_answer.proofs.put_status.Goals as goal

pub put_hex_field-requires : goal.put_hex_field-requires
put_hex_field-requires c =
    omega (arith, hex_text-long c.args.read.now)

pub returns : goal.returns
unfolding status_fields
returns c =
    let a = c.args in
    let w2 = written-more (closed 9 (dec_text a.ordinal)) (closed 9 (hex_text (a.flag1 ∷ []))) c.put_number-a.ensures.written c.put_flag-b.ensures.written in
    let w3 = written-more _ (closed 9 (hex_text (a.flag2 ∷ []))) w2 c.put_flag-c.ensures.written in
    let w4 = written-more _ (closed 9 (where_text a.flag1)) w3 c.put_where-d.ensures.written in
    (record { written = written-more _ (hex_text a.read.now) w4 record { place = c.put_hex_field.ensures.value; bytes = c.put_hex_field.ensures.out_after }; upper_bound = omega (arith, hex_text-long a.read.now) })
