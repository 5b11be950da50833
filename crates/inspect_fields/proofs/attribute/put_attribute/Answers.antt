-- `attribute::put_attribute` meets its contract: the number, then what a defined or an undefined attribute says. Assumes nothing.
use borrow.Author.Rules.{rules}
use native.Mathlib.Omega.{arith}
use mathlib.Core.Path.{sym, ◌∙◌}
use mathlib.Core.List.{[], ◌∷◌}
use Rattle.service_code.specs.Code.{number_of}
use Rattle.text_numbers.specs.Decimal.{dec_text}
use Rattle.text_stream.proofs.Prints.{written-more}
use Rattle.text_print.specs.Print.{closed}
use Rattle.inspect_fields.specs.Attribute.{attribute_fields}
use Rattle.inspect_fields.proofs.attribute.put_attribute.Goals as goal

pub returns-in-Some : goal.returns-in-Some
unfolding attribute_fields
returns-in-Some c =
    let a = c.args in
    let e = sym c.attribute.ensures ∙ c.in-Some.is in
    rw e (record { written = written-more (closed 9 (dec_text (number_of a.code))) _ (rw c.number-number.ensures at c.put_number-next.ensures.written) (rw c.requires_key-keyed.ensures at c.put_defined.ensures.written); upper_bound = omega (arith, c.put_number-next.ensures.upper_bound, c.put_defined.ensures.upper_bound) })

pub returns-in-None : goal.returns-in-None
unfolding attribute_fields
returns-in-None c =
    let a = c.args in
    let e = sym c.attribute.ensures ∙ c.in-None.is in
    rw e (record { written = written-more (closed 9 (dec_text (number_of a.code))) (closed 10 (45 ∷ 9 ∷ 45 ∷ 9 ∷ 45 ∷ [])) (rw c.number-number.ensures at c.put_number-next.ensures.written) c.put_word.ensures.written; upper_bound = omega (arith, c.put_number-next.ensures.upper_bound, c.put_word.ensures.upper_bound) })
