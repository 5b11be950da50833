-- `attribute::put_defined` meets its contract: kind, right and key, one after the other. Assumes nothing.
use borrow.Author.Rules.{rules}
use native.Mathlib.Omega.{arith}
use Rattle.service_code.specs.Code.{kind_of}
use Rattle.text_stream.proofs.Prints.{written-more}
use Rattle.text_print.specs.Print.{closed}
use Rattle.inspect_fields.specs.Attribute.{kind_text, right_text, key_text}
use Rattle.inspect_fields.proofs.attribute.put_defined.Goals as goal

pub returns : goal.returns
returns c =
    let a = c.args in
    let w2 = written-more (closed 9 (kind_text (kind_of a.attribute))) (closed 9 (right_text a.attribute)) (rw c.kind.ensures at c.put_kind-next.ensures.written) c.put_right-after.ensures.written in
    (record { written = written-more _ (closed 10 (key_text a.keyed)) w2 c.put_key.ensures.written; upper_bound = omega (arith, c.put_kind-next.ensures.upper_bound, c.put_right-after.ensures.upper_bound, c.put_key.ensures.upper_bound) })
