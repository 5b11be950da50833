-- `card::put_well_formed` meets its contract: what the card says of the codes. Assumes nothing.
use borrow.Author.Rules.{rules}
use native.Mathlib.Omega.{arith}
use mathlib.Core.Path.{ap, ◌∙◌}
use lib.ListN.{replicate}
use Rattle.text_numbers.specs.Codes.{codes_of}
use Rattle.inspect_fields.specs.Fields.{field_one}
use Rattle.inspect_fields.proofs.Lines.{front_put}
use Rattle.inspect_answer.specs.Fields.{list_answer}
use Rattle.inspect_answer.proofs.card.put_well_formed.Goals as goal

pub returns-clause-written : goal.returns-clause-written
returns-clause-written c =
    let a = c.args in
    let t = front_put (replicate 8192 0) (codes_of (field_one a.line.now)) (omega arith) c.read_codes-n.ensures.value.0 c.read_codes-n.ensures.codes_after in
    let e = c.list_check.ensures ∙ ap (list_answer a.areas a.card) t in
    rw (← e) (c.put_checked.ensures.written)
