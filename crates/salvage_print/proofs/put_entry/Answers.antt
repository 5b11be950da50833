use native.Mathlib.Omega.{arith}
use mathlib.Core.List.{[], ◌∷◌}
use borrow.Author.Rules.{rules}
use Rattle.text_numbers.specs.Decimal.{dec_text}
use Rattle.text_stream.proofs.Prints.{written_none, written-more}
use Rattle.text_print.specs.Print.{closed}
use Rattle.salvage_print.proofs.put_entry.Goals as goal

pub returns-in-Kept : goal.returns-in-Kept
returns-in-Kept c = rw c.in-Kept.is (record { written = written_none c.args.out.now 0; upper_bound = omega arith })

pub returns-in-Parent : goal.returns-in-Parent
returns-in-Parent c =
    let a = c.args in
    rw c.in-Parent.is
    (record {
      written =
          written-more (closed 9 (dec_text a.line)) (closed 10 (112 ∷ 97 ∷ 114 ∷ 101 ∷ 110 ∷ 116 ∷ [])) c.put_number-last.ensures.written c.put_word.ensures.written;
      upper_bound = omega (arith, c.put_number-last.ensures.upper_bound, c.put_word.ensures.upper_bound);
    })

pub returns-in-Number : goal.returns-in-Number
returns-in-Number c =
    let e = c.in-Number in
    let a = c.args in
    rw e.is
    (record {
      written =
          written-more (closed 9 (dec_text a.line)) (closed 10 (dec_text e.number)) c.put_number-last-in-Number.ensures.written c.put_number.ensures.written;
      upper_bound = omega (arith, c.put_number-last-in-Number.ensures.upper_bound, c.put_number.ensures.upper_bound);
    })
