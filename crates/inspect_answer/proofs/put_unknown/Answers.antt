-- `inspect_answer::put_unknown` meets its contract: `?`, and the number. Assumes nothing.
use borrow.Author.Rules.{rules}
use native.Mathlib.Omega.{arith}
use mathlib.Core.List.{[], ◌∷◌}
use Rattle.text_numbers.specs.Decimal.{dec_text}
use Rattle.text_stream.proofs.Prints.{written-more}
use Rattle.text_print.specs.Print.{closed}
use Rattle.inspect_answer.specs.Answer.{unknown_text}
use Rattle.inspect_answer.proofs.put_unknown.Goals as goal

pub returns : goal.returns
unfolding unknown_text
returns c =
    let a = c.args in
    (written-more (closed 9 (63 ∷ [])) (closed 10 (dec_text a.number)) c.put_mark-next.ensures.written c.put_number.ensures.written, omega (arith, c.put_mark-next.ensures.upper_bound, c.put_number.ensures.upper_bound))
