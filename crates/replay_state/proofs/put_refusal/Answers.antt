-- `replay_state::put_refusal` meets its contract: three fields, one after the other. Assumes nothing.
use borrow.Author.Rules.{rules}
use native.Mathlib.Omega.{arith}
use mathlib.Core.List.{[], ◌∷◌}
use Rattle.answers.specs.Refusal.{refusal_number}
use Rattle.text_numbers.specs.Decimal.{dec_text}
use Rattle.text_stream.proofs.Prints.{written-more}
use Rattle.text_print.specs.Print.{closed}
use Rattle.replay_state.specs.Phases.{refusal_text}
use Rattle.replay_state.proofs.put_refusal.Goals as goal

pub returns : goal.returns
unfolding refusal_text
returns c =
    let a = c.args in
    let number = c.number.ensures in
    let w2 = written-more (closed 9 (105 ∷ 109 ∷ 97 ∷ 103 ∷ 101 ∷ [])) (closed 9 (dec_text a.line)) c.put_word-next.ensures.written c.put_number-last.ensures.written in
    let w3 = written-more _ (closed 10 (dec_text (refusal_number a.refusal))) w2 (rw number at c.put_number.ensures.written) in
    (record { written = w3; upper_bound = omega (arith, c.put_word-next.ensures.upper_bound, c.put_number-last.ensures.upper_bound, c.put_number.ensures.upper_bound) })
