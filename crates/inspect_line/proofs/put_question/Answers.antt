-- `inspect_line::put_question` meets its contract, by the question. Assumes nothing.
use Rattle.std.proofs.Common.{Some}
use borrow.Author.Rules.{rules}
use native.Mathlib.Omega.{arith}
use mathlib.Core.Path.{ap, ◌∙◌}
use Rattle.text_stream.proofs.Prints.{written_none}
use Rattle.inspect_ask.specs.declared.Question.{Question}
use Rattle.inspect_line.proofs.put_question.Goals as goal

pub put_answer-requires : goal.put_answer-requires
put_answer-requires c =
    (c.requires.0 ∙ c.in-Some.is ∙ ap (λ (q : Question). Some q) c.in-Of.is, search rules)

pub returns-in_default : goal.returns-in_default
returns-in_default c =
    rw c.in_default.is (c.put_unknown.ensures.0, omega (arith, c.put_unknown.ensures.1))

pub returns-in-Of : goal.returns-in-Of
returns-in-Of c =
    rw (c.in-Some.is ∙ ap (λ (q : Question). Some q) c.in-Of.is) c.put_answer.ensures

pub returns-in-Room : goal.returns-in-Room
returns-in-Room c =
    let a = c.args in
    rw (c.in-Some.is ∙ ap (λ (q : Question). Some q) c.in-Room.is) (written_none a.out.now a.at, omega arith)

pub returns-in-Arena : goal.returns-in-Arena
returns-in-Arena c =
    let a = c.args in
    rw (c.in-Some.is ∙ ap (λ (q : Question). Some q) c.in-Arena.is) (written_none a.out.now a.at, omega arith)
