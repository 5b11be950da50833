-- `line_answer::put_answer` meets its contract: the five fields, a tab, the cause and LF. Assumes nothing.
use borrow.Author.Rules.{rules}
use native.Mathlib.Omega.{arith}
use lib.ListN.{length-set}
use Rattle.text_stream.proofs.Prints.{written-more, written_byte}
use Rattle.request_plan.specs.Request.{cause_in}
use Rattle.text_print.specs.Print.{closed}
use Rattle.line_answer.specs.Answer.{answer_fields, cause_text}
use Rattle.line_answer.proofs.put_answer.Goals as goal

pub put_caused-requires : goal.put_caused-requires
put_caused-requires c = simp length-set (omega arith)

pub shape_of-out : goal.shape_of-out
shape_of-out c = omega (arith, simp length-set at c.put_caused.auto.out)

pub returns : goal.returns
returns c =
    let a = c.args in
    let w = written_byte (answer_fields a.ordinal a.reply a.read.now) 9 c.put_fields-five.ensures.written in
    record {
      written = written-more (closed 9 (answer_fields a.ordinal a.reply a.read.now)) (closed 10 (cause_text (cause_in a.reply))) w c.put_caused.ensures.written;
      upper_bound = omega (arith, c.put_fields-five.ensures.upper_bound, c.put_caused.ensures.upper_bound);
    }
