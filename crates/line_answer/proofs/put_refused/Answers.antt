-- `line_answer::put_refused` meets its contract: the fields of a refusal, a tab, `-` and LF. Assumes nothing.
use borrow.Author.Rules.{rules}
use native.Mathlib.Omega.{arith}
use mathlib.Core.List.{[], ◌∷◌}
use lib.ListN.{length-set}
use Rattle.text_stream.proofs.Prints.{written-more, written_byte}
use Rattle.text_print.specs.Print.{closed}
use Rattle.line_answer.specs.Answer.{refusal_fields}
use Rattle.line_answer.proofs.put_refused.Goals as goal

pub put_end-requires : goal.put_end-requires
put_end-requires c = simp length-set (omega arith)

pub shape_of-out : goal.shape_of-out
shape_of-out c = omega (arith, simp length-set at c.put_end.auto.out)

pub returns : goal.returns
returns c =
    let a = c.args in
    let w = written_byte (refusal_fields a.ordinal a.number) 9 c.put_refusal-tab.ensures.written in
    record {
      written = written-more (closed 9 (refusal_fields a.ordinal a.number)) (closed 10 (45 ∷ [])) w c.put_end.ensures.written;
      upper_bound = omega (arith, c.put_refusal-tab.ensures.upper_bound, c.put_end.ensures.upper_bound);
    }
