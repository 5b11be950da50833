-- `inspect_answer::put_name` meets its contract: the line's first field. Assumes nothing.
use borrow.Author.Rules.{rules}
use native.Mathlib.Omega.{arith}
use Rattle.inspect_answer.proofs.put_name.Goals as goal

pub put_word-requires : goal.put_word-requires
put_word-requires c =
    rw c.field.ensures (omega (arith, c.requires.0, c.requires.1))

pub returns-clause-written : goal.returns-clause-written
returns-clause-written c =
    let e = c.field.ensures in
    (rw e at c.put_word.ensures.written)
