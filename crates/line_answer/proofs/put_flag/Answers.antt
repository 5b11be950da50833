-- `line_answer::put_flag` meets its contract: a byte is two digits. Assumes nothing.
use borrow.Author.Rules.{rules}
use native.Mathlib.Omega.{arith}
use Rattle.line_answer.proofs.put_flag.Goals as goal

pub returns : goal.returns
returns c =
    (record { written = c.put_hex.ensures.written; upper_bound = omega (arith, c.put_hex.ensures.upper_bound) })
