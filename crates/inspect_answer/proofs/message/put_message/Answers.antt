-- `message::put_message` meets its contract: what was written, or the refusal. Assumes nothing.
use borrow.Author.Rules.{rules}
use native.Mathlib.Omega.{arith}
use native.Mathlib.Nat.{sub-zero}
use lib.ListN.{length-take}
use Rattle.inspect_answer.proofs.message.put_message.Goals as goal

pub slice_bounds-put_hex-end : goal.slice_bounds-put_hex-end
slice_bounds-put_hex-end c =
    omega (arith, rw c.in-Ok.is at c.requires.0)

pub put_hex-requires : goal.put_hex-requires
put_hex-requires c =
    simp length-take (omega (arith, c.requires.1, c.requires.2))

pub returns-in-Ok-clause-written : goal.returns-in-Ok-clause-written
returns-in-Ok-clause-written c =
    rw c.in-Ok.is (rw (sub-zero c.in-Ok.n) at c.put_hex.ensures.written)

pub returns-in-Err-clause-written : goal.returns-in-Err-clause-written
returns-in-Err-clause-written c =
    rw c.in-Err.is (c.put_refusal.ensures.written)
