-- `card::put_block` meets its contract: the block, or none. Assumes nothing.
use borrow.Author.Rules.{rules}
use native.Mathlib.Omega.{arith}
use Rattle.inspect_answer.proofs.Fronts.{stored-long}
use Rattle.inspect_answer.proofs.card.put_block.Goals as goal

pub put_hex-requires : goal.put_hex-requires
put_hex-requires c =
    let a = c.args in
    rw c.stored_block.ensures (omega (arith, stored-long a.card a.arena.now a.code a.number))

pub returns-clause-written : goal.returns-clause-written
returns-clause-written c =
    let a = c.args in
    let e = c.stored_block.ensures in
    (rw e at c.put_hex.ensures.written)

pub returns-clause-upper_bound : goal.returns-clause-upper_bound
returns-clause-upper_bound c =
    let a = c.args in
    omega (arith, rw c.stored_block.ensures at c.put_hex.ensures.upper_bound, stored-long a.card a.arena.now a.code a.number)
