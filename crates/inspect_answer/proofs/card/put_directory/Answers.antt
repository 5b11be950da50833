-- `card::put_directory` meets its contract: the pairs, written to the part that is lent. Assumes nothing.
use borrow.Author.Rules.{rules}
use native.Mathlib.Omega.{arith}
use Prim.Native.Nat.{◌/◌}
use Rattle.inspect_answer.proofs.Fronts.{lent_long}
use Rattle.inspect_answer.proofs.card.put_directory.Goals as goal

pub returns-clause-written : goal.returns-clause-written
returns-clause-written c =
    rw (lent_long (c.args.room / 2) 2048 (omega (arith, c.requires.0))) at c.put_pairs.ensures.written
