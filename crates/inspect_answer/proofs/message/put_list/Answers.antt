-- `message::put_list` meets its contract: the packet, written to the part that is lent. Assumes nothing.
use borrow.Author.Rules.{rules}
use native.Mathlib.Omega.{arith}
use Rattle.inspect_answer.proofs.Fronts.{lent_long}
use Rattle.inspect_answer.proofs.message.put_list.Goals as goal

pub returns-clause-written : goal.returns-clause-written
returns-clause-written c =
    rw (lent_long c.args.room 4096 c.requires.0) at c.put_packet.ensures.written
