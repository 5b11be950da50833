-- `message::put_info` meets its contract: the information of the codes, written to the part that is lent. Assumes nothing.
use borrow.Author.Rules.{rules}
use native.Mathlib.Omega.{arith}
use lib.ListN.{replicate}
use Rattle.text_numbers.specs.Codes.{codes_of}
use Rattle.inspect_fields.specs.Fields.{field_one}
use Rattle.inspect_fields.proofs.Lines.{front_put}
use Rattle.inspect_answer.proofs.Fronts.{lent_long}
use Rattle.inspect_answer.proofs.message.put_info.Goals as goal

pub returns-clause-written : goal.returns-clause-written
returns-clause-written c =
    let t = front_put (replicate 8192 0) (codes_of (field_one c.args.line.now)) (omega arith) c.read_codes-n.ensures.value.0 c.read_codes-n.ensures.codes_after in
    rw (t, lent_long c.args.room 4096 c.requires.room_bound.0) at c.put_blocks.ensures.written
