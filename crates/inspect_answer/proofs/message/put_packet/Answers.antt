-- `message::put_packet` meets its contract: what was written is the packet. Assumes nothing.
use borrow.Author.Rules.{rules}
use native.Mathlib.Omega.{arith}
use lib.ListN.{length}
use Rattle.node_messages.specs.CodeList.{code_list_bytes}
use Rattle.card_lists.specs.Packet.{code_list_of, code_list_put, code_list_out}
use Rattle.inspect_answer.specs.Fields.{list_fields}
use Rattle.inspect_answer.proofs.Fronts.{Tells, shown}
use Rattle.inspect_answer.proofs.message.put_packet.Goals as goal

pub put_message-requires : goal.put_message-requires
unfolding list_fields code_list_put code_list_out
put_message-requires c =
    let a = c.args in
    let l = code_list_of a.card a.parent a.packet in
    let w : Tells c.put_code_list-put.result c.put_code_list-put.new.out (length a.work.now) (list_fields a.card a.parent a.packet (length a.work.now)) =
    shown l.answer (code_list_bytes l.list) a.work.now c.put_code_list-put.ensures.value c.put_code_list-put.ensures.out_after in
    let e = c.put_code_list-put.auto.out in
    (omega (arith, w.0, e), omega (arith, c.requires.0, e), c.requires.1)

pub returns-clause-written : goal.returns-clause-written
unfolding list_fields code_list_put code_list_out
returns-clause-written c =
    let a = c.args in
    let l = code_list_of a.card a.parent a.packet in
    let w : Tells c.put_code_list-put.result c.put_code_list-put.new.out (length a.work.now) (list_fields a.card a.parent a.packet (length a.work.now)) =
    shown l.answer (code_list_bytes l.list) a.work.now c.put_code_list-put.ensures.value c.put_code_list-put.ensures.out_after in
    rw (← w.1) (c.put_message.ensures.written)
