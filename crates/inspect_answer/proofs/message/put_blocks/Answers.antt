-- `message::put_blocks` meets its contract: what was written is the information. Assumes nothing.
use borrow.Author.Rules.{rules}
use native.Mathlib.Omega.{arith}
use lib.ListN.{length}
use Rattle.node_messages.specs.Information.{information_bytes}
use Rattle.card_lists.specs.Information.{blocks_told, blocks_put, blocks_out}
use Rattle.inspect_answer.specs.Fields.{info_fields}
use Rattle.inspect_answer.proofs.Fronts.{Tells, shown}
use Rattle.inspect_answer.proofs.message.put_blocks.Goals as goal

pub put_message-requires : goal.put_message-requires
unfolding info_fields blocks_put blocks_out
put_message-requires c =
    let a = c.args in
    let b = blocks_told a.card (length a.arena.now) a.asked.now in
    let w : Tells c.put_block_information-told.result c.put_block_information-told.new.out (length a.work.now) (info_fields a.card (length a.arena.now) a.asked.now (length a.work.now)) =
    shown b.answer (information_bytes b.told) a.work.now c.put_block_information-told.ensures.value c.put_block_information-told.ensures.out_after in
    let e = c.put_block_information-told.auto.out in
    (omega (arith, w.0, e), omega (arith, c.requires.0, e), c.requires.1)

pub returns-clause-written : goal.returns-clause-written
unfolding info_fields blocks_put blocks_out
returns-clause-written c =
    let a = c.args in
    let b = blocks_told a.card (length a.arena.now) a.asked.now in
    let w : Tells c.put_block_information-told.result c.put_block_information-told.new.out (length a.work.now) (info_fields a.card (length a.arena.now) a.asked.now (length a.work.now)) =
    shown b.answer (information_bytes b.told) a.work.now c.put_block_information-told.ensures.value c.put_block_information-told.ensures.out_after in
    rw (← w.1) (c.put_message.ensures.written)
