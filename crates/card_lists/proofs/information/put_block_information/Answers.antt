-- A refusal leaves the output, else the writer has it.
use Rattle.card_lists.proofs.Told.{blocks-refused, blocks-written}
use Rattle.card_lists.proofs.information.put_block_information.Goals as goal

pub returns-in-Err : goal.returns-in-Err
returns-in-Err c =
    let p = blocks-refused _ _ _ _ c.block_information-told.ensures c.in-Err.is in
    record { value = p.0; out_after = p.1 }

pub returns-in-Ok : goal.returns-in-Ok
returns-in-Ok c =
    let p = blocks-written _ _ _ _ c.block_information-told.ensures c.in-Ok.is c.put_information.ensures.value c.put_information.ensures.out_after in
    record { value = p.0; out_after = p.1 }
