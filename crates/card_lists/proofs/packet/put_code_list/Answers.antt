-- A refusal leaves the output, else the writer has it.
use Rattle.card_lists.proofs.Told.{list-refused, list_written}
use Rattle.card_lists.proofs.packet.put_code_list.Goals as goal

pub returns-in-Err : goal.returns-in-Err
returns-in-Err c =
    let p = list-refused _ _ _ _ c.code_list-asked.ensures c.in-Err.is in
    record { value = p.0; out_after = p.1 }

pub returns-in-Ok : goal.returns-in-Ok
returns-in-Ok c =
    let p = list_written _ _ _ _ c.code_list-asked.ensures c.in-Ok.is c.put_code_list.ensures.value c.put_code_list.ensures.out_after in
    record { value = p.0; out_after = p.1 }
