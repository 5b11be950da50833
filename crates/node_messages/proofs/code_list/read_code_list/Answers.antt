-- 47, or the list that the bytes hold.
use mathlib.Core.Path.{sym, ◌∙◌}
use mathlib.Core.List.{append-nil}
use Rattle.node_messages.proofs.Takes.{list-none, list-fits, list_read}
use Rattle.node_messages.proofs.code_list.read_code_list.Goals as goal

pub returns-then-not-is_code_list : goal.returns-then-not-is_code_list
returns-then-not-is_code_list c = c.refused.ensures ∙ list-none _ (sym c.is_code_list.ensures ∙ c.if-not-is_code_list.true)

pub read_numbers-requires : goal.read_numbers-requires
read_numbers-requires c =
    let f = list-fits _ (sym c.is_code_list.ensures ∙ c.if-not-is_code_list.false) c.byte_at-areas.ensures.0 c.services_at-services.ensures.0 in (f.0, f.1)

pub read_numbers-requires-2 : goal.read_numbers-requires-2
read_numbers-requires-2 c =
    let f = list-fits _ (sym c.is_code_list.ensures ∙ c.if-not-is_code_list.false) c.byte_at-areas.ensures.0 c.services_at-services.ensures.0 in (f.2, f.3)

pub returns : goal.returns
returns c =
    list_read _ (sym c.is_code_list.ensures ∙ c.if-not-is_code_list.false) c.byte_at-first.ensures.0 c.byte_at-areas.ensures.0 c.services_at-services.ensures.0 (append-nil _ ∙ c.read_numbers.ensures) (append-nil _ ∙ c.read_numbers-2.ensures)
