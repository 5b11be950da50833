-- 47, or the information that the bytes hold.
use mathlib.Core.Path.{sym, ◌∙◌}
use mathlib.Core.List.{append-nil}
use native.Mathlib.Omega.{arith}
use Rattle.node_messages.proofs.Takes.{information_none, information_fits, information_read_lem}
use Rattle.node_messages.proofs.information.read_information.Goals as goal

pub returns-then-not-is_information : goal.returns-then-not-is_information
returns-then-not-is_information c = c.refused.ensures ∙ information_none _ (sym c.is_information.ensures ∙ c.if-not-is_information.true)

pub read_numbers-requires : goal.read_numbers-requires
read_numbers-requires c =
    let f = information_fits _ (sym c.is_information.ensures ∙ c.if-not-is_information.false) c.byte_at-count.ensures.0 in (omega (arith, f.0), f.1)

pub read_numbers-requires-2 : goal.read_numbers-requires-2
read_numbers-requires-2 c = information_fits _ (sym c.is_information.ensures ∙ c.if-not-is_information.false) c.byte_at-count.ensures.0

pub returns : goal.returns
returns c =
    information_read_lem _ (sym c.is_information.ensures ∙ c.if-not-is_information.false) c.byte_at-count.ensures.0 (append-nil _ ∙ c.read_numbers.ensures) (append-nil _ ∙ c.read_numbers-2.ensures)
