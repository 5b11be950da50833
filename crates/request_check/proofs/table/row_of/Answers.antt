-- The code reads the node that the definition finds.
use native.Mathlib.Omega.{arith}
use mathlib.Core.Path.{sym, ◌∙◌}
use borrow.Author.Rules.{rules}
use Rattle.card_nodes.proofs.Searches.{in_range_lem, first_below}
use Rattle.card_nodes.specs.Find.{is_service_of}
use Rattle.request_check.proofs.Rows.{found_row_lem, no_service}
use Rattle.request_check.proofs.table.row_of.Goals as goal

pub bounds-nodes-i : goal.bounds-nodes-i
bounds-nodes-i c =
    let a = c.args in
    in_range_lem (first_below (is_service_of a.code) 0 a.nodes.now) (sym c.find_service.ensures ∙ c.in-Some.is)

pub offset_bounds-nodes-i : goal.offset_bounds-nodes-i
offset_bounds-nodes-i c =
    let a = c.args in
    let h = in_range_lem (first_below (is_service_of a.code) 0 a.nodes.now) (sym c.find_service.ensures ∙ c.in-Some.is) in
    omega (arith, h, c.well_formed.0.1)

pub returns-in-Some : goal.returns-in-Some
returns-in-Some c = c.row_by.ensures ∙ found_row_lem _ _ c.find_service.ensures c.in-Some.is _

pub returns-in-None : goal.returns-in-None
returns-in-None c = c.unknown_row.ensures ∙ no_service _ _ c.find_service.ensures c.in-None.is
