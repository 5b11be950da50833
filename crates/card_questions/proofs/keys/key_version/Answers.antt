-- The code asks in the definition's order, and reads the node that the definition finds.
use Rattle.std.proofs.Common.{sym, ◌∙◌, arith, rules}
use borrow.Author.Tests.{ne_eqb}
use Rattle.byte_parts.proofs.Tests.{tests}
use Rattle.card_questions.specs.Keys.{version_of}
use Rattle.card_questions.proofs.Version.{found_inside, found_version}
use Rattle.card_questions.proofs.keys.key_version.Goals as goal

pub returns-then-code-eq65535 : goal.returns-then-code-eq65535
unfolding version_of
returns-then-code-eq65535 c = search tests

pub offset_bounds-nodes-i : goal.offset_bounds-nodes-i
offset_bounds-nodes-i c = omega (arith, found_inside _ _ c.find_service.ensures c.in-Some.is)

pub bounds-nodes-i : goal.bounds-nodes-i
bounds-nodes-i c = found_inside _ _ c.find_service.ensures c.in-Some.is

pub offset_bounds-nodes-i-in-Some-find_area : goal.offset_bounds-nodes-i-in-Some-find_area
offset_bounds-nodes-i-in-Some-find_area c = omega (arith, found_inside _ _ c.find_area.ensures c.in-Some-find_area.is)

pub bounds-nodes-i-in-Some-find_area : goal.bounds-nodes-i-in-Some-find_area
bounds-nodes-i-in-Some-find_area c = found_inside _ _ c.find_area.ensures c.in-Some-find_area.is

pub returns-in-Some : goal.returns-in-Some
unfolding version_of
returns-in-Some c = rw (ne_eqb _ _ c.if-code-eq65535.false) (found_version _ _ c.find_service.ensures c.in-Some.is _ _)

pub returns-in-Some-find_area : goal.returns-in-Some-find_area
unfolding version_of
returns-in-Some-find_area c =
    rw (ne_eqb _ _ c.if-code-eq65535.false, sym c.find_service.ensures ∙ c.in_default.is)
    (found_version _ _ c.find_area.ensures c.in-Some-find_area.is _ _)

pub returns : goal.returns
unfolding version_of
returns c =
    search (tests, sym c.find_service.ensures ∙ c.in_default.is, sym c.find_area.ensures ∙ c.in_default-find_area.is)
