-- Whether the list is well formed is whether what is left of it is.
use mathlib.Core.Path.{◌≡◌, sym, ◌∙◌, ap}
use mathlib.Core.Bool.{not}
use Prim.Native.Nat.{◌-◌}
use native.Mathlib.Omega.{arith}
use lib.ListN.{length}
use borrow.Author.Rules.{rules}
use borrow.Author.Tests.{not-true, not-false}
use Rattle.card_questions.specs.Keys.{is_found, area_list_of, all_areas}
use Rattle.card_questions.specs.Tags.{OfTags}
use Rattle.card_questions.proofs.TagLaws.{some_found, tags_area}
use Rattle.card_questions.proofs.Lists.{InList, no_area, first_other_lem, first-area, later_other, later_area, areas-done}
use Rattle.card_questions.proofs.keys.areas_tagged.Goals as goal

pub returns-then-areas-eq0 : goal.returns-then-areas-eq0
returns-then-areas-eq0 c ns e = no_area ns _ (omega arith)

pub returns-then-is_none : goal.returns-then-is_none
returns-then-is_none c ns e =
    first_other_lem ns _ (omega arith) (sym (some_found _ ∙ ap is_found (c.area_at.ensures ∙ tags_area ns e _)) ∙ c.is_none.ensures ∙ ap not c.if-is_none.true)

pub loop-i-init : goal.loop-i-init
loop-i-init c ns e =
    first-area ns _ (omega arith) (sym (some_found _ ∙ ap is_found (c.area_at.ensures ∙ tags_area ns e _)) ∙ c.is_none.ensures ∙ ap not c.if-is_none.false)

pub returns-then-not-area_or_system : goal.returns-then-not-area_or_system
returns-then-not-area_or_system c ns e =
    later_other ns (c.loop-i.invariant ns e) (omega arith) (sym (c.area_or_system.ensures ns e) ∙ c.if-not-area_or_system.true)

pub loop-i-preserved : goal.loop-i-preserved
loop-i-preserved c ns e =
    later_area ns (c.loop-i.invariant ns e) (omega arith) (sym (c.area_or_system.ensures ns e) ∙ c.if-not-area_or_system.false)

pub returns : goal.returns
returns c ns e = areas-done ns (c.loop-i.invariant ns e) (omega arith)
