-- FFFF, an area that was found, or none.
use mathlib.Core.Path.{◌≡◌, sym, ◌∙◌}
use borrow.Author.Rules.{rules}
use borrow.Author.Tests.{eq-eqb, ne_eqb}
use Rattle.card_laws.specs.Children.{area_named}
use Rattle.card_questions.proofs.TagLaws.{tags_area}
use Rattle.card_lists.proofs.information.free_for.Goals as goal

pub returns-then-code-eq65535 : goal.returns-then-code-eq65535
unfolding area_named
returns-then-code-eq65535 c ns t = rw (eq-eqb _ _ c.if-code-eq65535.true)

pub returns-in-Some : goal.returns-in-Some
unfolding area_named
returns-in-Some c ns t =
    rw (ne_eqb _ _ c.if-code-eq65535.false, sym (tags_area ns t _) ∙ sym c.area_at.ensures ∙ c.in-Some.is)

pub returns-in-None : goal.returns-in-None
unfolding area_named
returns-in-None c ns t =
    rw (ne_eqb _ _ c.if-code-eq65535.false, sym (tags_area ns t _) ∙ sym c.area_at.ensures ∙ c.in-None.is)
