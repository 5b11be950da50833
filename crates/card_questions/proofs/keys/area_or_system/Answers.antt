-- FFFF, or an area that was found.
use mathlib.Core.Path.{◌∙◌, ap}
use borrow.Author.Rules.{rules}
use Rattle.byte_parts.proofs.Tests.{tests}
use Rattle.card_questions.specs.Keys.{is_found, area_or_system}
use Rattle.card_questions.proofs.TagLaws.{some_found, tags_area}
use Rattle.card_questions.proofs.keys.area_or_system.Goals as goal

pub returns-then-code-eq65535 : goal.returns-then-code-eq65535
unfolding area_or_system
returns-then-code-eq65535 c ns e = search tests

pub returns-else-code-eq65535 : goal.returns-else-code-eq65535
unfolding area_or_system
returns-else-code-eq65535 c ns e = c.is_some.ensures ∙ some_found _ ∙ ap is_found (c.area_at.ensures ∙ tags_area ns e _) ∙ search tests
