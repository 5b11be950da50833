-- The code tests in the definition's order.
use mathlib.Core.Path.{◌≡◌, sym, ◌∙◌, ap}
use mathlib.Core.Bool.{Bool, cond}
use mathlib.Core.List.{List, map}
use borrow.Author.Rules.{rules}
use Rattle.card_nodes.specs.declared.node.Node.{Node}
use Rattle.card_nodes.specs.Find.{service_of, area_of}
use Rattle.byte_parts.proofs.Tests.{tests}
use Rattle.card_questions.specs.declared.keys.ListNode.TheVariants.{Keyed, KeyFree}
use Rattle.card_questions.specs.Keys.{is_found, list_node_of}
use Rattle.card_questions.specs.Tags.{tag_of}
use Rattle.card_questions.proofs.TagLaws.{some_found, tags_service, tags_area}
use Rattle.card_questions.proofs.keys.list_node.Goals as goal

pub returns-then-code-eq65535 : goal.returns-then-code-eq65535
unfolding list_node_of
returns-then-code-eq65535 c ns e = search tests

pub returns-then-is_some : goal.returns-then-is_some
unfolding list_node_of
returns-then-is_some c ns e =
    c.listed.ensures
    ∙ ap (λ (k : Bool). cond k Keyed KeyFree) c.requires_key-keyed.ensures
    ∙ search (tests, sym (c.is_some.ensures ∙ some_found _ ∙ ap is_found (c.service_at.ensures ∙ tags_service ns e _)) ∙ c.if-is_some.true)

pub returns-then-is_some-2 : goal.returns-then-is_some-2
unfolding list_node_of
returns-then-is_some-2 c ns e =
    c.listed-then-is_some-2.ensures ∙ search (tests, sym (c.is_some.ensures ∙ some_found _ ∙ ap is_found (c.service_at.ensures ∙ tags_service ns e _)) ∙ c.if-is_some.false, sym (c.is_some-2.ensures ∙ some_found _ ∙ ap is_found (c.area_at.ensures ∙ tags_area ns e _)) ∙ c.if-is_some-2.true)

pub returns : goal.returns
unfolding list_node_of
returns c ns e =
    search (tests, sym (c.is_some.ensures ∙ some_found _ ∙ ap is_found (c.service_at.ensures ∙ tags_service ns e _)) ∙ c.if-is_some.false, sym (c.is_some-2.ensures ∙ some_found _ ∙ ap is_found (c.area_at.ensures ∙ tags_area ns e _)) ∙ c.if-is_some-2.false)
