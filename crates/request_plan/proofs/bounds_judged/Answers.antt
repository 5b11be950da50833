-- The code tests in the definition's order.
use mathlib.Core.Path.{sym, ◌∙◌}
use borrow.Author.Rules.{rules}
use Rattle.request_plan.proofs.Plans.{elements_refused, codes-refused, by_list_lem}
use Rattle.request_plan.proofs.bounds_judged.Goals as goal

pub returns-then-many_elements : goal.returns-then-many_elements
returns-then-many_elements c = elements_refused _ _ (sym c.many_elements.ensures ∙ c.if-many_elements.true)

pub returns-then-many_codes : goal.returns-then-many_codes
returns-then-many_codes c =
    codes-refused _ _ (sym c.many_elements.ensures ∙ c.if-many_elements.false) (sym c.many_codes.ensures ∙ c.if-many_codes.true)

pub returns : goal.returns
returns c =
    by_list_lem _ _ (sym c.many_elements.ensures ∙ c.if-many_elements.false) (sym c.many_codes.ensures ∙ c.if-many_codes.false) c.list_judged.ensures
