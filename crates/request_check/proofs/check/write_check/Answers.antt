-- The code tests in the definition's order.
use mathlib.Core.Path.{◌≡◌, sym, ◌∙◌}
use mathlib.Core.Bool.{true}
use borrow.Author.Rules.{rules}
use borrow.Author.Tests.{not-true, not-false}
use Rattle.service_code.specs.Code.{allows_write}
use Rattle.request_check.proofs.Cases.{no_write, no_return, may_write}
use Rattle.request_check.proofs.check.write_check.Goals as goal

pub returns-then-not-allows_write : goal.returns-then-not-allows_write
returns-then-not-allows_write c = no_write _ _ (sym c.allows_write.ensures ∙ c.if-not-allows_write.true)

pub returns-then-no_cashback : goal.returns-then-no_cashback
returns-then-no_cashback c =
    no_return _ _ (sym c.allows_write.ensures ∙ c.if-not-allows_write.false) (sym c.no_cashback.ensures ∙ c.if-no_cashback.true)

pub returns : goal.returns
returns c =
    may_write _ _ (sym c.allows_write.ensures ∙ c.if-not-allows_write.false) (sym c.no_cashback.ensures ∙ c.if-no_cashback.false)
