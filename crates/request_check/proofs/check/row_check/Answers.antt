-- The mode, then the row.
use mathlib.Core.Path.{sym, ◌∙◌}
use borrow.Author.Rules.{rules}
use borrow.Author.Tests.{not-true, not-false}
use Rattle.request_check.proofs.Cases.{no_mode, of_mode}
use Rattle.request_check.proofs.check.row_check.Goals as goal

pub returns-then-not-mode_allowed : goal.returns-then-not-mode_allowed
returns-then-not-mode_allowed c = no_mode _ _ _ _ _ (sym c.mode_allowed.ensures ∙ c.if-not-mode_allowed.true)

pub returns : goal.returns
returns c =
    of_mode _ _ _ _ _ (sym c.mode_allowed.ensures ∙ c.if-not-mode_allowed.false) c.defined_check.ensures
