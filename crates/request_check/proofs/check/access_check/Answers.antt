-- The key, then the attribute.
use mathlib.Core.Path.{sym, ◌∙◌}
use borrow.Author.Rules.{rules}
use Rattle.request_check.proofs.Cases.{no_key, of_attribute}
use Rattle.request_check.proofs.check.access_check.Goals as goal

pub returns-then-key_missing : goal.returns-then-key_missing
returns-then-key_missing c = no_key _ _ _ _ _ (sym c.key_missing.ensures ∙ c.if-key_missing.true)

pub returns : goal.returns
returns c =
    of_attribute _ _ _ _ _ (sym c.key_missing.ensures ∙ c.if-key_missing.false) c.attribute_check.ensures
