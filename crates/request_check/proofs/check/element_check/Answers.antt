-- An index from the count on names no row; any other names the one that is checked.
use mathlib.Core.Path.{◌∙◌}
use borrow.Author.Rules.{rules}
use borrow.Author.Tests.{le-leb, lt-leb}
use Rattle.request_check.proofs.check.element_check.Goals as goal

pub returns-then-count-e : goal.returns-then-count-e
returns-then-count-e c = search (le-leb, lt-leb)

pub returns : goal.returns
returns c = c.row_check.ensures ∙ search (le-leb, lt-leb)
