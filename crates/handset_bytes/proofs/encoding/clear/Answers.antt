-- Zeros over all of them.
use mathlib.Core.Path.{◌∙◌}
use borrow.Author.Rules.{rules}
use Rattle.handset_bytes.proofs.Puts.{all_zero_lem}
use Rattle.handset_bytes.proofs.encoding.clear.Goals as goal

pub returns : goal.returns
returns c = c.zero.ensures ∙ all_zero_lem _
