-- The total of one node is that of a list with nothing else.
use mathlib.Core.Path.{◌∙◌}
use mathlib.Core.List.{append-nil}
use lib.ListN.{take}
use borrow.Author.Rules.{rules}
use Rattle.card_questions.specs.Total.{total_of}
use Rattle.card_questions.proofs.Puts.{one_told}
use Rattle.card_questions.proofs.totals.block_total.Goals as goal

pub returns : goal.returns
returns c =
    let a = c.args in
    one_told (total_of (take a.count a.nodes)) a.code (append-nil _ ∙ c.put_totals.ensures)
