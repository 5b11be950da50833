-- The counts of all nodes stand in front of zeros.
use mathlib.Core.Path.{◌≡◌, ◌∙◌}
use mathlib.Core.List.{append-nil}
use lib.ListN.{length, take}
use borrow.Author.Rules.{rules}
use Rattle.card_questions.specs.Tags.{tag_of}
use Rattle.card_questions.proofs.Columns.{cells_lent_lem}
use Rattle.card_lists.proofs.Told.{info_all}
use Rattle.card_lists.proofs.information.information_of.Goals as goal

pub returns : goal.returns
returns c =
    let a = c.args in
    let ns = take a.count a.nodes in
    let all : length a.nodes ≡ 64 = search rules in
    let lent = cells_lent_lem tag_of a.nodes a.count all c.taken-n.ensures c.tags_of-tags.ensures in
    info_all ns a.unused a.asked.now c.requires (append-nil _ ∙ c.put_totals.ensures) (append-nil _ ∙ c.put_free.ensures ns lent)
