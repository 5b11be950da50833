-- The tags that are lent are those of the nodes.
use mathlib.Core.Path.{◌≡◌}
use lib.ListN.{length, take}
use borrow.Author.Rules.{rules}
use Rattle.card_questions.specs.Tags.{tag_of}
use Rattle.card_questions.proofs.Columns.{cells_lent_lem}
use Rattle.card_questions.proofs.keys.service_list.Goals as goal

pub returns : goal.returns
returns c =
    let a = c.args in
    let all : length a.nodes ≡ 64 = search rules in
    c.services_tagged.ensures (take a.count a.nodes) (cells_lent_lem tag_of a.nodes a.count all c.taken-n.ensures c.tags_of-tags.ensures)
