-- The columns that are lent are those of the nodes.
use mathlib.Core.Path.{◌≡◌}
use lib.ListN.{length, take}
use borrow.Author.Rules.{rules}
use Rattle.card_questions.specs.declared.table.Column.TheVariants.{Depth, Second, Blocks}
use Rattle.card_questions.specs.Table.{cell_of}
use Rattle.card_questions.specs.Tags.{tag_of}
use Rattle.card_questions.proofs.Columns.{cells_lent_lem}
use Rattle.card_questions.proofs.totals.put_totals.Goals as goal

pub returns : goal.returns
returns c =
    let a = c.args in
    let all : length a.nodes ≡ 64 = search rules in
    let p = c.taken-n.ensures in
    c.put_totals_in.ensures (take a.count a.nodes) (cells_lent_lem tag_of a.nodes a.count all p c.tags_of-tags.ensures)
    (cells_lent_lem (cell_of Depth) a.nodes a.count all p c.column_of-depths.ensures)
    (cells_lent_lem (cell_of Second) a.nodes a.count all p c.column_of-seconds.ensures)
    (cells_lent_lem (cell_of Blocks) a.nodes a.count all p c.column_of-blocks.ensures)
