-- `fields::ranged` meets its contract. Assumes nothing.
use mathlib.Core.Path.{sym, ◌∙◌}
use mir.Syntax.{w64}
use Rattle.byte_parts.proofs.Laws.{clean}
use Rattle.rule_purse.specs.Purse.{sum_of}
use Rattle.rule_purse.proofs.fields.ranged.Goals as goal

pub unsigned-requires : goal.unsigned-requires
unsigned-requires c =
    let k = clean w64 c.args.v c.ranges.v.sfits in
    rw k ((rw k at c.inside.ensures.1) c.if-inside.true)

pub returns-then-inside : goal.returns-then-inside
unfolding sum_of
returns-then-inside c =
    let k = clean w64 c.args.v c.ranges.v.sfits in
    rw (sym (rw k at c.inside.ensures.0) ∙ c.if-inside.true, rw k at c.unsigned.ensures)

pub returns-else-inside : goal.returns-else-inside
unfolding sum_of
returns-else-inside c =
    let k = clean w64 c.args.v c.ranges.v.sfits in
    rw (sym (rw k at c.inside.ensures.0) ∙ c.if-inside.false)
