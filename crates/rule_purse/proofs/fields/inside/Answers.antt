-- `fields::inside` meets its contract: the tests are the range's, the lower end first. Assumes nothing.
use native.Mathlib.Omega.{arith}
use lib.IntN.{pos}
use lib.Dec.{lit<}
use mir.Syntax.{w64}
use Rattle.byte_parts.proofs.Laws.{clean, widened}
use Rattle.rule_purse.specs.Purse.{inside_of}
use Rattle.rule_purse.proofs.Range.{under, above}
use Rattle.rule_purse.proofs.fields.inside.Goals as goal

pub returns-else-v-ge0 : goal.returns-else-v-ge0
unfolding inside_of
returns-else-v-ge0 c =
    let k = clean w64 c.args.v c.ranges.v.sfits in
    rw (c.in-None.is, k) (under (pos 0) (pos 4294967295) c.args.v (rw k at c.if-v-ge0.false))

pub returns-then-v-ge0 : goal.returns-then-v-ge0
unfolding inside_of
returns-then-v-ge0 c =
    let k = clean w64 c.args.v c.ranges.v.sfits in
    rw (c.in-None.is, k)
    (above (pos 0) (pos 4294967295) c.args.v (lit< tt) (lit< tt) (rw k at c.if-v-ge0.true))

pub returns-in-Some : goal.returns-in-Some
unfolding inside_of
returns-in-Some c = rw c.in-Some.is (rw (clean w64 c.args.v c.ranges.v.sfits) at c.between.ensures)
