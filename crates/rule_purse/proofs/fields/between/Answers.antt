-- `fields::between` meets its contract: the tests are the range's, the lower end first. Assumes nothing.
use native.Mathlib.Omega.{arith}
use mir.Syntax.{w64}
use Rattle.byte_parts.proofs.Laws.{clean, widened}
use Rattle.rule_purse.proofs.Range.{under, above}
use Rattle.rule_purse.proofs.fields.between.Goals as goal

pub returns-else-limit-v : goal.returns-else-limit-v
returns-else-limit-v c =
    let a = c.args in
    let k = clean w64 a.v c.ranges.v.sfits in
    let kl = widened a.limit.lower (omega (arith, c.well_formed.0.1.1.1.0.1)) in
    rw (k, kl) (under a.limit.lower a.limit.upper a.v (rw (k, kl) at c.if-limit-v.false))

pub returns-then-limit-v : goal.returns-then-limit-v
returns-then-limit-v c =
    let a = c.args in
    let k = clean w64 a.v c.ranges.v.sfits in
    let kl = widened a.limit.lower (omega (arith, c.well_formed.0.1.1.1.0.1)) in
    rw (k, widened a.limit.upper (omega (arith, c.well_formed.0.1.1.0.1)))
    (above a.limit.lower a.limit.upper a.v (omega (arith, c.well_formed.0.1.1.1.0.1)) (omega (arith, c.well_formed.0.1.1.0.1)) (rw (k, kl) at c.if-limit-v.true))
