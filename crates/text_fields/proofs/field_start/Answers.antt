-- `field_start` meets its contract: field k of the whole is field k - i of what starts after i fields. Assumes nothing.
use Prim.Native.Nat.{suc, ◌+◌, ◌-◌}
use mathlib.Core.Path.{◌≡◌, ◌∙◌}
use native.Mathlib.Omega.{arith}
use Rattle.text_fields.proofs.EndLaws.{end-next}
use Rattle.text_fields.proofs.field_start.Goals as goal

pub loop-init : goal.loop-init
loop-init c = let e : c.args.k - 0 ≡ c.args.k = omega arith in rw e

pub loop-preserved : goal.loop-preserved
loop-preserved c =
    let a = c.args in
    let i = c.loop.counter in
    let m : a.k - i ≡ suc (a.k - (i + 1)) = omega arith in
    c.loop.invariant ∙ rw (m, c.field_end-from.ensures.0) (end-next a.separator a.s.now c.loop.from (a.k - (i + 1)))

pub returns : goal.returns
returns c =
    let m : c.args.k - c.loop.counter ≡ 0 = omega arith in
    rw m at c.loop.invariant
