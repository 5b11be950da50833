-- `shift` meets its contract: the bytes from i on have moved. Assumes nothing.
use native.Mathlib.Omega.{arith}
use native.Mathlib.Nat.{sub_self}
use mathlib.Core.Path.{◌≡◌, refl, sym}
use lib.ListN.{length, length-set}
use Rattle.byte_parts.proofs.Part.{put_zero}
use Rattle.rule_cyclic.proofs.Ring.{shift_turn}
use Rattle.rule_cyclic.proofs.shift.Goals as goal

pub loop-i-init : goal.loop-i-init
loop-i-init c = (omega arith, rw (sub_self (length c.args.store.now)) (sym (put_zero _ _ _)), refl)

pub loop-i-preserved : goal.loop-i-preserved
loop-i-preserved c =
    let a = c.args in
    let l = c.loop-i in
    (omega arith, shift_turn a.store.now l.store a.n l.i (omega arith) (omega arith) l.invariant.1, simp length-set (omega arith))

pub returns : goal.returns
returns c =
    let l = c.loop-i in
    let n = c.args.n in
    let e : l.i ≡ n = omega arith in
    rw (e, sub_self n) at l.invariant.1
