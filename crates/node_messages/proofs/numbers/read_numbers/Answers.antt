-- After i turns i numbers are read.
use native.Mathlib.Omega.{arith}
use native.Mathlib.Nat.{zero-add}
use mathlib.Core.Path.{refl, sym, ◌∙◌}
use lib.ListN.{drop, length-set}
use Rattle.byte_parts.proofs.Part.{put_zero}
use Rattle.byte_parts.proofs.Put.{put_next}
use Rattle.node_messages.specs.Numbers.{numbers_in}
use Rattle.node_messages.proofs.NumberLaws.{length_in, in_from_lem}
use Rattle.node_messages.proofs.numbers.read_numbers.Goals as goal

pub loop-i-init : goal.loop-i-init
loop-i-init c = (sym (put_zero _ _ _), refl)

pub loop-i-preserved : goal.loop-i-preserved
loop-i-preserved c =
    let a = c.args in
    let s = a.s.now in
    let i = c.loop-i.i in
    let n = length_in a.n (drop a.at s) in
    let x = c.half.ensures ∙ sym (in_from_lem a.n s a.at i (omega arith)) in
    let e = rw (zero-add i) at (put_next a.to.now 0 (numbers_in a.n (drop a.at s)) i c.half.result (omega arith) x) in
    (rw c.loop-i.invariant.0 e, simp length-set (omega arith))
