-- After i turns i numbers are put.
use Prim.Native.Nat.{◌+◌, ◌*◌}
use native.Mathlib.Omega.{arith}
use mathlib.Core.Path.{◌≡◌, refl, sym, ◌∙◌}
use lib.ListN.{length}
use Rattle.byte_parts.specs.Part.{put}
use Rattle.byte_parts.proofs.Part.{put_zero, length-put}
use Rattle.node_messages.specs.Numbers.{numbers_bytes}
use Rattle.node_messages.proofs.NumberLaws.{put-number}
use Rattle.node_messages.proofs.numbers.put_numbers.Goals as goal

pub loop-i-init : goal.loop-i-init
loop-i-init c = (sym (put_zero _ _ _), refl)

pub loop-i-preserved : goal.loop-i-preserved
loop-i-preserved c =
    let a = c.args in
    let e = rw c.loop-i.invariant.0 at c.put_half.ensures in
    let p : c.put_half.new.s ≡ put a.out.now a.at (2 * (c.loop-i.i + 1)) (numbers_bytes a.numbers.now) =
    e ∙ put-number a.out.now a.at a.numbers.now c.loop-i.i (omega arith) in
    (p, rw p (length-put a.out.now a.at (2 * (c.loop-i.i + 1)) (numbers_bytes a.numbers.now)))

pub returns : goal.returns
returns c =
    let e : c.loop-i.i ≡ length c.args.numbers.now = omega arith in
    rw e at c.loop-i.invariant.0
