-- After i turns i totals are written.
use mathlib.Core.Path.{◌≡◌, refl, sym}
use mathlib.Core.List.{map}
use Prim.Native.Nat.{◌-◌, ◌≤◌}
use native.Mathlib.Omega.{arith}
use lib.ListN.{length, length-set}
use Rattle.byte_parts.specs.Part.{put}
use Rattle.byte_parts.proofs.Part.{put_zero}
use Rattle.card_questions.specs.Table.{OfColumns}
use Rattle.card_questions.specs.Total.{total_of}
use Rattle.card_questions.proofs.Puts.{one_put}
use Rattle.card_questions.proofs.totals.put_totals_in.Goals as goal

pub loop-i-init : goal.loop-i-init
loop-i-init c = (omega arith, refl, λ ns t d s b. sym (put_zero _ _ _))

pub total_in-requires : goal.total_in-requires
total_in-requires c =
    let p = c.requires in
    (p.0, p.1, p.2, p.3)

pub loop-i-preserved : goal.loop-i-preserved
loop-i-preserved c =
    let a = c.args in (
      omega arith,
      simp length-set (omega arith),
      λ ns t d s b. one_put (total_of ns) a.asked.now a.to.now c.loop-i-test.true (c.loop-i.invariant.2 ns t d s b) (c.total_in.ensures ns t d s b),
    )

pub returns : goal.returns
returns c ns t d s b =
    let a = c.args in
    let e : c.loop-i.i ≡ length a.asked.now = omega arith in
    rw e at (c.loop-i.invariant.2 ns t d s b)
