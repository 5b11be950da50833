-- After i turns the free blocks of i nodes are written.
use mathlib.Core.Path.{◌≡◌, refl, sym}
use mathlib.Core.List.{map}
use Prim.Native.Nat.{◌-◌, ◌≤◌}
use native.Mathlib.Omega.{arith}
use lib.ListN.{length, length-set}
use borrow.Author.Rules.{rules}
use Rattle.byte_parts.specs.Part.{put}
use Rattle.byte_parts.proofs.Part.{put_zero}
use Rattle.card_questions.specs.Tags.{OfTags}
use Rattle.card_questions.proofs.Puts.{one_put}
use Rattle.card_lists.specs.Information.{free_for}
use Rattle.card_lists.proofs.information.put_free.Goals as goal

pub loop-i-init : goal.loop-i-init
loop-i-init c = (omega arith, refl, λ ns t. sym (put_zero _ _ _))

pub loop-i-preserved : goal.loop-i-preserved
loop-i-preserved c =
    let a = c.args in (
      omega arith,
      simp length-set (omega arith),
      λ ns t. one_put (free_for ns a.unused) a.asked.now a.to.now c.loop-i-test.true (c.loop-i.invariant.2 ns t) (c.free_for.ensures ns t),
    )

pub returns : goal.returns
returns c ns t =
    let a = c.args in
    let e : c.loop-i.i ≡ length a.asked.now = omega arith in
    rw e at (c.loop-i.invariant.2 ns t)
