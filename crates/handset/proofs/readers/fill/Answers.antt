-- After i turns i numbers stand in front.
use Prim.Native.Nat.{ℕ, ◌+◌, ◌<◌}
use native.Mathlib.Nat.{zero-add}
use native.Mathlib.Omega.{arith}
use mathlib.Core.Path.{◌≡◌, refl, sym}
use mathlib.Core.List.{List}
use lib.ListN.{length, set, get_or, length-set}
use Rattle.byte_parts.specs.Part.{put}
use Rattle.byte_parts.proofs.Part.{put_zero}
use Rattle.byte_parts.proofs.Put.{put_next}
use Rattle.handset.proofs.readers.fill.Goals as goal

-- One number more, if it is the next one.
one_more : (d s to : List ℕ) (i : ℕ) {j : ℕ} → i < length s → to ≡ put d 0 i s → j ≡ i → set to j (get_or s j 0) ≡ put d 0 (i + 1) s
one_more d s to i h k e =
    let n = rw (zero-add i) at (put_next d 0 s i (get_or s i 0) h refl) in
    rw (e, k) n

pub loop-i-init : goal.loop-i-init
loop-i-init c = (omega arith, sym (put_zero _ _ _), refl)

pub loop-i-preserved : goal.loop-i-preserved
loop-i-preserved c =
    let a = c.args in
    (omega arith, one_more _ a.numbers.now _ c.loop-i.i (omega arith) c.loop-i.invariant.1 (omega arith), simp length-set (omega arith))

pub returns : goal.returns
returns c =
    let e : c.loop-i.i ≡ c.args.n = omega arith in
    rw e at c.loop-i.invariant.1
