-- `spans::zero` meets its contract: the part that comes back holds n zeros. Assumes nothing.
use Rattle.std.proofs.Common.{◌≡◌, ◌+◌, ◌-◌, ◌≤◌, ℕ, List, length, take, drop, replicate, arith}
use lib.Seq.{length-take-le}
use lib.ListN.{length-drop, length-replicate}
use borrow.Rule.Slice.PartMut.{put_mid}
use Rattle.byte_parts.specs.Part.{put}
use Rattle.byte_parts.proofs.Part.{put_lent}
use Rattle.byte_parts.proofs.spans.zero.Goals as goal

-- What a fill of a part leaves in the whole.
zeroed
    : (d ys : List ℕ) (at n : ℕ) → at + n ≤ length d → ys ≡ replicate (length (take (at + n - at) (drop at d))) 0
    → put_mid at (at + n - at) d ys ≡ put d at n (replicate n 0)
zeroed d ys at n h e =
    let k : at + n - at ≡ n = omega arith in
    let l : length (take n (drop at d)) ≡ n = length-take-le n (drop at d) (simp length-drop (omega arith)) in
    let f : ys ≡ replicate n 0 = rw (k, l) at e in
    rw f (put_lent d at n (replicate n 0) h (length-replicate n 0))

pub returns : goal.returns
returns c =
    let a = c.args in
    zeroed a.s.now _ a.at a.n (omega arith) (c.fill.ensures.after (λ y e. e))
