-- `spans::copy` meets its contract: the part that comes back holds the bytes that were copied. Assumes nothing.
use Rattle.std.proofs.Common.{◌≡◌, ◌∙◌, ◌+◌, ◌-◌, ◌≤◌, ℕ, List, length, take, drop, arith}
use lib.Seq.{length-take-le}
use lib.ListN.{length-drop}
use borrow.Rule.Slice.PartMut.{put_mid}
use Rattle.byte_parts.specs.Part.{put}
use Rattle.byte_parts.proofs.Part.{put_lent, put-take}
use Rattle.byte_parts.proofs.spans.copy.Goals as goal

-- What a copy from a part to a part leaves in the whole.
copied
    : (d s ys : List ℕ) (at from n : ℕ) → at + n ≤ length d → from + n ≤ length s
    → ys ≡ take (from + n - from) (drop from s)
    → put_mid at (at + n - at) d ys ≡ put d at n (drop from s)
copied d s ys at from n hd hs e =
    let ks : from + n - from ≡ n = omega arith in
    let f : ys ≡ take n (drop from s) = rw ks at e in
    let l : length (take n (drop from s)) ≡ n = length-take-le n (drop from s) (simp length-drop (omega arith)) in
    put_lent d at n ys hd (rw f l) ∙ rw f (put-take d at n (drop from s))

pub returns : goal.returns
returns c =
    let a = c.args in
    copied a.dst.now a.src.now _ a.at a.from a.n (omega arith) (omega arith) c.copy_from_slice.ensures.after
