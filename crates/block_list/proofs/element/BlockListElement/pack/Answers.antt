-- An element's bytes are written as its number asks: two where the high byte is 0, else three.
use Prim.Native.Nat.{◌%◌}
use mathlib.Core.Path.{◌≡◌}
use native.Mathlib.Omega.{arith}
use borrow.Author.Rules.{rules}
use Rattle.block_list.specs.Element.{packed_of}
use Rattle.byte_parts.specs.Part.{padded}
use Rattle.block_list.proofs.Cases.{pack_two, pack_three}
use Rattle.block_list.proofs.element.BlockListElement.pack.Goals as goal

pub returns-then-high-eq0 : goal.returns-then-high-eq0
unfolding packed_of padded
returns-then-high-eq0 c =
    let e = c.args.self in
    let low : e.number % 256 ≡ e.number = omega arith in
    rw (c.head_of-head.ensures.0, pack_two e (omega arith), low)

pub returns-else-high-eq0 : goal.returns-else-high-eq0
unfolding packed_of padded
returns-else-high-eq0 c =
    rw (c.head_of-head.ensures.0, pack_three c.args.self (omega arith))
