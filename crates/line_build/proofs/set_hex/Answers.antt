-- The digits are put over a block of zeros, and that block is set.
use mathlib.Core.Path.{refl}
use mathlib.Core.List.{append-nil}
use native.Mathlib.Omega.{arith}
use Rattle.line_build.proofs.Digits.{digits, whole}
use Rattle.line_build.proofs.set_hex.Goals as goal

pub put_bytes-requires : goal.put_bytes-requires
put_bytes-requires c =
    let d = digits _ c.requires in
    (d.field, omega arith)

pub returns-clause-arena_after : goal.returns-clause-arena_after
returns-clause-arena_after c =
    rw (append-nil c.put_bytes.new.out, c.put_bytes.ensures.out_after, whole _ _ refl c.requires) at c.set_block.ensures.arena_after
