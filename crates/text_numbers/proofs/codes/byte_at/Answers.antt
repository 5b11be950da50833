-- `codes::byte_at` meets its contract: two digits are below 256. Assumes nothing.
use native.Mathlib.Omega.{arith}
use Prim.Native.Nat.{◌+◌}
use Rattle.text_numbers.proofs.DigitLaws.{digit_at}
use Rattle.text_numbers.proofs.codes.byte_at.Goals as goal

pub returns : goal.returns
returns c =
    let s = c.args.s.now in
    let i = c.args.i in
    let h = digit_at 16 s i c.requires.0 (omega arith) in
    let l = digit_at 16 s (i + 1) c.requires.0 (omega arith) in
    (omega arith, omega (arith, h, l))
