-- `codes::read_codes` meets its contract: after i turns i codes are put. Assumes nothing.
use native.Mathlib.Omega.{arith}
use native.Mathlib.Nat.{zero-add}
use mathlib.Core.Path.{refl, sym}
use lib.ListN.{length-set}
use Rattle.byte_parts.proofs.Part.{put_zero}
use Rattle.byte_parts.proofs.Put.{put_next}
use Rattle.text_numbers.specs.Codes.{codes_of}
use Rattle.text_numbers.proofs.CodeLaws.{length-codes, codes-digits}
use Rattle.text_numbers.proofs.codes.read_codes.Goals as goal

pub loop-i-init : goal.loop-i-init
loop-i-init c = (omega arith, omega arith, sym (put_zero _ _ _), refl)

pub code_at-requires : goal.code_at-requires
code_at-requires c =
    (codes-digits c.args.s.now c.requires (omega arith), omega arith)

pub loop-i-preserved : goal.loop-i-preserved
loop-i-preserved c =
    let a = c.args in
    let s = a.s.now in
    let i = c.loop-i.i in
    let h = length-codes s in
    let e = rw (zero-add i) at (put_next a.out.now 0 (codes_of s) i c.code_at.result (omega arith) c.code_at.ensures) in
    (omega arith, omega arith, rw c.loop-i.invariant.2 e, simp length-set (omega arith))

pub returns-clause-value : goal.returns-clause-value
returns-clause-value c = omega (arith, length-codes c.args.s.now)
