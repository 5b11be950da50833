-- `hex::put_bytes` meets its contract: after i turns i bytes are put. Assumes nothing.
use native.Mathlib.Omega.{arith}
use mathlib.Core.Path.{refl, sym, ◌∙◌}
use lib.ListN.{length-set}
use Rattle.byte_parts.proofs.Part.{put_zero}
use Rattle.text_numbers.specs.Hex.{unhex}
use Rattle.text_numbers.proofs.HexLaws.{field_pair, length-unhex, unhex_at}
use Rattle.byte_parts.proofs.Put.{put_next}
use Rattle.text_numbers.proofs.hex.put_bytes.Goals as goal

pub loop-i-init : goal.loop-i-init
loop-i-init c = (omega arith, sym (put_zero _ _ _), refl)

pub byte-requires : goal.byte-requires
byte-requires c =
    let a = c.args in
    field_pair a.s.now c.loop-i.i c.requires.0 (omega arith)

pub loop-i-preserved : goal.loop-i-preserved
loop-i-preserved c =
    let a = c.args in
    let s = a.s.now in
    let e = c.byte.ensures ∙ sym (unhex_at s c.loop-i.i (omega arith)) in
    let h = length-unhex s in
    (omega arith, rw c.loop-i.invariant.1 (put_next a.out.now a.at (unhex s) c.loop-i.i _ (omega arith) e), simp length-set (omega arith))
