-- `hex::put_hex` meets its contract: after i turns the digits of i bytes are put. Assumes nothing.
use Prim.Native.Nat.{◌+◌, ◌*◌}
use native.Mathlib.Omega.{arith}
use mathlib.Core.Path.{◌≡◌, refl, sym, ◌∙◌}
use Rattle.byte_parts.proofs.Part.{put_zero}
use Rattle.text_numbers.specs.Hex.{to_hex}
use Rattle.text_numbers.proofs.HexLaws.{length-to_hex, to_hex_at}
use Rattle.byte_parts.proofs.Put.{put_pair_lem}
use Rattle.text_numbers.proofs.hex.put_hex.Goals as goal

pub loop-b-init : goal.loop-b-init
loop-b-init c = (omega arith, sym (put_zero _ _ _), refl)

pub loop-b-preserved : goal.loop-b-preserved
unfolding to_hex
loop-b-preserved c =
    let p = c.put_byte-o in
    let a = c.args in
    let s = a.s.now in
    let i = c.loop-b.b-index in
    let h = to_hex_at s i (omega arith) in
    let n = length-to_hex s in
    let k : (i + 1) * 2 ≡ i * 2 + 2 = omega arith in (
      omega arith,
      p.ensures.out_after
          ∙ rw (c.loop-b.invariant.0, c.loop-b.invariant.1, k) (put_pair_lem a.out.now a.at (to_hex s) (i * 2) _ _ (omega arith) h.0 h.1),
      p.auto.out ∙ c.loop-b.invariant.2,
    )
