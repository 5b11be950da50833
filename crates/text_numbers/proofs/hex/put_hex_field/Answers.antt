-- `hex::put_hex_field` meets its contract: no bytes are `-`, others their digits. Assumes nothing.
use native.Mathlib.Omega.{arith}
use mathlib.Core.Path.{ap, ◌∙◌}
use lib.ListN.{length}
use Rattle.text_numbers.proofs.HexLaws.{length-to_hex, hex_text-none, hex_text-some}
use Rattle.byte_parts.proofs.Put.{put_one}
use Rattle.text_numbers.proofs.hex.put_hex_field.Goals as goal

pub bounds-out-at : goal.bounds-out-at
bounds-out-at c =
    let e = ap length (hex_text-none c.args.s.now c.if-s-eq0.true) in
    omega arith

pub put_hex-requires : goal.put_hex-requires
put_hex-requires c =
    let s = c.args.s.now in
    let e = ap length (hex_text-some s c.if-s-eq0.false) ∙ length-to_hex s in
    omega arith

pub returns : goal.returns
returns c =
    let s = c.args.s.now in
    rw (hex_text-some s c.if-s-eq0.false, length-to_hex s) c.put_hex.ensures

pub returns-then-s-eq0-clause-value : goal.returns-then-s-eq0-clause-value
returns-then-s-eq0-clause-value c = rw (hex_text-none c.args.s.now c.if-s-eq0.true)

pub returns-then-s-eq0-clause-out_after : goal.returns-then-s-eq0-clause-out_after
returns-then-s-eq0-clause-out_after c =
    let a = c.args in
    rw (hex_text-none a.s.now c.if-s-eq0.true) (put_one a.out.now a.at 45)
