use Prim.Native.Nat.{◌-◌}
use native.Mathlib.Omega.{arith}
use lib.ListN.{length, take, drop}
use borrow.Author.Rules.{rules}
use Rattle.salvage_print.proofs.Spots.{gain_most, gain_part, Put_as}
use Rattle.salvage_print.specs.Print.{gain_of}
use Rattle.salvage_print.proofs.keep.Goals as goal

pub slice_bounds-put-end : goal.slice_bounds-put-end
slice_bounds-put-end c = let a = c.args in omega (arith, c.gain-size.ensures, gain_most a.fate (length a.piece.now))

pub returns : goal.returns
returns c =
    let p = c.put in
    let g = c.gain-size in
    let a = c.args in
    let w =
    Put_as p.result a.write a.out.now p.new.dst a.at (take (g.result - 0) (drop 0 a.piece.now)) (gain_of a.fate a.piece.now)
    (gain_part a.fate a.piece.now g.result g.ensures) (p.ensures.value, p.ensures.dst_after) in
    record { value = w.0; out_after = w.1 }
