use Prim.Native.Nat.{◌-◌}
use native.Mathlib.Omega.{arith}
use lib.ListN.{take, drop}
use borrow.Author.Rules.{rules}
use Rattle.salvage_print.specs.Print.{said_of}
use Rattle.salvage_print.proofs.Spots.{front_part, Put_as}
use Rattle.salvage_print.proofs.tell_by.Goals as goal

pub returns : goal.returns
returns c =
    let p = c.put in
    let e = c.put_entry-n in
    let a = c.args in
    let w =
    Put_as p.result a.write a.report.now p.new.dst a.at (take (e.result - 0) (drop 0 e.new.out)) (said_of a.line a.fate)
    (front_part a.entry.now e.new.out (said_of a.line a.fate) e.result e.ensures.written (omega (arith, e.ensures.upper_bound))) (p.ensures.value, p.ensures.dst_after) in
    record { value = w.0; report_after = w.1 }
