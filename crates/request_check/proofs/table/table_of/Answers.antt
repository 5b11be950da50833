-- One code is looked up after the other.
use mathlib.Core.Path.{◌≡◌, ◌∙◌}
use Prim.Native.Nat.{◌<◌}
use native.Mathlib.Omega.{arith}
use lib.ListN.{length}
use borrow.Author.Rules.{rules}
use Rattle.request_check.specs.Row.{no_row, row_of}
use Rattle.request_check.proofs.Rows.{fill, table_full}
use Rattle.request_check.proofs.table.table_of.Goals as goal

pub loop-i-preserved : goal.loop-i-preserved
loop-i-preserved c =
    let a = c.args in
    let v = c.loop-i.invariant in
    let here : c.loop-i.i < 16 = omega (arith, v.0) in
    let below : c.loop-i.i < length a.codes.now = omega (arith, v.0) in
    (v.0, rw (c.row_of.ensures, v.1) (fill (row_of a.nodes.now) no_row 16 a.codes.now c.loop-i.i here below))

pub returns : goal.returns
returns c =
    let v = c.loop-i.invariant in
    let k : c.loop-i.i ≡ c.least-n.result = omega arith in
    table_full _ _ _ _ _ v.0 k v.1
