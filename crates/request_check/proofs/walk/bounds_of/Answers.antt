-- The invariant: the first i indices are filled in, and the others are 0.
use mathlib.Core.Path.{◌≡◌, refl}
use Prim.Native.Nat.{◌-◌, ◌≤◌, ◌<◌, min}
use native.Mathlib.Omega.{arith}
use lib.ListN.{length, take, length-map}
use borrow.Author.Rules.{rules}
use Rattle.request_check.specs.Row.{row_at_index}
use Rattle.request_check.proofs.Bounds.{Filled, bound_in, bound_here, mode_bound, fill_start, fill_long, fill_more, fill_end}
use Rattle.request_check.proofs.walk.bounds_of.Goals as goal

pub loop-i-init : goal.loop-i-init
loop-i-init c = (c.least-n.ensures, refl, fill_start _ 128)

pub loop-i-preserved : goal.loop-i-preserved
loop-i-preserved c =
    let a = c.args in
    let sixteen : length a.table.rows ≡ 16 = search rules in
    let below : c.loop-i.i < 16 = omega (arith, c.loop-i.invariant.0) in
    let counted : c.loop-i.i < a.table.count = omega (arith, c.loop-i.invariant.0) in
    let zero = bound_here a.table.rows a.table.count a.write a.«open» 0 c.loop-i.i _ sixteen counted below c.bound_of.ensures in
    let one = bound_here a.table.rows a.table.count a.write a.«open» 1 c.loop-i.i _ sixteen counted below c.bound_of-in-loop-i.ensures in (
      c.loop-i.invariant.0,
      fill_long c.bound_of.result c.bound_of-in-loop-i.result c.loop-i.i c.loop-i.bounds c.loop-i.invariant.1,
      fill_more (bound_in a.table.rows a.table.count a.write a.«open»)
          (λ mode k. mode_bound (row_at_index (take a.table.count a.table.rows) k) a.write a.«open» mode) c.loop-i.i c.loop-i.bounds c.loop-i.invariant.1 below c.loop-i.invariant.2 zero one,
    )

pub returns : goal.returns
returns c =
    let sixteen : length c.args.table.rows ≡ 16 = search rules in
    let full : c.loop-i.i ≡ min c.args.table.count 16 = omega (arith, c.loop-i.invariant.0) in
    (c.loop-i.invariant.1, fill_end _ _ _ _ c.loop-i.i c.loop-i.bounds sixteen full c.loop-i.invariant.2)
