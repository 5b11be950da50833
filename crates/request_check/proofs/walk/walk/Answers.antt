-- What the walk says of all elements is what it says of those that are left.
use mathlib.Core.Path.{◌≡◌, sym, ◌∙◌}
use Prim.Native.Nat.{◌-◌, ◌≤◌, ◌<◌}
use native.Mathlib.Omega.{arith}
use native.Mathlib.Nat.{sub-zero}
use lib.ListN.{length}
use borrow.Author.Rules.{rules}
use Rattle.request_check.specs.Walk.{walked_from}
use Rattle.request_check.proofs.Steps.{stands}
use Rattle.request_check.proofs.Walks.{walk-over, walk_short, walk_stops, walk_on_lem}
use Rattle.request_check.proofs.walk.walk.Goals as goal

pub loop-i-init : goal.loop-i-init
loop-i-init c = rw sub-zero

pub returns-in_default : goal.returns-in_default
returns-in_default c =
    let l = c.loop-i in
    sym (l.invariant ∙ walk_short _ _ _ _ c.unpack.ensures _ (omega arith) c.in_default.is)

pub bounds-list-at : goal.bounds-list-at
bounds-list-at c = stands _ _ (sym c.unpack.ensures ∙ c.in-Some.is)

pub bounds-bounds-head : goal.bounds-bounds-head
bounds-bounds-head c = omega (arith, c.requires)

pub returns-then-bounds-head : goal.returns-then-bounds-head
returns-then-bounds-head c =
    let l = c.loop-i in
    sym (l.invariant ∙ walk_stops _ _ _ _ c.unpack.ensures c.in-Some.is _ (omega arith) c.if-bounds-head.true)

pub loop-i-preserved : goal.loop-i-preserved
loop-i-preserved c =
    let l = c.loop-i in
    l.invariant ∙ walk_on_lem _ _ _ _ c.unpack.ensures c.in-Some.is (omega arith) c.if-bounds-head.false

pub returns : goal.returns
returns c = sym (c.loop-i.invariant ∙ walk-over _ _ _ _ _ (omega arith))
