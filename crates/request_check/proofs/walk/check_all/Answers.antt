-- By how far the walk goes.
use mathlib.Core.Path.{◌∙◌}
use lib.ListN.{take}
use borrow.Author.Rules.{rules}
use Rattle.request_check.specs.Walk.{Bounds}
use Rattle.request_check.proofs.Bounds.{lent}
use Rattle.request_check.proofs.Walks.{over, stopped, told_of}
use Rattle.request_check.proofs.walk.check_all.Goals as goal

pub returns-in-Over : goal.returns-in-Over
returns-in-Over c =
    let a = c.args in
    let there = lent (take a.table.count a.table.rows) a.write a.«open» c.bounds_of-bounds.result c.bounds_of-bounds.ensures in
    let o = over _ _ _ _ there _ _ c.walk.ensures c.in-Over.is in
    told_of _ _ _ _ _ o.0 o.1

pub returns-in-Stopped : goal.returns-in-Stopped
returns-in-Stopped c =
    let a = c.args in
    let there = lent (take a.table.count a.table.rows) a.write a.«open» c.bounds_of-bounds.result c.bounds_of-bounds.ensures in
    let s = stopped _ _ _ _ there _ _ c.walk.ensures c.in-Stopped.is in
    told_of _ _ _ _ _ c.list_ends.ensures (c.fault_at.ensures ∙ s)
