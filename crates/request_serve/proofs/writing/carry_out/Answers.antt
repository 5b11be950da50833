-- By how the runs end.
use mathlib.Core.List.{List}
use lib.ListN.{take}
use Rattle.block_list.specs.Element.{elements_from}
use Rattle.request_serve.proofs.WritingLaws.{rest-kept, run_failed, runs_done}
use Rattle.request_serve.proofs.writing.carry_out.Goals as goal

pub returns-in-Err : goal.returns-in-Err
returns-in-Err c =
    let a = c.args in
    let rows = take a.table.count a.table.rows in
    let p = c.requires in
    let k = c.copy_stores.ensures in
    let o = run_failed rows a.arena.now a.staging.now _ a.size p.0 p.1 p.5 k c.apply.new.stage c.apply.auto.stage a.«data».now (elements_from a.list.now a.count 0) c.apply.ensures c.in-Err.is in
    (o.0, (o.1, rest-kept rows a.arena.now a.staging.now _ a.size p.0 p.1 p.5 k c.apply.new.stage c.apply.auto.stage))

pub returns-in-Ok : goal.returns-in-Ok
returns-in-Ok c =
    let a = c.args in
    let rows = take a.table.count a.table.rows in
    let p = c.requires in
    let k = c.copy_stores.ensures in
    let o = runs_done rows a.arena.now a.staging.now _ a.size p.0 p.1 p.5 k c.apply.new.stage c.apply.auto.stage a.«data».now (elements_from a.list.now a.count 0) c.apply.ensures c.in-Ok.is c.copy_stores-in-Ok.ensures in
    (o.0, (o.1, rest-kept rows a.arena.now a.staging.now _ a.size p.0 p.1 p.5 k c.apply.new.stage c.apply.auto.stage))
