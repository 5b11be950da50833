-- By how the elements are checked.
use mathlib.Core.Path.{refl}
use native.Mathlib.Omega.{arith}
use lib.ListN.{length}
use Rattle.request_plan.specs.Request.{write_request}
use Rattle.request_serve.proofs.WritingLaws.{stores_fit, write-failed, write_ready, write_done}
use Rattle.request_serve.proofs.writing.checked_write.Goals as goal

pub overflow_mul-card : goal.overflow_mul-card
overflow_mul-card c =
    let a = c.args in
    let p = c.requires in
    omega (arith, stores_fit a.card a.arena.now (write_request a.«open» a.codes.now a.count a.list.now a.«data».now (length a.staging.now)) p.0 refl)

pub carry_out-requires : goal.carry_out-requires
carry_out-requires c =
    let a = c.args in
    let p = c.requires in
    write_ready a.card a.arena.now (write_request a.«open» a.codes.now a.count a.list.now a.«data».now (length a.staging.now)) p.0 p.1.0 p.1.1 refl c.in-Ok.is c.well_formed.0.1.1.0.1.0.1

pub returns-in-Err : goal.returns-in-Err
returns-in-Err c =
    let a = c.args in
    let p = c.requires in
    let o = write-failed a.card a.arena.now (write_request a.«open» a.codes.now a.count a.list.now a.«data».now (length a.staging.now)) p.0 p.1.0 p.1.1 c.in-Err.is in
    (o.0, (o.1, refl))

pub returns-in-Ok : goal.returns-in-Ok
returns-in-Ok c =
    let a = c.args in
    let p = c.requires in
    let m = c.carry_out.ensures in
    let o = write_done a.card a.arena.now (write_request a.«open» a.codes.now a.count a.list.now a.«data».now (length a.staging.now)) p.0 p.1.0 p.1.1 refl c.in-Ok.is m.0 m.1.0 in
    (o.0, (o.1, m.1.1))
