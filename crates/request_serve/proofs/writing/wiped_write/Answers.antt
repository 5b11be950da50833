-- What was staged is zero again.
use mathlib.Core.Path.{refl}
use native.Mathlib.Omega.{arith}
use lib.ListN.{length}
use Rattle.request_plan.specs.Request.{write_request}
use Rattle.request_serve.proofs.WritingLaws.{stores_fit, wiped}
use Rattle.request_serve.proofs.writing.wiped_write.Goals as goal

pub overflow_mul-card : goal.overflow_mul-card
overflow_mul-card c =
    let a = c.args in
    omega (arith, stores_fit a.card a.arena.now (write_request a.«open» a.codes.now a.count a.list.now a.«data».now (length a.staging.now)) c.requires.0 refl)

pub zero-requires : goal.zero-requires
zero-requires c =
    let a = c.args in
    omega (arith, stores_fit a.card a.arena.now (write_request a.«open» a.codes.now a.count a.list.now a.«data».now (length a.staging.now)) c.requires.0 refl)

pub returns : goal.returns
returns c =
    let a = c.args in
    let w = c.checked_write-reply in
    let m = w.ensures in
    record {
      wiped = (m.0, (m.1.0, wiped a.card a.arena.now (write_request a.«open» a.codes.now a.count a.list.now a.«data».now (length a.staging.now)) c.requires.0 refl a.staging.now w.new.staging _ m.0 refl w.auto.staging m.1.1 c.zero.ensures));
    }
