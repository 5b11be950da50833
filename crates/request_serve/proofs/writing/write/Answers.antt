-- By how the request is judged.
use mathlib.Core.Path.{refl, sym, ◌∙◌}
use native.Mathlib.Omega.{arith}
use lib.ListN.{length}
use Rattle.request_plan.specs.Request.{write_request}
use Rattle.request_plan.proofs.Serves.{refused, short, unchanged}
use Rattle.request_serve.proofs.WritingLaws.{short_fits_lem}
use Rattle.request_serve.proofs.writing.write.Goals as goal

pub overflow_mul-card : goal.overflow_mul-card
overflow_mul-card c =
    let a = c.args in
    omega (arith, short_fits_lem a.card (length a.arena.now) (write_request a.«open» a.codes.now a.count a.list.now a.«data».now (length a.staging.now)) refl (sym (rw c.is_sound-sound.ensures at c.settle-settled.ensures.0) ∙ c.in-ShortData.is))

pub zero-requires : goal.zero-requires
zero-requires c =
    let a = c.args in
    omega (arith, short_fits_lem a.card (length a.arena.now) (write_request a.«open» a.codes.now a.count a.list.now a.«data».now (length a.staging.now)) refl (sym (rw c.is_sound-sound.ensures at c.settle-settled.ensures.0) ∙ c.in-ShortData.is))

pub wiped_write-requires : goal.wiped_write-requires
wiped_write-requires c =
    (sym (rw c.is_sound-sound.ensures at c.settle-settled.ensures.0) ∙ c.in-Fit.is, c.settle-settled.ensures.1)

pub returns-in-Refused : goal.returns-in-Refused
returns-in-Refused c =
    let o = unchanged (refused _ _ _ (sym (rw c.is_sound-sound.ensures at c.settle-settled.ensures.0) ∙ c.in-Refused.is)) in
    (o.0, (o.1, refl))

pub returns-in-ShortData : goal.returns-in-ShortData
returns-in-ShortData c =
    let o = unchanged (short _ _ _ (sym (rw c.is_sound-sound.ensures at c.settle-settled.ensures.0) ∙ c.in-ShortData.is)) in
    (o.0, (o.1, c.zero.ensures))

pub returns-in-Fit : goal.returns-in-Fit
returns-in-Fit c = c.wiped_write.ensures.wiped
