-- By how the request is judged, then by how its elements are checked.
use mathlib.Core.Path.{sym, ◌∙◌}
use Rattle.request_plan.proofs.Serves.{refused, short, unread}
use Rattle.request_serve.proofs.ReadingLaws.{read-failed, read_ready, read_done}
use Rattle.request_serve.proofs.reading.read.Goals as goal

pub copy_blocks-requires : goal.copy_blocks-requires
copy_blocks-requires c =
    let a = c.args in
    let s = c.settle-settled.ensures in
    read_ready a.card a.arena.now a.out.now _ _ _ _ (sym (rw c.is_sound-sound.ensures at s.0) ∙ c.in-Fit.is) s.1.0 s.1.1 c.well_formed.0.1.1.0.1.0.1 c.in-Ok.is

pub returns-in-Refused : goal.returns-in-Refused
returns-in-Refused c =
    unread _ (refused _ _ _ (sym (rw c.is_sound-sound.ensures at c.settle-settled.ensures.0) ∙ c.in-Refused.is))

pub returns-in-ShortData : goal.returns-in-ShortData
returns-in-ShortData c =
    unread _ (short _ _ _ (sym (rw c.is_sound-sound.ensures at c.settle-settled.ensures.0) ∙ c.in-ShortData.is))

pub returns-in-Err : goal.returns-in-Err
returns-in-Err c =
    let s = c.settle-settled.ensures in
    read-failed _ _ _ _ _ _ _ (sym (rw c.is_sound-sound.ensures at s.0) ∙ c.in-Fit.is) s.1.0 s.1.1 c.in-Err.is

pub returns-in-Ok : goal.returns-in-Ok
returns-in-Ok c =
    let s = c.settle-settled.ensures in
    read_done _ _ _ _ _ _ _ (sym (rw c.is_sound-sound.ensures at s.0) ∙ c.in-Fit.is) s.1.0 s.1.1 c.in-Ok.is c.copy_blocks.ensures
