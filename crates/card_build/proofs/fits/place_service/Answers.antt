-- The code tests in the definition's order, and reads the parent that the definition finds.
use Rattle.std.proofs.Common.{ap, sym, ◌∙◌, arith}
use Rattle.card_admit.specs.Admit.{agreed, placed_of}
use Rattle.card_build.proofs.Judged.{parent-index, service_orphan, placed}
use Rattle.card_build.proofs.fits.place_service.Goals as goal

pub returns-in_default : goal.returns-in_default
returns-in_default c =
    let a = c.args in
    service_orphan _ _ c.parent_at.ensures c.in_default.is _ _ _ _ _
    ∙ ap (λ ns. agreed a.join a.blocks (placed_of ns a.used a.arena_len a.depth a.code a.blocks)) c.records-taken.ensures

pub offset_bounds-taken-p : goal.offset_bounds-taken-p
offset_bounds-taken-p c = omega (arith, parent-index _ _ c.parent_at.ensures c.in-Some.is)

pub bounds-taken-p : goal.bounds-taken-p
bounds-taken-p c = parent-index _ _ c.parent_at.ensures c.in-Some.is

pub returns : goal.returns
returns c =
    let a = c.args in
    let same = c.records.ensures ∙ sym c.records-taken.ensures in
    c.given_under.ensures
    ∙ ap (agreed a.join a.blocks) (placed _ _ c.parent_at.ensures c.in-Some.is _ _ _ _ _ (rw same at c.first_of-first.ensures))
    ∙ ap (λ ns. agreed a.join a.blocks (placed_of ns a.used a.arena_len a.depth a.code a.blocks)) c.records-taken.ensures
