-- The code tests in the definition's order, and reads the parent that the definition finds.
use Rattle.std.proofs.Common.{◌∙◌, ap, arith}
use Rattle.card_admit.specs.Admit.{area_judged}
use Rattle.card_build.proofs.Judged.{parent-index, area_orphan, judged}
use Rattle.card_build.proofs.fits.judge_area.Goals as goal

pub returns-in_default : goal.returns-in_default
returns-in_default c =
    area_orphan _ _ c.parent_at.ensures c.in_default.is _ _ ∙ ap (λ ns. area_judged ns c.args.depth c.args.code c.args.end) c.records-nodes.ensures

pub offset_bounds-nodes-parent : goal.offset_bounds-nodes-parent
offset_bounds-nodes-parent c = omega (arith, parent-index _ _ c.parent_at.ensures c.in-Some.is)

pub bounds-nodes-parent : goal.bounds-nodes-parent
bounds-nodes-parent c = parent-index _ _ c.parent_at.ensures c.in-Some.is

pub returns : goal.returns
returns c =
    c.area_under.ensures
    ∙ judged _ _ c.parent_at.ensures c.in-Some.is _ _ _
    ∙ ap (λ ns. area_judged ns c.args.depth c.args.code c.args.end) c.records-nodes.ensures
