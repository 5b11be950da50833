-- The parent by all nodes is the one by the nodes left, after those passed.
use Rattle.std.proofs.Common.{◌∙◌, ◌<◌, length, arith, rules}
use Rattle.card_nodes.specs.Find.{parent_from}
use Rattle.card_nodes.proofs.Scan.{done}
use Rattle.card_nodes.proofs.Turns.{decides, leaves}
use Rattle.card_build.proofs.fits.find_parent.Goals as goal
use Rattle.card_build.proofs.fits.find_parent.Goals.{then-node-depth, else-node-depth}

pub loop-i-preserved : goal.loop-i-preserved
loop-i-preserved c =
    let left = c.loop-i.invariant in
    let lt : c.loop-i.i < length c.args.nodes.now = omega arith in
    elim c.if-node-depth.branch [
      | then-node-depth w ↦ decides _ _ _ left lt w.if-node-depth.true (w.found-is ∙ w.open_at-found.ensures)
      | else-node-depth w ↦ leaves _ _ _ left lt w.if-node-depth.false w.found-is
    ]

pub returns : goal.returns
unfolding parent_from
returns c = done c.loop-i.invariant (omega arith)
