-- What is gathered in all is what is gathered from the nodes that are left, and fewer children are seen than nodes.
use mathlib.Core.Path.{◌≡◌, ap}
use mathlib.Core.List.{List}
use Prim.Native.Nat.{ℕ, ◌+◌, ◌-◌, ◌<◌}
use native.Mathlib.Omega.{arith}
use lib.ListN.{length, take, drop, get_or}
use borrow.Author.Rules.{rules}
use Rattle.card_nodes.specs.declared.node.Node.{Node}
use Rattle.card_nodes.specs.Node.{root_node}
use Rattle.card_nodes.proofs.Scan.{Left}
use Rattle.card_lists.specs.Gather.{nothing_gathered, gathered_from}
use Rattle.card_lists.proofs.Gathering.{walk_begins, walk_ends, walk_on_lem, walk-done, still_fewer, same_read}
use Rattle.card_lists.proofs.gather.gather.Goals as goal

pub loop-i-init : goal.loop-i-init
loop-i-init c =
    let l : length c.args.nodes ≡ 64 = search rules in
    let d = ap (λ (n : Node). n.depth) (same_read c.args.nodes c.args.at _ root_node (omega (arith, l, c.requires))) in
    (walk_begins _ _ l c.taken-n.ensures c.requires d c.empty.ensures, omega arith)

pub returns-then-node-above : goal.returns-then-node-above
returns-then-node-above c =
    let l = c.loop-i in
    walk_ends _ _ l.held _ l.invariant.0 c.loop-i-test.true c.if-node-above.true

pub loop-i-preserved : goal.loop-i-preserved
loop-i-preserved c =
    let l = c.loop-i in (
      walk_on_lem _ _ l.held _ l.invariant.0 c.loop-i-test.true c.if-node-above.false c.add_node-held.ensures,
      still_fewer _ _ l.held _ l.invariant.1 c.add_node-held.ensures,
    )

pub returns : goal.returns
returns c = let l = c.loop-i in walk-done _ _ l.held root_node l.invariant.0 c.loop-i-test.false
