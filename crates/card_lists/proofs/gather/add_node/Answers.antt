-- A node is a child or not, and before the packet or not.
use native.Mathlib.Omega.{arith}
use borrow.Author.Rules.{rules}
use Rattle.card_lists.proofs.Gathering.{node_other, node_before, node_child}
use Rattle.card_lists.proofs.gather.add_node.Goals as goal

pub returns-then-node-depth : goal.returns-then-node-depth
returns-then-node-depth c = node_other _ _ _ _ c.if-node-depth.true

pub returns-then-held-first : goal.returns-then-held-first
returns-then-held-first c = node_before _ _ _ _ c.if-node-depth.false c.if-held-first.true

pub returns : goal.returns
returns c = node_child _ _ _ _ c.if-node-depth.false c.if-held-first.false c.add_child.ensures

pub overflow_add-result : goal.overflow_add-result
overflow_add-result c = omega (arith, c.requires)

pub overflow_add-result-2 : goal.overflow_add-result-2
overflow_add-result-2 c = omega (arith, c.requires)
