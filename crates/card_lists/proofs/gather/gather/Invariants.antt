use mathlib.Core.Path.{◌≡◌, ap}
use mathlib.Core.List.{List}
use Prim.Native.Nat.{ℕ, ◌+◌, ◌-◌, ◌<◌}
use native.Mathlib.Omega.{arith}
use lib.ListN.{length, take, drop, get_or}
use borrow.Author.Rules.{rules}
use Rattle.card_nodes.specs.declared.node.Node.{Node}
use Rattle.card_nodes.specs.Node.{root_node}
use Rattle.card_nodes.proofs.Scan.{Left}
use Rattle.card_lists.specs.Gather.{nothing_gathered, gathered_from}
use Rattle.card_lists.proofs.Gathering.{walk_begins, walk_ends, walk_on_lem, walk-done, still_fewer, same_read}
use Rattle.card_lists.proofs.gather.gather.Given as goal

abbrev pub invariant-loop-i : goal.invariant-loop-i
invariant-loop-i l =
    Left l.nodes l.count l.n (gathered_from (get_or l.nodes l.at root_node).depth l.first nothing_gathered (drop (l.at + 1) (take l.count l.nodes)))
    (λ (j : ℕ) (rest : List Node). gathered_from l.above.depth l.first l.held rest) l.i
    × (l.held.children < l.i)
