-- The nodes under an area of depth d: of those that follow it in tree order, all up to the first that is not deeper.
use Rattle.std.specs.Prelude.{ℕ, suc, ◌+◌, List, [], ◌∷◌, cond, leb}
use Rattle.card_nodes.specs.declared.node.Node.{Node}
use Rattle.card_nodes.specs.Node.{blocks_of}

-- how many they are
unfoldable pub span_under : ℕ → List Node → ℕ
span_under d [] = 0
span_under d (n ∷ ns) = cond (leb n.depth d) 0 (suc (span_under d ns))

-- the blocks of the services among them, a joined store once for each service
unfoldable pub sum_under : ℕ → List Node → ℕ
sum_under d [] = 0
sum_under d (n ∷ ns) = cond (leb n.depth d) 0 (blocks_of n.entry + sum_under d ns)
