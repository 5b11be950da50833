-- The directory as docs/RULES.md words it: by the children of each area.
use Rattle.std.specs.Prelude.{ℕ, List, [], ◌∷◌, ◌++◌}
use Rattle.card_nodes.specs.declared.node.Entry.{Entry}
use Rattle.card_nodes.specs.declared.node.Entry.TheVariants.{Area, Service}
use Rattle.card_nodes.specs.declared.node.Node.{Node}
use Rattle.card_laws.specs.Worded.{by_children}
use Rattle.card_questions.specs.Directory.{pair_of}

-- a child area is listed, then its children
abbrev pub child_pairs : Node → Entry → List ℕ → List ℕ
child_pairs n (Area e) children = pair_of n children
child_pairs n (Service s b l) children = pair_of n []

-- The directory lists each area, then its children in order, an area within starting the same again.
abbrev pub pairs_worded : ℕ → ℕ → List Node → List ℕ
pairs_worded = by_children [] ◌++◌ (λ n children. child_pairs n n.entry children)

-- the pairs of all nodes, in tree order
unfoldable pub pairs_of : List Node → List ℕ
pairs_of [] = []
pairs_of (n ∷ ns) = pair_of n (pairs_of ns)
