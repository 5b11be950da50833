-- An area's total as docs/RULES.md words it: by the children of the area.
use Rattle.std.specs.Prelude.{ℕ, ◌+◌, List}
use Rattle.card_nodes.specs.declared.node.Entry.{Entry}
use Rattle.card_nodes.specs.declared.node.Entry.TheVariants.{Area, Service}
use Rattle.card_nodes.specs.declared.node.Node.{Node}
use Rattle.card_laws.specs.Worded.{by_children}

-- a service adds its blocks, a child area its total
abbrev pub child_total : Entry → ℕ → ℕ
child_total (Area e) total = total
child_total (Service s b l) total = b

-- An area's block total is its own services plus, by the same rule, each child area's total.
abbrev pub total_worded : ℕ → ℕ → List Node → ℕ
total_worded = by_children 0 ◌+◌ (λ n total. child_total n.entry total)
