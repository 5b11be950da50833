-- What one walk over the nodes under an area gathers: a packet of its children, and their count.
use Rattle.std.specs.Prelude.{ℕ, ◌+◌, ◌*◌, List, [], ◌∷◌, cond, eqb, ltb, leb, set}
use Rattle.node_messages.specs.declared.code_list.CodeList.{CodeList}
use Rattle.node_messages.specs.CodeList.{empty_list}
use Rattle.card_nodes.specs.declared.node.Entry.{Entry}
use Rattle.card_nodes.specs.declared.node.Entry.TheVariants.{Area, Service}
use Rattle.card_nodes.specs.declared.node.Node.{Node}
use Rattle.card_lists.specs.declared.gather.Gathered.{Gathered}

abbrev pub nothing_gathered : Gathered
nothing_gathered = record { list = empty_list; children = 0 }

abbrev pub area_gathered : CodeList → ℕ → ℕ → CodeList
area_gathered m code end = record {
  more = m.more;
  areas = m.areas + 1;
  ranges = set (set m.ranges (2 * m.areas) code) (2 * m.areas + 1) end;
  services = m.services;
  codes = m.codes;
}

abbrev pub service_gathered : CodeList → ℕ → CodeList
service_gathered m code = record {
  more = m.more;
  areas = m.areas;
  ranges = m.ranges;
  services = m.services + 1;
  codes = set m.codes m.services code;
}

abbrev pub child_by : CodeList → ℕ → Entry → CodeList
child_by m code (Area end) = area_gathered m code end
child_by m code (Service s b l) = service_gathered m code

-- a packet that is full takes no child
unfoldable pub child_added : CodeList → Node → CodeList
child_added m n = cond (leb 16 (m.areas + m.services)) m (child_by m n.code n.entry)

-- a node one level deeper is a child, and is added once the first children have been seen
unfoldable pub node_added : ℕ → ℕ → Gathered → Node → Gathered
node_added d first g n =
    cond (eqb n.depth (d + 1)) (record { list = cond (ltb g.children first) g.list (child_added g.list n); children = g.children + 1 }) g

-- up to the first node that is no deeper than the area
unfoldable pub gathered_from : ℕ → ℕ → Gathered → List Node → Gathered
gathered_from d first g [] = g
gathered_from d first g (n ∷ ns) = cond (leb n.depth d) g (gathered_from d first (node_added d first g n) ns)
