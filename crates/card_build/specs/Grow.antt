-- The additions and the limit, on a card that is sound.
use Rattle.std.specs.Prelude.{ℕ, ◌+◌, ◌-◌, Bool, cond, not, leb, ℤ, get_or, set, Option, None, Result, Ok, Err}
use Rattle.answers.specs.declared.refusal.Refusal.TheVariants.{NotBuilt, TableFull, ShortArena, NotAService}
use Rattle.service_code.specs.declared.limit.Limit.{Limit}
use Rattle.card_nodes.specs.declared.node.Entry.{Entry}
use Rattle.card_nodes.specs.declared.node.Entry.TheVariants.{Area, Service}
use Rattle.card_nodes.specs.declared.node.Node.{Node}
use Rattle.card_admit.specs.declared.Placed.{Placed}
use Rattle.card_nodes.specs.Node.{root_node}
use Rattle.card_admit.specs.Admit.{area_judged, placed_of, agreed}
use Rattle.card_build.specs.declared.card.Card.{Card}
use Rattle.card_build.specs.declared.card.Added.{Added}
use Rattle.card_build.specs.declared.build.Growth.{Growth}
use Rattle.card_build.specs.Card.{nodes_of, is_short, grown, accepted, refused}
use Rattle.answers.specs.declared.refusal.Refusal.{Refusal}
use Rattle.service_code.specs.Limit.{limited_to}

-- the record of a node
-- RULES 5.2
abbrev pub node_as : ℕ → ℕ → ℕ → Entry → Node
node_as depth code version entry = record { depth = depth; code = code; version = version; entry = entry }

-- a node's record after `count` others, with `used` blocks in use
abbrev pub growth_of : Node → ℕ → ℕ → Growth
growth_of n count used = record { node = n; count = count + 1; used = used }

-- the card with that record next
abbrev pub grown_by : Card → Growth → Added
grown_by c g = accepted (record { nodes = set c.nodes c.count g.node; count = g.count; used = g.used; system = c.system })

-- a refused area leaves the card as it was
abbrev pub area_by : Card → Node → Result Unit Refusal → Added
area_by c n (Err r) = refused c r
area_by c n (Ok tt) = accepted (grown c n c.used)

-- 20: no record of the card is free; then those of the judging
-- RULES 5.4
unfoldable pub add_area : Card → ℕ → ℕ → ℕ → ℕ → Added
add_area c depth code end version =
    cond (leb 64 c.count) (refused c TableFull)
    (area_by c (node_as depth code version (Area end)) (area_judged (nodes_of c) depth code end))

-- what comes ahead of a service's own refusals: 8 of a card that is not sound, 7 of an arena that is short, 20 of a card that is full
unfoldable pub ahead_of_service : Bool → Bool → Bool → Result Unit Refusal
ahead_of_service sound short full =
    cond (not sound) (Err NotBuilt)
    (cond short (Err ShortArena)
    (cond full (Err TableFull)
    (Ok tt)))

-- and so does a refused service, by 19 too
abbrev pub service_by : Card → ℕ → ℕ → ℕ → Result Placed Refusal → Added
service_by c depth code version (Err r) = refused c r
service_by c depth code version (Ok placed) = accepted (grown c (node_as depth code version (Service placed.start placed.blocks None)) placed.used)

-- 7 ahead of the others, for an arena of `arena_len` bytes; then 20, then those of the placing, 24 among them
-- RULES 2.3, 5.4
unfoldable pub add_service : Card → ℕ → ℕ → ℕ → ℕ → ℕ → Added
add_service c arena_len depth code blocks version =
    cond (is_short arena_len c.used) (refused c ShortArena)
    (cond (leb 64 c.count) (refused c TableFull)
    (service_by c depth code version (agreed c.system.join blocks (placed_of (nodes_of c) c.used arena_len depth code blocks))))

-- the node added last
abbrev pub last_node : Card → Node
last_node c = get_or c.nodes (c.count - 1) root_node

-- 28 for an area
abbrev pub limit_by : Card → Option Limit → Entry → Added
limit_by c l (Area e) = refused c NotAService
limit_by c l (Service s b old) = accepted (record {
  nodes = set c.nodes (c.count - 1) (node_as (last_node c).depth (last_node c).code (last_node c).version (Service s b l));
  count = c.count;
  used = c.used;
  system = c.system;
})

-- a limit goes to the node added last and replaces an earlier one; any two bounds are accepted
-- RULES 5.9
unfoldable pub set_limit : Card → ℤ → ℤ → ℕ → Added
set_limit c upper lower generation = limit_by c (limited_to upper lower generation) (last_node c).entry
