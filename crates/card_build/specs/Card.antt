-- A card's value.
use Rattle.std.specs.Prelude.{ℕ, ◌+◌, ◌*◌, List, Bool, ltb, take, set, replicate, Ok, Err}
use Rattle.byte_parts.specs.Sizes.{block_size}
use Rattle.answers.specs.declared.refusal.Refusal.{Refusal}
use Rattle.card_nodes.specs.declared.node.Node.{Node}
use Rattle.card_nodes.specs.Node.{root_node}
use Rattle.card_sound.specs.Sound.{sound_of}
use Rattle.card_build.specs.declared.card.System.{System}
use Rattle.card_build.specs.declared.card.Card.{Card}
use Rattle.card_build.specs.declared.card.Added.{Added}

-- a system's code and key version, and whether its services may join a store of another count
abbrev pub system_of : ℕ → ℕ → Bool → System
system_of code version join = record { code = code; version = version; join = join }

-- 64 records that are alike, of which the first is taken, and no block in use
abbrev pub of_one : Node → System → Card
of_one n system = record { nodes = replicate 64 n; count = 1; used = 0; system = system }

-- the root alone; unused records read the same
-- RULES 1.1
abbrev pub new_card : System → Card
new_card system = record { nodes = replicate 64 root_node; count = 1; used = 0; system = system }

-- the nodes of the card's system, in tree order
-- RULES 1.1
abbrev pub nodes_of : Card → List Node
nodes_of c = take c.count c.nodes

-- the test of refusal 8
abbrev pub is_sound : Card → Bool
is_sound c = sound_of c.nodes c.count c.used

-- so many bytes are too few for a number of blocks
abbrev pub too_short : ℕ → ℕ → Bool
too_short bytes blocks = ltb bytes (block_size * blocks)

-- the test of refusal 7: an arena of `arena_len` bytes is too short for the blocks in use
-- RULES 2.3
abbrev pub is_short : ℕ → ℕ → Bool
is_short arena_len used = too_short arena_len used

-- the card with one record more
-- RULES 5.1, 5.11
abbrev pub grown : Card → Node → ℕ → Card
grown c n used = record { nodes = set c.nodes c.count n; count = c.count + 1; used = used; system = c.system }

-- RULES 5.11
abbrev pub accepted : Card → Added
accepted c = record { card = c; answer = Ok tt }

-- a refusal changes no node
-- RULES 2.1, 5.10
abbrev pub refused : Card → Refusal → Added
refused c r = record { card = c; answer = Err r }
