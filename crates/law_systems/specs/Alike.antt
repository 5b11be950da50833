-- What is alike on two cards that hold one system, its stores k blocks later on the first: arenas, and what a request comes to.
use Rattle.std.specs.Prelude.{ℕ, ◌+◌, ◌*◌, ◌≤◌, ◌<◌, true, List, ◌⊎◌, ◌≡◌}
use Rattle.byte_parts.specs.Sizes.{block_size}
use Rattle.byte_parts.specs.Part.{part}
use Rattle.answers.specs.declared.refusal.Refusal.TheVariants.{ShortStaging, ShortArena}
use Rattle.card_nodes.specs.declared.node.Node.{Node}
use Rattle.card_nodes.specs.Node.{start_of, blocks_of}
use Rattle.card_moved.specs.Moved.{entry_at}
use Rattle.request_plan.specs.declared.Reply.TheVariants.{Refused}
use Rattle.request_plan.specs.Request.{Request}
use Rattle.request_plan.specs.Serve.{Served}

-- byte i of the arena is one of a store of these nodes, that of the node at an index
pub record Stored (ns : List Node) (i : ℕ) : Type 0 where
  pub node : ℕ
  pub from : block_size * start_of (entry_at ns node) ≤ i
  pub to : i < block_size * start_of (entry_at ns node) + block_size * blocks_of (entry_at ns node)

-- The arena b holds each store of the nodes ns at its start, and a holds the same bytes k blocks later. What lies between stores, before
-- and after them may be anything, and the arenas may be of any lengths.
abbrev pub StoresAlike : ℕ → List Node → List ℕ → List ℕ → Type 0
StoresAlike k ns a b = (j : ℕ) →
    part a (block_size * (k + start_of (entry_at ns j))) (block_size * blocks_of (entry_at ns j))
    ≡ part b (block_size * start_of (entry_at ns j)) (block_size * blocks_of (entry_at ns j))

-- two requests are answered the same: reply, bytes read, and stores that are left alike
pub record ServedAlike (k : ℕ) (ns : List Node) (x y : Served) : Type 0 where
  pub reply : x.reply ≡ y.reply
  pub read : x.read ≡ y.read
  pub left : StoresAlike k ns x.arena y.arena

-- refusal 4 or 7: staging or arena is too short for the blocks in use
abbrev pub LentShort : Served → Type 0
LentShort x = (x.reply ≡ Refused ShortStaging) ⊎ (x.reply ≡ Refused ShortArena)

-- Answered the same, but that either may be refused with 4 or 7: the blocks in use are more on a card that holds another system too. That
-- the one is refused says nothing of the other, since 7 comes ahead of 4, and 4 ahead of FF AC.
abbrev pub SameButLent : ℕ → List Node → Served → Served → Type 0
SameButLent k ns x y = LentShort x ⊎ (LentShort y ⊎ ServedAlike k ns x y)

-- arena and, for a write, staging hold the blocks in use, so that a request is refused neither with 7 nor with 4
abbrev pub LentEnough : ℕ → ℕ → Request → Type 0
LentEnough used arena_len r = (block_size * used ≤ arena_len) × (r.write ≡ true → block_size * used ≤ r.room)
