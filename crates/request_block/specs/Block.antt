-- One stored block: as the caller's own arena bytes, and set.
use Rattle.std.specs.Prelude.{ℕ, ◌+◌, ◌*◌, List, [], Bool, cond, not, leb, length, Result, Ok, Err}
use Rattle.byte_parts.specs.Sizes.{block_size}
use Rattle.answers.specs.declared.refusal.Refusal.TheVariants.{ShortArena, NoSuchBlock, NotBuilt}
use Rattle.byte_parts.specs.Part.{part, put}
use Rattle.card_build.specs.declared.card.Card.{Card}
use Rattle.card_build.specs.Card.{nodes_of, is_sound, is_short}
use Rattle.request_check.specs.declared.table.Row.{Row}
use Rattle.request_check.specs.Row.{row_of}
use Rattle.answers.specs.declared.refusal.Refusal.{Refusal}

-- where a row's block lies in the arena
abbrev pub block_place : Row → ℕ → ℕ
block_place w number = block_size * (w.start + number)

-- a row has no block of a number not below its count; an unknown service has none
abbrev pub lacks_block : Row → ℕ → Bool
lacks_block w number = leb w.blocks number

-- whether a service has a block, in an arena of so many bytes: 8, 7, 23
-- RULES 2.3, 10.3
unfoldable pub block_judged : Card → ℕ → ℕ → ℕ → Result Unit Refusal
block_judged c arena_len code number =
    cond (not (is_sound c)) (Err NotBuilt)
    (cond (is_short arena_len c.used) (Err ShortArena)
    (cond (lacks_block (row_of (nodes_of c) code) number) (Err NoSuchBlock)
    (Ok tt)))

-- where a block lies that is there
abbrev pub located_by : ℕ → Result Unit Refusal → Result ℕ Refusal
located_by place (Ok tt) = Ok place
located_by place (Err r) = Err r

-- the place of a service's block in the arena, or its refusal
unfoldable pub block_located : Card → ℕ → ℕ → ℕ → Result ℕ Refusal
block_located c arena_len code number = located_by (block_place (row_of (nodes_of c) code) number) (block_judged c arena_len code number)

-- the block's bytes, once it is judged
abbrev pub block_by : Card → List ℕ → ℕ → ℕ → Result Unit Refusal → List ℕ
block_by c a code number (Ok tt) = part a (block_place (row_of (nodes_of c) code) number) 16
block_by c a code number (Err r) = []

-- sixteen bytes of the arena, or none
-- RULES 10.2
unfoldable pub stored_block : Card → List ℕ → ℕ → ℕ → List ℕ
stored_block c a code number = block_by c a code number (block_judged c (length a) code number)

-- the arena, once the block is judged
abbrev pub set_by : Card → List ℕ → ℕ → ℕ → List ℕ → Result Unit Refusal → List ℕ
set_by c a code number block (Ok tt) = put a (block_place (row_of (nodes_of c) code) number) 16 block
set_by c a code number block (Err r) = a

-- the arena with one block replaced
-- RULES 10.3
unfoldable pub arena_set : Card → List ℕ → ℕ → ℕ → List ℕ → List ℕ
arena_set c a code number block = set_by c a code number block (block_judged c (length a) code number)
