-- One stored block: set from a part that must be sixteen bytes, and where it lies.
use Rattle.std.specs.Prelude.{ℕ, List, cond, eqb, length, Result, Ok, Err}
use Rattle.answers.specs.declared.refusal.Refusal.TheVariants.{MalformedImage}
use Rattle.card_build.specs.declared.card.Card.{Card}
use Rattle.card_build.specs.Card.{nodes_of}
use Rattle.request_check.specs.Row.{row_of}
use Rattle.request_block.specs.Block.{block_place, block_judged, arena_set}
use Rattle.answers.specs.declared.refusal.Refusal.{Refusal}

-- a block of another length is what a malformed `blk` line is: 30, after the call's own refusals
abbrev pub unfit_after : Result Unit Refusal → Result Unit Refusal
unfit_after (Ok tt) = Err MalformedImage
unfit_after (Err r) = Err r

-- RULES 15.3
unfoldable pub set_answer : Card → ℕ → ℕ → ℕ → List ℕ → Result Unit Refusal
set_answer c arena_len code number block =
    cond (eqb (length block) 16) (block_judged c arena_len code number) (unfit_after (block_judged c arena_len code number))

-- RULES 15.3
unfoldable pub set_after : Card → List ℕ → ℕ → ℕ → List ℕ → List ℕ
set_after c arena code number block = cond (eqb (length block) 16) (arena_set c arena code number block) arena

-- where a block lies in the arena, if it is there
abbrev pub place_by : ℕ → ℕ → Result Unit Refusal → ℕ
place_by old place (Ok tt) = place
place_by old place (Err r) = old

unfoldable pub block_place_after : ℕ → Card → ℕ → ℕ → ℕ → ℕ
block_place_after old c arena_len code number = place_by old (block_place (row_of (nodes_of c) code) number) (block_judged c arena_len code number)
