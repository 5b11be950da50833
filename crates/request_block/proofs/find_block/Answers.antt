-- Each test of the definition, in its order; then the place.
use mathlib.Core.Path.{sym, ◌∙◌}
use native.Mathlib.Omega.{arith}
use Rattle.request_block.proofs.Blocks.{not_built, short_arena, there, not_there}
use Rattle.request_block.proofs.find_block.Goals as goal

pub returns-then-not-is_sound : goal.returns-then-not-is_sound
returns-then-not-is_sound c = not_built _ _ _ _ (sym c.is_sound.ensures ∙ c.if-not-is_sound.true)

pub returns-then-is_short : goal.returns-then-is_short
returns-then-is_short c =
    short_arena _ _ _ _ (sym c.is_sound.ensures ∙ c.if-not-is_sound.false) (sym c.is_short.ensures ∙ c.if-is_short.true)

pub returns-then-own-number : goal.returns-then-own-number
returns-then-own-number c =
    not_there _ _ _ _ (sym c.is_sound.ensures ∙ c.if-not-is_sound.false) (sym c.is_short.ensures ∙ c.if-is_short.false) (rw c.records.ensures at c.row_of-own.ensures) (omega arith)

pub returns : goal.returns
returns c =
    there _ _ _ _ (sym c.is_sound.ensures ∙ c.if-not-is_sound.false) (sym c.is_short.ensures ∙ c.if-is_short.false) (rw c.records.ensures at c.row_of-own.ensures) (omega arith)
