-- Refusals 8, 7 and 46, or the information.
use mathlib.Core.Path.{◌≡◌, sym, ◌∙◌}
use mathlib.Core.Bool.{true}
use lib.ListN.{length}
use borrow.Author.Rules.{rules}
use borrow.Author.Tests.{not-true, not-false}
use Rattle.card_build.specs.Card.{is_sound}
use Rattle.card_lists.proofs.Told.{info_unsound, info_refused, info_few, info_told}
use Rattle.card_lists.proofs.information.block_information.Goals as goal
use Rattle.card_lists.proofs.information.block_information.Goals.{Else-not-is_sound}

-- the card is sound
sound : (c : Else-not-is_sound) → is_sound c.args.card ≡ true
sound c = sym c.is_sound.ensures ∙ c.if-not-is_sound.false

pub returns-then-not-is_sound : goal.returns-then-not-is_sound
returns-then-not-is_sound c = c.refused.ensures ∙ info_unsound _ _ _ (sym c.is_sound.ensures ∙ c.if-not-is_sound.true)

pub returns-in-Err : goal.returns-in-Err
returns-in-Err c =
    c.refused-in-Err.ensures ∙ info_refused _ _ _ (sound (goal.at.returns-in-Err c).Else-not-is_sound) c.ahead.ensures c.in-Err.is

pub information_of-requires : goal.information_of-requires
information_of-requires c =
    let a = c.args in
    info_few a.card (length a.arena.now) a.asked.now (sound (goal.at.information_of-requires c).Else-not-is_sound) c.ahead.ensures c.in_default.is

pub returns : goal.returns
returns c =
    info_told _ _ _ (sound (goal.at.returns c).Else-not-is_sound) c.ahead.ensures c.in_default.is c.unused_blocks.ensures c.information_of.ensures
