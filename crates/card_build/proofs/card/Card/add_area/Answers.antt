-- The code tests in the definition's order; the depth of an accepted area fits.
use Rattle.std.proofs.Common.{◌≡◌, sym, ◌∙◌, true, false, leb, ◌≤◌, arith, Result}
use Rattle.card_admit.specs.Admit.{area_judged}
use Rattle.card_build.specs.Card.{nodes_of, is_sound}
use Rattle.card_build.proofs.Accepted.{area-accepted}
use Rattle.card_build.proofs.Answers.{grew, area-unsound, area-full, area-refused, area-done}
use Rattle.card_build.proofs.card.Card.add_area.Goals as goal
use Rattle.card_build.proofs.card.Card.add_area.Goals.{Else-not-is_sound, Else-is_full, After-judge_area, In-Ok}
use Rattle.answers.specs.declared.refusal.Refusal.{Refusal}

-- the card is sound
sound : (c : Else-not-is_sound) → is_sound c.args.self ≡ true
sound c = sym c.is_sound.ensures ∙ c.if-not-is_sound.false

-- a record is free
open-record : (c : Else-is_full) → leb 64 c.args.self.count ≡ false
open-record c = sym c.is_full.ensures ∙ c.if-is_full.false

-- what the judge said
judged : (c : After-judge_area) {r : Result Unit Refusal} → c.judge_area.result ≡ r →
    let a = c.args in area_judged (nodes_of a.self) a.depth a.code a.end ≡ r
judged c e = sym c.judge_area.ensures ∙ e

-- its depth fits
low : (c : In-Ok) → c.args.depth ≤ 8
low c = area-accepted _ _ _ _ (sym c.judge_area.ensures ∙ c.in-Ok.is)

pub returns-then-not-is_sound : goal.returns-then-not-is_sound
returns-then-not-is_sound c =
    c.refuse.ensures ∙ area-unsound _ _ _ _ _ (sym c.is_sound.ensures ∙ c.if-not-is_sound.true)

pub returns-then-is_full : goal.returns-then-is_full
returns-then-is_full c =
    c.refuse-then-is_full.ensures
    ∙ area-full _ _ _ _ _ (sound (goal.at.returns-then-is_full c).Else-not-is_sound) (sym c.is_full.ensures ∙ c.if-is_full.true)

pub overflow_cast-depth : goal.overflow_cast-depth
overflow_cast-depth c = omega (arith, low c)

pub returns-in-Err : goal.returns-in-Err
returns-in-Err c =
    let at = goal.at.returns-in-Err c in
    c.refuse-in-Err.ensures
    ∙ area-refused _ _ _ _ _ (sound at.Else-not-is_sound) (open-record at.Else-is_full) (judged at.After-judge_area c.in-Err.is)

pub returns-in-Ok : goal.returns-in-Ok
returns-in-Ok c =
    let at = goal.at.returns-in-Ok c in
    grew c.args.self _ _ c.grow.ensures c.next_record.ensures
    ∙ area-done _ _ _ _ _ (sound at.Else-not-is_sound) (open-record at.Else-is_full) (judged at.After-judge_area c.in-Ok.is)
