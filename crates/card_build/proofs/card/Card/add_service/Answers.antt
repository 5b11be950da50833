-- The code asks in the definition's order; an accepted service finds its blocks free, and its depth fits.
use Rattle.std.proofs.Common.{◌≡◌, refl, sym, ◌∙◌, leb, length, arith, Result}
use Rattle.card_admit.specs.declared.Placed.{Placed}
use Rattle.card_admit.specs.Admit.{placed_of, agreed}
use Rattle.card_admit.proofs.Counts.{agreed-stored}
use Rattle.card_build.specs.Card.{nodes_of, is_sound, is_short}
use Rattle.card_build.specs.Grow.{ahead_of_service}
use Rattle.card_build.proofs.Accepted.{Fits, service-accepted}
use Rattle.card_build.proofs.Answers.{grew, Clear, service-clear, service-ahead, service-refused, service-stored, arena-after, arena-kept}
use Rattle.card_build.proofs.card.Card.add_service.Goals as goal
use Rattle.card_build.proofs.card.Card.add_service.Goals.{After-ahead, After-place_service, In-Ok}
use Rattle.answers.specs.declared.refusal.Refusal.{Refusal}

-- what is ahead, of the card and the arena
told : (c : After-ahead) →
    let a = c.args in
    c.ahead.result ≡ ahead_of_service (is_sound a.self) (is_short (length a.arena.now) a.self.used) (leb 64 a.self.count)
told c = c.ahead.ensures ∙ rw (c.is_sound.ensures, c.is_full.ensures)

-- once nothing is, the arena holds the blocks in use, and a record is free
clear : (c : After-place_service) → Clear (length c.args.arena.now) c.args.self.used c.args.self.count
clear c =
    let a = c.args in
    let t = c.ahead.ensures ∙ rw (c.is_sound.ensures, c.is_full.ensures) in
    service-clear a.self (length a.arena.now) a.depth a.code a.blocks a.version t c.in_default.is

-- where the service was placed
placed : (c : After-place_service) {p : Result Placed Refusal} → c.place_service.result ≡ p →
    let a = c.args in
    agreed a.self.system.join a.blocks (placed_of (nodes_of a.self) a.self.used (length a.arena.now) a.depth a.code a.blocks) ≡ p
placed c e = sym c.place_service.ensures ∙ e

-- its blocks are free, and the depth fits
fits : (c : In-Ok) → Clear (length c.args.arena.now) c.args.self.used c.args.self.count →
    Fits c.args.depth c.args.self.used (length c.args.arena.now) c.in-Ok.field-0.used
fits c clear =
    let a = c.args in
    let e =
    agreed-stored a.self.system.join a.blocks
    (placed_of (nodes_of a.self) a.self.used (length a.arena.now) a.depth a.code a.blocks) (sym c.place_service.ensures ∙ c.in-Ok.is) in
    service-accepted _ _ _ _ _ _ e clear.long

pub returns-in-Err-clause-value : goal.returns-in-Err-clause-value
returns-in-Err-clause-value c =
    c.refuse.ensures ∙ service-ahead _ _ _ _ _ _ (told (goal.at.returns-in-Err-clause-value c).After-ahead) c.in-Err.is

pub returns-in-Err-clause-arena_after : goal.returns-in-Err-clause-arena_after
returns-in-Err-clause-arena_after c =
    arena-kept _ _ (service-ahead _ _ _ _ _ _ (told (goal.at.returns-in-Err-clause-arena_after c).After-ahead) c.in-Err.is) refl

pub zero_blocks-requires : goal.zero_blocks-requires
zero_blocks-requires c =
    let at = goal.at.zero_blocks-requires c in
    let f = fits at.In-Ok (clear at.After-place_service) in
    (f.grows, omega arith)

pub overflow_cast-depth : goal.overflow_cast-depth
overflow_cast-depth c =
    let at = goal.at.overflow_cast-depth c in
    let f = fits at.In-Ok (clear at.After-place_service) in
    omega arith

pub next_record-requires : goal.next_record-requires
next_record-requires c = (clear (goal.at.next_record-requires c).After-place_service).free

pub grow-requires : goal.grow-requires
grow-requires c = (clear (goal.at.grow-requires c).After-place_service).free

pub returns-in-Err-place_service-clause-value : goal.returns-in-Err-place_service-clause-value
returns-in-Err-place_service-clause-value c =
    let at = goal.at.returns-in-Err-place_service-clause-value c in
    c.refuse-in-Err-place_service.ensures
    ∙ service-refused _ _ _ _ _ _ (told at.After-ahead) c.in_default.is (placed at.After-place_service c.in-Err-place_service.is)

pub returns-in-Err-place_service-clause-arena_after : goal.returns-in-Err-place_service-clause-arena_after
returns-in-Err-place_service-clause-arena_after c =
    let at = goal.at.returns-in-Err-place_service-clause-arena_after c in
    arena-kept _ _
    (service-refused _ _ _ _ _ _ (told at.After-ahead) c.in_default.is (placed at.After-place_service c.in-Err-place_service.is)) refl

pub returns-in-Ok-clause-value : goal.returns-in-Ok-clause-value
returns-in-Ok-clause-value c =
    let at = goal.at.returns-in-Ok-clause-value c in
    grew c.args.self _ _ c.grow.ensures c.next_record.ensures
    ∙ service-stored _ _ _ _ _ _ (told at.After-ahead) c.in_default.is (placed at.After-place_service c.in-Ok.is)

pub returns-in-Ok-clause-arena_after : goal.returns-in-Ok-clause-arena_after
returns-in-Ok-clause-arena_after c =
    let at = goal.at.returns-in-Ok-clause-arena_after c in
    c.zero_blocks.ensures
    ∙ arena-after _ _ (service-stored _ _ _ _ _ _ (told at.After-ahead) c.in_default.is (placed at.After-place_service c.in-Ok.is))
