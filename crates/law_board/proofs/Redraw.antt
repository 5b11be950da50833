-- An `L` line of a replay shows what was written last. Read specs/Redraw.antt for the statement: `LineShows s`. The last law says that it
-- holds of every state whose card has 64 records.
use Rattle.std.proofs.Common.{Option, Some, None}
use Prim.Native.Nat.{ℕ}
use mathlib.Core.Path.{◌≡◌, refl, sym, ap, ap₂, ◌∙◌}
use mathlib.Core.Bool.{Bool, true, false}
use mathlib.Core.List.{List, [], ◌∷◌, map}
use lib.ListN.{length}
use Rattle.card_build.specs.declared.card.Card.{Card}
use Rattle.request_plan.proofs.Accepted.{read_leaves}
use Rattle.line_request.specs.declared.Ask.{Ask}
use Rattle.line_request.specs.declared.Ask.TheVariants.{Read, Write}
use Rattle.line_request.specs.Ask.{ask_of}
use Rattle.line_serve.specs.Line.{ask_served, line_served}
use Rattle.law_terminals.specs.Orders.{after}
use Rattle.law_terminals.specs.Two.{answer_of, arena_after}
use Rattle.law_terminals.specs.Last.{arena_then}
use Rattle.board_line.specs.Line.{board_line, board_code}
use Rattle.replay_state.specs.Phases.{one_more}
use Rattle.replay_line.specs.Replay.{Held, lent_bytes, line_held}
use Rattle.law_calls.specs.Lines.{request_by}
use Rattle.law_lines.specs.Lines.{Taken, held_after}
use Rattle.law_blocks.proofs.Lane.{board-shows}
use Rattle.law_lines.proofs.Shown.{done-text}
use Rattle.law_lines.proofs.Lines.{taken-first, taken_none, taken-requests, after-board, after-request, after_phase, line_prints}
use Rattle.law_board.specs.Redraw.{refresh_by, request_in, LineShows}

module _ (c : Card) (a line : List ℕ) where
  -- a refresh leaves the arena, as its request does
  refresh_arena : (x : Option ℕ) → arena_after c a (refresh_by x) ≡ a
  refresh_arena None = read_leaves c a (refresh_by None) refl
  refresh_arena (Some code) = read_leaves c a (refresh_by (Some code)) refl

  -- a request line leaves what its request does
  pub request-arena : (x : Option Ask) → (ask_served c a lent_bytes line x).arena ≡ arena_after c a (request_by lent_bytes line x)
  request-arena None = sym (read_leaves c a (request_by lent_bytes line None) refl)
  request-arena (Some (Read «open» count)) = refl
  request-arena (Some (Write «open» count)) = refl

-- a line leaves the card, and the arena that its request leaves
pub line_leaves : (s : Held) (line : List ℕ) → Taken s.replay.phase (line ∷ []) →
    ((line_held s line).replay.card ≡ s.replay.card) × ((line_held s line).arena ≡ arena_after s.replay.card s.arena (request_in line))
unfolding request_in line_served
line_leaves s line q = by_line (board_line line) refl
  where
    by_line : (b : Bool) → board_line line ≡ b →
        ((line_held s line).replay.card ≡ s.replay.card) × ((line_held s line).arena ≡ arena_after s.replay.card s.arena (request_in line))
    by_line true b = rw (after-board s line (taken_none s.replay.phase (line ∷ []) q) b, b) (refl, sym (refresh_arena s.replay.card s.arena line (board_code line)))
    by_line false b = rw (after-request s line q b, b) (refl, request-arena s.replay.card s.arena line (ask_of line))

-- so do lines
pub lines_leave : (ls : List (List ℕ)) (s : Held) → Taken s.replay.phase ls →
    ((held_after s ls).replay.card ≡ s.replay.card)
    × ((held_after s ls).arena ≡ after (answer_of s.replay.card) (arena_after s.replay.card) s.arena (map request_in ls))
    × Taken (held_after s ls).replay.phase []
unfolding held_after after
lines_leave [] s q = (refl, refl, q)
lines_leave (line ∷ ls) s q =
    let q' = taken-first s.replay.phase line ls q in
    let x = line_leaves s line q' in
    let y = lines_leave ls (line_held s line) (taken-requests (after_phase s line q') ls) in
    let z = ap₂ (λ (c : Card) (a : List ℕ). after (answer_of c) (arena_after c) a (map request_in ls)) x.0 x.1 in
    (y.0 ∙ x.0, y.1 ∙ z, y.2)

-- the lines of a replay whose card has 64 records: an `L` line shows what was written last
pub line-shows : (s : Held) → length s.replay.card.nodes ≡ 64 → LineShows s
unfolding after
line-shows s z n k d w ls line code q e h f m =
    let c = s.replay.card in
    let t = held_after s (w ∷ ls) in
    let x = lines_leave (w ∷ ls) s q in
    let b = board-shows c z n k d s.arena (request_in w) (map request_in ls) code h f m in
    let card : t.replay.card ≡ c = x.0 in
    let arena : t.arena ≡ arena_then c s.arena (request_in w) (map request_in ls) = x.1 in
    record {
      shows = rw (card, arena) b;
      text =
          line_prints t line code x.2 e
          ∙ done-text t.replay.card t.arena (one_more t.replay.asked) code (rw (card, arena) m.answered);
    }
