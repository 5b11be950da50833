-- Two terminals whose requests are lines of one replay, and a `W` line that is sent again: the statements, of a state between two lines.
-- `R`, `W` and `L` lines, well formed or not, are requests here.
use Rattle.std.specs.Prelude.{ℕ, true, List, ◌∷◌, map, ◌≡◌}
use Rattle.request_plan.specs.declared.Reply.TheVariants.{Done}
use Rattle.request_plan.specs.Serve.{serve}
use Rattle.replay_line.specs.Replay.{Held, held, line_held, line_text}
use Rattle.law_terminals.specs.Orders.{Marked, one, two, only, Undisturbed}
use Rattle.law_terminals.specs.Two.{arena_after, NoneShared}
use Rattle.law_lines.specs.Lines.{Taken, held_after}
use Rattle.law_board.specs.Redraw.{request_in}
use Rattle.law_resend.specs.Resend.{PursesOnce, RingsOnce, Idle}

-- the state with n requests counted before it
abbrev pub asking : ℕ → Held → Held
asking n s =
    held (record { card = s.replay.card; phase = s.replay.phase; lines = s.replay.lines; asked = n }) s.arena

-- What a line prints with the ordinal that follows n in place of its own. With `s.replay.asked` for n it is `line_text s line`, so two
-- lines of which this is equal for every n print the same, ordinals aside.
abbrev pub text_as : ℕ → Held → List ℕ → List ℕ
text_as n s line = line_text (asking n s) line

-- At the state s. Given
--   any order of lines, where each terminal's own are taken for requests;
--   such that no number of a service of the card is named by lines of both:
-- each terminal's lines print, ordinals aside, what they print alone from the same state, and the state after all lines is the one after
-- one's and then two's, and after two's and then one's.
-- RULES 16.1
abbrev pub TwoLines : Held → Type 0
TwoLines s =
    (zs : List (Marked (List ℕ)))
    → Taken s.replay.phase (only one zs)
    → Taken s.replay.phase (only two zs)
    → NoneShared s.replay.card (map request_in (only one zs)) (map request_in (only two zs))
    → (n : ℕ) → Undisturbed (text_as n) line_held s zs

-- a `W` line at the state s, and lines after it
pub record Resending (s : Held) (w : List ℕ) (ls : List (List ℕ)) : Type 0 where
  pub taken : Taken s.replay.phase (w ∷ ls)
  -- its write is accepted
  pub write : (request_in w).write ≡ true
  pub accepted : (serve s.replay.card s.arena (request_in w)).reply ≡ Done
  -- no purse block is named twice in it, and each cyclic number forms a single run
  pub purses : PursesOnce (request_in w)
  pub rings : RingsOnce (request_in w)
  -- of the lines after it no write is accepted
  pub idle : Idle s.replay.card (arena_after s.replay.card s.arena (request_in w)) (map request_in ls)

-- the same line at the state t, where it stands again
pub record PrintsAgain (s t : Held) (w : List ℕ) : Type 0 where
  -- it changes no stored byte, nor did what came between
  pub unchanged : (line_held t w).arena ≡ t.arena
  pub kept : t.arena ≡ (line_held s w).arena
  -- and prints, but for the ordinal, what it printed the first time
  pub text : (n : ℕ) → text_as n t w ≡ text_as n s w

-- RULES 16.6
abbrev pub WrittenAgain : Held → Type 0
WrittenAgain s = (w : List ℕ) (ls : List (List ℕ)) → Resending s w ls → PrintsAgain s (held_after s (w ∷ ls)) w
