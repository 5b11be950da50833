-- The same of whole texts: the statements.
use Rattle.std.specs.Prelude.{ℕ, List, [], ◌∷◌, ◌++◌, map, ◌≡◌}
use Rattle.text_stream.specs.Stream.{joined}
use Rattle.replay_line.specs.Replay.{Held, held_at_start, line_held, line_text, replay_of}
use Rattle.law_terminals.specs.Orders.{Marked, one, two, only, all, answers, told, Undisturbed}
use Rattle.law_terminals.specs.Two.{All, NoneShared}
use Rattle.law_lines.specs.Lines.{Taken, held_after}
use Rattle.law_board.specs.Redraw.{request_in}
use Rattle.law_texts.specs.Lines.{text_as, Resending, PrintsAgain}

-- lines as a text: each is ended by LF (10)
unfoldable pub lines_as_text : List (List ℕ) → List ℕ
lines_as_text [] = []
lines_as_text (line ∷ ls) = line ++ (10 ∷ lines_as_text ls)

-- bytes of which none is LF
abbrev pub OneLine : List ℕ → Type 0
OneLine line = All (λ x. x ≡ 10 → ⊥) line

-- the state after the lines with which a text begins, those of the image and whatever follows them
abbrev pub state_after : List (List ℕ) → Held
state_after is = held_after held_at_start is

-- What a text of the lines `is` and then of both terminals' lines, in the order zs, prints after `is`; and what it prints with one silent.
pub record TextsPrinted (is : List (List ℕ)) (zs : List (Marked (List ℕ))) : Type 0 where
  -- of both, line by line what each prints, marked with the terminal that is told it
  pub both : replay_of (lines_as_text (is ++ all zs)) ≡ replay_of (lines_as_text is) ++ joined (all (told line_text line_held (state_after is) zs))
  -- of one's lines alone
  pub first
      : replay_of (lines_as_text (is ++ only one zs)) ≡ replay_of (lines_as_text is) ++ joined (answers line_text line_held (state_after is) (only one zs))
  -- of two's lines alone
  pub second
      : replay_of (lines_as_text (is ++ only two zs)) ≡ replay_of (lines_as_text is) ++ joined (answers line_text line_held (state_after is) (only two zs))

-- RULES 16.1
abbrev pub TwoTexts : Type 0
TwoTexts =
    (is : List (List ℕ)) (zs : List (Marked (List ℕ)))
    → All OneLine is
    → All OneLine (all zs)
    → Taken (state_after is).replay.phase (only one zs)
    → Taken (state_after is).replay.phase (only two zs)
    → NoneShared (state_after is).replay.card (map request_in (only one zs)) (map request_in (only two zs))
    → TextsPrinted is zs
    -- ordinals aside each terminal is told the same in both, and the state ends alike
    × ((n : ℕ) → Undisturbed (text_as n) line_held (state_after is) zs)

-- A text of the lines `is`, a `W` line, the lines ls, and that `W` line again.
pub record TextAgain (is : List (List ℕ)) (w : List ℕ) (ls : List (List ℕ)) : Type 0 where
  -- the last line's text is printed after what the others print
  pub printed
      : replay_of (lines_as_text (is ++ (w ∷ ls) ++ (w ∷ [])))
      ≡ replay_of (lines_as_text (is ++ (w ∷ ls))) ++ line_text (held_after (state_after is) (w ∷ ls)) w
  -- it is the first one's, ordinals aside, and no stored byte is changed
  pub again : PrintsAgain (state_after is) (held_after (state_after is) (w ∷ ls)) w

-- RULES 16.6
abbrev pub TextResent : Type 0
TextResent =
    (is : List (List ℕ)) (w : List ℕ) (ls : List (List ℕ))
    → All OneLine is
    → OneLine w
    → All OneLine ls
    → Resending (state_after is) w ls
    → TextAgain is w ls
