-- The theorem of inspection: whatever cuts a text into chunks, and with 32,769 bytes kept of a line, what is printed of the chunks and at
-- the end is `inspect_of` the text. Assumes nothing.
use Prim.Native.Nat.{ℕ}
use native.Mathlib.Omega.{arith}
use mathlib.Core.Path.{◌≡◌, refl, sym}
use mathlib.Core.List.{List, [], ◌++◌, append-nil}
use lib.ListN.{take}
use Rattle.text_stream.specs.Stream.{between, joined, fed, said, chunked, History}
use Rattle.text_stream.proofs.Whole.{keeps_first, whole_cut}
use Rattle.text_stream.proofs.Histories.{history_dead}
use Rattle.replay_state.specs.declared.Phase.TheVariants.{Ended}
use Rattle.inspect_line.specs.Inspect.{inspect_machine, seen_at_start, inspect_of}
use Rattle.inspect_line.proofs.Blind.{inspect_blind}
use Rattle.inspect_line.proofs.Dead.{inspect_dead}

pub inspect-whole : (chunks : List (List ℕ)) → chunked inspect_machine (take 32769) (between seen_at_start) chunks ≡ inspect_of (joined chunks)
unfolding inspect_of
inspect-whole chunks = whole_cut inspect_machine 32769 (omega arith) inspect_blind seen_at_start chunks

-- a program that has read a text and printed what is said of it
read_all : (text : List ℕ) → History inspect_machine (take 32769) seen_at_start text (said inspect_machine (take 32769) (between seen_at_start) text) (fed inspect_machine (take 32769) (between seen_at_start) text) []
read_all text = record { past = text; read = sym (append-nil text); machine = refl; said_of = refl }

-- After a refused image line nothing more is printed, whatever else the text has.
pub inspect_stopped
    : (text more : List ℕ) → (fed inspect_machine (take 32769) (between seen_at_start) text).state.inspect.replay.phase ≡ Ended
    → inspect_of (text ++ more) ≡ said inspect_machine (take 32769) (between seen_at_start) text
unfolding inspect_of
inspect_stopped text more e =
    sym (history_dead (keeps_first 32769 (omega arith)) inspect_blind (read_all text) (inspect_dead (fed inspect_machine (take 32769) (between seen_at_start) text).state e) more)
