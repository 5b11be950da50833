-- The theorem of replay: whatever cuts a text into chunks, and with 32,769 bytes kept of a line, what is printed of the chunks and at the
-- end is `replay_of` the text. Assumes nothing.
use Prim.Native.Nat.{ℕ}
use native.Mathlib.Omega.{arith}
use mathlib.Core.Path.{◌≡◌, refl, sym}
use mathlib.Core.List.{List, [], ◌++◌, append-nil}
use lib.ListN.{take}
use Rattle.text_stream.specs.Stream.{between, joined, fed, said, chunked, History}
use Rattle.text_stream.proofs.Whole.{keeps_first, whole_cut}
use Rattle.text_stream.proofs.Histories.{history_dead}
use Rattle.replay_state.specs.declared.Phase.TheVariants.{Ended}
use Rattle.replay_line.specs.Replay.{replay_machine, held_at_start, replay_of}
use Rattle.replay_line.proofs.Blind.{replay_blind}
use Rattle.replay_line.proofs.Dead.{replay_dead}

pub replay-whole : (chunks : List (List ℕ)) → chunked replay_machine (take 32769) (between held_at_start) chunks ≡ replay_of (joined chunks)
unfolding replay_of
replay-whole chunks = whole_cut replay_machine 32769 (omega arith) replay_blind held_at_start chunks

-- a program that has read a text and printed what is said of it
read_all : (text : List ℕ) → History replay_machine (take 32769) held_at_start text (said replay_machine (take 32769) (between held_at_start) text) (fed replay_machine (take 32769) (between held_at_start) text) []
read_all text = record { past = text; read = sym (append-nil text); machine = refl; said_of = refl }

-- After a refused image line nothing more is printed, whatever else the text has.
pub replay_stopped
    : (text more : List ℕ) → (fed replay_machine (take 32769) (between held_at_start) text).state.replay.phase ≡ Ended
    → replay_of (text ++ more) ≡ said replay_machine (take 32769) (between held_at_start) text
unfolding replay_of
replay_stopped text more e =
    sym (history_dead (keeps_first 32769 (omega arith)) replay_blind (read_all text) (replay_dead (fed replay_machine (take 32769) (between held_at_start) text).state e) more)
