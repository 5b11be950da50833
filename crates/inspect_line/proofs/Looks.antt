-- What a line comes to, by what it is taken for. Assumes nothing.
use Rattle.std.proofs.Common.{Option}
use Prim.Native.Nat.{ℕ}
use mathlib.Core.Path.{◌≡◌, ap}
use mathlib.Core.List.{List}
use Rattle.replay_state.specs.declared.Replay.{Replay}
use Rattle.replay_state.specs.Phases.{one_more}
use Rattle.replay_line.specs.Replay.{Held, held}
use Rattle.inspect_ask.specs.declared.Question.{Question}
use Rattle.inspect_line.specs.declared.Inspect.{Inspect}
use Rattle.inspect_line.specs.Inspect.{seen, numbered, replayed_seen, room_after, lent_after, question_seen}

-- A line of a replay counts.
pub replayed_seen_lem
    : (p : Inspect) {h : Held} {t replay : Replay} {arena : List ℕ} {n : ℕ} → held t arena ≡ h → n ≡ one_more p.replay.lines
    → replay ≡ numbered n t → seen (record { replay = replay; room = p.room; lent = p.lent }) arena ≡ replayed_seen p h
replayed_seen_lem p e l a = rw (a, l) (ap (replayed_seen p) e)

-- So does a question, which takes no ordinal.
pub question_seen_lem
    : (p : Inspect) (q : Option Question) (arena : List ℕ) {replay : Replay} {n room lent : ℕ} → n ≡ one_more p.replay.lines
    → replay ≡ numbered n p.replay → room ≡ room_after q p.room → lent ≡ lent_after q p.lent
    → seen (record { replay = replay; room = room; lent = lent }) arena ≡ question_seen (seen p arena) q
question_seen_lem p q arena l a r e = rw (a, l, r, e)
