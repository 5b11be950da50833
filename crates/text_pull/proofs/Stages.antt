-- The stages that a read and a write lead to, and the numbers that they leave. Assumes nothing.
use Prim.Native.Nat.{ℕ, ◌≤◌}
use native.Mathlib.Omega.{arith}
use native.Mathlib.Decide.{dec_lt}
use mathlib.Core.Path.{◌≡◌, refl, sym, ap, ◌∙◌}
use mathlib.Core.Bool.{Bool, true, false, cond}
use lib.IntN.{ℤ, pos, negsuc}
use lib.Dec.{eqb, ltb}
use mir.Syntax.{w32}
use mir.Val.{SFits, of_z}
use borrow.Author.Tests.{ne_eqb, lt-ltb, le-ltb}
use Rattle.std.specs.Prelude.{Result, Ok, Err}
use Rattle.text_pull.specs.declared.Stage.{Stage}
use Rattle.text_pull.specs.declared.Stage.TheVariants.{Reading, Ended, Unread, Unwritten, Done, Untaken, Full}
use Rattle.text_pull.specs.Pull.{is_interrupt, bytes_moved, error_stage, came_stage, stage_of, is_read, is_reading, stage_open, is_ended, at_end, last_of, broken_stage, write_stage, is_broken}

-- A test has one answer.
pub never : {A : Type 0} {b : Bool} → b ≡ true → b ≡ false → A
never e f = absurd (omega (arith, ap {B = ℕ} (λ (b : Bool). cond b 1 0) (sym e ∙ f)))

-- The bits of an error, and its number.
pub interrupt_bits : (e : ℤ) → SFits w32 e → eqb (of_z w32 e) 4 ≡ is_interrupt e
unfolding is_interrupt
interrupt_bits (pos k) f = refl
interrupt_bits (negsuc k) f = ne_eqb (of_z w32 (negsuc k)) 4 (λ x. omega (arith, f.sfits))

-- A number for each stage: two stages with two numbers are two.
abbrev pub nth : Stage → ℕ
nth Reading = 0
nth Ended = 1
nth Unread = 2
nth Unwritten = 3
nth Done = 4
nth Untaken = 5
nth Full = 6

pub apart : {A : Type 0} {s t : Stage} → s ≡ t → (nth s ≡ nth t → ⊥) → A
apart e n = absurd (n (ap nth e))

pub besides : {s t u : Stage} → s ≡ t → (nth t ≡ nth u → ⊥) → s ≡ u → ⊥
besides e n d = apart (sym e ∙ d) n

-- Whether a test holds, and that it does not.
pub dec_true : (b : Bool) → Dec (b ≡ true)
dec_true true = yes refl
dec_true false = no (λ e. never e refl)

pub untrue : (b : Bool) → (b ≡ true → ⊥) → b ≡ false
untrue true h = absurd (h refl)
untrue false h = refl

-- Whether bytes may come, and whether the text has ended.
pub dec_reading : (s : Stage) → Dec (s ≡ Reading)
dec_reading Reading = yes refl
dec_reading s = no (λ e. apart e (λ n. omega arith))

pub dec_ended : (s : Stage) → Dec (s ≡ Ended)
dec_ended Ended = yes refl
dec_ended s = no (λ e. apart e (λ n. omega arith))

-- Tests of a stage, and which it is.
pub reading_of : (s : Stage) → is_reading s ≡ true → s ≡ Reading
reading_of Reading e = refl
reading_of s e = never e refl

pub ended_of : (s : Stage) → is_ended s ≡ true → s ≡ Ended
ended_of Ended e = refl
ended_of s e = never e refl

pub unread_of : (s : Stage) → is_read s ≡ true → (s ≡ Reading → ⊥) → (s ≡ Ended → ⊥) → s ≡ Unread
unread_of Reading e a b = absurd (a refl)
unread_of Ended e a b = absurd (b refl)
unread_of Unread e a b = refl
unread_of s e a b = never e refl

pub open_ended : (s : Stage) → stage_open s ≡ true → (s ≡ Reading → ⊥) → s ≡ Ended
open_ended Reading e a = absurd (a refl)
open_ended Ended e a = refl
open_ended s e a = never e refl

pub open_reading : (s : Stage) → stage_open s ≡ true → is_ended s ≡ false → s ≡ Reading
open_reading Reading e n = refl
open_reading Ended e n = never refl n
open_reading s e n = never e refl

-- An open stage is one of a read.
pub open_read : (s : Stage) → stage_open s ≡ true → is_read s ≡ true
open_read Reading e = refl
open_read Ended e = refl
open_read s e = never e refl

-- Two tests, and both.
pub both : (a b : Bool) → cond a b false ≡ true → (a ≡ true) × (b ≡ true)
both true b e = (refl, e)
both false b e = never e refl

-- A whole line stays whole, and one that nothing has ended is as it was.
either : (b : Bool) → cond b true true ≡ true
either true = refl
either false = refl

pub last_whole : (s : Stage) (len : ℕ) → last_of true s len ≡ true
unfolding last_of at_end
last_whole Ended len = either (ltb 0 len)
last_whole s len = refl

pub last_open : (w : Bool) (s : Stage) (len : ℕ) → is_ended s ≡ false → last_of w s len ≡ w
unfolding last_of
last_open w Ended len e = never refl e
last_open w s len e = refl

-- What is counted has room.
pub moved_room : (got : Result ℕ ℤ) (room : ℕ) → bytes_moved got room ≤ room
unfolding bytes_moved
moved_room (Ok n) room = omega arith
moved_room (Err e) room = omega arith

-- Where no bytes came none are counted.
pub read_none : (got : Result ℕ ℤ) (room : ℕ) → (stage_of got ≡ Reading → ⊥) → bytes_moved got room ≡ 0
unfolding stage_of came_stage bytes_moved
read_none (Ok n) room h =
    elim (dec_lt n 1) [
      | yes i ↦ omega arith
      | no i ↦ absurd (h (rw (le-ltb n 1 (omega arith))))
    ]
read_none (Err e) room h = refl

-- There are no other stages after a read.
came-read : (b : Bool) → is_read (cond b Ended Reading) ≡ true
came-read true = refl
came-read false = refl

error-read : (b : Bool) → is_read (cond b Reading Unread) ≡ true
error-read true = refl
error-read false = refl

pub stage-read : (got : Result ℕ ℤ) → is_read (stage_of got) ≡ true
unfolding stage_of came_stage error_stage
stage-read (Ok n) = came-read (ltb n 1)
stage-read (Err e) = error-read (is_interrupt e)

-- A write leaves the stage, or has failed and took nothing.
took-stays : (b : Bool) (s : Stage) → is_broken (cond b s Untaken) ≡ false → cond b s Untaken ≡ s
took-stays true s h = refl
took-stays false s h = never refl h

error-stays : (b : Bool) (s : Stage) → is_broken (cond b s Unwritten) ≡ false → cond b s Unwritten ≡ s
error-stays true s h = refl
error-stays false s h = never refl h

pub write-stays : (s : Stage) (got : Result ℕ ℤ) → is_broken (write_stage s got) ≡ false → write_stage s got ≡ s
unfolding write_stage broken_stage
write-stays s (Ok n) h = took-stays (ltb 0 n) s h
write-stays s (Err e) h = error-stays (is_interrupt e) s h

pub write_nothing : (s : Stage) (got : Result ℕ ℤ) (room : ℕ) → is_broken s ≡ false → is_broken (write_stage s got) ≡ true → bytes_moved got room ≡ 0
unfolding write_stage bytes_moved
write_nothing s (Ok n) room u h =
    elim (dec_lt 0 n) [
      | yes i ↦ never (rw (lt-ltb 0 n i) at h) u
      | no i ↦ omega arith
    ]
write_nothing s (Err e) room u h = refl
