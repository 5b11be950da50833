-- What writes leave, call by call. Assumes nothing.
use Prim.Native.Nat.{ℕ, ◌+◌, ◌-◌, ◌≤◌, ◌<◌}
use native.Mathlib.Omega.{arith}
use native.Mathlib.Decide.{dec_lt}
use mathlib.Core.Path.{◌≡◌, refl, ◌∙◌}
use mathlib.Core.Bool.{Bool, true, false, cond}
use lib.IntN.{ℤ}
use lib.Dec.{ltb}
use borrow.Author.Tests.{lt-ltb, le-ltb, ltb-true}
use Rattle.std.specs.Prelude.{Result}
use Rattle.text_pull.specs.declared.Stage.{Stage}
use Rattle.text_pull.specs.declared.Stage.TheVariants.{Unwritten, Untaken}
use Rattle.text_pull.specs.declared.Flow.{Flow}
use Rattle.text_pull.specs.Pull.{bytes_moved, due_of, write_stage, put_of, Put, is_broken, left_of, last_stage, unwritten, wrote_of, gave_up, Wrote, Flushed}
use Rattle.text_pull.proofs.Stages.{never, write-stays, write_nothing, moved_room}

-- of what waited so many bytes are taken; the stage is as it was, or a write failed and bytes are left
pub record Writing (f g : Flow) : Type 0 where
  pub taken : ℕ
  pub made : g.made + taken ≡ f.made
  pub written : g.written ≡ f.written + taken
  pub turns : g.turns ≤ f.turns
  pub called : 1 ≤ taken → g.turns < f.turns
  pub none : g.made ≡ 0 → g.stage ≡ f.stage
  pub going : is_broken g.stage ≡ false → g.stage ≡ f.stage
  pub len : g.len ≡ f.len
  pub filled : g.filled ≡ f.filled
  pub at : g.at ≡ f.at
  pub whole : g.whole ≡ f.whole
  pub read : g.read ≡ f.read

-- No call is made.
pub write-start : (f : Flow) → Writing f f
write-start f = record {
  taken = 0;
  made = omega arith;
  written = omega arith;
  turns = omega arith;
  called = λ z. absurd (omega arith);
  none = λ z. refl;
  going = λ z. refl;
  len = refl;
  filled = refl;
  at = refl;
  whole = refl;
  read = refl;
}

-- Where another is to be made bytes wait.
pub left_of_lem : (f : Flow) → left_of f ≡ true → (1 ≤ f.turns) × (1 ≤ f.made) × (is_broken f.stage ≡ false)
unfolding left_of
left_of_lem f e = by (is_broken f.stage) refl
  where
    by : (b : Bool) → is_broken f.stage ≡ b → (1 ≤ f.turns) × (1 ≤ f.made) × (is_broken f.stage ≡ false)
    by true i = never (rw i at e) refl
    by false i =
        elim (dec_lt 0 f.turns) [
          | yes j ↦ (j, ltb-true 0 f.made (rw (i, lt-ltb 0 f.turns j) at e), i)
          | no j ↦ never (rw (i, le-ltb 0 f.turns (omega arith)) at e) refl
        ]

-- One more call.
put_on
    : (f g : Flow) (got : Result ℕ ℤ) → Writing f g → (1 ≤ g.turns) × (1 ≤ g.made) × (is_broken g.stage ≡ false)
    → Writing f (put_of g got) × ((put_of g got).turns < g.turns)
unfolding put_of
put_on f g got x l =
    let n = bytes_moved got g.made in
    let r : n ≤ g.made = moved_room got g.made in
    let s : g.stage ≡ f.stage = x.going l.2 in (
      record {
        taken = x.taken + n;
        made = omega (arith, x.made);
        written = omega (arith, x.written);
        turns = omega (arith, x.turns);
        called = λ z. omega (arith, x.turns, l.0);
        none = λ z. some (is_broken (write_stage g.stage got)) refl z ∙ s;
        going = λ u. write-stays g.stage got u ∙ s;
        len = x.len;
        filled = x.filled;
        at = x.at;
        whole = x.whole;
        read = x.read;
      },
      omega (arith, l.0),
    )
  where
    -- where nothing is left a write took bytes
    some
        : (b : Bool) → is_broken (write_stage g.stage got) ≡ b → g.made - bytes_moved got g.made ≡ 0
        → write_stage g.stage got ≡ g.stage
    some true w z = absurd (omega (arith, l.1, write_nothing g.stage got g.made l.2 w))
    some false w z = write-stays g.stage got w

pub write_on : (f g h : Flow) → Writing f g → left_of g ≡ true → Put g h → Writing f h × (h.turns < g.turns)
write_on f g h x e p = rw p.flow (put_on f g p.got x (left_of_lem g e))

-- Where bytes are left: a write had an error, or none did.
abbrev is_unwritten : Stage → Bool
is_unwritten Unwritten = true
is_unwritten other = false

last-error : (s : Stage) → last_stage s ≡ cond (is_unwritten s) Unwritten Untaken
unfolding last_stage
last-error Unwritten = refl
last-error s = refl

-- After the last call.
module _ (f g : Flow) (x : Writing f g) where
  abbrev error : Bool
  error = is_unwritten g.stage

  some_left : 0 < g.made → unwritten g ≡ wrote_of f g.turns x.taken error
  unfolding wrote_of
  some_left h =
      let s : last_stage g.stage ≡ cond (ltb x.taken f.made) (cond error Unwritten Untaken) f.stage =
      rw (lt-ltb x.taken f.made (omega (arith, x.made))) (last-error g.stage) in
      λ i. record {
        turns = g.turns;
        len = x.len i;
        filled = x.filled i;
        at = x.at i;
        whole = x.whole i;
        made = 0;
        stage = s i;
        read = x.read i;
        written = x.written i;
      }

  none_left : g.made ≡ 0 → g ≡ wrote_of f g.turns x.taken error
  unfolding wrote_of
  none_left h =
      let s : g.stage ≡ cond (ltb x.taken f.made) (cond error Unwritten Untaken) f.stage = rw (le-ltb x.taken f.made (omega (arith, x.made))) (x.none h) in
      λ i. record {
        turns = g.turns;
        len = x.len i;
        filled = x.filled i;
        at = x.at i;
        whole = x.whole i;
        made = h i;
        stage = s i;
        read = x.read i;
        written = x.written i;
      }

  over : gave_up g ≡ wrote_of f g.turns x.taken error
  unfolding gave_up
  over =
      elim (dec_lt 0 g.made) [
        | yes i ↦ rw (lt-ltb 0 g.made i) (some_left i)
        | no i ↦ rw (le-ltb 0 g.made (omega arith)) (none_left (omega arith))
      ]

  pub write_done : (h : Flow) → h ≡ gave_up g → Wrote f h
  write_done h e = record { turns = g.turns; taken = x.taken; error = error; spent = x.turns; called = x.called; most = omega (arith, x.made); flow = e ∙ over }

-- A flush that was due, and one that was not.
pub flush_wrote : (most room : ℕ) (f g : Flow) → due_of f room most ≡ true → Wrote f g → Flushed most room f g
flush_wrote most room f g d w = record { wait = λ x. never d x; wrote = λ x. w }

pub flush_wait : (most room : ℕ) (f : Flow) → due_of f room most ≡ false → Flushed most room f f
flush_wait most room f d = record { wait = λ x. refl; wrote = λ x. never x d }
