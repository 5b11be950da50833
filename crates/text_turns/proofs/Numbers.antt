-- A program's numbers ahead of a turn and after it: no sum overflows, there is room for what one event prints, and the turns left fall.
-- Assumes nothing.
use Prim.Native.Nat.{ℕ, ◌+◌, ◌*◌, ◌-◌, ◌≤◌, ◌<◌}
use native.Mathlib.Omega.{arith}
use native.Mathlib.Decide.{dec_lt}
use mathlib.Core.Path.{◌≡◌, refl, ap, ◌∙◌}
use mathlib.Core.Bool.{Bool, true, false, cond}
use mathlib.Core.List.{List}
use lib.ListN.{length}
use borrow.Author.Tests.{lt-ltb, le-ltb, ltb-true, ltb-false}
use lib.Dec.{ltb}
use Rattle.text_stream.specs.Stream.{Machine}
use Rattle.text_pull.specs.declared.Flow.{Flow}
use Rattle.text_pull.specs.declared.Stage.{Stage}
use Rattle.text_pull.specs.declared.Stage.TheVariants.{Reading, Ended, Unwritten, Untaken, Full}
use Rattle.text_pull.specs.Pull.{flow_start, is_read, is_broken, is_reading, stage_open, Pulled, goes_on, took_of, closed_of, due_of, wrote_of, Wrote, Flushed, Answered}
use Rattle.text_pull.proofs.Stages.{never, apart, both, dec_true, untrue, dec_ended, dec_reading}
use Rattle.text_turns.proofs.Turns.{ended_over}
use Rattle.text_turns.specs.Turn.{Roomy}

-- a program's numbers ahead of a flush
pub record Made (chunk cap room : ℕ) (f : Flow) : Type 0 where
  pub stage : f.stage ≡ Full → ⊥
  pub unbroken : is_broken f.stage ≡ false
  pub over : f.stage ≡ Ended → (f.filled ≤ f.at) × (f.len ≡ 0)
  pub whole : f.whole ≡ false
  pub at : f.at ≤ f.filled
  pub filled : f.filled ≤ chunk
  pub len : f.len ≤ cap
  pub made : f.made ≤ room
  pub read : f.read + f.turns * 65536 ≤ 9223372036854775808
  pub written : f.written + f.made + f.turns * 65536 ≤ 9223372036854775808

-- No write has failed behind a read.
read-unbroken : (s : Stage) → is_read s ≡ true → is_broken s ≡ false
read-unbroken Unwritten e = never e refl
read-unbroken Untaken e = never e refl
read-unbroken s e = refl

-- They are so at the start.
pub roomy_start : (chunk cap room most : ℕ) → most ≤ room → Roomy chunk cap room most flow_start
roomy_start chunk cap room most h = record {
  stage = λ e. apart e (λ n. omega arith);
  over = λ e. apart e (λ n. omega arith);
  quiet = λ e. refl;
  whole = refl;
  at = omega arith;
  filled = omega arith;
  len = omega arith;
  made = omega arith;
  read = omega arith;
  written = omega arith;
}

-- Where nothing is due more lines come, and there is room.
due_not : (f : Flow) (room most : ℕ) → due_of f room most ≡ false → (stage_open f.stage ≡ true) × (most ≤ room - f.made)
unfolding due_of
due_not f room most e =
    elim (dec_reading f.stage) [
      | yes i ↦
          elim (dec_lt f.at f.filled) [
            | yes j ↦ (ap stage_open i, ltb-false (room - f.made) most (rw (i, lt-ltb f.at f.filled j) at e))
            | no j ↦ never refl (rw (i, le-ltb f.at f.filled (omega arith)) at e)
          ]
      | no i ↦ never refl (untested f.stage i e)
    ]
  where
    untested : (s : Stage) → (s ≡ Reading → ⊥) → cond (is_reading s) (cond (ltb f.at f.filled) (ltb (room - f.made) most) true) true ≡ false → true ≡ false
    untested Reading n d = absurd (n refl)
    untested s n d = d

-- After a line, by whether the program stops.
made_took
    : (chunk cap room : ℕ) (g : Flow) (made : ℕ) → is_read g.stage ≡ true → ((g.stage ≡ Reading → ⊥) → g.filled ≤ g.at) → g.at ≤ g.filled → g.filled ≤ chunk → made ≤ room
    → g.read + g.turns * 65536 ≤ 9223372036854775808 → g.written + made + g.turns * 65536 ≤ 9223372036854775808
    → (h : Flow) (b : Bool) → h ≡ took_of g made b → Made chunk cap room h
made_took chunk cap room g made s o a l m r w h true q = rw q record {
  stage = λ z. apart z (λ n. omega arith);
  unbroken = refl;
  over = λ z. apart z (λ n. omega arith);
  whole = refl;
  at = a;
  filled = l;
  len = omega arith;
  made = m;
  read = r;
  written = w;
}
made_took chunk cap room g made s o a l m r w h false q = rw q record {
  stage = λ z. never s (ap is_read z);
  unbroken = read-unbroken g.stage s;
  over = λ z. (o (ended_over z), refl);
  whole = refl;
  at = a;
  filled = l;
  len = omega arith;
  made = m;
  read = r;
  written = w;
}

made-closed
    : (chunk cap room : ℕ) (g : Flow) (made : ℕ) → g.whole ≡ false → g.at ≤ g.filled → g.filled ≤ chunk → g.len ≤ cap → made ≤ room
    → g.read + g.turns * 65536 ≤ 9223372036854775808 → g.written + made + g.turns * 65536 ≤ 9223372036854775808
    → (h : Flow) → h ≡ closed_of g made → Made chunk cap room h
made-closed chunk cap room g made v a l n m r w h q = rw q record {
  stage = λ z. apart z (λ n. omega arith);
  unbroken = refl;
  over = λ z. apart z (λ n. omega arith);
  whole = v;
  at = a;
  filled = l;
  len = n;
  made = m;
  read = r;
  written = w;
}

-- A pull and its answer.
module _ {S : Type 0} {M : Machine S} {stop : S → Bool} (most room : ℕ) (f g h : Flow) (s s' : S) (line chunk line' chunk' out out' : List ℕ)
    (x : Roomy (length chunk) (length line) room most f) (p : Pulled f chunk line g chunk' line') (a : Answered M stop most g s line' out h s' out')
    (i : length chunk ≤ 65536) (j : room ≤ 65536) where
  read_on_lem : g.read + g.turns * 65536 ≤ 9223372036854775808
  read_on_lem = omega (arith, x.read, p.most, p.turns)

  written_on : g.written + h.made + g.turns * 65536 ≤ 9223372036854775808
  written_on = omega (arith, x.written, x.made, p.turns, p.made, p.written, a.made)

  made_on : h.made ≤ room
  made_on = omega (arith, a.made, p.made, x.made)

  none_on : g.whole ≡ false → (g.stage ≡ Ended → ⊥) → Made (length chunk) (length line) room g
  none_on v z = record {
    stage = λ e. never p.stage (ap is_read e);
    unbroken = read-unbroken g.stage p.stage;
    over = λ e. absurd (z e);
    whole = v;
    at = p.at;
    filled = p.filled;
    len = p.len;
    made = omega (arith, p.made, x.made);
    read = read_on_lem;
    written = omega (arith, x.written, p.turns, p.made, p.written);
  }

  pub made_again : Made (length chunk) (length line) room h
  made_again =
      elim (dec_true g.whole) [
        | yes w ↦
            made_took (length chunk) (length line) room g h.made p.stage (λ z. (p.over z).2) p.at p.filled made_on read_on_lem written_on h (stop s') (a.whole w).2
        | no w ↦
            let v : g.whole ≡ false = untrue g.whole w in
            elim (dec_ended g.stage) [
              | yes z ↦ made-closed (length chunk) (length line) room g h.made v p.at p.filled p.len made_on read_on_lem written_on h (a.end v z).1
              | no z ↦ rw (a.none v z).0 (none_on v z)
            ]
      ]

-- A flush.
-- The stages of a write that failed.
pub broken_stage_lem : (error : Bool) → is_broken (cond error Unwritten Untaken) ≡ true
broken_stage_lem true = refl
broken_stage_lem false = refl

wrote-roomy
    : (chunk cap room most : ℕ) (f : Flow) (turns taken : ℕ) (error : Bool) → most ≤ room → Made chunk cap room f → turns ≤ f.turns → taken ≤ f.made
    → Roomy chunk cap room most (wrote_of f turns taken error)
unfolding wrote_of
wrote-roomy chunk cap room most f turns taken error h x u v =
    let b = broken_stage_lem error in
    elim (dec_lt taken f.made) [
      | yes i ↦
          rw (lt-ltb taken f.made i) record {
            stage = λ e. never b (ap is_broken e);
            over = λ e. never b (ap is_broken e);
            quiet = λ e. refl;
            whole = x.whole;
            at = x.at;
            filled = x.filled;
            len = x.len;
            made = omega arith;
            read = omega (arith, x.read);
            written = omega (arith, x.written);
          }
      | no i ↦
          rw (le-ltb taken f.made (omega arith)) record {
            stage = x.stage;
            over = x.over;
            quiet = λ e. refl;
            whole = x.whole;
            at = x.at;
            filled = x.filled;
            len = x.len;
            made = omega arith;
            read = omega (arith, x.read);
            written = omega (arith, x.written);
          }
    ]

waits_roomy : (chunk cap room most : ℕ) (f : Flow) → most ≤ room → Made chunk cap room f → due_of f room most ≡ false → Roomy chunk cap room most f
waits_roomy chunk cap room most f h x e =
    let d = due_not f room most e in
    record {
      stage = x.stage;
      over = x.over;
      quiet = λ z. never d.0 z;
      whole = x.whole;
      at = x.at;
      filled = x.filled;
      len = x.len;
      made = omega (arith, d.1, x.made);
      read = x.read;
      written = x.written;
    }

pub roomy-again : (chunk cap room most : ℕ) (f k : Flow) → most ≤ room → Made chunk cap room f → Flushed most room f k → Roomy chunk cap room most k
roomy-again chunk cap room most f k h x w = by (due_of f room most) refl
  where
    by : (b : Bool) → due_of f room most ≡ b → Roomy chunk cap room most k
    by true e =
        let y = w.wrote e in
        rw y.flow (wrote-roomy chunk cap room most f y.turns y.taken y.error h x y.spent y.most)
    by false e = rw (w.wait e) (waits_roomy chunk cap room most f h x e)

-- Where a program does not go on though nothing has ended or failed, its turns are used up.
pub used_up : (f : Flow) → goes_on f ≡ false → stage_open f.stage ≡ true → f.turns ≡ 0
unfolding goes_on
used_up f e h =
    elim (dec_lt 0 f.turns) [
      | yes i ↦ never refl (rw (lt-ltb 0 f.turns i, h) at e)
      | no i ↦ omega arith
    ]

pub going_on : (f : Flow) → goes_on f ≡ true → (1 ≤ f.turns) × (stage_open f.stage ≡ true)
unfolding goes_on
going_on f e = let p = both (ltb 0 f.turns) (stage_open f.stage) e in (ltb-true 0 f.turns p.0, p.1)

-- A turn uses one.
took_turns : (f : Flow) (made : ℕ) (b : Bool) → (took_of f made b).turns ≡ f.turns
took_turns f made true = refl
took_turns f made false = refl

wrote-turns : (f g : Flow) → Wrote f g → g.turns ≤ f.turns
unfolding wrote_of
wrote-turns f g w = rw w.flow w.spent

pub turn_less
    : {S : Type 0} {M : Machine S} {stop : S → Bool} (most room : ℕ) (f g h k : Flow) (s s' : S) (line chunk line' chunk' out out' : List ℕ)
    → Pulled f chunk line g chunk' line' → Answered M stop most g s line' out h s' out' → Flushed most room h k → k.turns < f.turns
turn_less {stop = stop} most room f g h k s s' line chunk line' chunk' out out' p a w = omega (arith, p.turns, answered, by (due_of h room most) refl)
  where
    answered : h.turns ≡ g.turns
    answered =
        elim (dec_true g.whole) [
          | yes i ↦ ap (λ (q : Flow). q.turns) (a.whole i).2 ∙ took_turns g h.made (stop s')
          | no i ↦
              let v : g.whole ≡ false = untrue g.whole i in
              elim (dec_ended g.stage) [
                | yes z ↦ ap (λ (q : Flow). q.turns) (a.end v z).1
                | no z ↦ ap (λ (q : Flow). q.turns) (a.none v z).0
              ]
        ]

    by : (b : Bool) → due_of h room most ≡ b → k.turns ≤ h.turns
    by true e = wrote-turns h k (w.wrote e)
    by false e = rw (w.wait e) (omega arith)
