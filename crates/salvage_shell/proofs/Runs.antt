-- What a run has come to, from what was read and what was written. Assumes nothing.
use Prim.Native.Nat.{ℕ, ◌+◌, ◌-◌, ◌≤◌, ◌<◌}
use native.Mathlib.Omega.{arith}
use native.Mathlib.Decide.{dec_lt}
use mathlib.Core.Path.{◌≡◌, refl, sym, ap, subst, ◌∙◌}
use mathlib.Core.Bool.{Bool, true, false, cond}
use mathlib.Core.List.{List, []}
use lib.Dec.{ltb}
use lib.ListN.{length, take, drop}
use lib.Seq.{length-take-le}
use borrow.Author.Tests.{lt-ltb, le-ltb}
use Rattle.text_pull.specs.declared.Flow.{Flow}
use Rattle.text_pull.specs.declared.Stage.{Stage}
use Rattle.text_pull.specs.declared.Stage.TheVariants.{Reading, Ended, Unwritten, Done, Untaken, Full}
use Rattle.text_pull.specs.Pull.{is_read, is_full, is_broken, stage_open, is_line, is_end, closed_of, due_of, wrote_of, gave_up, Wrote, Flushed, Slurped}
use Rattle.text_pull.proofs.Stages.{never, besides, dec_true, untrue, ended_of, open_reading}
use Rattle.text_pull.proofs.Writes.{write-start, write_done}
use Rattle.salvage_shell.specs.Ran.{most_salvaged, salvage_prints, Salvages}

-- After the end a write is due.
closed_due : (f : Flow) (image room most : ℕ) → due_of (closed_of f image) room most ≡ true
unfolding due_of
closed_due f image room most = refl

closed-wrote
    : {most room : ℕ} {h g : Flow} (f : Flow) (image : ℕ) → h ≡ closed_of f image → Flushed most room h g → Wrote (closed_of f image) g
closed-wrote {most} {room} {h} {g} f image q w =
    let v : Flushed most room (closed_of f image) g = rw q at w in
    v.wrote (closed_due f image room most)

-- the same, of words
pub words-wrote
    : {most room : ℕ} {h g : Flow} (f : Flow) (image words : List ℕ) → image ≡ words → h ≡ closed_of f (length image) → Flushed most room h g
    → Wrote (closed_of f (length words)) g
words-wrote f image words e q w = rw e at (closed-wrote f (length image) q w)

-- Where nothing is to be written, nothing has to be.
nothing_wrote : (f : Flow) → Wrote (closed_of f 0) (closed_of f 0)
unfolding gave_up
nothing_wrote f = write_done (closed_of f 0) (closed_of f 0) (write-start (closed_of f 0)) (closed_of f 0) refl

pub none-wrote : (f g : Flow) (words : List ℕ) → words ≡ [] → g ≡ closed_of f 0 → Wrote (closed_of f (length words)) g
none-wrote f g words e q = rw (e, q) (nothing_wrote f)

-- the stage after a write that failed
failed-stage : (error : Bool) → is_broken (cond error Unwritten Untaken) ≡ true
failed-stage true = refl
failed-stage false = refl

not-open : (s : Stage) → is_broken s ≡ true → stage_open s ≡ false
not-open Reading e = never e refl
not-open Ended e = never e refl
not-open s e = refl

-- A text that has ended: all that it prints is written, or a write has failed.
module _ (t : List ℕ) (f g : Flow) (came : f.read ≡ length t) (none : f.written ≡ 0) (held : length t ≤ most_salvaged)
    (w : Wrote (closed_of f (length (salvage_prints t))) g) where
  wrote-read : g.read ≡ f.read
  unfolding wrote_of
  wrote-read = ap (λ (x : Flow). x.read) w.flow

  wrote_count : g.written ≡ f.written + w.taken
  unfolding wrote_of
  wrote_count = ap (λ (x : Flow). x.written) w.flow

  wrote-stage : g.stage ≡ cond (ltb w.taken (length (salvage_prints t))) (cond w.error Unwritten Untaken) Done
  unfolding wrote_of
  wrote-stage = ap (λ (x : Flow). x.stage) w.flow

  all-written : length (salvage_prints t) ≤ w.taken → Salvages t g
  all-written h =
      let s : g.stage ≡ Done = rw (le-ltb w.taken (length (salvage_prints t)) h) at wrote-stage in
      record {
        read = wrote-read ∙ came;
        done = λ e. (held, omega (arith, wrote_count, none, h, w.most));
        unwritten = λ e. absurd (besides s (λ n. omega arith) e);
        untaken = λ e. absurd (besides s (λ n. omega arith) e);
        over = λ e. absurd (besides s (λ n. omega arith) e);
        unread = λ e. absurd (besides s (λ n. omega arith) e);
        turns = λ e. never e (ap stage_open s);
      }

  part-written : w.taken < length (salvage_prints t) → Salvages t g
  part-written h =
      let s : g.stage ≡ cond w.error Unwritten Untaken = rw (lt-ltb w.taken (length (salvage_prints t)) h) at wrote-stage in
      let k : is_broken g.stage ≡ true = ap is_broken s ∙ failed-stage w.error in
      record {
        read = wrote-read ∙ came;
        done = λ e. never k (ap is_broken e);
        unwritten = λ e. omega (arith, wrote_count, none, h);
        untaken = λ e. omega (arith, wrote_count, none, h);
        over = λ e. never k (ap is_broken e);
        unread = λ e. never k (ap is_broken e);
        turns = λ e. never e (not-open g.stage k);
      }

  pub ended-ran : Salvages t g
  ended-ran =
      elim (dec_lt w.taken (length (salvage_prints t))) [
        | yes h ↦ part-written h
        | no h ↦ all-written (omega (arith, h))
      ]

-- a buffer that reads have filled
pub record Holds (buffer : List ℕ) (f : Flow) : Type 0 where
  pub room : length buffer ≡ most_salvaged + 1
  pub slurped : Slurped (length buffer) f

pub holds
    : (before buffer : List ℕ) (f : Flow) → length buffer ≡ length before → length before ≡ most_salvaged + 1 → Slurped (length before) f
    → Holds buffer f
holds before buffer f k r x = record { room = k ∙ r; slurped = rw k x }

module _ {buffer : List ℕ} {f : Flow} (b : Holds buffer f) where
  abbrev x : Slurped (length buffer) f
  x = b.slurped

  -- What was read lies in it.
  pub filled_within : f.filled ≤ length buffer
  filled_within =
      elim (dec_true (is_read f.stage)) [
        | yes h ↦ let w = x.within h in omega (arith, w)
        | no h ↦ omega (arith, (x.full (untrue (is_read f.stage) h)).1)
      ]

  read-long : length (take f.read buffer) ≡ f.read
  read-long = length-take-le f.read buffer (omega (arith, x.read, filled_within))

  -- A text that has ended is shorter.
  pub ended_held : is_end f ≡ true → (f.filled ≤ most_salvaged) × (is_line f ≡ false)
  ended_held e =
      let h = x.within (ap is_read (ended_of f.stage e)) in
      (omega (arith, h, b.room), x.whole)

  full-unread : is_full f.stage ≡ true → is_read f.stage ≡ false
  full-unread e = by f.stage e
    where
      by : (s : Stage) → is_full s ≡ true → is_read s ≡ false
      by Full d = refl
      by s d = never d refl

  -- One that fills it is longer than is held; as the code lends it.
  pub short_over : (n : ℕ) → is_full f.stage ≡ true → n ≡ f.filled → most_salvaged < length (take (n - 0) (drop 0 buffer))
  short_over n e h =
      let s = x.full (full-unread e) in
      let z : n - 0 ≡ n = omega arith in
      let l : length (take n buffer) ≡ n = length-take-le n buffer (omega (arith, h, s.1)) in
      rw z (omega (arith, l, h, s.1, b.room))

  -- Of one that has not ended nothing is written.
  over-ran : is_read f.stage ≡ false → Salvages (take f.read buffer) f
  over-ran h =
      let s = x.full h in
      record {
        read = sym read-long;
        done = λ e. absurd (besides s.0 (λ n. omega arith) e);
        unwritten = λ e. absurd (besides s.0 (λ n. omega arith) e);
        untaken = λ e. absurd (besides s.0 (λ n. omega arith) e);
        over = λ e. (omega (arith, read-long, x.read, s.1, b.room), x.written);
        unread = λ e. absurd (besides s.0 (λ n. omega arith) e);
        turns = λ e. never e (ap stage_open s.0);
      }

  unread-ran : is_read f.stage ≡ true → is_end f ≡ false → Salvages (take f.read buffer) f
  unread-ran m other =
      record {
        read = sym read-long;
        done = λ e. never m (ap is_read e);
        unwritten = λ e. never m (ap is_read e);
        untaken = λ e. never m (ap is_read e);
        over = λ e. never m (ap is_read e);
        unread = λ e. x.written;
        turns = λ e. let z : f.stage ≡ Reading = open_reading f.stage e other in (x.turns z, z, x.written);
      }

  pub short_ran : is_full f.stage ≡ true → Salvages (take f.read buffer) f
  short_ran e = over-ran (full-unread e)

  pub other_ran : is_full f.stage ≡ false → is_end f ≡ false → Salvages (take f.read buffer) f
  other_ran d e =
      elim (dec_true (is_read f.stage)) [
        | yes h ↦ unread-ran h e
        | no h ↦ never (ap is_full (x.full (untrue (is_read f.stage) h)).0) d
      ]

  -- Of one that has, what it prints; as the code lends it.
  pub took_ran
      : (g : Flow) (n : ℕ) → is_end f ≡ true → n ≡ f.filled → Wrote (closed_of f (length (salvage_prints (take (n - 0) (drop 0 buffer))))) g
      → Salvages (take g.read buffer) g
  took_ran g n e h w =
      let z : n - 0 ≡ f.read = omega (arith, h, x.read) in
      let y = (ended_held e).0 in
      let v : Wrote (closed_of f (length (salvage_prints (take f.read buffer)))) g = rw z at w in
      let m : length (take f.read buffer) ≤ most_salvaged = omega (arith, read-long, x.read, y) in
      let k : Salvages (take f.read buffer) g = ended-ran (take f.read buffer) f g (sym read-long) x.written m v in
      let q : f.read ≡ g.read = sym (k.read ∙ read-long) in
      subst (λ (m : ℕ). Salvages (take m buffer) g) q k
