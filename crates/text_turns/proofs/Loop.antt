-- What may be written, what a flush leaves, and what a program has come to where its loop ends, for any machine. Assumes nothing.
use Prim.Native.Nat.{ℕ, ◌+◌, ◌≤◌, ◌<◌}
use native.Mathlib.Omega.{arith}
use native.Mathlib.Decide.{dec_lt}
use mathlib.Core.Path.{◌≡◌, refl, sym, ap, ◌∙◌}
use mathlib.Core.Bool.{Bool, true, false}
use mathlib.Core.List.{List, [], ◌++◌, append-nil, append_assoc}
use lib.ListN.{length, take, drop, length-append, length-drop}
use lib.Seq.{length-take-le, take-length, take-append-le, drop-append-le}
use borrow.Author.Tests.{lt-ltb, le-ltb}
use Rattle.text_stream.specs.Stream.{Machine, between, fed, said, ended, says_of, Blind}
use Rattle.text_stream.proofs.Whole.{keeps_first, fed-append, said-append, whole}
use Rattle.text_pull.specs.declared.Flow.{Flow}
use Rattle.text_pull.specs.declared.Stage.{Stage}
use Rattle.text_pull.specs.declared.Stage.TheVariants.{Reading, Ended, Unread, Done, Full}
use Rattle.text_pull.specs.Pull.{flow_start, is_broken, stage_open, due_of, wrote_of, Flushed, Next, Ran}
use Rattle.text_turns.proofs.Uncut.{said_uncut}
use Rattle.text_turns.specs.Turn.{Spoken, After, Roomy}
use Rattle.text_pull.proofs.Stages.{never}
use Rattle.text_turns.proofs.Turns.{speak_on}
use Rattle.text_turns.proofs.Numbers.{broken_stage_lem}

-- What waits is what is printed next.
next-spoken
    : {S : Type 0} (M : Machine S) (s₀ : S) (w v text : List ℕ) (f : Flow) (out : List ℕ) → Spoken w text f out → w ++ v ≡ says_of M s₀ text
    → Next (says_of M s₀) f (take f.made out)
next-spoken M s₀ w v text f out x e =
    let d = drop f.written w in
    let n : f.written + length (take f.made out) ≡ length w = omega (arith, x.count, ap length x.words, length-drop f.written w) in
    let k : length (take f.made out) ≡ length d = ap length x.words in
    record {
      text = text;
      read = x.read;
      fits = rw (← e) (omega (arith, length-append w v));
      words =
          rw (← e, drop-append-le f.written w v (omega (arith, x.count)), take-append-le (length (take f.made out)) d v (omega arith), k, take-length d)
          x.words;
    }

module _ {S : Type 0} (M : Machine S) (cap : ℕ) (s₀ : S) (some : 1 ≤ cap) (B : Blind M (take cap)) where
  -- What is said of a part is in front of what the whole prints.
  front
      : (past rest : List ℕ)
      → said M (take cap) (between s₀) past
      ++ (said M (take cap) (fed M (take cap) (between s₀) past) rest ++ ended M (fed M (take cap) (fed M (take cap) (between s₀) past) rest))
      ≡ says_of M s₀ (past ++ rest)
  front past rest =
      let m = fed M (take cap) (between s₀) past in
      sym
      (sym (whole M (take cap) (keeps_first cap some) B s₀ (past ++ rest))
      ∙ rw (fed-append M (take cap) (between s₀) past rest, said-append M (take cap) (between s₀) past rest)
      (append_assoc (said M (take cap) (between s₀) past) (said M (take cap) m rest) (ended M (fed M (take cap) m rest))))

  module _ (f : Flow) (s : S) (line chunk out : List ℕ) (x : After M cap s₀ f s line chunk out) where
    pub next-after : (f.stage ≡ Full → ⊥) → is_broken f.stage ≡ false → Next (says_of M s₀) f (take f.made out)
    next-after h u = by f.stage refl
      where
        by : (e : Stage) → f.stage ≡ e → Next (says_of M s₀) f (take f.made out)
        by Reading i = let y = x.going i in next-spoken M s₀ _ _ _ f out y.spoken (front y.past _)
        by Ended i = let y = x.closing i in next-spoken M s₀ y.words (M.end s) y.text f out y.spoken y.rest
        by Unread i =
            let y = x.unread i in
            next-spoken M s₀ _ _ _ f out y.spoken (whole M (take cap) (keeps_first cap some) B s₀ y.text)
        by Done i =
            let y = x.done i in
            next-spoken M s₀ (says_of M s₀ y.text) [] y.text f out y.spoken (append-nil (says_of M s₀ y.text))
        by Full i = absurd (h i)
        by e i = never (ap is_broken i) u

    wrote-all
        : (turns taken : ℕ) (error : Bool) → (f.stage ≡ Full → ⊥) → is_broken f.stage ≡ false → f.made ≤ taken → taken ≤ f.made
        → After M cap s₀ (wrote_of f turns taken error) s line chunk out
    unfolding wrote_of
    wrote-all turns taken error i u h g =
        rw (le-ltb taken f.made h) record {
          going = λ z. let y = x.going z in record { past = y.past; machine = y.machine; spoken = speak_on y.spoken refl (omega arith) refl };
          closing = λ z. let y = x.closing z in record { text = y.text; words = y.words; spoken = speak_on y.spoken refl (omega arith) refl; rest = y.rest };
          unread = λ z. let y = x.unread z in record { text = y.text; spoken = speak_on y.spoken refl (omega arith) refl };
          part = λ z. never (ap is_broken z) u;
          done = λ z. let y = x.done z in record { text = y.text; spoken = speak_on y.spoken refl (omega arith) refl };
          untaken = λ z. never (ap is_broken z) u;
        }

    wrote-part
        : (turns taken : ℕ) (error : Bool) → (f.stage ≡ Full → ⊥) → is_broken f.stage ≡ false → f.made ≤ length out → taken < f.made
        → After M cap s₀ (wrote_of f turns taken error) s line chunk out
    unfolding wrote_of
    wrote-part turns taken error h u m i =
        let y = next-after h u in
        let e = broken_stage_lem error in
        let w : f.written + taken ≤ length (says_of M s₀ y.text) = omega (arith, y.fits, length-take-le f.made out m) in
        rw (lt-ltb taken f.made i) record {
          going = λ z. never e (ap is_broken z);
          closing = λ z. never e (ap is_broken z);
          unread = λ z. never e (ap is_broken z);
          part = λ z. record { text = y.text; read = y.read; written = w };
          done = λ z. never e (ap is_broken z);
          untaken = λ z. record { text = y.text; read = y.read; written = w };
        }

    pub flushed
        : {most room : ℕ} (k : Flow) → (f.stage ≡ Full → ⊥) → is_broken f.stage ≡ false → f.made ≤ length out → Flushed most room f k → After M cap s₀ k s line chunk out
    flushed {most} {room} k h u m w = by (due_of f room most) refl
      where
        by : (b : Bool) → due_of f room most ≡ b → After M cap s₀ k s line chunk out
        by true e =
            let y = w.wrote e in
            elim (dec_lt y.taken f.made) [
              | yes i ↦ rw y.flow (wrote-part y.turns y.taken y.error h u m i)
              | no i ↦ rw y.flow (wrote-all y.turns y.taken y.error h u (omega arith) y.most)
            ]
        by false e = rw (w.wait e) x

    -- The loop is left.
    pub ran : {chunks lines room most : ℕ} → Roomy chunks lines room most f → (stage_open f.stage ≡ true → f.turns ≡ 0) → Ran M s₀ f
    ran r t = record {
      done = λ z. let y = x.done z in record { text = y.text; read = y.spoken.read; written = omega (arith, y.spoken.count, r.quiet (ap stage_open z)) };
      unread =
          λ z.
          let y = x.unread z in
          record {
            text = y.text;
            read = y.spoken.read;
            written = rw (← said_uncut M (take cap) (keeps_first cap some) B s₀ y.text) (omega (arith, y.spoken.count, r.quiet (ap stage_open z)));
          };
      unwritten = x.part;
      untaken = x.untaken;
      turns = t;
      stage = r.stage;
    }

-- A program that has done nothing does not keep its contract.
pub idle-refused : {S : Type 0} (M : Machine S) (s₀ : S) → Ran M s₀ flow_start → ⊥
idle-refused M s₀ r = omega (arith, r.turns refl)
