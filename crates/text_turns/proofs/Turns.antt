-- What a pull and its answer come to, for any machine. Assumes nothing.
use Prim.Native.Nat.{ℕ, ◌+◌, ◌≤◌}
use native.Mathlib.Omega.{arith}
use mathlib.Core.Path.{◌≡◌, refl, sym, ap, ◌∙◌}
use mathlib.Core.Bool.{Bool, true, false}
use mathlib.Core.List.{List, [], ◌∷◌, ◌++◌, append-nil, append_assoc}
use lib.ListN.{length, take, drop, length-append, length-take}
use lib.Seq.{length-take-le, take_all, take_at, take-length, drop-append-le, drop-length}
use Rattle.byte_parts.specs.Part.{put}
use Rattle.byte_parts.proofs.Part.{put-split}
use Rattle.text_stream.specs.Stream.{Machine, Mid, between, byte_fed, byte_said, fed, said, ended, says_of, Blind, Written, History, Dead}
use Rattle.text_stream.proofs.Whole.{keeps_first, fed-append, said-append, whole}
use Rattle.text_stream.proofs.Prints.{ended-none, ended_Some}
use Rattle.text_stream.proofs.Histories.{history_dead}
use Rattle.text_pull.specs.declared.Flow.{Flow}
use Rattle.text_pull.specs.declared.Stage.{Stage}
use Rattle.text_pull.specs.declared.Stage.TheVariants.{Reading, Ended, Unread}
use Rattle.text_stream.proofs.Steps.{fed-plain, said_plain}
use Rattle.text_pull.specs.Pull.{flow_start, rest_of, is_read, stage_open, Pulled, took_of, closed_of, Answered}
use Rattle.text_pull.proofs.Stages.{never, apart, besides, dec_true, untrue, dec_reading, dec_ended, unread_of, open_ended}
use Rattle.text_turns.specs.Turn.{Spoken, Flowing, Closing, Done, After}

-- Behind the end no bytes come, nor behind a read that failed.
pub ended_over : {s : Stage} → s ≡ Ended → s ≡ Reading → ⊥
ended_over e = besides e (λ n. omega arith)

unread_over : {s : Stage} → s ≡ Unread → s ≡ Reading → ⊥
unread_over e = besides e (λ n. omega arith)

-- More was read.
respoken
    : {w text out : List ℕ} {f g : Flow} (text' : List ℕ) → Spoken w text f out → g.made ≡ f.made → g.written ≡ f.written → g.read ≡ length text'
    → Spoken w text' g out
respoken text' x m v r = record { read = r; count = omega (arith, m, v, x.count); words = rw (m, v) x.words }

-- What is put behind a front stands there.
put_front : (out : List ℕ) (at : ℕ) (u : List ℕ) → at + length u ≤ length out → take (at + length u) (put out at (length u) u) ≡ take at out ++ u
put_front out at u h =
    rw (put-split out at (length u) u h (omega arith), take-length u)
    (take_at (take at out ++ u) (drop (at + length u) out) (at + length u) (length-append (take at out) u ∙ omega (arith, length-take-le at out (omega arith))))

-- More was printed.
speak_more
    : {w text out out' : List ℕ} {f g : Flow} (u : List ℕ) → Spoken w text f out → Written out f.made u g.made out' → g.made ≤ length out
    → g.read ≡ f.read → g.written ≡ f.written → Spoken (w ++ u) text g out'
speak_more {w} {text} {out} {f = f} {g} u x p h r v =
    let c = x.count in
    record {
      read = r ∙ x.read;
      count = omega (arith, length-append w u, p.place, v);
      words =
          rw (p.place, p.bytes, v, drop-append-le f.written w u (omega arith), ← x.words)
          (put_front out f.made u (omega (arith, p.place)));
    }

-- All that waited was written.
pub speak_on
    : {w text out : List ℕ} {f g : Flow} → Spoken w text f out → g.made ≡ 0 → g.written ≡ f.written + f.made → g.read ≡ f.read → Spoken w text g out
speak_on {w} x m v r = record { read = r ∙ x.read; count = omega (arith, m, v, x.count); words = rw (m, v, x.count, drop-length w) }

module _ {S : Type 0} (M : Machine S) (cap : ℕ) (s₀ : S) where
  -- an event: the bytes that were pulled are taken, and a line that is whole is not
  pub record Event (f : Flow) (s : S) (line chunk out : List ℕ) : Type 0 where
    pub past : List ℕ
    pub machine : record { state = s; kept = take f.len line } ≡ fed M (take cap) (between s₀) past
    pub more : f.stage ≡ Reading → f.whole ≡ false → Spoken (said M (take cap) (between s₀) past) (past ++ rest_of f chunk) f out
    pub lf : f.stage ≡ Reading → f.whole ≡ true → Spoken (said M (take cap) (between s₀) past) (past ++ (10 ∷ rest_of f chunk)) f out
    pub over : (f.stage ≡ Reading → ⊥) → Spoken (said M (take cap) (between s₀) past) past f out

module _ {S : Type 0} (M : Machine S) (cap : ℕ) (s₀ : S) where
  -- A program starts.
  pub started : (line chunk out : List ℕ) → After M cap s₀ flow_start s₀ line chunk out
  unfolding fed said
  started line chunk out = record {
    going = λ e. record { past = []; machine = refl; spoken = record { read = refl; count = refl; words = refl } };
    closing = λ e. apart e (λ n. omega arith);
    unread = λ e. apart e (λ n. omega arith);
    part = λ e. apart e (λ n. omega arith);
    done = λ e. apart e (λ n. omega arith);
    untaken = λ e. apart e (λ n. omega arith);
  }

  module _ (some : 1 ≤ cap) (f g : Flow) (s : S) (line chunk line' chunk' out : List ℕ) (l : length line ≡ cap) (n : f.len ≤ length line)
      (p : Pulled f chunk line g chunk' line') where
    -- A pull, where bytes may come.
    pull_fed : (m : Mid S) → m.kept ≡ take f.len line → fed M (take cap) m p.bytes ≡ record { state = m.state; kept = take g.len line' }
    pull_fed m e =
        let b = p.bytes in
        let k : take cap m.kept ≡ m.kept = rw e (take_all cap (take f.len line) (simp length-take (omega arith))) in
        rw take-length at (fed-plain M (take cap) (keeps_first cap some) m b (length b) p.plain k)
        ∙ ap (λ (r : List ℕ). record { state = m.state; kept = r }) (rw (e, ← l) (sym p.kept))

    pull_said : (m : Mid S) → said M (take cap) m p.bytes ≡ []
    pull_said m = rw take-length at (said_plain M (take cap) (keeps_first cap some) m p.bytes (length p.bytes) p.plain)

    module _ (x : Flowing M cap s₀ f s line chunk out) where
      abbrev now_past : List ℕ
      now_past = x.past ++ p.bytes

      now_said : said M (take cap) (between s₀) now_past ≡ said M (take cap) (between s₀) x.past
      now_said =
          said-append M (take cap) (between s₀) x.past p.bytes
          ∙ rw (pull_said (fed M (take cap) (between s₀) x.past))
          (append-nil (said M (take cap) (between s₀) x.past))

      now_machine : record { state = s; kept = take g.len line' } ≡ fed M (take cap) (between s₀) now_past
      now_machine =
          sym
          (fed-append M (take cap) (between s₀) x.past p.bytes
          ∙ ap (λ (m : Mid S). fed M (take cap) m p.bytes) (sym x.machine)
          ∙ pull_fed (record { state = s; kept = take f.len line }) refl)

      -- the words, whatever the rest is now
      now_spoken : (rest : List ℕ) → rest_of f chunk ++ p.came ≡ p.bytes ++ rest → Spoken (said M (take cap) (between s₀) now_past) (now_past ++ rest) g out
      now_spoken rest e =
          rw now_said
          (respoken (now_past ++ rest) x.spoken p.made p.written
          (omega (arith, p.read, x.spoken.read, length-append x.past (rest_of f chunk), length-append now_past rest, length-append x.past p.bytes, length-append (rest_of f chunk) p.came, length-append p.bytes rest, ap length e)))

      pub pulled : Event M cap s₀ g s line' chunk' out
      pulled = record {
        past = now_past;
        machine = now_machine;
        more = λ z w. now_spoken (rest_of g chunk') (p.more z w);
        lf = λ z w. now_spoken (10 ∷ rest_of g chunk') (p.lf z w);
        over = λ z. rw append-nil at (now_spoken [] ((p.over z).0 ∙ sym (append-nil p.bytes ∙ (p.over z).1)));
      }

    -- A pull after the end.
    pub pulled_end : Closing M cap s₀ f s out → f.stage ≡ Ended → Closing M cap s₀ g s out
    pulled_end x z = record {
      text = x.text;
      words = x.words;
      spoken =
          respoken x.text x.spoken p.made p.written
          (omega (arith, p.read, x.spoken.read, length-append (rest_of f chunk) p.came, ap length (p.over (ended_over (p.stays z))).0));
      rest = x.rest;
    }

  -- An answer, by the event.
  module _ (some : 1 ≤ cap) (B : Blind M (take cap)) (g : Flow) (s s' : S) (line chunk out out' : List ℕ) (made : ℕ) (m : made ≤ length out)
      (fits : g.len ≤ length line) where
    -- The machine after its line.
    module _ (x : Event M cap s₀ g s line chunk out) (w : g.whole ≡ true) (e : s' ≡ M.line s (take g.len line)) (p : Written out g.made (M.text s (take g.len line)) made out') where
      abbrev next_past : List ℕ
      next_past = x.past ++ (10 ∷ [])

      next-machine : between s' ≡ fed M (take cap) (between s₀) next_past
      unfolding fed byte_fed
      next-machine =
          sym
          (fed-append M (take cap) (between s₀) x.past (10 ∷ [])
          ∙ ap (λ (n : Mid S). byte_fed M (take cap) n 10) (sym x.machine)
          ∙ ap (λ (r : S). between r) (sym e))

      next-said : said M (take cap) (between s₀) next_past ≡ said M (take cap) (between s₀) x.past ++ M.text s (take g.len line)
      unfolding said byte_said
      next-said =
          said-append M (take cap) (between s₀) x.past (10 ∷ [])
          ∙ ap (λ (n : Mid S). said M (take cap) (between s₀) x.past ++ (byte_said M (take cap) n 10 ++ [])) (sym x.machine)
          ∙ ap (λ (r : List ℕ). said M (take cap) (between s₀) x.past ++ r) (append-nil (M.text s (take g.len line)))

      -- Behind a LF.
      lf_spoken : g.stage ≡ Reading → (b : Bool) → Spoken (said M (take cap) (between s₀) next_past) (next_past ++ rest_of g chunk) (took_of g made b) out'
      lf_spoken z true =
          rw (next-said, append_assoc x.past (10 ∷ []) (rest_of g chunk)) (speak_more (M.text s (take g.len line)) (x.lf z w) p m refl refl)
      lf_spoken z false =
          rw (next-said, append_assoc x.past (10 ∷ []) (rest_of g chunk)) (speak_more (M.text s (take g.len line)) (x.lf z w) p m refl refl)

      lf_flowing : g.stage ≡ Reading → Flowing M cap s₀ (took_of g made false) s' line chunk out'
      lf_flowing z = record { past = next_past; machine = next-machine; spoken = lf_spoken z false }

      lf_dead : g.stage ≡ Reading → Dead M s' → Done M cap s₀ (took_of g made true) out'
      lf_dead z d =
          let h : History M (take cap) s₀ (next_past ++ rest_of g chunk) (said M (take cap) (between s₀) next_past) (between s') (rest_of g chunk) =
          record { past = next_past; read = refl; machine = next-machine; said_of = refl } in
          let q = history_dead (keeps_first cap some) B h d [] ∙ ap (says_of M s₀) (append-nil (next_past ++ rest_of g chunk)) in
          record { text = next_past ++ rest_of g chunk; spoken = rw q at (lf_spoken z true) }

      -- Where the text has ended.
      last-whole : 1 ≤ g.len → said M (take cap) (between s₀) x.past ++ M.text s (take g.len line) ++ M.end s' ≡ says_of M s₀ x.past
      last-whole k =
          let t = take g.len line in
          ap (λ (r : S). said M (take cap) (between s₀) x.past ++ M.text s t ++ M.end r) e
          ∙ append_assoc (said M (take cap) (between s₀) x.past) (M.text s t) (M.end (M.line s t))
          ∙ ap (λ (r : List ℕ). said M (take cap) (between s₀) x.past ++ r) (sym (ended_Some M s t (omega (arith, length-take-le g.len line fits))))
          ∙ ap (λ (n : Mid S). said M (take cap) (between s₀) x.past ++ ended M n) x.machine
          ∙ whole M (take cap) (keeps_first cap some) B s₀ x.past

      last-closing : g.stage ≡ Ended → 1 ≤ g.len → (b : Bool) → Closing M cap s₀ (took_of g made b) s' out'
      last-closing z k true = record {
        text = x.past;
        words = said M (take cap) (between s₀) x.past ++ M.text s (take g.len line);
        spoken = speak_more (M.text s (take g.len line)) (x.over (ended_over z)) p m refl refl;
        rest = last-whole k;
      }
      last-closing z k false = record {
        text = x.past;
        words = said M (take cap) (between s₀) x.past ++ M.text s (take g.len line);
        spoken = speak_more (M.text s (take g.len line)) (x.over (ended_over z)) p m refl refl;
        rest = last-whole k;
      }

      last_dead : g.stage ≡ Ended → 1 ≤ g.len → Dead M s' → Done M cap s₀ (took_of g made true) out'
      last_dead z k d =
          let c = last-closing z k true in
          let q : c.words ≡ says_of M s₀ c.text = sym (append-nil c.words) ∙ ap (λ (r : List ℕ). c.words ++ r) (sym d.end) ∙ c.rest in
          record { text = c.text; spoken = rw q at c.spoken }

    -- The end, with no line at hand.
    end-closing : Event M cap s₀ g s line chunk out → (g.stage ≡ Reading → ⊥) → g.len ≡ 0 → Closing M cap s₀ g s out
    end-closing x z k =
        let n : record { state = s; kept = take g.len line } ≡ between s = rw k in
        record {
          text = x.past;
          words = said M (take cap) (between s₀) x.past;
          spoken = x.over z;
          rest =
              ap (λ (r : List ℕ). said M (take cap) (between s₀) x.past ++ r) (sym (ended-none M s) ∙ ap (ended M) (sym n ∙ x.machine))
              ∙ whole M (take cap) (keeps_first cap some) B s₀ x.past;
        }

    closed-done : Closing M cap s₀ g s out → Written out g.made (M.end s) made out' → Done M cap s₀ (closed_of g made) out'
    closed-done x p = record { text = x.text; spoken = rw x.rest at (speak_more {g = closed_of g made} (M.end s) x.spoken p m refl refl) }

    -- After a line.
    took_after
        : (stop : S → Bool) → ((r : S) → stop r ≡ true → Dead M r) → Event M cap s₀ g s line chunk out → is_read g.stage ≡ true → (g.stage ≡ Ended → 1 ≤ g.len) → (g.stage ≡ Unread → ⊥)
        → g.whole ≡ true → s' ≡ M.line s (take g.len line) → Written out g.made (M.text s (take g.len line)) made out'
        → (h : Flow) (b : Bool) → stop s' ≡ b → h ≡ took_of g made b → After M cap s₀ h s' line chunk out'
    took_after stop D x n k u w e p h true d q =
        rw q record {
          going = λ z. apart z (λ i. omega arith);
          closing = λ z. apart z (λ i. omega arith);
          unread = λ z. apart z (λ i. omega arith);
          part = λ z. apart z (λ i. omega arith);
          untaken = λ z. apart z (λ i. omega arith);
          done =
              λ z.
              elim (dec_reading g.stage) [
                | yes i ↦ lf_dead x w e p i (D s' d)
                | no i ↦
                    elim (dec_ended g.stage) [
                      | yes j ↦ last_dead x w e p j (k j) (D s' d)
                      | no j ↦ absurd (u (unread_of g.stage n i j))
                    ]
              ];
        }
    took_after stop D x n k u w e p h false d q =
        rw q record {
          going = λ z. lf_flowing x w e p z;
          closing = λ z. last-closing x w e p z (k z) false;
          unread = λ z. absurd (u z);
          part = λ z. never n (ap is_read z);
          done = λ z. never n (ap is_read z);
          untaken = λ z. never n (ap is_read z);
        }

    -- After the end.
    Closed_after
        : Closing M cap s₀ g s out → Written out g.made (M.end s) made out' → (h : Flow) → h ≡ closed_of g made → After M cap s₀ h s' line chunk out'
    Closed_after x p h q =
        rw q record {
          going = λ z. apart z (λ i. omega arith);
          closing = λ z. apart z (λ i. omega arith);
          unread = λ z. apart z (λ i. omega arith);
          part = λ z. apart z (λ i. omega arith);
          done = λ z. closed-done x p;
          untaken = λ z. apart z (λ i. omega arith);
        }

  -- After nothing.
  none_after
      : (g : Flow) (s : S) (line chunk out : List ℕ) → Event M cap s₀ g s line chunk out → g.whole ≡ false → is_read g.stage ≡ true → (g.stage ≡ Ended → ⊥)
      → After M cap s₀ g s line chunk out
  none_after g s line chunk out x w n u = record {
    going = λ z. record { past = x.past; machine = x.machine; spoken = x.more z w };
    closing = λ z. absurd (u z);
    unread = λ z. record { text = x.past; spoken = x.over (unread_over z) };
    part = λ z. never n (ap is_read z);
    done = λ z. never n (ap is_read z);
    untaken = λ z. never n (ap is_read z);
  }

  -- A pull and its answer.
  module _ (some : 1 ≤ cap) (B : Blind M (take cap)) (stop : S → Bool) (D : (r : S) → stop r ≡ true → Dead M r) (most : ℕ)
      (f g h : Flow) (s s' : S) (line chunk line' chunk' out out' : List ℕ) (l : length line ≡ cap) (l' : length line' ≡ length line) (n : f.len ≤ length line)
      (p : Pulled f chunk line g chunk' line') (a : Answered M stop most g s line' out h s' out') (room : f.made + most ≤ length out) where
    fitting : h.made ≤ length out
    fitting = omega (arith, a.made, p.made)

    narrow : g.len ≤ length line'
    narrow = omega (arith, p.len)

    answered : Event M cap s₀ g s line' chunk' out → After M cap s₀ h s' line' chunk' out'
    answered x =
        elim (dec_true g.whole) [
          | yes w ↦
              took_after some B g s s' line' chunk' out out' h.made fitting narrow stop D x p.stage (λ z. p.some z w) (λ z. never w (p.failed z)) w (a.whole w).0 (a.whole w).1 h (stop s') refl (a.whole w).2
          | no w ↦
              let v : g.whole ≡ false = untrue g.whole w in
              elim (dec_ended g.stage) [
                | yes z ↦
                    Closed_after some B g s s' line' chunk' out out' h.made fitting narrow (end-closing some B g s s' line' chunk' out out' h.made fitting narrow x (ended_over z) (p.none z v)) (a.end v z).0 h (a.end v z).1
                | no z ↦
                    rw ((a.none v z).0, (a.none v z).1, (a.none v z).2) (none_after g s line' chunk' out x v p.stage z)
              ]
        ]

    -- no bytes of a line are at hand after the end
    len-none : f.stage ≡ Ended → f.len ≡ 0 → g.len ≡ 0
    len-none z k =
        let e = (p.over (ended_over (p.stays z))).1 in
        omega (arith, length-take-le g.len line' narrow, ap length p.kept, length-take (length line) (take f.len line ++ p.bytes), length-append (take f.len line) p.bytes, length-take f.len line, ap length e)

    pub turned : After M cap s₀ f s line chunk out → stage_open f.stage ≡ true → (f.stage ≡ Ended → f.len ≡ 0) → After M cap s₀ h s' line' chunk' out'
    turned x z k =
        elim (dec_reading f.stage) [
          | yes i ↦ answered (pulled some f g s line chunk line' chunk' out l n p (x.going i))
          | no i ↦
              let one : f.stage ≡ Ended = open_ended f.stage z i in
              let o = p.stays one in
              let v : g.whole ≡ false = elim (dec_true g.whole) [ yes w ↦ absurd (omega (arith, p.some o w, len-none one (k one))) | no w ↦ untrue g.whole w ] in
              Closed_after some B g s s' line' chunk' out out' h.made fitting narrow (pulled_end some f g s line chunk line' chunk' out l n p (x.closing one) one) (a.end v o).0 h (a.end v o).1
        ]
