-- One whole turn of a program's loop, for any machine: a pull, an answer, a flush, from what holds ahead of it to the same. Assumes nothing.
use Prim.Native.Nat.{ℕ, ◌+◌, ◌≤◌, ◌<◌}
use native.Mathlib.Omega.{arith}
use mathlib.Core.Path.{◌≡◌, ◌∙◌}
use mathlib.Core.Bool.{Bool, true, false}
use mathlib.Core.List.{List}
use lib.ListN.{length, take}
use Rattle.text_stream.specs.Stream.{Machine, says_of, Blind, Dead}
use Rattle.text_pull.specs.declared.Flow.{Flow}
use Rattle.text_pull.specs.declared.Stage.TheVariants.{Ended}
use Rattle.text_pull.specs.Pull.{flow_start, stage_open, Pulled, goes_on, Flushed, Answered, Next, Ran}
use Rattle.text_turns.specs.Turn.{After, Turning, Turned}
use Rattle.text_turns.proofs.Turns.{started, turned}
use Rattle.text_turns.proofs.Numbers.{Made, roomy_start, made_again, roomy-again, used_up, going_on, turn_less}
use Rattle.text_turns.proofs.Loop.{next-after, flushed, ran}

module _ {S : Type 0} (M : Machine S) (cap : ℕ) (s₀ : S) (most : ℕ) where
  -- Ahead of the first.
  pub begun
      : (line chunk out : List ℕ) → length line ≡ cap → length chunk ≡ 65536 → length out ≡ 65536 → most ≤ 65536
      → Turning M cap s₀ most flow_start s₀ line chunk out
  begun line chunk out l c o m = record {
    after = started M cap s₀ line chunk out;
    roomy = roomy_start (length chunk) (length line) (length out) most (omega arith);
    lines = l;
    chunks = c;
    outs = o;
  }

  module _ {f : Flow} {s : S} {line chunk out : List ℕ} (t : Turning M cap s₀ most f s line chunk out) where
    -- What a pull requires.
    pub pull_may
        : goes_on f ≡ true
        → ((1 ≤ f.turns) × (f.whole ≡ false) × (stage_open f.stage ≡ true) × (f.stage ≡ Ended → f.filled ≤ f.at))
        × (((f.at ≤ f.filled) × (f.filled ≤ length chunk) × (f.len ≤ length line)) × (f.read + length chunk < 18446744073709551616))
    pull_may e =
        let r = t.roomy in
        let g = going_on f e in
        ((g.0, r.whole, g.1, λ z. (r.over z).0), ((r.at, r.filled, r.len), omega (arith, r.read, t.chunks)))

    -- What an answer requires of the flow.
    pub answer_may
        : {g : Flow} {line' chunk' : List ℕ} → Pulled f chunk line g chunk' line' → length line' ≡ length line
        → (g.len ≤ length line') × (g.made + most ≤ length out)
    answer_may p l = (omega (arith, p.len), omega (arith, p.made, t.roomy.made))

    module _ (some : 1 ≤ cap) (B : Blind M (take cap)) where
      -- The loop is left.
      pub ended : goes_on f ≡ false → Ran M s₀ f
      ended e = ran M cap s₀ some B f s line chunk out t.after t.roomy (used_up f e)

  -- after an answer: what is printed may be written, and is what is said next; whatever a flush leaves, it has come to the next turn
  pub record Answering (f h : Flow) (s : S) (line chunk out : List ℕ) : Type 0 where
    pub may : (h.made ≤ length out) × (h.written + h.made < 18446744073709551616)
    pub next : Next (says_of M s₀) h (take h.made out)
    pub flushes : (k : Flow) → Flushed most (length out) h k → Turned M cap s₀ most f k s line chunk out

  module _ (some : 1 ≤ cap) (B : Blind M (take cap)) (stop : S → Bool) (D : (r : S) → stop r ≡ true → Dead M r) where
    module _ {f g h : Flow} {s s' : S} {line chunk line' chunk' out out' : List ℕ} (t : Turning M cap s₀ most f s line chunk out) (e : goes_on f ≡ true)
        (p : Pulled f chunk line g chunk' line') (c : length chunk' ≡ length chunk) (l : length line' ≡ length line)
        (a : Answered M stop most g s line' out h s' out') (o : length out' ≡ length out) where
      now_after : After M cap s₀ h s' line' chunk' out'
      now_after =
          turned M cap s₀ some B stop D most f g h s s' line chunk line' chunk' out out' t.lines l t.roomy.len p a t.roomy.made t.after (going_on f e).1 (λ z. (t.roomy.over z).1)

      now_made : Made (length chunk) (length line) (length out) h
      now_made =
          made_again most (length out) f g h s s' line chunk line' chunk' out out' t.roomy p a (omega (arith, t.chunks)) (omega (arith, t.outs))

      now_turning : (k : Flow) → Flushed most (length out') h k → Turning M cap s₀ most k s' line' chunk' out'
      now_turning k w = record {
        after = flushed M cap s₀ some B h s' line' chunk' out' now_after k now_made.stage now_made.unbroken (omega (arith, now_made.made)) w;
        roomy =
            rw (c, l, o) (roomy-again (length chunk) (length line) (length out) most h k (omega (arith, t.roomy.made)) now_made (rw o at w));
        lines = l ∙ t.lines;
        chunks = c ∙ t.chunks;
        outs = o ∙ t.outs;
      }

      pub turn : Answering f h s' line' chunk' out'
      turn = record {
        may = (omega (arith, now_made.made), omega (arith, now_made.written));
        next = next-after M cap s₀ some B h s' line' chunk' out' now_after now_made.stage now_made.unbroken;
        flushes =
            λ k w. record {
              on = now_turning k w;
              less = turn_less most (length out') f g h k s s' line chunk line' chunk' out out' p a w;
            };
      }
