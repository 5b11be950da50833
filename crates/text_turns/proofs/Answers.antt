-- What answers an event, for any machine. Assumes nothing.
use Prim.Native.Nat.{ℕ, ◌+◌, ◌≤◌}
use native.Mathlib.Omega.{arith}
use mathlib.Core.Path.{◌≡◌, refl, sym, ap, ◌∙◌}
use mathlib.Core.Bool.{Bool, true, false}
use mathlib.Core.List.{List, []}
use lib.ListN.{take}
use Rattle.byte_parts.proofs.Part.{put_zero}
use Rattle.text_stream.specs.Stream.{Machine, Written}
use Rattle.text_stream.proofs.Prints.{written_none}
use Rattle.text_pull.specs.declared.Flow.{Flow}
use Rattle.text_pull.proofs.Stages.{never, ended_of}
use Rattle.text_pull.specs.Pull.{is_ended, is_line, is_end, took_of, closed_of, rest_text, rested_of, Rested, Answered}

took-made : (f : Flow) (k : ℕ) (b : Bool) → (took_of f k b).made ≡ k
took-made f k true = refl
took-made f k false = refl

module _ {S : Type 0} (M : Machine S) (stop : S → Bool) (most : ℕ) {f : Flow} {s : S} {line out : List ℕ} where
  -- A line.
  pub answer-line
      : {h : Flow} {s' : S} {out' : List ℕ} {k : ℕ} {b : Bool} → is_line f ≡ true → s' ≡ M.line s (take f.len line)
      → Written out f.made (M.text s (take f.len line)) k out' → k ≤ f.made + most → b ≡ stop s' → h ≡ took_of f k b
      → Answered M stop most f s line out h s' out'
  answer-line {h} {k = k} {b} i e p m d q =
      let n : h.made ≡ k = ap (λ (r : Flow). r.made) q ∙ took-made f k b in
      record {
        whole = λ x. (e, rw n p, q ∙ ap (λ (j : ℕ). took_of f j b) (sym n) ∙ ap (took_of f h.made) d);
        end = λ x y. never i x;
        none = λ x y. never i x;
        made = omega arith;
      }

  -- No line.
  pub answer-rest
      : {h : Flow} {out' : List ℕ} → is_line f ≡ false → Rested (M.end s) f out h out' → h.made ≤ f.made + most
      → Answered M stop most f s line out h s out'
  unfolding rest_text rested_of
  answer-rest {h} {out'} i r m = by (is_end f) refl
    where
      by : (b : Bool) → is_end f ≡ b → Answered M stop most f s line out h s out'
      by true e = record {
        whole = λ x. never x i;
        end = λ x y. (rw e at r.words, rw e at r.flow);
        none = λ x y. absurd (y (ended_of f.stage e));
        made = m;
      }
      by false e = record {
        whole = λ x. never x i;
        end = λ x y. never (ap is_ended y) e;
        none = λ x y. (rw e at r.flow, refl, rw e at r.words.bytes ∙ put_zero out f.made []);
        made = m;
      }

-- Where no line is at hand: the end, or nothing.
module _ (text : List ℕ) {f : Flow} {out : List ℕ} where
  pub rest_end
      : {h : Flow} {out' : List ℕ} {k : ℕ} → is_end f ≡ true → Written out f.made text k out' → h ≡ closed_of f k → Rested text f out h out'
  unfolding rest_text rested_of
  rest_end {h} {k = k} e w q =
      let n : h.made ≡ k = ap (λ (r : Flow). r.made) q in
      record { words = rw (e, n) w; flow = rw e (q ∙ ap (closed_of f) (sym n)) }

  pub rest-none : is_end f ≡ false → Rested text f out f out
  unfolding rest_text rested_of
  rest-none e = record { words = rw e (written_none out f.made); flow = rw e }
