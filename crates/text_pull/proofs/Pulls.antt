-- What a refill, a feed and a pull leave. Assumes nothing.
use Prim.Native.Nat.{ℕ, suc, ◌+◌, ◌-◌, ◌≤◌, ◌<◌, min}
use native.Mathlib.Omega.{arith}
use native.Mathlib.Decide.{ℕ_discrete, dec_lt}
use mathlib.Core.Path.{◌≡◌, refl, sym, ap, ◌∙◌}
use mathlib.Core.Bool.{Bool, true, false}
use mathlib.Core.List.{List, [], ◌∷◌, ◌++◌, append-nil}
use lib.IntN.{ℤ}
use lib.ListN.{length, take, drop, length-take, length-drop, take-append-drop, drop_of_length-le}
use lib.Seq.{length-take-le, split_at, drop-drop}
use borrow.Author.Tests.{eq-eqb, ne_eqb, lt-ltb}
use lib.Dec.{eqb}
use Rattle.byte_scan.specs.Bytes.{index_of, index_after}
use Rattle.std.specs.Prelude.{Result}
use Rattle.text_pull.specs.declared.Stage.{Stage}
use Rattle.text_pull.specs.declared.Stage.TheVariants.{Reading, Ended}
use Rattle.text_feed.specs.declared.Place.{Place}
use Rattle.text_feed.specs.Feed.{place_after, line_after}
use Rattle.text_stream.proofs.Steps.{lf_at, lf_within}
use Rattle.text_stream.proofs.Feeding.{kept-after, len-within, lf_place, end-place}
use Rattle.text_pull.specs.declared.Flow.{Flow}
use Rattle.text_pull.specs.Pull.{bytes_moved, stage_open, read_of, rest_of, Refilled, at_end, last_of, fed_of, Pulled}
use Rattle.text_pull.proofs.Stages.{never, apart, dec_reading, open_ended, open_read, last_whole, read_none, stage-read, moved_room}

-- Nothing is read.
pub refill_none
    : (f : Flow) (chunk : List ℕ) → f.at ≤ f.filled → f.filled ≤ length chunk → stage_open f.stage ≡ true → (f.stage ≡ Ended → f.filled ≤ f.at)
    → Refilled f chunk f chunk
refill_none f chunk a l s o = record {
  came = [];
  rest = sym (append-nil (rest_of f chunk));
  read = omega arith;
  most = omega arith;
  stage = open_read f.stage s;
  stays = λ e. e;
  over = λ z. o (open_ended f.stage s z);
  at = a;
  filled = l;
  turns = refl;
  len = refl;
  made = refl;
  written = refl;
}

-- A read that is answered.
read_refilled
    : (f : Flow) (chunk chunk' : List ℕ) (got : Result ℕ ℤ) → f.filled ≤ f.at → f.stage ≡ Reading → length chunk' ≡ length chunk
    → Refilled f chunk (read_of f got (length chunk')) chunk'
unfolding read_of
read_refilled f chunk chunk' got h z c =
    let n = bytes_moved got (length chunk') in
    let r : n ≤ length chunk' = moved_room got (length chunk') in
    let e : rest_of f chunk ≡ [] = drop_of_length-le (take f.filled chunk) {i = f.at} (simp length-take (omega arith)) in
    record {
      came = take n chunk';
      rest = rw e;
      read = rw (length-take-le n chunk' r);
      most = omega arith;
      stage = stage-read got;
      stays = λ x. apart (sym z ∙ x) (λ n. omega arith);
      over = λ x. omega (arith, read_none got (length chunk') x);
      at = omega arith;
      filled = omega arith;
      turns = refl;
      len = refl;
      made = refl;
      written = refl;
    }

pub refill_read
    : (f g : Flow) (chunk chunk' : List ℕ) (got : Result ℕ ℤ) → f.filled ≤ f.at → f.stage ≡ Reading → length chunk' ≡ length chunk
    → g ≡ read_of f got (length chunk') → Refilled f chunk g chunk'
refill_read f g chunk chunk' got h z c e = rw e (read_refilled f chunk chunk' got h z c)

-- The bytes up to a LF have none.
plain_front : (t : List ℕ) → length (take (index_of 10 t) t) ≤ index_of 10 (take (index_of 10 t) t)
unfolding index_of index_after
plain_front [] = omega arith
plain_front (x ∷ t) =
    elim (ℕ_discrete x 10) [
      | yes e ↦ rw (eq-eqb x 10 e) (omega arith)
      | no e ↦ rw (ne_eqb x 10 e, ne_eqb x 10 e) (omega (arith, plain_front t))
    ]

-- The tests of a last line.
last_none : (w : Bool) (s : Stage) (k : ℕ) → (s ≡ Ended → ⊥) → last_of w s k ≡ w
unfolding last_of
last_none w Ended k h = absurd (h refl)
last_none w s k h = refl

last_some : (w : Bool) (k : ℕ) → 1 ≤ k → last_of w Ended k ≡ true
unfolding last_of at_end
last_some w k h = rw (lt-ltb 0 k h)

last_empty : (w : Bool) → last_of w Ended 0 ≡ w
unfolding last_of at_end
last_empty w = refl

module _ (f : Flow) (chunk line : List ℕ) (m : Flow) (chunk' : List ℕ) (r : Refilled f chunk m chunk') (c : length chunk' ≡ length chunk)
    (fits : f.len ≤ length line) (turn : 1 ≤ f.turns) where
  abbrev t : List ℕ
  t = take m.filled chunk'

  abbrev p : Place
  p = record { at = m.at; len = m.len; whole = 0 }

  size : length t ≡ m.filled
  size = length-take-le m.filled chunk' (omega (arith, r.filled))

  inside : p.at ≤ length t
  inside = omega (arith, size, r.at)

  narrow : p.len ≤ length line
  narrow = omega (arith, r.len)

  far : ℕ
  far = index_of 10 (drop m.at t)

  place : Place
  place = place_after p t (length line)

  -- what is taken
  bytes : List ℕ
  bytes = take far (drop m.at t)

  to_end : m.filled ≤ m.at + far → place ≡ record { at = m.at + far; len = min (m.len + far) (length line); whole = 0 }
  unfolding place far
  to_end h = end-place p t line inside narrow (omega (arith, size))

  to_lf : m.at + far < m.filled → place ≡ record { at = m.at + far + 1; len = min (m.len + far) (length line); whole = 1 }
  unfolding place far
  to_lf h = lf_place p t line inside narrow (omega (arith, size))

  rest_end : drop m.at t ≡ bytes ++ drop (m.at + far) t
  unfolding bytes
  rest_end = rw (← drop-drop far m.at t) (sym (take-append-drop far (drop m.at t)))

  rest_lf : m.at + far < m.filled → drop m.at t ≡ bytes ++ (10 ∷ drop (m.at + far + 1) t)
  unfolding bytes far
  rest_lf h =
      let l = drop m.at t in
      let i : index_of 10 l < length l = simp length-drop (omega (arith, size)) in
      let e : m.at + index_of 10 l + 1 ≡ m.at + suc (index_of 10 l) = omega arith in
      rw (e, ← drop-drop (suc (index_of 10 l)) m.at t)
      (split_at l (index_of 10 l) 0 i ∙ ap (λ (x : ℕ). take (index_of 10 l) l ++ (x ∷ drop (suc (index_of 10 l)) l)) (lf_at l i))

  -- Once the text has ended nothing is left.
  none_left : (m.stage ≡ Reading → ⊥) → drop m.at t ≡ []
  none_left h = drop_of_length-le t {i = m.at} (omega (arith, size, r.over h))

  no_bytes : (m.stage ≡ Reading → ⊥) → bytes ≡ []
  unfolding bytes far index_of
  no_bytes h = rw (none_left h)

  no_far : (m.stage ≡ Reading → ⊥) → far ≡ 0
  unfolding far index_of
  no_far h = rw (none_left h)

  abbrev ends : Place → Bool → Flow
  ends q w = record {
    turns = m.turns - 1;
    len = q.len;
    filled = m.filled;
    at = q.at;
    whole = w;
    made = m.made;
    stage = m.stage;
    read = m.read;
    written = m.written;
  }

  line_kept : (q : Place) (line' : List ℕ) → q ≡ place → line' ≡ line_after p t line → take q.len line' ≡ take (length line) (take f.len line ++ bytes)
  unfolding place bytes far
  line_kept q line' e l =
      rw (e, l) (kept-after p t line inside narrow ∙ ap (λ (n : ℕ). take (length line) (take n line ++ take (index_of 10 (drop m.at t)) (drop m.at t))) r.len)

  line-fits : (q : Place) → q ≡ place → q.len ≤ length line
  unfolding place
  line-fits q e = rw e (len-within p t line inside narrow)

  bytes-plain : length bytes ≤ index_of 10 bytes
  unfolding bytes far
  bytes-plain = plain_front (drop m.at t)

  far_within : m.at + far ≤ m.filled
  unfolding far
  far_within = omega (arith, lf_within (drop m.at t), length-drop m.at t, size, r.at)

  -- Behind a LF.
  pull_lf : (q : Place) (w : Bool) (line' : List ℕ) → q ≡ place → line' ≡ line_after p t line → w ≡ last_of (eqb q.whole 1) m.stage q.len
      → m.at + far < m.filled → Pulled f chunk line (ends q w) chunk' line'
  pull_lf q w line' e l k h =
      let g = e ∙ to_lf h in
      let a : q.at ≡ m.at + far + 1 = ap (λ (x : Place). x.at) g in
      let v : q.whole ≡ 1 = ap (λ (x : Place). x.whole) g in
      let z : m.stage ≡ Reading = elim (dec_reading m.stage) [ yes i ↦ i | no i ↦ absurd (omega (arith, r.over i)) ] in
      let u : w ≡ true = k ∙ ap (λ (n : ℕ). last_of (eqb n 1) m.stage q.len) v ∙ last_whole m.stage q.len in
      record {
        came = r.came;
        bytes = bytes;
        plain = bytes-plain;
        kept = line_kept q line' e l;
        read = r.read;
        more = λ x y. never u y;
        lf = λ x y. rw (← r.rest, a) (rest_lf h);
        over = λ x. absurd (x z);
        none = λ x y. never u y;
        some = λ x y. apart (sym z ∙ x) (λ n. omega arith);
        failed = λ x. apart (sym z ∙ x) (λ n. omega arith);
        stage = r.stage;
        stays = r.stays;
        most = r.most;
        at = omega arith;
        filled = r.filled;
        len = line-fits q e;
        turns = omega (arith, r.turns);
        made = r.made;
        written = r.written;
      }

  -- At the chunk's end.
  pull_end : (q : Place) (w : Bool) (line' : List ℕ) → q ≡ place → line' ≡ line_after p t line → w ≡ last_of (eqb q.whole 1) m.stage q.len
      → m.filled ≤ m.at + far → Pulled f chunk line (ends q w) chunk' line'
  pull_end q w line' e l k h =
      let g = e ∙ to_end h in
      let a : q.at ≡ m.at + far = ap (λ (x : Place). x.at) g in
      let v : q.whole ≡ 0 = ap (λ (x : Place). x.whole) g in
      let base : last_of (eqb q.whole 1) m.stage q.len ≡ last_of false m.stage q.len = ap (λ (n : ℕ). last_of (eqb n 1) m.stage q.len) v in
      let other : (m.stage ≡ Ended → ⊥) → w ≡ false = λ x. k ∙ base ∙ last_none false m.stage q.len x in
      let one : m.stage ≡ Ended → 1 ≤ q.len → w ≡ true = λ x y. k ∙ base ∙ ap (λ (s : Stage). last_of false s q.len) x ∙ last_some false q.len y in
      let empty : m.stage ≡ Ended → q.len ≡ 0 → w ≡ false =
      λ x y. k ∙ base ∙ ap (λ (s : Stage). last_of false s q.len) x ∙ ap (last_of false Ended) y ∙ last_empty false in
      record {
        came = r.came;
        bytes = bytes;
        plain = bytes-plain;
        kept = line_kept q line' e l;
        read = r.read;
        more = λ x y. rw (← r.rest, a) rest_end;
        lf = λ x y. never y (other (λ n. apart (sym x ∙ n) (λ m. omega arith)));
        over = λ x. (sym r.rest ∙ none_left x, no_bytes x, omega (arith, no_far x, r.over x));
        none = λ x y. elim (dec_lt q.len 1) [ yes i ↦ omega arith | no i ↦ never (one x (omega arith)) y ];
        some = λ x y. elim (dec_lt q.len 1) [ yes i ↦ never y (empty x (omega arith)) | no i ↦ omega arith ];
        failed = λ x. other (λ n. apart (sym x ∙ n) (λ m. omega arith));
        stage = r.stage;
        stays = r.stays;
        most = r.most;
        at = omega (arith, far_within);
        filled = r.filled;
        len = line-fits q e;
        turns = omega (arith, r.turns);
        made = r.made;
        written = r.written;
      }

  pub pull_done : (q : Place) (g : Flow) (line' : List ℕ) → q ≡ place_after p t (length line) → line' ≡ line_after p t line → g ≡ fed_of m q
      → Pulled f chunk line g chunk' line'
  unfolding place fed_of
  pull_done q g line' e l k =
      let w = last_of (eqb q.whole 1) m.stage q.len in
      rw k
      (elim (dec_lt (m.at + far) m.filled) [
        | yes h ↦ pull_lf q w line' e l refl h
        | no h ↦ pull_end q w line' e l refl (omega arith)
      ])
