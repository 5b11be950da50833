-- What a feed leaves: of a place outside, and of one inside. Assumes nothing.
use Prim.Native.Nat.{ℕ, zero, suc, ◌+◌, ◌-◌, ◌≤◌, ◌<◌, min}
use native.Mathlib.Omega.{arith}
use native.Mathlib.Decide.{dec_lt}
use mathlib.Core.Path.{◌≡◌, sym, ◌∙◌}
use mathlib.Core.List.{List, [], ◌∷◌}
use lib.ListN.{length, take, drop, set, length-set, drop_of_length-le}
use lib.Seq.{sets, set_out, take-nil, take-take, take-length}
use borrow.Author.Tests.{lt-ltb, le-ltb}
use Rattle.byte_scan.specs.Bytes.{index_of, slice}
use Rattle.byte_parts.specs.Part.{put}
use Rattle.text_feed.specs.declared.Place.{Place}
use Rattle.text_feed.specs.Feed.{upto_lf, place_past, place_after, line_after}

-- Stores past the end leave the list.
sets_out : (vs l : List ℕ) (i m : ℕ) → length l ≤ i + m → sets l i vs ≡ sets l i (take m vs)
sets_out [] l i m h = rw (take-nil {A = ℕ} m)
sets_out (v ∷ vs) l i zero h = rw (set_out l i v (omega arith)) (sets_out vs l (suc i) zero (omega arith))
sets_out (v ∷ vs) l i (suc m) h = sets_out vs (set l i v) (suc i) m (simp length-set (omega arith))

-- A put goes no further than there is room.
pub put-room : (s : List ℕ) (at n : ℕ) (t : List ℕ) → put s at n t ≡ put s at (min n (length s - at)) t
unfolding put
put-room s at n t =
    elim (dec_lt (length s - at) n) [
      | yes h ↦
          let e : min n (length s - at) ≡ length s - at = omega arith in
          sets_out (take n t) s at (length s - at) (omega arith) ∙ rw (take-take (length s - at) n t (omega arith), e)
      | no h ↦ let e : min n (length s - at) ≡ n = omega arith in rw e
    ]

module _ (p : Place) (chunk line : List ℕ) where
  -- A place outside the chunk stays, and so does the line.
  pub out_of_chunk : length chunk < p.at → (p ≡ place_after p chunk (length line)) × (line ≡ line_after p chunk line)
  unfolding place_after line_after upto_lf index_of put
  out_of_chunk h =
      let g : length chunk ≤ p.at = omega arith in
      (rw (lt-ltb _ _ h), rw (drop_of_length-le chunk g))

  -- So do they where it is outside the line.
  pub out_of_line
      : p.at ≤ length chunk → length line < p.len
      → (p ≡ place_after p chunk (length line)) × (line ≡ line_after p chunk line)
  unfolding place_after line_after put
  out_of_line k h =
      (rw (le-ltb _ _ k, lt-ltb _ _ h), sym (sets_out (take (upto_lf chunk p.at) (drop p.at chunk)) line p.len 0 (omega arith)))

  -- What was found is where the bytes up to a LF end.
  found : (end : ℕ) → end ≡ p.at + index_of 10 (slice p.at (length chunk) chunk) → end ≡ p.at + upto_lf chunk p.at
  unfolding upto_lf slice
  found end e = e ∙ rw (take-length chunk)

  -- A place inside: where its bytes end was found, as many as there is room for were copied.
  module _ (k : p.at ≤ length chunk) (h : p.len ≤ length line) (end n : ℕ) (after : List ℕ)
      (e : end ≡ p.at + index_of 10 (slice p.at (length chunk) chunk)) (f : n ≡ min (end - p.at) (length line - p.len))
      (c : after ≡ put line p.len n (drop p.at chunk)) where
    -- the bytes kept then
    kept : p.len + n ≡ min (p.len + upto_lf chunk p.at) (length line)
    kept = let g = found end e in omega arith

    -- the line then
    copied : after ≡ line_after p chunk line
    unfolding line_after
    copied =
        let g = found end e in
        let b : min (upto_lf chunk p.at) (length line - p.len) ≡ n = omega arith in
        c ∙ sym (put-room line p.len (upto_lf chunk p.at) (drop p.at chunk) ∙ rw b)

    -- It goes past a LF that ends its bytes.
    pub past_lf
        : end < length chunk
        → (record { at = end + 1; len = p.len + n; whole = 1 } ≡ place_after p chunk (length line)) × (after ≡ line_after p chunk line)
    unfolding place_after place_past
    past_lf l =
        let g = found end e in
        let a : p.at + upto_lf chunk p.at < length chunk = omega arith in
        (rw (le-ltb _ _ k, le-ltb _ _ h, lt-ltb _ _ a, ← kept, ← g), copied)

    -- It goes to the chunk's end where no LF does.
    pub past_all
        : length chunk ≤ end
        → (record { at = end; len = p.len + n; whole = 0 } ≡ place_after p chunk (length line)) × (after ≡ line_after p chunk line)
    unfolding place_after place_past
    past_all l =
        let g = found end e in
        let a : length chunk ≤ p.at + upto_lf chunk p.at = omega arith in
        (rw (le-ltb _ _ k, le-ltb _ _ h, le-ltb _ _ a, ← kept, ← g), copied)

-- After a feed the line is within its room.
stays : (p : Place) (chunk : List ℕ) (room : ℕ) → p.len ≤ room → (place_after p chunk room).len ≤ room
unfolding place_after place_past
stays p chunk room h =
    elim (dec_lt (length chunk) p.at) [
      | yes k ↦ rw (lt-ltb _ _ k) h
      | no k ↦
          elim (dec_lt (p.at + upto_lf chunk p.at) (length chunk)) [
            | yes l ↦ rw (le-ltb (length chunk) p.at (omega arith), le-ltb room p.len h, lt-ltb _ _ l) (omega arith)
            | no l ↦
                rw (le-ltb (length chunk) p.at (omega arith), le-ltb room p.len h, le-ltb (p.at + upto_lf chunk p.at) (length chunk) (omega arith))
                (omega arith)
          ]
    ]

pub fits : (p r : Place) (chunk : List ℕ) (room : ℕ) → r ≡ place_after p chunk room → p.len ≤ room → r.len ≤ room
fits p r chunk room e h = rw e (stays p chunk room h)
