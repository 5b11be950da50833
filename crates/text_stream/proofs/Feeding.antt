-- What `feed` leaves in a line's buffer is what is kept of the line. Assumes nothing.
use Prim.Native.Nat.{ℕ, ◌+◌, ◌-◌, ◌≤◌, ◌<◌, min}
use native.Mathlib.Omega.{arith}
use native.Mathlib.Decide.{dec_lt}
use mathlib.Core.Path.{◌≡◌, ap, ◌∙◌}
use mathlib.Core.List.{List, ◌++◌}
use lib.ListN.{length, take, drop, length-take, length-append}
use lib.Seq.{take-take, take_all, take_at, take-append-add, length-take-le}
use borrow.Author.Tests.{lt-ltb, le-ltb}
use Rattle.byte_scan.specs.Bytes.{index_of}
use Rattle.byte_parts.proofs.Part.{put-split}
use Rattle.text_feed.specs.declared.Place.{Place}
use Rattle.text_feed.specs.Feed.{upto_lf, place_past, place_after, line_after}
use Rattle.text_feed.proofs.Laws.{put-room}
use Rattle.text_stream.proofs.Steps.{lf_within}

-- The first `cap` of a front of len bytes and k more.
take-both
    : (cap len k : ℕ) (l t : List ℕ) → len ≤ cap → len ≤ length l → k ≤ length t
    → take cap (take len l ++ take k t) ≡ take len l ++ take (min k (cap - len)) t
take-both cap len k l t h g f =
    let a : length (take len l) ≡ len = length-take-le len l g in
    let b : cap ≡ length (take len l) + (cap - len) = omega arith in
    ap (λ (n : ℕ). take n (take len l ++ take k t)) b
    ∙ take-append-add (take len l) (take k t) (cap - len)
    ∙ ap (λ (r : List ℕ). take len l ++ r) last
  where
    last : take (cap - len) (take k t) ≡ take (min k (cap - len)) t
    last =
        elim (dec_lt (cap - len) k) [
          | yes i ↦ let c : min k (cap - len) ≡ cap - len = omega arith in rw c (take-take (cap - len) k t (omega arith))
          | no i ↦ let c : min k (cap - len) ≡ k = omega arith in rw c (take_all (cap - len) (take k t) (simp length-take (omega arith)))
        ]

module _ (p : Place) (chunk line : List ℕ) (h : p.at ≤ length chunk) (g : p.len ≤ length line) where
  -- how many bytes stand before a LF or the chunk's end
  abbrev pub upto : ℕ
  upto = index_of 10 (drop p.at chunk)

  upto_within : upto ≤ length (drop p.at chunk)
  upto_within = lf_within (drop p.at chunk)

  -- Past a LF, or to the chunk's end.
  pub lf_place : p.at + upto < length chunk → place_after p chunk (length line) ≡ record { at = p.at + upto + 1; len = min (p.len + upto) (length line); whole = 1 }
  unfolding place_after place_past upto_lf
  lf_place l = rw (le-ltb (length chunk) p.at h, le-ltb (length line) p.len g, lt-ltb (p.at + upto) (length chunk) l)

  pub end-place : length chunk ≤ p.at + upto → place_after p chunk (length line) ≡ record { at = p.at + upto; len = min (p.len + upto) (length line); whole = 0 }
  unfolding place_after place_past upto_lf
  end-place l = rw (le-ltb (length chunk) p.at h, le-ltb (length line) p.len g, le-ltb (p.at + upto) (length chunk) l)

  len_after : (place_after p chunk (length line)).len ≡ min (p.len + upto) (length line)
  len_after =
      elim (dec_lt (p.at + upto) (length chunk)) [
        | yes l ↦ ap (λ (r : Place). r.len) (lf_place l)
        | no l ↦ ap (λ (r : Place). r.len) (end-place (omega arith))
      ]

  -- The bytes kept.
  pub kept-after
      : take (place_after p chunk (length line)).len (line_after p chunk line)
      ≡ take (length line) (take p.len line ++ take upto (drop p.at chunk))
  unfolding line_after upto_lf
  kept-after =
      let n : ℕ = min upto (length line - p.len) in
      let t : List ℕ = drop p.at chunk in
      let k : n ≤ length t = omega (arith, upto_within) in
      let a : length (take p.len line ++ take n t) ≡ p.len + n =
      length-append (take p.len line) (take n t) ∙ omega (arith, length-take-le p.len line g, length-take-le n t k) in
      let b : min (p.len + upto) (length line) ≡ p.len + n = omega arith in
      rw (len_after, b, put-room line p.len upto t, put-split line p.len n t (omega arith) k, take-both (length line) p.len upto line t g g upto_within)
      (take_at (take p.len line ++ take n t) (drop (p.len + n) line) (p.len + n) a)

  pub len-within : (place_after p chunk (length line)).len ≤ length line
  len-within = omega (arith, len_after)
