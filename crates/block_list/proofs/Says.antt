-- What is read is what the bytes say: an element's own two bytes, or its own three, whatever its number.
use Rattle.std.proofs.Common.{None}
use Prim.Native.Nat.{ℕ, ◌+◌, ◌-◌, ◌*◌, ◌/◌, ◌%◌, ◌≤◌, ◌<◌}
use native.Mathlib.Omega.{arith}
use native.Mathlib.Decide.{dec_lt}
use native.Mathlib.Numerals.{add-one}
use mathlib.Core.Path.{◌≡◌, sym, ◌∙◌, ap}
use mathlib.Core.Logic.{◌⊎◌, inl, inr}
use mathlib.Core.List.{List, [], ◌∷◌}
use lib.ListN.{length, get_or}
use lib.Seq.{slice, slice-cons, slice_empty}
use Rattle.block_list.specs.declared.element.BlockListElement.{BlockListElement}
use Rattle.block_list.specs.Element.{head_of, two_bytes, three_bytes, element_of, unpack_at}
use Rattle.block_list.proofs.Cases.{past, cut_three_lem, cut_two_lem, three, two}
use Rattle.block_list.specs.Unpacked.{unpacked_as}
use Rattle.block_list.proofs.ListsLaws.{unpacked_is}

-- what an element that was read says of the list: the bytes from `at` to `next` are its own two or its own three
pub record Says (s : List ℕ) (at : ℕ) (e : BlockListElement) (next : ℕ) : Type 0 where
  pub bytes : ((e.number < 256) × (slice at next s ≡ two_bytes e)) ⊎ (slice at next s ≡ three_bytes e)
  pub number : e.number < 65536
  pub index : e.index < 16
  pub mode : e.mode < 8
  pub onward : at < next
  pub inside : next ≤ length s

-- a byte is put together again from its top bit, mode and index
whole : (head top : ℕ) → 0x80 * top ≤ head → head < 0x80 * top + 0x80 → head ≡ 0x80 * top + (16 * (head / 16 % 8 % 8) + head % 16 % 16)
whole head top h l =
    let mode : head / 16 % 8 % 8 ≡ head / 16 % 8 = omega arith in
    let index : head % 16 % 16 ≡ head % 16 = omega arith in
    let upper : head / 16 % 8 ≡ head / 16 - 8 * top = omega arith in
    omega arith

module _ (s : List ℕ) (at : ℕ) where
  -- a part of a list is its first element and the rest
  step : (f t : ℕ) → f < t → t ≤ length s → slice f t s ≡ get_or s f 0 ∷ slice (f + 1) t s
  step f t h l = rw (add-one, ← slice-cons f t s 0 h l)

  -- a part of two
  slice_two : at + 2 ≤ length s → slice at (at + 2) s ≡ get_or s at 0 ∷ get_or s (at + 1) 0 ∷ []
  slice_two l =
      let e : at + 1 + 1 ≡ at + 2 = omega arith in
      rw (step at (at + 2) (omega arith) l, step (at + 1) (at + 2) (omega arith) l, e, slice_empty)

  -- a part of three
  slice_three : at + 3 ≤ length s → slice at (at + 3) s ≡ get_or s at 0 ∷ get_or s (at + 1) 0 ∷ get_or s (at + 2) 0 ∷ []
  slice_three l =
      let e : at + 1 + 1 ≡ at + 2 = omega arith in
      let f : at + 2 + 1 ≡ at + 3 = omega arith in
      rw (step at (at + 3) (omega arith) l, step (at + 1) (at + 3) (omega arith) l, e, step (at + 2) (at + 3) (omega arith) l, f, slice_empty)

module _ (s : List ℕ) (at : ℕ) (byte : (k : ℕ) → get_or s k 0 < 256) where
  -- what two bytes say
  says_two : 0x80 ≤ get_or s at 0 → at + 2 ≤ length s → Says s at (element_of (get_or s at 0) (get_or s (at + 1) 0)) (at + 2)
  says_two h l =
      let head = get_or s at 0 in
      let number = byte (at + 1) in
      let top = byte at in
      let b : head ≡ 0x80 + head_of (element_of head (get_or s (at + 1) 0)) = whole head 1 (omega arith) (omega arith) in
      record {
        bytes = inl (omega arith, slice_two s at l ∙ ap (λ (x : ℕ). x ∷ get_or s (at + 1) 0 ∷ []) b);
        number = omega arith;
        index = omega arith;
        mode = omega arith;
        onward = omega arith;
        inside = l;
      }

  -- what three bytes say
  says_three
      : get_or s at 0 < 0x80 → at + 3 ≤ length s
      → Says s at (element_of (get_or s at 0) (get_or s (at + 1) 0 + 256 * get_or s (at + 2) 0)) (at + 3)
  says_three h l =
      let head = get_or s at 0 in
      let low = byte (at + 1) in
      let high = byte (at + 2) in
      let n = get_or s (at + 1) 0 + 256 * get_or s (at + 2) 0 in
      let b : head ≡ head_of (element_of head n) = omega (arith, whole head 0 (omega arith) (omega arith)) in
      let lower : get_or s (at + 1) 0 ≡ n % 256 = omega arith in
      let upper : get_or s (at + 2) 0 ≡ n / 256 = omega arith in
      record {
        bytes = inr (slice_three s at l ∙ cc);
        number = omega arith;
        index = omega arith;
        mode = omega arith;
        onward = omega arith;
        inside = l;
      }

  module _ {e : BlockListElement} {next : ℕ} (h : unpack_at s at ≡ unpacked_as e next) where
    -- it was not too short for an element
    none : unpack_at s at ≡ None → Says s at e next
    none g = let z : ◌≡◌ {A = ℕ} 0 1 = cc in absurd (omega arith)

    -- what holds of the element that stands there holds of the one that was read
    same : {f : BlockListElement} {more : ℕ} → unpack_at s at ≡ unpacked_as f more → Says s at f more → Says s at e next
    same g t = let r = unpacked_is (sym h ∙ g) in rw (r.0, r.1) t

    -- with the top bit clear
    long : at < length s → get_or s at 0 < 0x80 → Says s at e next
    long p q =
        elim (dec_lt (length s) (at + 3)) [
          | yes l ↦ none (cut_three_lem s at p q l)
          | no l ↦ same (three s at q (omega arith)) (says_three q (omega arith))
        ]

    -- with the top bit set
    short : at < length s → 0x80 ≤ get_or s at 0 → Says s at e next
    short p q =
        elim (dec_lt (length s) (at + 2)) [
          | yes l ↦ none (cut_two_lem s at p q l)
          | no l ↦ same (two s at q (omega arith)) (says_two q (omega arith))
        ]

    -- what is read is what the bytes say
    pub says : Says s at e next
    says =
        elim (dec_lt at (length s)) [
          | yes p ↦ elim (dec_lt (get_or s at 0) 0x80) [ yes q ↦ long p q | no q ↦ short p (omega arith) ]
          | no p ↦ none (past s at (omega arith))
        ]
