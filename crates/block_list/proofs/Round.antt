-- What is packed is read back, wherever it stands.
use Prim.Native.Nat.{ℕ, ◌+◌, ◌*◌, ◌/◌, ◌%◌, ◌<◌}
use native.Mathlib.Omega.{arith}
use native.Mathlib.Decide.{dec_lt}
use mathlib.Core.Path.{◌≡◌, ◌∙◌}
use mathlib.Core.List.{List, ◌∷◌, ◌++◌}
use lib.ListN.{length, get_or, length-append}
use lib.Seq.{get_or-append_seam, get_or-append-add}
use Rattle.block_list.specs.declared.element.BlockListElement.{BlockListElement}
use Rattle.block_list.specs.Element.{head_of, two_bytes, three_bytes, pack_of, element_of, unpack_at}
use Rattle.block_list.proofs.Cases.{pack_two, pack_three, three, two}
use Rattle.block_list.specs.Unpacked.{unpacked_as}

-- an element, its index and mode as far as its bytes hold them
abbrev pub held : BlockListElement → BlockListElement
held e = record { number = e.number; index = e.index % 16; mode = e.mode % 8 }

-- a first byte is its top bit, a mode and an index
parts : (head top mode index : ℕ) → head ≡ 0x80 * top + (16 * mode + index) → mode < 8 → index < 16 → (head % 16 ≡ index) × (head / 16 % 8 ≡ mode)
parts head top mode index h m i = let upper : head / 16 ≡ 8 * top + mode = omega arith in (omega arith, omega arith)

module _ (e : BlockListElement) where
  -- so the first byte of an element holds its mode and index, whatever the top bit is
  head_holds : (head top : ℕ) → head ≡ 0x80 * top + head_of e → element_of head e.number ≡ held e
  head_holds head top h =
      let p = parts head top (e.mode % 8) (e.index % 16) h (omega arith) (omega arith) in rw (p.0, p.1)

module _ (pre rest : List ℕ) (e : BlockListElement) where
  -- two bytes are read back
  round_two : unpack_at (pre ++ (two_bytes e ++ rest)) (length pre) ≡ unpacked_as (held e) (length pre + 2)
  round_two =
      let head = 0x80 + head_of e in
      let bytes = two_bytes e ++ rest in
      let s = pre ++ bytes in
      let first : get_or s (length pre) 0 ≡ head = get_or-append_seam pre head (e.number ∷ rest) 0 in
      let second : get_or s (length pre + 1) 0 ≡ e.number = get_or-append-add pre bytes 1 0 in
      let long = length-append pre bytes in
      two s (length pre) (omega arith) (omega arith) ∙ rw (first, second, head_holds e head 1 (omega arith))

  -- three bytes are read back
  round_three : unpack_at (pre ++ (three_bytes e ++ rest)) (length pre) ≡ unpacked_as (held e) (length pre + 3)
  round_three =
      let head = head_of e in
      let bytes = three_bytes e ++ rest in
      let s = pre ++ bytes in
      let first : get_or s (length pre) 0 ≡ head = get_or-append_seam pre head _ 0 in
      let second : get_or s (length pre + 1) 0 ≡ e.number % 256 = get_or-append-add pre bytes 1 0 in
      let third : get_or s (length pre + 2) 0 ≡ e.number / 256 = get_or-append-add pre bytes 2 0 in
      let long = length-append pre bytes in
      let number : e.number % 256 + 256 * (e.number / 256) ≡ e.number = omega arith in
      three s (length pre) (omega arith) (omega arith) ∙ rw (first, second, third, number, head_holds e head 0 (omega arith))

  -- what is packed after `pre` is read there, and the next place is past its bytes
  pub round : unpack_at (pre ++ (pack_of e ++ rest)) (length pre) ≡ unpacked_as (held e) (length pre + length (pack_of e))
  round =
      elim (dec_lt e.number 256) [
        | yes h ↦ rw (pack_two e h) round_two
        | no h ↦ rw (pack_three e (omega arith)) round_three
      ]
