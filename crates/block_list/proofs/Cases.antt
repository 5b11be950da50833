-- What `pack_of` and `unpack_at` are in each of their cases.
use Rattle.std.proofs.Common.{None}
use Prim.Native.Nat.{ℕ, ◌+◌, ◌*◌, ◌≤◌, ◌<◌}
use native.Mathlib.Omega.{arith}
use mathlib.Core.Path.{◌≡◌}
use mathlib.Core.List.{List}
use lib.ListN.{length, get_or}
use borrow.Author.Tests.{le-ltb, lt-ltb, le-leb, lt-leb}
use Rattle.block_list.specs.declared.element.BlockListElement.{BlockListElement}
use Rattle.block_list.specs.Element.{two_bytes, three_bytes, pack_of, element_of, unpack_at}
use Rattle.block_list.specs.Unpacked.{unpacked_as}

module _ (e : BlockListElement) where
  -- a number below 256 takes two bytes
  pub pack_two : e.number < 256 → pack_of e ≡ two_bytes e
  unfolding pack_of
  pack_two h = rw lt-ltb

  -- any other takes three
  pub pack_three : 256 ≤ e.number → pack_of e ≡ three_bytes e
  unfolding pack_of
  pack_three h = rw le-ltb

module _ (s : List ℕ) (at : ℕ) where
  -- at the end of the list or past it there is nothing
  pub past : length s ≤ at → unpack_at s at ≡ None
  unfolding unpack_at
  past h = simp le-leb

  -- the top bit is clear, and three bytes are not there
  pub cut_three_lem : at < length s → get_or s at 0 < 0x80 → length s < at + 3 → unpack_at s at ≡ None
  unfolding unpack_at
  cut_three_lem h b l = simp (lt-leb, lt-ltb)

  -- the top bit is set, and two bytes are not there
  pub cut_two_lem : at < length s → 0x80 ≤ get_or s at 0 → length s < at + 2 → unpack_at s at ≡ None
  unfolding unpack_at
  cut_two_lem h b l = simp (lt-leb, le-ltb, lt-ltb)

  -- the top bit is clear, and three bytes are there
  pub three
      : get_or s at 0 < 0x80 → at + 3 ≤ length s
      → unpack_at s at ≡ unpacked_as (element_of (get_or s at 0) (get_or s (at + 1) 0 + 256 * get_or s (at + 2) 0)) (at + 3)
  unfolding unpack_at
  three b l = simp (lt-leb (length s) at (omega arith), lt-ltb, le-ltb)

  -- the top bit is set, and two bytes are there
  pub two
      : 0x80 ≤ get_or s at 0 → at + 2 ≤ length s
      → unpack_at s at ≡ unpacked_as (element_of (get_or s at 0) (get_or s (at + 1) 0)) (at + 2)
  unfolding unpack_at
  two b l = simp (lt-leb (length s) at (omega arith), le-ltb)
