-- List elements. Manual, section 4.2.1: a block list element, of two bytes or of three.
use Rattle.std.specs.Prelude.{ℕ, zero, suc, ◌+◌, ◌*◌, ◌/◌, ◌%◌, List, [], ◌∷◌, Bool, false, cond, length, get_or, ltb, leb, eqb, Option, Some, None}
use Rattle.block_list.specs.declared.element.BlockListElement.{BlockListElement}
use Rattle.block_list.specs.declared.element.Packed.{Packed}
use Rattle.block_list.specs.declared.element.Unpacked.{Unpacked}
use Rattle.byte_parts.specs.Part.{padded}
use Rattle.block_list.specs.Unpacked.{unpacked_as}

-- mode mod 8 and index mod 16 in the first byte, whose top bit says how many bytes there are
-- RULES 7.2
abbrev pub head_of : BlockListElement → ℕ
head_of e = 16 * (e.mode % 8) + e.index % 16

-- two bytes: the top bit set, then the number
abbrev pub two_bytes : BlockListElement → List ℕ
two_bytes e = (0x80 + head_of e) ∷ e.number ∷ []

-- three bytes: the top bit clear, then the number low byte first
abbrev pub three_bytes : BlockListElement → List ℕ
three_bytes e = head_of e ∷ (e.number % 256) ∷ (e.number / 256) ∷ []

-- a number below 256 takes two bytes, any other three
-- RULES 7.2
unfoldable pub pack_of : BlockListElement → List ℕ
pack_of e = cond (ltb e.number 256) (two_bytes e) (three_bytes e)

unfoldable pub packed_of : BlockListElement → Packed
packed_of e = record { bytes = padded 3 (pack_of e); len = length (pack_of e) }

-- the element whose first byte and number these are
abbrev pub element_of : ℕ → ℕ → BlockListElement
element_of head number = record { number = number; index = head % 16; mode = head / 16 % 8 }

-- top bit set is two bytes, clear is three, any number allowed
-- RULES 7.3
unfoldable pub unpack_at : List ℕ → ℕ → Option Unpacked
unpack_at s at =
    cond (leb (length s) at) None
    (cond (ltb (get_or s at 0) 0x80)
    (cond (ltb (length s) (at + 3)) None (unpacked_as (element_of (get_or s at 0) (get_or s (at + 1) 0 + 256 * get_or s (at + 2) 0)) (at + 3)))
    (cond (ltb (length s) (at + 2)) None (unpacked_as (element_of (get_or s at 0) (get_or s (at + 1) 0)) (at + 2))))

-- what follows an element, if one is there
abbrev pub after_element : {A : Type 0} → A → (BlockListElement → ℕ → A) → Option Unpacked → A
after_element short more None = short
after_element short more (Some taken) = more taken.element taken.next

-- whether n elements from a place on end exactly at the list's end
unfoldable pub ends_from : List ℕ → ℕ → ℕ → Bool
ends_from s zero at = eqb at (length s)
ends_from s (suc n) at = after_element false (λ e next. ends_from s n next) (unpack_at s at)

-- RULES 7.4
unfoldable pub ends_after : List ℕ → ℕ → Bool
ends_after s n = ends_from s n 0

-- the n elements from a place on, or as many as are there
unfoldable pub elements_from : List ℕ → ℕ → ℕ → List BlockListElement
elements_from s zero at = []
elements_from s (suc n) at = after_element [] (λ e next. e ∷ elements_from s n next) (unpack_at s at)
