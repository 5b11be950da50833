-- A reader holds a list's bytes and a place in them; all before the place is taken.
use Rattle.std.specs.Prelude.{ℕ, Bool, List, length, eqb, Option}
use Rattle.std.specs.Borrow.{Bor}
use Rattle.block_list.specs.declared.element.Unpacked.{Unpacked}
use Rattle.block_list.specs.Element.{after_element, unpack_at}
use Rattle.block_list.specs.declared.reader.Reader.{Reader}

-- at first nothing is taken
abbrev pub reader_at_start : Bor (List ℕ) → Reader
reader_at_start list = record { list = list; at = 0 }

-- the element that stands at the reader's place, or too few bytes for one
abbrev pub next_of : Reader → Option Unpacked
next_of r = unpack_at r.list.now r.at

-- the place past an element; where there is none, the same place
abbrev pub element_past : Option Unpacked → ℕ → ℕ
element_past u at = after_element at (λ e next. next) u

-- the same list, with the next element taken
-- RULES 7.4
abbrev pub moved_on : Reader → Reader
moved_on r = record { list = r.list; at = element_past (next_of r) r.at }

-- all bytes are taken
-- RULES 7.4
abbrev pub finished : Reader → Bool
finished r = eqb r.at (length r.list.now)
