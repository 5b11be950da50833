-- A stream of chunks, cut into lines at each LF. Assumes nothing.
use Rattle.std.specs.Prelude.{ℕ, ◌+◌, min, cond, List, ltb, length, drop}
use Rattle.byte_scan.specs.Bytes.{index_of}
use Rattle.byte_parts.specs.Part.{put}
use Rattle.text_feed.specs.declared.Place.{Place}

-- how many bytes stand from a place of a chunk on, up to a LF or the end
unfoldable pub upto_lf : List ℕ → ℕ → ℕ
upto_lf chunk at = index_of 10 (drop at chunk)

-- the place past n bytes that a LF ends, or that the chunk's end cuts off
unfoldable pub place_past : Place → List ℕ → ℕ → ℕ → Place
place_past p chunk room n =
    cond (ltb (p.at + n) (length chunk))
    (record { at = p.at + n + 1; len = min (p.len + n) room; whole = 1 })
    (record { at = p.at + n; len = min (p.len + n) room; whole = 0 })

-- the place after the bytes up to a LF, with so much room for the line; one outside chunk or line stays
-- RULES 11.1
unfoldable pub place_after : Place → List ℕ → ℕ → Place
place_after p chunk room =
    cond (ltb (length chunk) p.at) p
    (cond (ltb room p.len) p (place_past p chunk room (upto_lf chunk p.at)))

-- the line after them: they stand behind the bytes kept, as many as there is room for
-- RULES 1.7
unfoldable pub line_after : Place → List ℕ → List ℕ → List ℕ
line_after p chunk line = put line p.len (upto_lf chunk p.at) (drop p.at chunk)
