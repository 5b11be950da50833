-- Fields in a list of bytes: each has its place and its bytes.
use Rattle.std.specs.Prelude.{ℕ, List, [], ◌∷◌, length}
use Rattle.byte_parts.specs.Part.{put}

pub record Field : Type 0 where
  pub place : ℕ
  pub bytes : List ℕ

abbrev pub field_of : ℕ → List ℕ → Field
field_of place bytes = record { place = place; bytes = bytes }

-- bytes in which fields were written, one after the other
unfoldable pub fields_put : List Field → List ℕ → List ℕ
fields_put [] s = s
fields_put (f ∷ fs) s = fields_put fs (put s f.place (length f.bytes) f.bytes)
