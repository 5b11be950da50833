-- A text cut into pieces: a line with what ended it. Unlike lines, pieces give the text back. Assumes nothing.
use Rattle.std.specs.Prelude.{ℕ, ◌≤◌, ◌≡◌, cond, List, [], ◌∷◌, ◌++◌, eqb, length}

-- a line that a LF (10) ended, or one that the text's end did
pub data Piece : Type 0 where
  full : List ℕ → Piece
  bare : List ℕ → Piece

abbrev pub line_of : Piece → List ℕ
line_of (full l) = l
line_of (bare l) = l

abbrev pub bytes_of : Piece → List ℕ
bytes_of (full l) = l ++ (10 ∷ [])
bytes_of (bare l) = l

-- a byte in front of the first piece
unfoldable pub pushed_on : ℕ → List Piece → List Piece
pushed_on x [] = bare (x ∷ []) ∷ []
pushed_on x (full l ∷ ps) = full (x ∷ l) ∷ ps
pushed_on x (bare l ∷ ps) = bare (x ∷ l) ∷ ps

-- the pieces of a text
-- RULES 20.1
unfoldable pub pieces_of : List ℕ → List Piece
pieces_of [] = []
pieces_of (x ∷ t) = cond (eqb x 10) (full [] ∷ pieces_of t) (pushed_on x (pieces_of t))

-- the text of pieces
-- RULES 20.1
unfoldable pub text_of : List Piece → List ℕ
text_of [] = []
text_of (p ∷ ps) = bytes_of p ++ text_of ps

-- the lines of pieces
unfoldable pub lines_in : List Piece → List (List ℕ)
lines_in [] = []
lines_in (p ∷ ps) = line_of p ∷ lines_in ps

-- a line has no LF
unfoldable pub Plain : List ℕ → Type 0
Plain [] = Unit {0}
Plain (x ∷ l) = (x ≡ 10 → ⊥) × Plain l

-- pieces as a text has them: no LF within a line; what the text's end ended is last and not empty
unfoldable pub Whole : List Piece → Type 0
Whole [] = Unit {0}
Whole (full l ∷ ps) = Plain l × Whole ps
Whole (bare l ∷ ps) = Plain l × (1 ≤ length l) × (ps ≡ [])

-- some of a list, in order
pub data Sub {A : Type 0} : List A → List A → Type 0 where
  finish : Sub [] []
  keep : {xs ys : List A} (x : A) → Sub xs ys → Sub (x ∷ xs) (x ∷ ys)
  skip : {xs ys : List A} (y : A) → Sub xs ys → Sub xs (y ∷ ys)
