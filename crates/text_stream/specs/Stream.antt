-- A text cut into lines, what a machine that takes lines prints of it, and the same byte by byte and chunk by chunk. Assumes nothing.
use Rattle.std.specs.Prelude.{ℕ, ◌+◌, ◌≤◌, ◌≡◌, cond, List, [], ◌∷◌, ◌++◌, eqb, length}
use Rattle.byte_parts.specs.Part.{put}

-- a byte in front of the first line
unfoldable pub pushed : ℕ → List (List ℕ) → List (List ℕ)
pushed x [] = (x ∷ []) ∷ []
pushed x (l ∷ ls) = (x ∷ l) ∷ ls

-- the lines of a text: each LF (10) ends one, and so does the text's end, where bytes stand before it
-- RULES 11.1
unfoldable pub lines_of : List ℕ → List (List ℕ)
lines_of [] = []
lines_of (x ∷ t) = cond (eqb x 10) ([] ∷ lines_of t) (pushed x (lines_of t))

-- chunks one after the other
unfoldable pub joined : List (List ℕ) → List ℕ
joined [] = []
joined (c ∷ cs) = c ++ joined cs

-- a machine: the state after a line, what the line prints, and what is printed at the end of the input
pub record Machine (S : Type 0) : Type 0 where
  pub line : S → List ℕ → S
  pub text : S → List ℕ → List ℕ
  pub end : S → List ℕ

-- a machine between two bytes: its state, and the bytes kept of the line at hand
pub record Mid (S : Type 0) : Type 0 where
  pub state : S
  pub kept : List ℕ

-- a machine between two lines
abbrev pub between : {S : Type 0} → S → Mid S
between s = record { state = s; kept = [] }

module _ {S : Type 0} (M : Machine S) where
  -- what is printed of lines, then at the end
  unfoldable pub printed : S → List (List ℕ) → List ℕ
  printed s [] = M.end s
  printed s (l ∷ ls) = M.text s l ++ printed (M.line s l) ls

  -- what is printed of a whole text
  -- RULES 16.4, 19.4
  unfoldable pub says_of : S → List ℕ → List ℕ
  says_of s t = printed s (lines_of t)

  -- what is printed where the input ends: a line at hand is one more line
  unfoldable pub ended : Mid S → List ℕ
  ended m =
      cond (eqb (length m.kept) 0) (M.end m.state)
      (M.text m.state m.kept ++ M.end (M.line m.state m.kept))

  -- byte by byte; `keep` says what is kept of a line's bytes
  module _ (keep : List ℕ → List ℕ) where
    unfoldable pub byte_fed : Mid S → ℕ → Mid S
    byte_fed m x =
        cond (eqb x 10)
        (between (M.line m.state m.kept))
        (record { state = m.state; kept = keep (m.kept ++ (x ∷ [])) })

    unfoldable pub byte_said : Mid S → ℕ → List ℕ
    byte_said m x = cond (eqb x 10) (M.text m.state m.kept) []

    -- the machine after bytes, and what it has printed of them
    unfoldable pub fed : Mid S → List ℕ → Mid S
    fed m [] = m
    fed m (x ∷ t) = fed (byte_fed m x) t

    unfoldable pub said : Mid S → List ℕ → List ℕ
    said m [] = []
    said m (x ∷ t) = byte_said m x ++ said (byte_fed m x) t

    -- what is printed of chunk after chunk, then at the end
    -- RULES 16.4, 19.4
    unfoldable pub chunked : Mid S → List (List ℕ) → List ℕ
    chunked m [] = ended m
    chunked m (c ∷ cs) = said m c ++ chunked (fed m c) cs

-- what a `keep` may be: it can be done early, and leaves some of a line that has bytes
pub record Keeps (keep : List ℕ → List ℕ) : Type 0 where
  pub none : keep [] ≡ []
  pub again : (a b : List ℕ) → keep (keep a ++ b) ≡ keep (a ++ b)
  pub some : (l : List ℕ) → 1 ≤ length l → 1 ≤ length (keep l)

-- a machine that tells no more of a line than what is kept of it
pub record Blind {S : Type 0} (M : Machine S) (keep : List ℕ → List ℕ) : Type 0 where
  pub line : (s : S) (l : List ℕ) → M.line s (keep l) ≡ M.line s l
  pub text : (s : S) (l : List ℕ) → M.text s (keep l) ≡ M.text s l

-- a text put into a buffer from a place on, and the place after it
pub record Written (d : List ℕ) (at : ℕ) (t : List ℕ) (last : ℕ) (s : List ℕ) : Type 0 where
  pub place : last ≡ at + length t
  pub bytes : s ≡ put d at (length t) t

-- what a program has come to: the text read, the words printed, the machine, and what is left to take of the text read
pub record History {S : Type 0} (M : Machine S) (keep : List ℕ → List ℕ) (s : S) (text words : List ℕ) (m : Mid S) (rest : List ℕ) : Type 0 where
  pub past : List ℕ
  pub read : text ≡ past ++ rest
  pub machine : m ≡ fed M keep (between s) past
  pub said_of : words ≡ said M keep (between s) past

-- a state in which nothing happens any more: a program may stop reading there
pub record Dead {S : Type 0} (M : Machine S) (s : S) : Type 0 where
  pub line : (l : List ℕ) → M.line s l ≡ s
  pub text : (l : List ℕ) → M.text s l ≡ []
  pub end : M.end s ≡ []
