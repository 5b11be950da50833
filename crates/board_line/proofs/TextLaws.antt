-- Laws of a board's lines, one after the other. Assumes nothing.
use Prim.Native.Nat.{ℕ, suc, ◌+◌, ◌≤◌, ◌<◌, ◌^◌}
use native.Mathlib.Omega.{arith}
use native.Mathlib.Numerals.{add-one}
use native.Mathlib.Nat.{add-zero}
use mathlib.Core.Path.{◌≡◌, sym, ap, ◌∙◌}
use mathlib.Core.List.{List, [], ◌∷◌, ◌++◌, append-nil, append_assoc}
use lib.ListN.{length}
use Rattle.text_numbers.specs.Decimal.{dec_text}
use Rattle.text_numbers.proofs.DecimalLaws.{dec_long}
use Rattle.text_print.specs.Print.{closed}
use Rattle.board_lanes.specs.Board.{Lane, empty, block_at, lane_of, lanes_from}
use Rattle.board_lanes.proofs.LaneLaws.{lanes-more, lanes_count}
use Rattle.board_line.specs.Text.{lane_text, lanes_text}

-- Five digits are enough for a race.
pub race_room : (n : ℕ) → n < 65536 → length (dec_text n) ≤ 5
race_room n h = dec_long 5 n (omega arith) (omega arith)

-- One line more.
line-more : (number : ℕ) (ls : List Lane) (l : Lane) → lanes_text number (ls ++ (l ∷ [])) ≡ lanes_text number ls ++ lane_text (number + length ls) l
unfolding lanes_text
line-more number [] l = rw (add-zero number) (append-nil (lane_text number l))
line-more number (x ∷ ls) l =
    let e : number + suc (length ls) ≡ number + 1 + length ls = omega arith in
    rw (e, line-more (number + 1) ls l) (sym (append_assoc (lane_text number x) (lanes_text (number + 1) ls) (lane_text (number + 1 + length ls) l)))

pub text-more
    : (bytes : List ℕ) (k : ℕ)
    → lanes_text 1 (lanes_from bytes (k + 1) 0) ≡ lanes_text 1 (lanes_from bytes k 0) ++ lane_text (k + 1) (lane_of (block_at bytes k))
text-more bytes k =
    let z : 0 + k ≡ k = omega arith in
    let e : 1 + k ≡ k + 1 = omega arith in
    ap (λ (n : ℕ). lanes_text 1 (lanes_from bytes n 0)) (add-one k)
    ∙ ap (lanes_text 1) (lanes-more bytes k 0)
    ∙ line-more 1 (lanes_from bytes k 0) (lane_of (block_at bytes (0 + k)))
    ∙ rw (lanes_count bytes k 0, z, e)

-- An empty lane's line.
pub empty-line : (number : ℕ) → lane_text number empty ≡ closed 9 (dec_text number) ++ (45 ∷ 9 ∷ 45 ∷ 10 ∷ [])
empty-line number = append_assoc (closed 9 (dec_text number)) (45 ∷ 9 ∷ []) (45 ∷ 10 ∷ [])
