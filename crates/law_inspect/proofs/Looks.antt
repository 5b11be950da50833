-- What lines of an inspection that neither build nor request show and leave. Read specs/Looks.antt for the statements: `InspectPrints` and
-- `InspectLeaves`.
use Rattle.std.proofs.Common.{Option, Some}
use Prim.Native.Nat.{ℕ}
use native.Mathlib.Omega.{arith}
use mathlib.Core.Path.{◌≡◌, refl, ap, ◌∙◌}
use mathlib.Core.Bool.{Bool, true, false, cond, false≢true, and-eq-true_iff}
use mathlib.Core.List.{List, [], ◌∷◌}
use lib.Dec.{eqb}
use lib.ListN.{length}
use borrow.Author.Tests.{eqb-true}
use Rattle.byte_parts.specs.Part.{same_bytes}
use Rattle.text_fields.specs.Field.{split}
use Rattle.line_image.specs.Line.{image_named, named}
use Rattle.line_request.specs.Ask.{field_in, is_letter, is_either, request_line}
use Rattle.board_line.specs.Line.{board_line}
use Rattle.replay_state.specs.declared.Phase.{Phase}
use Rattle.replay_state.specs.declared.Phase.TheVariants.{First, Image, Requests, Ended}
use Rattle.replay_state.specs.Phases.{one_more}
use Rattle.replay_kind.specs.declared.Kind.TheVariants as kinds
use Rattle.inspect_sort.specs.declared.Sort.{Sort}
use Rattle.inspect_sort.specs.declared.Sort.TheVariants as sorts
use Rattle.inspect_ask.specs.Question.{question_of}
use Rattle.inspect_sort.specs.Sort.{later_sort, sort_of}
use Rattle.inspect_line.specs.Inspect.{Seen, said_by, seen_by, sort_work, sort_bytes, line_seen, line_said, work_seen, bytes_seen}
use Rattle.law_lines.proofs.Shown.{prints_board}
use Rattle.law_lines.proofs.Lines.{is_board_lem}
use Rattle.law_inspect.specs.Looks.{GoesOn, InspectPrints, LooksOnly, InspectLeaves}

-- a field of one letter
one_letter_lem : (x : ℕ) (f : List ℕ) → is_letter x f ≡ true → f ≡ (x ∷ [])
unfolding is_letter
one_letter_lem x [] h = absurd (false≢true h)
one_letter_lem x (y ∷ []) h = ap (λ (z : ℕ). z ∷ []) (eqb-true y x h)
one_letter_lem x (y ∷ z ∷ s) h =
    let l = ((and-eq-true_iff (eqb (length (y ∷ z ∷ s)) 1) (eqb y x)).0 h).0 in
    let n = eqb-true (length (y ∷ z ∷ s)) 1 l in
    absurd (omega (arith, n))

-- the first field of an `L` line
board_field : (line : List ℕ) → board_line line ≡ true → field_in line 0 ≡ (76 ∷ [])
unfolding board_line
board_field line b = one_letter_lem 76 (field_in line 0) b

-- names no image line
not_image : (line : List ℕ) → board_line line ≡ true → image_named (split 9 line) ≡ false
unfolding image_named named same_bytes
not_image line b = rw (board_field line b)

-- and no request
not_request : (line : List ℕ) → board_line line ≡ true → request_line line ≡ false
unfolding request_line is_either is_letter
not_request line b = rw (board_field line b)

-- what is neither an image line nor a request is a refresh or a question
later_looks : (line : List ℕ) → image_named (split 9 line) ≡ false → request_line line ≡ false →
    later_sort line ≡ cond (board_line line) (sorts.Replayed kinds.Board) (sorts.Asked (question_of line))
unfolding later_sort
later_looks line p q = rw (p, q)

-- after the first line
pub goes_later : (phase : Phase) (line : List ℕ) → GoesOn phase → sort_of phase line ≡ Some (later_sort line)
unfolding sort_of
goes_later First line g = absurd g
goes_later Image line g = refl
goes_later Requests line g = refl
goes_later Ended line g = absurd g

-- an `L` line is taken for a refresh
board_sort : (phase : Phase) (line : List ℕ) → GoesOn phase → board_line line ≡ true → sort_of phase line ≡ Some (sorts.Replayed kinds.Board)
board_sort phase line g b = goes_later phase line g ∙ ap (λ (k : Sort). Some k) (later_looks line (not_image line b) (not_request line b) ∙ rw b)

-- so it prints the board of the store as it stands
pub inspect_prints : InspectPrints
unfolding line_said
inspect_prints s line code g e =
    ap (λ (x : Option Sort). said_by x s line) (board_sort s.inspect.replay.phase line g (is_board_lem line code e))
    ∙ prints_board s.inspect.replay.card s.arena line (one_more s.inspect.replay.asked) code e

-- a refresh or a question writes nothing
looks_only : (s : Seen) (line : List ℕ) (b : Bool) →
    sort_of s.inspect.replay.phase line ≡ Some (cond b (sorts.Replayed kinds.Board) (sorts.Asked (question_of line))) → LooksOnly s line
unfolding line_seen work_seen bytes_seen
looks_only s line true e = record {
  card = ap (λ (x : Option Sort). (seen_by x s line).inspect.replay.card) e;
  arena = ap (λ (x : Option Sort). (seen_by x s line).arena) e;
  work = λ lent. ap (λ (x : Option Sort). sort_work x s lent line) e;
  bytes = λ lent. ap (λ (x : Option Sort). sort_bytes x lent line) e;
}
looks_only s line false e = record {
  card = ap (λ (x : Option Sort). (seen_by x s line).inspect.replay.card) e;
  arena = ap (λ (x : Option Sort). (seen_by x s line).arena) e;
  work = λ lent. ap (λ (x : Option Sort). sort_work x s lent line) e;
  bytes = λ lent. ap (λ (x : Option Sort). sort_bytes x lent line) e;
}

-- so what neither builds nor requests writes nothing
pub inspect_leaves : InspectLeaves
inspect_leaves s line g p q =
    looks_only s line (board_line line) (goes_later s.inspect.replay.phase line g ∙ ap (λ (k : Sort). Some k) (later_looks line p q))
