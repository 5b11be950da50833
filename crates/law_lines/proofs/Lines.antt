-- A refresh leaves everything as it was, and has no part in a later one. Read specs/Lines.antt for the statements: `LeavesAll` and
-- `NoEarlierPart`.
use Rattle.std.proofs.Common.{Some, None, Option}
use Prim.Native.Nat.{ℕ}
use native.Mathlib.Omega.{arith}
use mathlib.Core.Path.{◌≡◌, refl, sym, ap, ap₂, subst, ◌∙◌}
use mathlib.Core.Bool.{Bool, true, false, cond, ◌&&◌, ◌||◌, false≢true}
use mathlib.Core.List.{List, [], ◌∷◌}
use lib.Dec.{ltb, eqb}
use lib.ListN.{length}
use Rattle.text_fields.specs.Field.{split}
use Rattle.card_build.specs.declared.card.Card.{Card}
use Rattle.text_numbers.specs.Codes.{hex16}
use Rattle.line_request.specs.Ask.{field_in, request_line}
use Rattle.line_serve.specs.Line.{line_served}
use Rattle.board_read.specs.declared.Refreshed.TheVariants.{Board}
use Rattle.board_read.specs.Refresh.{board_served, refreshed}
use Rattle.board_line.specs.Line.{board_line, board_code, board_line_text}
use Rattle.replay_state.specs.declared.Phase.{Phase}
use Rattle.replay_state.specs.declared.Phase.TheVariants.{First, Image, Requests, Ended}
use Rattle.replay_state.specs.Phases.{one_more}
use Rattle.replay_kind.specs.declared.Kind.{Kind}
use Rattle.replay_kind.specs.declared.Kind.TheVariants as kinds
use Rattle.replay_kind.specs.Kind.{image_kind, request_kind, taken_for}
use Rattle.replay_line.specs.Replay.{Held, lent_bytes, request_held, board_held, held_by, text_by, work_taken, bytes_by, line_held, line_text, work_held, bytes_held}
use Rattle.law_lines.specs.Lines.{Taken, LinePrints, LeavesAll, Without, none, kept, dropped, held_after, SameBoard, NoEarlierPart}
use Rattle.law_lines.proofs.Shown.{prints_board}

-- an `L` line is taken for a refresh
board-kind : (p : Phase) (line : List ℕ) → Taken p [] → board_line line ≡ true → taken_for p line ≡ Some kinds.Board
unfolding taken_for image_kind request_kind
board-kind First line q b = absurd q
board-kind Image line q b = rw b
board-kind Requests line q b = rw b
board-kind Ended line q b = absurd q

-- any other for a request
pub request-kind : (p : Phase) (line : List ℕ) → Taken p (line ∷ []) → board_line line ≡ false → taken_for p line ≡ Some kinds.Request
unfolding taken_for image_kind request_kind
request-kind First line q b = absurd q
request-kind Image line q b = let r : request_line line ≡ true = by_test_lem (request_line line) (rw b at q) in rw (b, r)
  where
    by_test_lem : (t : Bool) → t || false ≡ true → t ≡ true
    by_test_lem true h = refl
    by_test_lem false h = absurd (false≢true h)
request-kind Requests line q b = rw b
request-kind Ended line q b = absurd q

-- so it leaves everything as it was
pub leaves_all : LeavesAll
unfolding line_held work_held bytes_held
leaves_all s line q b =
    let k = board-kind s.replay.phase line q b in
    record {
      card = ap (λ (x : Option Kind). (held_by x s line).replay.card) k;
      arena = ap (λ (x : Option Kind). (held_by x s line).arena) k;
      work = λ lent. ap (λ (x : Option Kind). work_taken x s lent line) k;
      bytes = λ lent. ap (λ (x : Option Kind). bytes_by x lent line) k;
    }

-- of more lines the first is taken too
pub taken-first : (p : Phase) (line : List ℕ) (ls : List (List ℕ)) → Taken p (line ∷ ls) → Taken p (line ∷ [])
taken-first First line ls q = q
taken-first Image line ls q = q
taken-first Requests line ls q = tt
taken-first Ended line ls q = q

-- and none of them is as well
pub taken_none : (p : Phase) (ls : List (List ℕ)) → Taken p ls → Taken p []
taken_none First ls q = q
taken_none Image ls q = tt
taken_none Requests ls q = tt
taken_none Ended ls q = q

module _ (s : Held) (line : List ℕ) where
  -- the state after an `L` line
  pub after-board : Taken s.replay.phase [] → board_line line ≡ true → line_held s line ≡ board_held s
  unfolding line_held
  after-board q b = ap (λ (x : Option Kind). held_by x s line) (board-kind s.replay.phase line q b)

  -- after any other
  pub after-request : Taken s.replay.phase (line ∷ []) → board_line line ≡ false → line_held s line ≡ request_held s line
  unfolding line_held
  after-request q b = ap (λ (x : Option Kind). held_by x s line) (request-kind s.replay.phase line q b)

  -- what an `L` line prints
  pub prints : Taken s.replay.phase [] → board_line line ≡ true →
      line_text s line ≡ board_line_text s.replay.card s.arena line (one_more s.replay.asked)
  unfolding line_text
  prints q b = ap (λ (x : Option Kind). text_by x s line) (board-kind s.replay.phase line q b)

  -- after either, requests are taken
  pub after_phase : Taken s.replay.phase (line ∷ []) → (line_held s line).replay.phase ≡ Requests
  after_phase q = by_line (board_line line) refl
    where
      by_line : (b : Bool) → board_line line ≡ b → (line_held s line).replay.phase ≡ Requests
      by_line true b = ap (λ (x : Held). x.replay.phase) (after-board (taken_none s.replay.phase (line ∷ []) q) b)
      by_line false b = ap (λ (x : Held). x.replay.phase) (after-request q b)

-- an `L` line with a code is one
pub is_board_lem : (line : List ℕ) (code : ℕ) → board_code line ≡ Some code → board_line line ≡ true
unfolding board_code
is_board_lem line code e = by_tests (ltb 32768 (length line)) (board_line line) (eqb (length (split 9 line)) 2) e
  where
    by_tests : (l b n : Bool) → cond l None (cond (b && n) (hex16 (field_in line 1)) None) ≡ Some code → b ≡ true
    by_tests l true n h = refl
    by_tests true false n h = absurd (let z : ◌≡◌ {A = ℕ} 0 1 = cc in (omega arith))
    by_tests false false n h = absurd (let z : ◌≡◌ {A = ℕ} 0 1 = cc in (omega arith))

-- so it prints the board of the store as it stands
pub line_prints : LinePrints
line_prints s line code q e =
    prints s line q (is_board_lem line code e) ∙ prints_board s.replay.card s.arena line (one_more s.replay.asked) code e

-- where requests are taken, any lines are
pub taken-requests : {p : Phase} → p ≡ Requests → (ls : List (List ℕ)) → Taken p ls
taken-requests e ls = subst (λ (p : Phase). Taken p ls) (sym e) tt

-- states of one card and one arena
record Alike (s t : Held) : Type 0 where
  pub card : s.replay.card ≡ t.replay.card
  pub arena : s.arena ≡ t.arena

-- stay so with a line that both take
both-take : (s t : Held) (line : List ℕ) → Alike s t → Taken s.replay.phase (line ∷ []) → Taken t.replay.phase (line ∷ []) →
    Alike (line_held s line) (line_held t line)
both-take s t line k p q = by_line (board_line line) refl
  where
    by_line : (b : Bool) → board_line line ≡ b → Alike (line_held s line) (line_held t line)
    by_line true b =
        rw (after-board s line (taken_none s.replay.phase (line ∷ []) p) b, after-board t line (taken_none t.replay.phase (line ∷ []) q) b)
        (record { card = k.card; arena = k.arena })
    by_line false b =
        rw (after-request s line p b, after-request t line q b) (record {
          card = k.card;
          arena = ap₂ (λ (x : Card) (y : List ℕ). (line_served x y lent_bytes line).arena) k.card k.arena;
        })

-- and with an `L` line that one of them takes
one_takes : (s t : Held) (line : List ℕ) → Alike s t → Taken s.replay.phase [] → board_line line ≡ true → Alike (line_held s line) t
one_takes s t line k p b = rw (after-board s line p b) (record { card = k.card; arena = k.arena })

-- and where requests are taken
record Taking (s t : Held) : Type 0 where
  pub same : Alike s t
  pub first : Taken s.replay.phase []
  pub second : Taken t.replay.phase []

-- so are the states after lines, and after the same without any `L` lines
alike : {ls ms : List (List ℕ)} → Without ls ms → (s t : Held) → Alike s t → Taken s.replay.phase ls → Taken t.replay.phase ms →
    Taking (held_after s ls) (held_after t ms)
unfolding held_after
alike none s t k p q = record { same = k; first = p; second = q }
alike (kept {ls} {ms} line w) s t k p q =
    let p' = taken-first s.replay.phase line ls p in
    let q' = taken-first t.replay.phase line ms q in
    alike w (line_held s line) (line_held t line) (both-take s t line k p' q')
    (taken-requests (after_phase s line p') ls) (taken-requests (after_phase t line q') ms)
alike (dropped {ls} line b w) s t k p q =
    let p' = taken_none s.replay.phase (line ∷ ls) p in
    alike w (line_held s line) t (one_takes s t line k p' b)
    (taken-requests (after_phase s line (taken-first s.replay.phase line ls p)) ls) q

-- a board prints no ordinal
unnumbered : (c : Card) (a line : List ℕ) (code m n : ℕ) → board_code line ≡ Some code → refreshed c a code 128 ≡ Board →
    board_line_text c a line m ≡ board_line_text c a line n
unfolding board_line_text
unnumbered c a line code m n e r = rw (e, r)

-- such states show one board
same_board : (s t : Held) (line : List ℕ) → Taking s t → board_line line ≡ true → SameBoard s t line
same_board s t line k b = record {
  served = λ code. ap₂ (λ (x : Card) (y : List ℕ). board_served x y code 128) k.same.card k.same.arena;
  shown = λ code. ap₂ (λ (x : Card) (y : List ℕ). refreshed x y code 128) k.same.card k.same.arena;
  first = prints s line k.first b;
  second = second;
  board = λ code e r. prints s line k.first b ∙ unnumbered s.replay.card s.arena line code _ _ e r ∙ sym second;
}
  where
    second : line_text t line ≡ board_line_text s.replay.card s.arena line (one_more t.replay.asked)
    second =
        prints t line k.second b
        ∙ sym (ap₂ (λ (x : Card) (y : List ℕ). board_line_text x y line (one_more t.replay.asked)) k.same.card k.same.arena)

-- no earlier refresh has a part in a later one
pub no_earlier_part : NoEarlierPart
no_earlier_part s ls ms p q w =
    let k = alike w s s (record { card = refl; arena = refl }) p q in
    record {
      card = k.same.card;
      arena = k.same.arena;
      next = λ line b. same_board (held_after s ls) (held_after s ms) line k b;
    }
