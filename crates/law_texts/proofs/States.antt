-- A line that is taken for a request: what it prints goes by the answer to its request, and the state after it by the arena that its
-- request leaves.
use Rattle.std.proofs.Common.{Option, Some, None}
use Prim.Native.Nat.{ℕ, zero, suc, ◌+◌}
use native.Mathlib.Omega.{arith}
use mathlib.Core.Path.{◌≡◌, refl, sym, ap, ap₂, subst, ◌∙◌}
use mathlib.Core.Bool.{Bool, true, false, cond}
use mathlib.Core.List.{List, [], ◌∷◌, ◌++◌}
use lib.ListN.{length, length-append}
use Rattle.answers.specs.declared.refusal.Refusal.TheVariants.{MalformedRequest}
use Rattle.card_build.specs.declared.card.Card.{Card}
use Rattle.request_plan.specs.declared.Reply.TheVariants.{Refused}
use Rattle.line_request.specs.declared.Ask.{Ask}
use Rattle.line_request.specs.declared.Ask.TheVariants.{Read, Write}
use Rattle.line_request.specs.Ask.{ask_of}
use Rattle.line_answer.specs.Answer.{answer_text}
use Rattle.line_serve.specs.Line.{ask_served, line_served}
use Rattle.line_serve.specs.Text.{request_text}
use Rattle.board_read.specs.Refresh.{board_served, refreshed}
use Rattle.board_line.specs.Line.{board_line, board_code, refreshed_text, code_text, board_line_text}
use Rattle.replay_state.specs.declared.Phase.{Phase}
use Rattle.replay_state.specs.declared.Phase.TheVariants.{First, Image, Requests, Ended}
use Rattle.replay_state.specs.declared.Replay.{Replay}
use Rattle.replay_state.specs.Phases.{one_more}
use Rattle.replay_kind.specs.declared.Kind.{Kind}
use Rattle.replay_line.specs.Replay.{Held, held, lent_bytes, text_by, line_held, line_text}
use Rattle.law_terminals.specs.Orders.{Terminal, one, two, Marked, by, only, all, after, answers, told}
use Rattle.law_terminals.specs.Two.{Answer, answer_of, arena_after}
use Rattle.law_terminals.proofs.Two.{left_of, arena_of}
use Rattle.law_calls.specs.Lines.{request_by, line_told_by}
use Rattle.law_calls.specs.Library.{made_by}
use Rattle.law_calls.proofs.Library.{made-is}
use Rattle.law_lines.specs.Lines.{Taken}
use Rattle.law_lines.proofs.Lines.{taken-first, taken_none, taken-requests, request-kind, prints, after-board, after-request, after_phase}
use Rattle.law_board.specs.Redraw.{refresh_by, request_in}
use Rattle.law_board.proofs.Redraw.{line_leaves}
use Rattle.law_texts.specs.Lines.{asking, text_as}

-- what is printed of a refresh, by the answer to its read
abbrev code_printed : ℕ → Option ℕ → Answer → List ℕ
code_printed o None x = answer_text o (Refused MalformedRequest) []
code_printed o (Some code) x = refreshed_text o x.read (made_by x)

-- what is printed of a line, by the answer to its request
unfoldable pub printed_by : ℕ → List ℕ → Answer → List ℕ
printed_by o line x =
    cond (board_line line) (code_printed o (board_code line) x)
    (answer_text o (line_told_by (ask_of line) x).reply (line_told_by (ask_of line) x).read)

module _ (c : Card) (a line : List ℕ) (o : ℕ) where
  board_by_lem : (x : Option ℕ) → code_text c a o x ≡ code_printed o x (answer_of c a (refresh_by x))
  unfolding refreshed
  board_by_lem None = refl
  board_by_lem (Some code) =
      let x = board_served c a code 128 in
      ap (refreshed_text o x.read) (sym (made-is x x.reply))

  request_by_lem : (x : Option Ask) → let y = line_told_by x (answer_of c a (request_by lent_bytes line x)) in
      answer_text o (ask_served c a lent_bytes line x).reply (ask_served c a lent_bytes line x).read ≡ answer_text o y.reply y.read
  request_by_lem None = refl
  request_by_lem (Some (Read «open» count)) = refl
  request_by_lem (Some (Write «open» count)) = refl

  -- the text of an `L` line
  board-text : board_line line ≡ true → board_line_text c a line o ≡ printed_by o line (answer_of c a (request_in line))
  unfolding board_line_text printed_by request_in
  board-text b = rw b (board_by_lem (board_code line))

  -- of any other
  request-text : board_line line ≡ false → request_text c a lent_bytes line o ≡ printed_by o line (answer_of c a (request_in line))
  unfolding request_text line_served printed_by request_in
  request-text b = rw b (request_by_lem (ask_of line))

-- what a line prints that is taken for a request
line_says : (s : Held) (line : List ℕ) (n : ℕ) → Taken s.replay.phase (line ∷ []) →
    text_as n s line ≡ printed_by (one_more n) line (answer_of s.replay.card s.arena (request_in line))
unfolding line_text
line_says s line n q = by_line (board_line line) refl
  where
    by_line : (b : Bool) → board_line line ≡ b →
        text_as n s line ≡ printed_by (one_more n) line (answer_of s.replay.card s.arena (request_in line))
    by_line true b =
        prints (asking n s) line (taken_none s.replay.phase (line ∷ []) q) b
        ∙ board-text s.replay.card s.arena line (one_more n) b
    by_line false b =
        ap (λ (x : Option Kind). text_by x (asking n s) line) (request-kind s.replay.phase line q b)
        ∙ request-text s.replay.card s.arena line (one_more n) b

-- a replay after one request more
abbrev pub onward : Replay → Replay
onward p = record { card = p.card; phase = Requests; lines = p.lines; asked = one_more p.asked }

replay_onward : (s : Held) (line : List ℕ) → Taken s.replay.phase (line ∷ []) → (line_held s line).replay ≡ onward s.replay
replay_onward s line q = by_line (board_line line) refl
  where
    by_line : (b : Bool) → board_line line ≡ b → (line_held s line).replay ≡ onward s.replay
    by_line true b = ap (λ (x : Held). x.replay) (after-board s line (taken_none s.replay.phase (line ∷ []) q) b)
    by_line false b = ap (λ (x : Held). x.replay) (after-request s line q b)

-- after so many requests
unfoldable pub onwards : ℕ → Replay → Replay
onwards zero p = p
onwards (suc k) p = onwards k (onward p)

-- At a state whose card is c, with the ordinal that follows n: lines as what asks requests of that card.
module _ (c : Card) (n : ℕ) where
  abbrev pub left : List ℕ → List ℕ → List ℕ
  left = left_of c request_in (printed_by (one_more n))

  abbrev pub next : List ℕ → List ℕ → List ℕ
  next = arena_of c request_in (printed_by (one_more n))

  -- a line that is taken
  pub record Steps (s : Held) (line : List ℕ) : Type 0 where
    pub text : text_as n s line ≡ left s.arena line
    pub card : (line_held s line).replay.card ≡ c
    pub arena : (line_held s line).arena ≡ next s.arena line
    pub taken : (ls : List (List ℕ)) → Taken (line_held s line).replay.phase ls

  pub steps : (s : Held) (line : List ℕ) → s.replay.card ≡ c → Taken s.replay.phase (line ∷ []) → Steps s line
  steps s line e q =
      let w = line_leaves s line q in
      record {
        text =
            subst (λ (x : Card). text_as n s line ≡ printed_by (one_more n) line (answer_of x s.arena (request_in line))) e
            (line_says s line n q);
        card = w.0 ∙ e;
        arena = subst (λ (x : Card). (line_held s line).arena ≡ arena_after x s.arena (request_in line)) e w.1;
        taken = λ ls. taken-requests (after_phase s line q) ls;
      }

  -- what lines print
  pub answers_are : (ls : List (List ℕ)) (s : Held) → s.replay.card ≡ c → Taken s.replay.phase ls →
      answers (text_as n) line_held s ls ≡ answers left next s.arena ls
  unfolding answers
  answers_are [] s e q = refl
  answers_are (line ∷ ls) s e q =
      let w = steps s line e (taken-first s.replay.phase line ls q) in
      ap₂ (λ (x : List ℕ) (l : List (List ℕ)). x ∷ l) w.text
      (answers_are ls (line_held s line) w.card (w.taken ls) ∙ ap (λ (b : List ℕ). answers left next b ls) w.arena)

  -- and the state after them
  pub after_is : (ls : List (List ℕ)) (s : Held) → s.replay.card ≡ c → Taken s.replay.phase ls →
      after (text_as n) line_held s ls ≡ held (onwards (length ls) s.replay) (after left next s.arena ls)
  unfolding after onwards
  after_is [] s e q = refl
  after_is (line ∷ ls) s e q =
      let t = taken-first s.replay.phase line ls q in
      let w = steps s line e t in
      after_is ls (line_held s line) w.card (w.taken ls)
      ∙ ap₂ (λ (p : Replay) (b : List ℕ). held (onwards (length ls) p) (after left next b ls)) (replay_onward s line t) w.arena

  -- what both terminals' lines print
  pub told_are : (zs : List (Marked (List ℕ))) (s : Held) → s.replay.card ≡ c → Taken s.replay.phase (only one zs) →
      Taken s.replay.phase (only two zs) → told (text_as n) line_held s zs ≡ told left next s.arena zs
  unfolding told only
  told_are [] s e p q = refl
  told_are (by one line ∷ zs) s e p q =
      let w = steps s line e (taken-first s.replay.phase line (only one zs) p) in
      ap₂ (λ (x : List ℕ) (l : List (Marked (List ℕ))). by one x ∷ l) w.text
      (told_are zs (line_held s line) w.card (w.taken (only one zs)) (w.taken (only two zs))
      ∙ ap (λ (b : List ℕ). told left next b zs) w.arena)
  told_are (by two line ∷ zs) s e p q =
      let w = steps s line e (taken-first s.replay.phase line (only two zs) q) in
      ap₂ (λ (x : List ℕ) (l : List (Marked (List ℕ))). by two x ∷ l) w.text
      (told_are zs (line_held s line) w.card (w.taken (only one zs)) (w.taken (only two zs))
      ∙ ap (λ (b : List ℕ). told left next b zs) w.arena)

-- lines of which each terminal's own are taken are taken, as they come
pub taken-all : (p : Phase) (zs : List (Marked (List ℕ))) → Taken p (only one zs) → Taken p (only two zs) → Taken p (all zs)
unfolding only all
taken-all First zs p q = p
taken-all Image [] p q = tt
taken-all Image (by one line ∷ zs) p q = p
taken-all Image (by two line ∷ zs) p q = q
taken-all Requests zs p q = tt
taken-all Ended zs p q = p

-- and one terminal's after the other's
pub taken-append : (p : Phase) (ls ms : List (List ℕ)) → Taken p ls → Taken p ms → Taken p (ls ++ ms)
taken-append First ls ms p q = p
taken-append Image [] ms p q = q
taken-append Image (line ∷ ls) ms p q = p
taken-append Requests ls ms p q = tt
taken-append Ended ls ms p q = p

-- there are as many of both as of one and of two
pub both-count : {X : Type 0} (zs : List (Marked X)) → length (all zs) ≡ length (only one zs) + length (only two zs)
unfolding only all
both-count [] = refl
both-count (by one x ∷ zs) = let e = both-count zs in omega arith
both-count (by two x ∷ zs) = let e = both-count zs in omega arith
