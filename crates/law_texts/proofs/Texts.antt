-- Whole texts. Read specs/Texts.antt for the statements: `TwoTexts` and `TextResent`. Assumes nothing.
use Prim.Native.Nat.{ℕ}
use mathlib.Core.Path.{◌≡◌, refl, sym, ap, ap₂, subst, ◌∙◌}
use mathlib.Core.List.{List, [], ◌∷◌, ◌++◌, append-nil, append_assoc}
use borrow.Author.Tests.{ne_eqb}
use Rattle.text_stream.specs.Stream.{pushed, lines_of, joined, Machine, printed, says_of}
use Rattle.replay_state.specs.declared.Phase.{Phase}
use Rattle.replay_state.specs.declared.Phase.TheVariants.{First, Image, Requests, Ended}
use Rattle.replay_state.specs.Phases.{finish_text}
use Rattle.replay_line.specs.Replay.{Held, line_held, line_text, end_text, replay_machine, held_at_start, replay_of}
use Rattle.law_terminals.specs.Orders.{Terminal, one, two, Marked, by, only, all, after, answers, told}
use Rattle.law_terminals.specs.Two.{All}
use Rattle.law_lines.specs.Lines.{Taken, held_after}
use Rattle.law_lines.proofs.Lines.{taken_none, taken-requests}
use Rattle.law_texts.specs.Texts.{lines_as_text, OneLine, state_after, TextsPrinted, TwoTexts, TextResent}
use Rattle.law_texts.proofs.States.{taken-all}
use Rattle.law_texts.proofs.Records.{state-long}
use Rattle.law_texts.proofs.Lines.{two_lines, written-again, requests-after}

-- a line and the LF behind it
cut : (line t : List ℕ) → OneLine line → lines_of (line ++ (10 ∷ t)) ≡ line ∷ lines_of t
unfolding lines_of pushed
cut [] t h = refl
cut (x ∷ line) t h = rw (ne_eqb x 10 h.0, cut line t h.1)

-- the lines of a text are those of which it was made
lines-text : (ls : List (List ℕ)) → All OneLine ls → lines_of (lines_as_text ls) ≡ ls
unfolding lines_as_text lines_of
lines-text [] h = refl
lines-text (line ∷ ls) h = cut line (lines_as_text ls) h.0 ∙ ap (λ (m : List (List ℕ)). line ∷ m) (lines-text ls h.1)

-- what a machine prints of lines, and of others after them
module _ {S : Type 0} (M : Machine S) where
  printed-append : (ls ms : List (List ℕ)) (s : S) →
      printed M s (ls ++ ms) ≡ joined (answers M.text M.line s ls) ++ printed M (after M.text M.line s ls) ms
  unfolding printed joined answers after
  printed-append [] ms s = refl
  printed-append (line ∷ ls) ms s =
      ap (λ (t : List ℕ). M.text s line ++ t) (printed-append ls ms (M.line s line))
      ∙ sym (append_assoc (M.text s line) (joined (answers M.text M.line (M.line s line) ls))
      (printed M (after M.text M.line (M.line s line) ls) ms))

  -- of the lines alone, where nothing is printed at the end
  printed-lines : (ls : List (List ℕ)) (s : S) → M.end (after M.text M.line s ls) ≡ [] →
      printed M s ls ≡ joined (answers M.text M.line s ls)
  unfolding printed
  printed-lines ls s e =
      ap (printed M s) (sym (append-nil ls)) ∙ printed-append ls [] s
      ∙ ap (λ (t : List ℕ). joined (answers M.text M.line s ls) ++ t) e ∙ append-nil (joined (answers M.text M.line s ls))

-- the state after lines, and after others behind them
held_is_lem : (ls : List (List ℕ)) (s : Held) → after line_text line_held s ls ≡ held_after s ls
unfolding after held_after
held_is_lem [] s = refl
held_is_lem (line ∷ ls) s = held_is_lem ls (line_held s line)

held-append : (ls ms : List (List ℕ)) (s : Held) → held_after s (ls ++ ms) ≡ held_after (held_after s ls) ms
unfolding held_after
held-append [] ms s = refl
held-append (line ∷ ls) ms s = held-append ls ms (line_held s line)

-- where requests are taken a text ends with nothing
end_none : (p : Phase) → Taken p [] → finish_text p ≡ []
end_none First q = absurd q
end_none Image q = refl
end_none Requests q = refl
end_none Ended q = absurd q

-- and so it does after them
taken-after : (ls : List (List ℕ)) (s : Held) → Taken s.replay.phase ls → Taken (held_after s ls).replay.phase []
unfolding held_after
taken-after [] s q = q
taken-after (line ∷ ls) s q = taken-requests (requests-after line ls s q) []

all_append : {X : Type 0} (F : X → Type 0) (xs ys : List X) → All F xs → All F ys → All F (xs ++ ys)
all_append F [] ys f g = g
all_append F (x ∷ xs) ys f g = (f.0, all_append F xs ys f.1 g)

-- what a replay prints of lines
replay_is : (ls : List (List ℕ)) → All OneLine ls → replay_of (lines_as_text ls) ≡ printed replay_machine held_at_start ls
unfolding replay_of says_of
replay_is ls h = ap (printed replay_machine held_at_start) (lines-text ls h)

-- what is printed of lines that are taken for requests comes after what those ahead of them print
says : (is ls : List (List ℕ)) → All OneLine is → All OneLine ls → Taken (state_after is).replay.phase ls →
    replay_of (lines_as_text (is ++ ls)) ≡ replay_of (lines_as_text is) ++ joined (answers line_text line_held (state_after is) ls)
says is ls f g q =
    replay_is (is ++ ls) (all_append OneLine is ls f g) ∙ printed-append replay_machine is ls held_at_start
    ∙ ap₂ (λ (x y : List ℕ). x ++ y)
    (sym (replay_is is f ∙ printed-lines replay_machine is held_at_start (ends is held_at_start (taken_none (state_after is).replay.phase ls q))))
    (ap (λ (s : Held). printed replay_machine s ls) (held_is_lem is held_at_start)
    ∙ printed-lines replay_machine ls (state_after is) (ends ls (state_after is) (taken-after ls (state_after is) q)))
  where
    ends : (ms : List (List ℕ)) (s : Held) → Taken (held_after s ms).replay.phase [] → end_text (after line_text line_held s ms) ≡ []
    ends ms s t = ap end_text (held_is_lem ms s) ∙ end_none (held_after s ms).replay.phase t

-- what both are told is what their lines are answered, as they come
told-all : {S R A : Type 0} (answer : S → R → A) (next : S → R → S) (zs : List (Marked R)) (s : S) →
    all (told answer next s zs) ≡ answers answer next s (all zs)
unfolding all told answers
told-all answer next [] s = refl
told-all {A = A} answer next (by t r ∷ zs) s = ap (λ (l : List A). answer s r ∷ l) (told-all answer next zs (next s r))

-- of lines that both have, each has its own
only_each : {X : Type 0} (F : X → Type 0) (zs : List (Marked X)) → All F (all zs) → All F (only one zs) × All F (only two zs)
unfolding all only
only_each F [] h = (tt, tt)
only_each F (by one x ∷ zs) h = let w = only_each F zs h.1 in ((h.0, w.0), w.1)
only_each F (by two x ∷ zs) h = let w = only_each F zs h.1 in (w.0, (h.0, w.1))

-- what is printed of two terminals' lines in a text
texts_printed : (is : List (List ℕ)) (zs : List (Marked (List ℕ))) → All OneLine is → All OneLine (all zs) →
    Taken (state_after is).replay.phase (only one zs) → Taken (state_after is).replay.phase (only two zs) → TextsPrinted is zs
texts_printed is zs f g p q =
    let s = state_after is in
    let own = only_each OneLine zs g in
    record {
      both =
          says is (all zs) f g (taken-all s.replay.phase zs p q)
          ∙ ap (λ (l : List (List ℕ)). replay_of (lines_as_text is) ++ joined l) (sym (told-all line_text line_held zs s));
      first = says is (only one zs) f own.0 p;
      second = says is (only two zs) f own.1 q;
    }

-- they are apart
pub two_texts : TwoTexts
two_texts is zs f g p q none = (texts_printed is zs f g p q, two_lines (state_after is) (state-long is) zs p q none)

-- a `W` line that stands in a text again
pub text_resent : TextResent
unfolding joined answers
text_resent is w ls f g k h =
    let s = state_after is in
    let e = held-append is (w ∷ ls) held_at_start in
    let r = subst (λ (t : Held). t.replay.phase ≡ Requests) (sym e) (requests-after w ls s h.taken) in
    record {
      printed =
          says (is ++ (w ∷ ls)) (w ∷ []) (all_append OneLine is (w ∷ ls) f (g, k)) (g, tt) (taken-requests r (w ∷ []))
          ∙ ap (λ (t : Held). replay_of (lines_as_text (is ++ (w ∷ ls))) ++ (line_text t w ++ [])) e
          ∙ ap (λ (x : List ℕ). replay_of (lines_as_text (is ++ (w ∷ ls))) ++ x) (append-nil (line_text (held_after s (w ∷ ls)) w));
      again = written-again s (state-long is) w ls h;
    }
