-- The lines of a replay. Read specs/Lines.antt for the statements: `TwoLines` and `WrittenAgain`, of any state whose card has 64 records.
use Prim.Native.Nat.{ℕ, ◌+◌}
use native.Mathlib.Omega.{arith}
use mathlib.Core.Path.{◌≡◌, refl, sym, ap, ap₂, ◌∙◌}
use mathlib.Core.List.{List, [], ◌∷◌, ◌++◌, map}
use mathlib.Core.Logic.{inl, inr}
use lib.ListN.{length, length-append}
use Rattle.card_build.specs.declared.card.Card.{Card}
use Rattle.request_plan.specs.Request.{Request}
use Rattle.request_plan.proofs.Accepted.{accepted}
use Rattle.replay_state.specs.declared.Phase.TheVariants.{Requests}
use Rattle.replay_state.specs.Phases.{one_more}
use Rattle.replay_line.specs.Replay.{Held, held, line_held}
use Rattle.law_terminals.specs.Orders.{one, two, Marked, only, all, after}
use Rattle.law_terminals.specs.Two.{answer_of, arena_after, Any, Names}
use Rattle.law_terminals.specs.Last.{arena_then}
use Rattle.law_terminals.proofs.Two.{two_askers}
use Rattle.law_terminals.proofs.Runs.{after-append}
use Rattle.law_lines.specs.Lines.{Taken, held_after}
use Rattle.law_lines.proofs.Lines.{taken-first, taken-requests, after_phase}
use Rattle.law_board.specs.Redraw.{request_in}
use Rattle.law_board.proofs.Redraw.{lines_leave, line_leaves}
use Rattle.law_resent.proofs.Calls.{answered}
use Rattle.law_texts.specs.Lines.{text_as, TwoLines, WrittenAgain}
use Rattle.law_texts.proofs.States.{printed_by, onwards, left, next, steps, answers_are, after_is, told_are, taken-all, taken-append, both-count}

-- one of lines names a number by the request that it makes
any_request : (F : Request → Type 0) (ls : List (List ℕ)) → Any (λ line. F (request_in line)) ls → Any F (map request_in ls)
any_request F [] h = h
any_request F (line ∷ ls) (inl h) = inl h
any_request F (line ∷ ls) (inr h) = inr (any_request F ls h)

-- two terminals' lines are apart
pub two_lines : (s : Held) → length s.replay.card.nodes ≡ 64 → TwoLines s
two_lines s z zs p q none n =
    let c = s.replay.card in
    let a = s.arena in
    let u = two_askers c request_in (printed_by (one_more n)) z a zs
    (λ k h f g. none k h (any_request (Names k) (only one zs) f) (any_request (Names k) (only two zs) g)) in
    record {
      told-one = ap (only one) (told_are c n zs s refl p q) ∙ u.told-one ∙ sym (answers_are c n (only one zs) s refl p);
      told-two = ap (only two) (told_are c n zs s refl p q) ∙ u.told-two ∙ sym (answers_are c n (only two zs) s refl q);
      one-first = in_turn_lem (only one zs) (only two zs) p q (both-count zs) u.one-first;
      two-first = in_turn_lem (only two zs) (only one zs) q p (let e = both-count zs in omega arith) u.two-first;
    }
  where
    in_turn_lem : (ls ms : List (List ℕ)) → Taken s.replay.phase ls → Taken s.replay.phase ms →
        length (all zs) ≡ length ls + length ms →
        let c = s.replay.card in
        after (left c n) (next c n) s.arena (all zs) ≡ after (left c n) (next c n) (after (left c n) (next c n) s.arena ls) ms →
        after (text_as n) line_held s (all zs) ≡ after (text_as n) line_held (after (text_as n) line_held s ls) ms
    in_turn_lem ls ms f g l h =
        let c = s.replay.card in
        let k : length (all zs) ≡ length (ls ++ ms) = l ∙ sym (length-append ls ms) in
        after_is c n (all zs) s refl (taken-all s.replay.phase zs p q)
        ∙ ap₂ (λ (i : ℕ) (b : List ℕ). held (onwards i s.replay) b) k (h ∙ sym (after-append (left c n) (next c n) s.arena ls ms))
        ∙ sym (after_is c n (ls ++ ms) s refl (taken-append s.replay.phase ls ms f g))
        ∙ after-append (text_as n) line_held s ls ms

-- where requests are taken they are taken after lines
pub requests_stay : (ls : List (List ℕ)) (s : Held) → s.replay.phase ≡ Requests → (held_after s ls).replay.phase ≡ Requests
unfolding held_after
requests_stay [] s e = e
requests_stay (line ∷ ls) s e = requests_stay ls (line_held s line) (after_phase s line (taken-requests e (line ∷ [])))

-- so after a line that is taken
pub requests-after : (line : List ℕ) (ls : List (List ℕ)) (s : Held) → Taken s.replay.phase (line ∷ ls) →
    (held_after s (line ∷ ls)).replay.phase ≡ Requests
unfolding held_after
requests-after line ls s q = requests_stay ls (line_held s line) (after_phase s line (taken-first s.replay.phase line ls q))

-- the arena after a line and those that follow it
then_is : (c : Card) (a b : List ℕ) (r : Request) (rs : List Request) →
    b ≡ after (answer_of c) (arena_after c) a (r ∷ rs) → b ≡ arena_then c a r rs
unfolding after
then_is c a b r rs e = e

-- a `W` line that stands again
pub written-again : (s : Held) → length s.replay.card.nodes ≡ 64 → WrittenAgain s
written-again s z w ls h =
    let c = s.replay.card in
    let r = request_in w in
    let t = held_after s (w ∷ ls) in
    let (card, arena, _) = lines_leave (w ∷ ls) s h.taken in
    let b : t.arena ≡ arena_then c s.arena r (map request_in ls) = then_is c s.arena t.arena r (map request_in ls) arena in
    let f = answered c z s.arena r (map request_in ls) r.room h.write h.accepted h.purses h.rings h.idle
    ((accepted c s.arena r h.accepted).fit.staging h.write) in
    let p = taken-first s.replay.phase w ls h.taken in
    let q = taken-requests (requests-after w ls s h.taken) (w ∷ []) in
    record {
      unchanged = (line_leaves t w q).1 ∙ ap₂ (λ (x : Card) (y : List ℕ). arena_after x y r) card b ∙ f.1 ∙ sym b;
      kept = b ∙ f.2 ∙ sym (line_leaves s w p).1;
      text = λ n.
          (steps c n t w card q).text
          ∙ ap (printed_by (one_more n) w) (ap (λ (y : List ℕ). answer_of c y r) b ∙ f.0)
          ∙ sym (steps c n s w refl p).text;
    }
