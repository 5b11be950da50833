-- Request lines: `request_line` promises to be a call of which the laws on runs speak, and to print its answer; those laws hold of it.
use Rattle.std.proofs.Common.{Option, Some, None}
use Prim.Native.Nat.{ℕ, ◌*◌}
use native.Mathlib.Omega.{arith}
use mathlib.Core.Path.{◌≡◌, refl, sym, ◌∙◌}
use mathlib.Core.Bool.{true, false, false≢true}
use mathlib.Core.List.{List}
use lib.ListN.{length}
use seplogic.Ra.Ura.{Ura}
use base.Logic.{SProp}
use prog.Memory.{Memory}
use prog.Routine.{Routine}
use types.Logic.{Logic}
use contract.Monad.{Fun}
use Rattle.card_build.specs.declared.card.Card.{Card}
use Rattle.request_plan.specs.declared.Reply.TheVariants.{Done}
use Rattle.request_plan.proofs.Accepted.{read_leaves}
use Rattle.line_request.specs.declared.Ask.{Ask}
use Rattle.line_request.specs.declared.Ask.TheVariants.{Read, Write}
use Rattle.line_request.specs.Ask.{ask_of}
use Rattle.line_answer.specs.Answer.{answer_text}
use Rattle.line_serve.specs.Line.{ask_served, line_served, work_by, work_after}
use Rattle.text_stream.specs.Stream.{Written}
use Rattle.line_serve.specs.Text.{request_text}
use Rattle.law_terminals.specs.Two.{Answer, answer_of, arena_after}
use Rattle.law_terminals.specs.Runs.{Leaves, TwoRuns, TowerRuns}
use Rattle.law_terminals.proofs.Runs.{two_runs, tower_runs}
use Rattle.law_calls.specs.Promise.{Promises}
use Rattle.law_calls.specs.Lines.{LineCall, request_by, line_request, line_answer, line_told_by, work_left, LineLeft, line_left}
use Rattle.law_calls.proofs.Kept.{of_four}
use Rattle.line_serve.specs.contracts.request_line as line

-- what comes of a line is what comes of its request, but for a malformed one
module _ (c : Card) (a : List ℕ) (work line : List ℕ) where
  answer_by : (x : Option Ask) → record { reply = (ask_served c a (length work) line x).reply; read = (ask_served c a (length work) line x).read }
      ≡ line_told_by x (answer_of c a (request_by (length work) line x))
  answer_by None = refl
  answer_by (Some (Read «open» count)) = refl
  answer_by (Some (Write «open» count)) = refl

  arena_by : (x : Option Ask) → (ask_served c a (length work) line x).arena ≡ arena_after c a (request_by (length work) line x)
  arena_by None = sym (read_leaves c a (request_by (length work) line None) refl)
  arena_by (Some (Read «open» count)) = refl
  arena_by (Some (Write «open» count)) = refl

  work_by_lem : (x : Option Ask) → work_by (16 * c.used) work (ask_served c a (length work) line x) x
      ≡ work_left c work (answer_of c a (request_by (length work) line x)) x
  work_by_lem None = refl
  work_by_lem (Some (Read «open» count)) = refl
  work_by_lem (Some (Write «open» count)) = refl

module _ (c : Card) (a : List ℕ) (k : LineCall) where
  -- what the answer to a line's request leaves
  abbrev left : LineLeft
  left = line_left c k (answer_of c a (line_request k))

  -- its answer is that of its request
  answer_is : line_answer c a k ≡ left.answer
  unfolding line_served
  answer_is = answer_by c a k.work k.line (ask_of k.line)

  -- so is the arena after it
  arena_is : (line_served c a (length k.work) k.line).arena ≡ arena_after c a (line_request k)
  unfolding line_served
  arena_is = arena_by c a k.work k.line (ask_of k.line)

  -- and the buffer
  work_is : work_after c a k.work k.line ≡ left.work
  unfolding work_after line_served
  work_is = work_by_lem c a k.work k.line (ask_of k.line)

module _ {M : Type 1} {𝓤 : Ura M} (𝓛 : Logic 𝓤) (mem : Memory → SProp 𝓤) (run : Routine → Fun 𝓤) where
  -- a line is such a call, and the text of its answer stands in `out` from `at` on, up to the place that is answered
  pub line_is_call
      : Promises 𝓤 line.ended (line.clauses 𝓛 mem run) (λ κs a r ws.
      let (card, (arena, (work, (bytes, (line, (ordinal, (out, (at, _)))))))) = a in
      let k : LineCall = record { line = line.now; work = work.now; bytes = bytes.now } in
      let x : Answer = line_answer card arena.now k in
      Leaves card line_request (line_left card) arena.now k (record { answer = x; work = ws.1.1.0; bytes = ws.1.1.1.0 }) ws.1.0
      × Written out.now at (answer_text ordinal x.reply x.read) r ws.1.1.1.1.1.1.0)
  unfolding request_text
  line_is_call κs a g r ws = of_four 𝓤 (λ p q s t.
      let (card, (arena, (work, (bytes, (line, (ordinal, (out, (at, _)))))))) = a in
      let k : LineCall = record { line = line.now; work = work.now; bytes = bytes.now } in
      let s' = s ∙ work_is card arena.now k in
      let x = answer_is card arena.now k in
      ((λ i. record { answer = x i; work = s' i; bytes = t i }, q ∙ arena_is card arena.now k), p.0))

module _ (c : Card) (z : length c.nodes ≡ 64) where
  -- two terminals' lines are apart
  pub lines_two : TwoRuns c line_request (line_left c)
  lines_two = two_runs c line_request (line_left c) z

  -- a line that is told `Done` asked a request that was done
  pub told-done : (x : Option Ask) (y : Answer) → (line_told_by x y).reply ≡ Done → y.reply ≡ Done
  told-done None y e = absurd (let z : ◌≡◌ {A = ℕ} 0 1 = cc in (omega arith))
  told-done (Some (Read «open» count)) y e = e
  told-done (Some (Write «open» count)) y e = e

  -- a line that asked a write that was done is told so
  pub done-told : (k : LineCall) (x : Option Ask) (y : Answer) → (request_by (length k.work) k.line x).write ≡ true → y.reply ≡ Done →
      (line_told_by x y).reply ≡ Done
  done-told k None y w e = absurd (false≢true w)
  done-told k (Some (Read «open» count)) y w e = e
  done-told k (Some (Write «open» count)) y w e = e

  -- the line that reads for the tower is answered what was written last
  pub lines_tower : TowerRuns c line_request (line_left c) (λ x. x.answer.reply ≡ Done)
  lines_tower =
      tower_runs c line_request (line_left c) z (λ x. x.answer.reply ≡ Done)
      (λ k x e. told-done (ask_of k.line) x e) (λ k x w e. done-told k (ask_of k.line) x w e)
