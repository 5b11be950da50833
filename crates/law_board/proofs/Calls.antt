-- What the program's own `line` and the library's `uluvoli_board` promise of a board: nothing but what they print, or the records, is
-- changed. And that the library's calls are ones of which `LibraryShows` speaks.
use Prim.Native.Nat.{ℕ}
use mathlib.Core.Path.{◌≡◌, refl, ap, ◌∙◌}
use mathlib.Core.Bool.{true}
use mathlib.Core.List.{List, []}
use seplogic.Ra.Ura.{Ura}
use base.Logic.{SProp}
use prog.Memory.{Memory}
use prog.Routine.{Routine}
use types.Logic.{Logic}
use contract.Monad.{Fun}
use Rattle.text_stream.specs.Stream.{Written}
use Rattle.board_line.specs.Line.{board_line, board_line_text}
use Rattle.replay_state.specs.Phases.{one_more}
use Rattle.replay_line.specs.Replay.{Held, held}
use Rattle.card_build.specs.declared.card.Card.{Card}
use Rattle.handset_bytes.specs.Card.{card_decoded}
use Rattle.law_terminals.specs.Runs.{Call, Left, Leaves}
use Rattle.law_calls.specs.Promise.{Promises}
use Rattle.law_calls.specs.Library.{request, handset_request, library_left}
use Rattle.law_calls.proofs.Kept.{of_two, of_four}
use Rattle.handset_bytes.proofs.Heads.{decoded_long}
use Rattle.law_lines.specs.Lines.{Taken}
use Rattle.law_board.specs.Library.{BoardCall, requests, boards, sets, CallLeaves}
use Rattle.law_lines.proofs.Lines.{leaves_all, prints}
use Rattle.law_board.proofs.Library.{board-call}
use Rattle.replay_line.specs.contracts.line as line
use Rattle.handset.specs.contracts.board.uluvoli_board as board
use Rattle.handset.specs.contracts.blocks.uluvoli_set_block as setting

-- a read and a write are calls, as law_calls/proofs/Library has them
pub request_is_call : (c : Card) (a : List ℕ) (k : Call) (x : Left ℕ) (b : List ℕ) →
    Leaves c handset_request (library_left c) a (request k) x b → CallLeaves c a (requests k) x b
request_is_call c a k x b h = h

module _ {M : Type 1} {𝓤 : Ura M} (𝓛 : Logic 𝓤) (mem : Memory → SProp 𝓤) (run : Routine → Fun 𝓤) where
  -- an `L` line: card, arena, work and bytes are as they were, and `out` has its text from `at` on, and what it had elsewhere
  pub line_leaves
      : Promises 𝓤 line.ended (line.clauses 𝓛 mem run) (λ κs a r ws.
      let (replay, (arena, (work, (bytes, (line, (out, (at, _))))))) = a in
      Taken replay.phase [] → board_line line.now ≡ true
      → (r.replay.card ≡ replay.card)
      × (ws.1.0 ≡ arena.now)
      × (ws.1.1.0 ≡ work.now)
      × (ws.1.1.1.0 ≡ bytes.now)
      × Written out.now at (board_line_text replay.card arena.now line.now (one_more replay.asked)) r.at ws.1.1.1.1.1.0)
  line_leaves κs a g r ws = of_four 𝓤 (λ p q s t taken letter.
      let (replay, (arena, (work, (bytes, (line, (out, (at, _))))))) = a in
      let h = held replay arena.now in
      let k = leaves_all h line.now taken letter in (
        ap (λ (x : Held). x.replay.card) p ∙ k.card,
        ap (λ (x : Held). x.arena) p ∙ k.arena,
        s ∙ k.work work.now,
        t ∙ k.bytes bytes.now,
        rw (prints h line.now taken letter) at q.0,
      ))

  -- the library's call, on a card and an arena that it is lent for reading only
  pub board_leaves
      : Promises 𝓤 board.ended (board.clauses 𝓛 mem run) (λ κs a r ws.
      let (card, (arena, (code, (lanes, _)))) = a in
      BoardCall (card_decoded card.now) arena.now code lanes.now r ws.1.1.1.0)
  board_leaves κs a g r ws = of_two 𝓤 (λ p q.
      let (card, (arena, (code, (lanes, _)))) = a in
      board-call (card_decoded card.now) (decoded_long card.now) arena.now code lanes.now p q)

  -- so is a board
  pub board_is_call
      : Promises 𝓤 board.ended (board.clauses 𝓛 mem run) (λ κs a r ws.
      let (card, (arena, (code, (lanes, _)))) = a in
      CallLeaves (card_decoded card.now) arena.now (boards code lanes.now) (record { reply = r; buffer = ws.1.1.1.0 }) arena.now)
  board_is_call κs a g r ws = of_two 𝓤 (λ p q. (λ i. record { reply = p i; buffer = q i }, refl))

  -- and a set block
  pub set_is_call
      : Promises 𝓤 setting.ended (setting.clauses 𝓛 mem run) (λ κs a r ws.
      let (card, (arena, (code, (number, (bytes, _))))) = a in
      CallLeaves (card_decoded card.now) arena.now (sets code number bytes.now) (record { reply = r; buffer = [] }) ws.1.0)
  set_is_call κs a g r ws = of_two 𝓤 (λ p q. (λ i. record { reply = p i; buffer = [] }, q))
