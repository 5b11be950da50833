-- The library's `uluvoli_read`, `uluvoli_write` and `uluvoli_board`: they promise to be calls of which the laws on runs speak, and those laws
-- hold of them, whatever bytes stand for the card. A read or a write returns 0 where, and only where, its request is accepted; a board
-- returns 0 only there.
use Prim.Native.Nat.{ℕ}
use native.Mathlib.Omega.{arith}
use mathlib.Core.Path.{◌≡◌, refl, sym, ap, ◌∙◌}
use mathlib.Core.Bool.{true, false, false≢true}
use mathlib.Core.List.{List, []}
use lib.ListN.{length}
use seplogic.Ra.Ura.{Ura}
use base.Logic.{SProp}
use prog.Memory.{Memory}
use prog.Routine.{Routine}
use types.Logic.{Logic}
use contract.Monad.{Fun}
use Rattle.answers.specs.declared.refusal.Refusal.{Refusal}
use Rattle.answers.specs.declared.refusal.Refusal.TheVariants.{TooManyElements, TooManyCodes, ListLength, ShortStaging, ShortOutput, MalformedRequest, ShortArena, NotBuilt, InvalidAreaRange, InvalidRootAreaRange, NodeCodeOutOfRange, InvalidAreaAttribute, ChildAreaForbidden, UndefinedServiceAttribute, ServiceOutOfRange, AreaOutOfRange, OverlapKindMismatch, TableFull, NoParent, NoRoom, NoSuchBlock, CountsDiffer, NotAService, MalformedImage, ParentNoArea, PacketPastEnd, TooManyNodes, NotAMessage, OutputTooShort}
use Rattle.answers.specs.Refusal.{refusal_number}
use Rattle.request_plan.specs.declared.Reply.{Reply}
use Rattle.request_plan.specs.declared.Reply.TheVariants.{Refused, Done, ShortData, Failed}
use Rattle.request_plan.specs.Serve.{Served}
use Rattle.request_plan.proofs.Accepted.{read_leaves}
use Rattle.board_read.specs.Refresh.{board_served, refreshed_after, refreshed}
use Rattle.handset_bytes.specs.Card.{card_decoded}
use Rattle.handset_bytes.proofs.Heads.{decoded_long}
use Rattle.handset_words.specs.Reply.{reply_as}
use Rattle.handset_words.specs.Board.{refreshed_as, board_room, records_by, records_after}
use Rattle.law_terminals.specs.Two.{Answer}
use Rattle.law_terminals.specs.Runs.{reads, writes, Leaves, TwoRuns, TowerRuns}
use Rattle.law_terminals.proofs.Runs.{two_runs, tower_runs}
use Rattle.law_calls.specs.Promise.{Promises}
use Rattle.law_calls.specs.Library.{HandsetCall, request, board, handset_request, made_by, library_left}
use Rattle.law_calls.proofs.Kept.{of_two, of_three}
use Rattle.handset.specs.contracts.requests.uluvoli_read as read
use Rattle.handset.specs.contracts.requests.uluvoli_write as write
use Rattle.handset.specs.contracts.board.uluvoli_board as board-call

-- no refusal has number 0
numbered : (r : Refusal) → refusal_number r ≡ 0 → ⊥
numbered TooManyElements e = omega arith
numbered TooManyCodes e = omega arith
numbered ListLength e = omega arith
numbered ShortStaging e = omega arith
numbered ShortOutput e = omega arith
numbered MalformedRequest e = omega arith
numbered ShortArena e = omega arith
numbered NotBuilt e = omega arith
numbered InvalidAreaRange e = omega arith
numbered InvalidRootAreaRange e = omega arith
numbered NodeCodeOutOfRange e = omega arith
numbered InvalidAreaAttribute e = omega arith
numbered ChildAreaForbidden e = omega arith
numbered UndefinedServiceAttribute e = omega arith
numbered ServiceOutOfRange e = omega arith
numbered AreaOutOfRange e = omega arith
numbered OverlapKindMismatch e = omega arith
numbered TableFull e = omega arith
numbered NoParent e = omega arith
numbered NoRoom e = omega arith
numbered NoSuchBlock e = omega arith
numbered CountsDiffer e = omega arith
numbered NotAService e = omega arith
numbered MalformedImage e = omega arith
numbered ParentNoArea e = omega arith
numbered PacketPastEnd e = omega arith
numbered TooManyNodes e = omega arith
numbered NotAMessage e = omega arith
numbered OutputTooShort e = omega arith

-- so 0 is returned of an accepted request alone
pub zero_done : (x : Reply) → reply_as x ≡ 0 → x ≡ Done
zero_done (Refused r) e = absurd (numbered r (omega arith))
zero_done Done e = refl
zero_done ShortData e = absurd (omega arith)
zero_done (Failed i f) e = absurd (omega arith)

-- a board goes by the answer to its read
pub made-is : (x : Served) (y : Reply) → refreshed_after (record { reply = x.reply; read = x.read; arena = [] }) y ≡ refreshed_after x y
made-is x (Refused r) = refl
made-is x Done = refl
made-is x ShortData = refl
made-is x (Failed i f) = refl

-- it returns 0 only where that was accepted
zero_made : (x : Answer) → refreshed_as (made_by x) ≡ 0 → x.reply ≡ Done
zero_made x = by_reply x.reply
  where
    by_reply : (y : Reply) → refreshed_as (refreshed_after (record { reply = x.reply; read = x.read; arena = [] }) y) ≡ 0 → y ≡ Done
    by_reply (Refused r) e = zero_done (Refused r) e
    by_reply Done e = refl
    by_reply ShortData e = zero_done ShortData e
    by_reply (Failed i f) e = zero_done (Failed i f) e

module _ {M : Type 1} {𝓤 : Ura M} (𝓛 : Logic 𝓤) (mem : Memory → SProp 𝓤) (run : Routine → Fun 𝓤) where
  -- a read, on an arena that it is lent for reading only
  pub read_is_call
      : Promises 𝓤 read.ended (read.clauses 𝓛 mem run) (λ κs (card, (arena, (out, («open», (codes, (count, (list, _))))))) r ws.
      Leaves (card_decoded card.now) handset_request (library_left (card_decoded card.now)) arena.now
      (request (reads «open» codes.now count list.now out.now)) (record { reply = r; buffer = ws.1.1.0 }) arena.now)
  read_is_call κs a g r ws = of_two 𝓤 (λ p q. (λ i. record { reply = p i; buffer = q i }, sym (read_leaves _ _ _ refl)))

  pub write_is_call
      : Promises 𝓤 write.ended (write.clauses 𝓛 mem run) (λ κs (card, (arena, (staging, («open», (codes, (count, (list, («data», _)))))))) r ws.
      Leaves (card_decoded card.now) handset_request (library_left (card_decoded card.now)) arena.now
      (request (writes «open» codes.now count list.now «data».now staging.now)) (record { reply = r; buffer = ws.1.1.0 }) ws.1.0)
  write_is_call κs a g r ws = of_three 𝓤 (λ p q s. (λ i. record { reply = p i; buffer = s i }, q))

  -- a board, on an arena that it is lent for reading only
  pub board_is_call
      : Promises 𝓤 board-call.ended (board-call.clauses 𝓛 mem run) (λ κs (card, (arena, (code, (lanes, _)))) r ws.
      Leaves (card_decoded card.now) handset_request (library_left (card_decoded card.now)) arena.now
      (board code lanes.now) (record { reply = r; buffer = ws.1.1.1.0 }) arena.now)
  unfolding refreshed records_after
  board_is_call κs a g r ws = of_two 𝓤 (λ p q.
      let (card, (arena, (code, (lanes, _)))) = a in
      let x = board_served (card_decoded card.now) arena.now code (board_room (length lanes.now)) in
      let m = made-is x x.reply in
      let p' = p ∙ ap refreshed_as (sym m) in
      let q' = q ∙ ap (records_by lanes.now x.read) (sym m) in
      (λ i. record { reply = p' i; buffer = q' i }, sym (read_leaves _ _ _ refl)))

module _ (bytes : List ℕ) where
  -- two terminals' runs of them are apart
  pub library_two : TwoRuns (card_decoded bytes) handset_request (library_left (card_decoded bytes))
  library_two = two_runs (card_decoded bytes) handset_request (library_left (card_decoded bytes)) (decoded_long bytes)

  -- who is returned 0 asked what was accepted
  pub zero_asked : (k : HandsetCall) (x : Answer) → (library_left (card_decoded bytes) k x).reply ≡ 0 → x.reply ≡ Done
  zero_asked (request (reads «open» codes count list out)) x e = zero_done x.reply e
  zero_asked (request (writes «open» codes count list «data» staging)) x e = zero_done x.reply e
  zero_asked (board code records) x e = zero_made x e

  -- who asked a write that was accepted is returned 0
  pub write_zero : (k : HandsetCall) (x : Answer) → (handset_request k).write ≡ true → x.reply ≡ Done → (library_left (card_decoded bytes) k x).reply ≡ 0
  write_zero (request (reads «open» codes count list out)) x w e = absurd (false≢true w)
  write_zero (request (writes «open» codes count list «data» staging)) x w e = ap reply_as e
  write_zero (board code records) x w e = absurd (false≢true w)

  -- the tower's read is left what was written last, where 0 was returned for accepted requests
  pub library_tower : TowerRuns (card_decoded bytes) handset_request (library_left (card_decoded bytes)) (λ x. x.reply ≡ 0)
  library_tower =
      tower_runs (card_decoded bytes) handset_request (library_left (card_decoded bytes)) (decoded_long bytes) (λ x. x.reply ≡ 0) zero_asked write_zero
