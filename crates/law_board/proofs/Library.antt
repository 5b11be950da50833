-- The library's board. Read specs/Library.antt for the statements: `BoardCall` and `LibraryShows`.
use Rattle.std.specs.Prelude.{Err, Ok}
use Rattle.std.proofs.Common.{Result}
use Prim.Native.Nat.{ℕ, zero, suc, ◌+◌, ◌*◌, ◌≤◌, ◌<◌}
use native.Mathlib.Omega.{arith}
use native.Mathlib.Nat.{add-zero, zero-add}
use mathlib.Core.Path.{◌≡◌, refl, sym, ap, subst, ◌∙◌}
use mathlib.Core.Bool.{Bool, true, false, cond}
use mathlib.Core.List.{List, [], ◌∷◌, ◌++◌}
use lib.Dec.{ltb, eqb}
use lib.ListN.{length, take, replicate, length-append, length-replicate}
use lib.Seq.{take_at, take_all, length-take-le, drop-append-add}
use borrow.Author.Tests.{ltb-true, ltb-false, eq-eqb}
use Rattle.byte_parts.specs.Part.{part, put, padded}
use Rattle.byte_parts.proofs.Part.{part-part, part-put}
use Rattle.card_build.specs.declared.card.Card.{Card}
use Rattle.request_block.specs.Block.{block_judged, arena_set}
use Rattle.request_plan.specs.declared.Reply.{Reply}
use Rattle.request_plan.specs.declared.Reply.TheVariants as replies
use Rattle.board_lanes.specs.declared.refusal.BoardRefusal.{BoardRefusal}
use Rattle.board_lanes.specs.declared.refusal.BoardRefusal.TheVariants.{RacesDiffer, WrongLane, BadCrew, TailNotZero}
use Rattle.board_lanes.specs.Board.{block_at, board_number, Lane, empty, filled, lane_of, lanes_from, lanes_of, lanes, board_judged, board_of}
use Rattle.board_lanes.specs.Records.{lane_record, lanes_records}
use Rattle.board_read.specs.Refresh.{board_served, refreshed_by, refreshed_after, refreshed}
use Rattle.board_read.proofs.Refreshing.{by_blocks, read-room}
use Rattle.handset_words.specs.Outcome.{answer_as}
use Rattle.handset_words.specs.Reply.{reply_as}
use Rattle.handset_words.specs.Block.{unfit_after, set_answer, set_after}
use Rattle.handset_words.specs.Board.{refreshed_as, board_room, board_made, records_after}
use Rattle.handset_words.proofs.Left.{board-left}
use Rattle.law_terminals.specs.Two.{Answer, All}
use Rattle.law_terminals.specs.Runs.{Exchange, Call, reads, writes, request_of, Left, left_by}
use Rattle.law_calls.proofs.Library.{zero_done}
use Rattle.law_blocks.specs.Deed.{requested, block_set, DeedNames, DeedBrings}
use Rattle.law_blocks.proofs.Holding.{BlockHolds, deed_holds, deed_leaves}
use Rattle.law_blocks.proofs.Lane.{holds_shows}
use Rattle.law_lines.specs.Shown.{eight_of}
use Rattle.law_lines.proofs.Shown.{eight-read}
use Rattle.law_board.specs.Library.{BoardCall, LibraryCall, requests, boards, sets, call_left, call_arena, call_deed, CallsRan, LibraryShows}
use Rattle.answers.specs.declared.refusal.Refusal.{Refusal}

-- no refusal of the board returns 0
numbered : (x : BoardRefusal) → 65536 * board_number x ≡ 0 → ⊥
numbered RacesDiffer e = omega arith
numbered WrongLane e = omega arith
numbered BadCrew e = omega arith
numbered TailNotZero e = omega arith

-- so 0 is returned of a board alone
zero_judged : (j : Result Unit BoardRefusal) → refreshed_as (refreshed_by j) ≡ 0 → j ≡ (Ok tt)
zero_judged (Ok tt) e = refl
zero_judged (Err x) e = absurd (numbered x e)

module _ (c : Card) (a : List ℕ) (code room : ℕ) where
  zero_board : refreshed_as (refreshed c a code room) ≡ 0 →
      ((board_served c a code room).reply ≡ replies.Done) × (board_judged (board_served c a code room).read ≡ (Ok tt))
  unfolding refreshed
  zero_board = by_reply (board_served c a code room).reply
    where
      by_reply : (x : Reply) → refreshed_as (refreshed_after (board_served c a code room) x) ≡ 0 →
          (x ≡ replies.Done) × (board_judged (board_served c a code room).read ≡ (Ok tt))
      by_reply (replies.Refused r) e = absurd (let z = zero_done (replies.Refused r) e in let y : ◌≡◌ {A = ℕ} 0 1 = cc in omega arith)
      by_reply replies.Done e = (refl, zero_judged (board_judged (board_served c a code room).read) e)
      by_reply replies.ShortData e = absurd (let z = zero_done replies.ShortData e in let y : ◌≡◌ {A = ℕ} 0 1 = cc in omega arith)
      by_reply (replies.Failed i f) e = absurd (let z = zero_done (replies.Failed i f) e in let y : ◌≡◌ {A = ℕ} 0 1 = cc in omega arith)

-- as many bytes as a board needs are lent where it has room
room_is : (n : ℕ) → 128 ≤ board_room n → (board_room n ≡ 128) × (128 ≤ n)
unfolding board_room
room_is n = by_test_lem (ltb n 128) refl
  where
    by_test_lem : (t : Bool) → ltb n 128 ≡ t → 128 ≤ cond t n 128 → (cond t n 128 ≡ 128) × (128 ≤ n)
    by_test_lem true e h = absurd (let l = ltb-true n 128 e in omega arith)
    by_test_lem false e h = (refl, ltb-false n 128 e)

-- What a call does that returns 0, on a card of 64 records.
module _ (c : Card) (z : length c.nodes ≡ 64) (a : List ℕ) (code : ℕ) (old : List ℕ) (e : refreshed_as (board_made c a code old) ≡ 0) where
  abbrev room : ℕ
  room = board_room (length old)

  -- the card answers 00 00, and the blocks make a board
  done : ((board_served c a code room).reply ≡ replies.Done) × (board_judged (board_served c a code room).read ≡ (Ok tt))
  done = zero_board c a code room e

  -- all 128 bytes were lent
  wide : (room ≡ 128) × (128 ≤ length old)
  wide = room_is (length old) (read-room c a code room z done.0)

  done-eight : (board_served c a code 128).reply ≡ replies.Done
  done-eight = subst (λ (n : ℕ). (board_served c a code n).reply ≡ replies.Done) wide.0 done.0

  -- the blocks are the first eight of the store
  read-eight : (board_served c a code room).read ≡ eight_of c a code
  read-eight = ap (λ (n : ℕ). (board_served c a code n).read) wide.0 ∙ eight-read c a code done-eight

  sound : board_judged (eight_of c a code) ≡ (Ok tt)
  sound = ap board_judged (sym read-eight) ∙ done.1

  -- so there is a board
  has_board : board_of (eight_of c a code) ≡ lanes (lanes_of (eight_of c a code))
  unfolding board_of
  has_board = rw sound

  -- and its records are put
  has_records : records_after c a code old ≡ put old 0 128 (lanes_records (lanes_of (eight_of c a code)))
  unfolding records_after
  has_records =
      rw (by_blocks c a code room done.0 ∙ ap refreshed_by done.1)
      (ap (λ (x : List ℕ). put old 0 128 (lanes_records (lanes_of x))) read-eight)

-- what a call returns and leaves
pub board-call : (c : Card) → length c.nodes ≡ 64 → (a : List ℕ) (code : ℕ) (old : List ℕ) {r : ℕ} {new : List ℕ} →
    r ≡ refreshed_as (board_made c a code old) → new ≡ records_after c a code old → BoardCall c a code old r new
board-call c z a code old p q = record {
  board = λ e. (has_board c z a code old (sym p ∙ e), q ∙ has_records c z a code old (sym p ∙ e));
  left = λ f. q ∙ board-left c a code old (λ e. f (p ∙ e));
}

-- a record has sixteen bytes
record_long : (l : Lane) → length (lane_record l) ≡ 16
unfolding padded
record_long empty = refl
record_long (filled race crew) =
    let n : length (take 12 (crew ++ replicate 12 0)) ≡ 12 =
    length-take-le 12 (crew ++ replicate 12 0) (simp (length-append, length-replicate) (omega arith)) in
    omega (arith, n)

-- all of them
records-long : (bytes : List ℕ) (n j : ℕ) → length (lanes_records (lanes_from bytes n j)) ≡ 16 * n
unfolding lanes_records lanes_from
records-long bytes zero j = refl
records-long bytes (suc n) j = simp length-append (omega (arith, record_long (lane_of (block_at bytes j)), records-long bytes n (j + 1)))

-- each at its own place
record_at : (bytes : List ℕ) (n j k : ℕ) → k < n →
    part (lanes_records (lanes_from bytes n j)) (16 * k) 16 ≡ lane_record (lane_of (block_at bytes (j + k)))
unfolding lanes_records lanes_from part
record_at bytes zero j k h = absurd (omega arith)
record_at bytes (suc n) j zero h =
    rw (add-zero j) (take_at (lane_record (lane_of (block_at bytes j))) (lanes_records (lanes_from bytes n (j + 1))) 16 (record_long (lane_of (block_at bytes j))))
record_at bytes (suc n) j (suc k) h =
    let p = lane_record (lane_of (block_at bytes j)) in
    let q : 16 * suc k ≡ length p + 16 * k = omega (arith, record_long (lane_of (block_at bytes j))) in
    let e : j + 1 + k ≡ j + suc k = omega arith in
    rw (q, ← e, drop-append-add p (lanes_records (lanes_from bytes n (j + 1))) (16 * k)) (record_at bytes n (j + 1) k (omega arith))

-- so in the bytes lent
put_record : (old bytes : List ℕ) (k : ℕ) → k < 8 → 128 ≤ length old →
    part (put old 0 128 (lanes_records (lanes_of bytes))) (16 * k) 16 ≡ lane_record (lane_of (block_at bytes k))
put_record old bytes k h l =
    let t = lanes_records (lanes_of bytes) in
    let n = records-long bytes 8 0 in
    let whole : part (put old 0 128 t) 0 128 ≡ t = part-put old 0 128 t (omega arith) (omega (arith, n)) ∙ take_all 128 t (omega (arith, n)) in
    (rw (zero-add (16 * k)) at (sym (part-part (put old 0 128 t) 0 128 (16 * k) 16 (omega arith))))
    ∙ ap (λ (s : List ℕ). part s (16 * k) 16) whole
    ∙ (rw (zero-add k) at (record_at bytes 8 0 k h))

module _ (c : Card) where
  -- a call is left its answer's reply as a number
  returned : (k : Call) (x : Answer) → (left_by reply_as c k x).reply ≡ reply_as x.reply
  returned (reads «open» codes count list out) x = refl
  returned (writes «open» codes count list «data» staging) x = refl

-- a set block that returns 0 was found
zero_found : (x : Result Unit Refusal) → answer_as x ≡ 0 → x ≡ (Ok tt)
zero_found (Ok tt) e = refl
zero_found (Err r) e = absurd (let z = zero_done (replies.Refused r) e in let y : ◌≡◌ {A = ℕ} 0 1 = cc in omega arith)

-- and a block of another length returns no 0
unfit_found : (x : Result Unit Refusal) → answer_as (unfit_after x) ≡ 0 → ⊥
unfit_found (Ok tt) e = omega arith
unfit_found (Err r) e = let z = zero_found (Err r) e in let y : ◌≡◌ {A = ℕ} 0 1 = cc in omega arith

module _ (c : Card) (z : length c.nodes ≡ 64) {n k : ℕ} {d : List ℕ} (a : List ℕ) where
  -- a call that returned 0 leaves what it brings
  call_holds : (x : LibraryCall) → (call_left c a x).reply ≡ 0 → DeedBrings n k d (call_deed x) → BlockHolds c n k d (call_arena c a x)
  unfolding set_answer set_after
  call_holds (requests q) e m = deed_holds c z a (requested (request_of q)) (zero_done _ (sym (returned c q _) ∙ e)) m
  call_holds (boards code old) e m = absurd m
  call_holds (sets code number bytes) e m =
      let l : eqb (length bytes) 16 ≡ true = eq-eqb (length bytes) 16 m.3 in
      rw l (deed_holds c z a (block_set code number bytes) (zero_found (block_judged c (length a) code number) (rw l at e)) m)

  -- one that does not name the block, or returned no 0, leaves what it holds
  call_leaves : BlockHolds c n k d a → (x : LibraryCall) → ((call_left c a x).reply ≡ 0 → DeedNames n k (call_deed x) → ⊥) →
      BlockHolds c n k d (call_arena c a x)
  unfolding set_answer set_after
  call_leaves h (requests q) f = deed_leaves c z a h (requested (request_of q)) (λ e m. f (returned c q _ ∙ ap reply_as e) m)
  call_leaves h (boards code old) f = h
  call_leaves h (sets code number bytes) f = by_test_lem (eqb (length bytes) 16) refl
    where
      by_test_lem : (t : Bool) → eqb (length bytes) 16 ≡ t → BlockHolds c n k d (cond t (arena_set c a code number bytes) a)
      by_test_lem true e = deed_leaves c z a h (block_set code number bytes) (λ q m. f (rw (e, q)) m)
      by_test_lem false e = h

-- so do calls
calls_leave : (c : Card) → length c.nodes ≡ 64 → {n k : ℕ} {d : List ℕ} (xs : List (Exchange LibraryCall (Left ℕ))) (a m : List ℕ) →
    BlockHolds c n k d a → CallsRan c a xs m → All (λ x. x.left.reply ≡ 0 → DeedNames n k (call_deed x.call) → ⊥) xs → BlockHolds c n k d m
calls_leave c z [] a m h r q = rw r h
calls_leave c z (x ∷ xs) a m h (b, left, r) q =
    let g = call_leaves c z a h x.call (λ e. q.0 (ap (λ (y : Left ℕ). y.reply) left.0 ∙ e)) in
    calls_leave c z xs b m (rw left.1 g) r q.1

-- on every card, which has 64 records, a board has what was brought last
pub library_shows : (c : Card) → length c.nodes ≡ 64 → LibraryShows c
library_shows c z n k d a w xs m code old h l f e =
    let (b, left, r) = h.ran in
    let first = call_holds c z a w.call (sym (ap (λ (y : Left ℕ). y.reply) left.0) ∙ h.done) h.brings in
    let next : BlockHolds c n k d b = rw left.1 first in
    let then = calls_leave c z xs b m next r h.quiet in
    let y = done-eight c z m code old e in
    let block : block_at (eight_of c m code) k ≡ d =
    ap (λ (s : List ℕ). block_at s k) (sym (eight-read c m code y)) ∙ (holds_shows c z then code l f y).block in
    ap (λ (s : List ℕ). part s (16 * k) 16) (has_records c z m code old e)
    ∙ put_record old (eight_of c m code) k l (wide c z m code old e).1
    ∙ ap (λ (b : List ℕ). lane_record (lane_of b)) block
