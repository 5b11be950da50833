-- A refresh shows the board worked out from the store as it stands at that line. Read specs/Shown.antt for the statements: `PrintsBoard`
-- and `ReadsStore`.
use Rattle.std.specs.Prelude.{Err, Ok}
use Rattle.std.proofs.Common.{Option, Some, None, Result}
use Prim.Native.Nat.{ℕ, zero, suc, ◌+◌, ◌*◌, ◌≤◌}
use native.Mathlib.Omega.{arith}
use native.Mathlib.Nat.{zero-add, suc-add}
use mathlib.Core.Path.{◌≡◌, refl, sym, ap, ap₂, ◌∙◌}
use mathlib.Core.Bool.{true, false, false≢true, and-eq-true_iff}
use lib.Dec.{eqb}
use mathlib.Core.List.{List, [], ◌∷◌, ◌++◌}
use lib.ListN.{length, take, drop, get_or}
use lib.Seq.{take-nil, drop-drop}
use Rattle.byte_parts.specs.Part.{part}
use Rattle.block_list.specs.Element.{unpack_at, elements_from}
use Rattle.card_nodes.specs.Node.{root_node, is_service, start_of, blocks_of}
use Rattle.card_nodes.specs.Find.{is_service_of, service_of}
use Rattle.card_nodes.specs.declared.node.Entry.{Entry}
use Rattle.card_nodes.specs.declared.node.Entry.TheVariants.{Area, Service}
use Rattle.card_nodes.proofs.Searches.{first_found}
use Rattle.card_build.specs.declared.card.Card.{Card}
use Rattle.card_build.specs.Card.{nodes_of}
use Rattle.request_check.specs.Row.{row_of, row_at, row_by}
use Rattle.request_plan.specs.declared.Reply.{Reply}
use Rattle.request_plan.specs.declared.Reply.TheVariants as replies
use Rattle.request_plan.specs.Plan.{rows_in, elements_in}
use Rattle.request_plan.specs.Serve.{store_in, blocks_read, length_read}
use Rattle.request_plan.proofs.Accepted.{accepted, blocks_given, each_passed, good_at}
use Rattle.request_plan.proofs.ReadLaws.{read-said}
use Rattle.board_lanes.specs.Board.{board_judged, board_of, board_by}
use Rattle.board_read.specs.Refresh.{eight_blocks, board_request, board_served, refreshed_by, refreshed_after, refreshed}
use Rattle.board_line.specs.Line.{refreshed_text, board_line_text}
use Rattle.law_lines.specs.Shown.{code_store, eight_of, board_text, shown_text, PrintsBoard, Eight, ReadsStore}
use Rattle.board_lanes.specs.declared.refusal.BoardRefusal.{BoardRefusal}

-- a front, and a front of the rest
take_more : (n m : ℕ) (s : List ℕ) → take n s ++ take m (drop n s) ≡ take (n + m) s
take_more zero m s = rw (zero-add m)
take_more (suc n) m [] = rw (suc-add n m) (take-nil m)
take_more (suc n) m (x ∷ s) = rw (suc-add n m) (ap (λ (t : List ℕ). x ∷ t) (take_more n m s))

-- a part, and the part after it
part-more : (s : List ℕ) (at n m : ℕ) → part s at n ++ part s (at + n) m ≡ part s at (n + m)
unfolding part
part-more s at n m = rw (← drop-drop n at s) (take_more n m (drop at s))

-- n blocks of a store from k on, one after the other
unfoldable blocks_from : List ℕ → ℕ → ℕ → List ℕ
blocks_from s zero k = []
blocks_from s (suc n) k = part s (16 * k) 16 ++ blocks_from s n (k + 1)

-- they are one part of it
blocks-part : (s : List ℕ) (n k : ℕ) → blocks_from s n k ≡ part s (16 * k) (16 * n)
unfolding blocks_from part
blocks-part s zero k = refl
blocks-part s (suc n) k =
    let x : 16 * (k + 1) ≡ 16 * k + 16 = omega arith in
    let y : 16 * suc n ≡ 16 + 16 * n = omega arith in
    rw (blocks-part s n (k + 1), x, y) (part-more s (16 * k) 16 (16 * n))

module _ (c : Card) (a : List ℕ) (code : ℕ) (e : (board_served c a code 128).reply ≡ replies.Done) where
  -- the eight blocks that are read are the first of the store
  pub eight-read : (board_served c a code 128).read ≡ eight_of c a code
  unfolding unpack_at elements_from blocks_read blocks_from
  eight-read = blocks_given c a (board_request code 128) e refl ∙ blocks-part (code_store c a code) 8 0

  -- the last of the elements passed its check
  eight-blocks : 8 ≤ (row_of (nodes_of c) code).blocks
  unfolding unpack_at elements_from
  eight-blocks =
      let r = board_request code 128 in
      let g = good_at (rows_in c r) false false (elements_in r) 7 (each_passed (accepted c a r e)) (omega arith) in
      omega (arith, g.number)

  -- the code's row is that of its first service
  pub store_is : length c.nodes ≡ 64 → Eight c a code
  unfolding row_of
  store_is z = by_found (service_of (nodes_of c) code) refl eight-blocks
    where
      -- the node's entry gives the row
      by_entry_lem : (n : Entry) → is_service n ≡ true →
          ((row_by code n).start ≡ start_of n) × ((row_by code n).blocks ≡ blocks_of n)
      by_entry_lem (Area end) h = absurd (false≢true h)
      by_entry_lem (Service start blocks limit) h = (refl, refl)

      by_found : (f : Option ℕ) → service_of (nodes_of c) code ≡ f → 8 ≤ (row_at (nodes_of c) code f).blocks → Eight c a code
      by_found None q h = absurd (omega arith)
      by_found (Some i) q h =
          let n = get_or (nodes_of c) i root_node in
          let f = first_found (is_service_of code) (nodes_of c) q in
          let s = by_entry_lem n.entry ((and-eq-true_iff (eqb n.code code) (is_service n.entry)).0 f.passes).1 in
          record {
            bytes = eight-read;
            long =
                sym (ap length eight-read)
                ∙ (read-said c a false (code ∷ []) 8 eight_blocks 128 z).long
                ∙ ap (λ (x : Reply). length_read x 8) e;
            node = i;
            service = f.passes;
            first = f.before;
            store =
                ap (λ (f : Option ℕ). store_in a (row_at (nodes_of c) code f)) q
                ∙ ap₂ (λ (x y : ℕ). part a (16 * x) (16 * y)) s.0 s.1;
            blocks = omega (arith, s.1);
          }

-- what is printed of the blocks read, once judged
by_judged : (ordinal : ℕ) (bytes : List ℕ) (j : Result Unit BoardRefusal) → refreshed_text ordinal bytes (refreshed_by j) ≡ board_text ordinal (board_by bytes j)
by_judged ordinal bytes (Ok tt) = refl
by_judged ordinal bytes (Err x) = refl

-- the line prints the board of the store as it stands, or the refusal
pub prints_board : PrintsBoard
unfolding board_line_text refreshed board_of
prints_board c a line ordinal code k = rw k (by_reply (board_served c a code 128).reply refl)
  where
    by_reply : (x : Reply) → (board_served c a code 128).reply ≡ x →
        refreshed_text ordinal (board_served c a code 128).read (refreshed_after (board_served c a code 128) x)
        ≡ shown_text ordinal x (board_of (eight_of c a code))
    by_reply (replies.Refused r) q = refl
    by_reply replies.Done q =
        rw (eight-read c a code q) (by_judged ordinal (eight_of c a code) (board_judged (eight_of c a code)))
    by_reply replies.ShortData q = refl
    by_reply (replies.Failed i f) q = refl

-- what is printed where the card answers 00 00
pub done-text : (c : Card) (a : List ℕ) (ordinal code : ℕ) → (board_served c a code 128).reply ≡ replies.Done →
    shown_text ordinal (board_served c a code 128).reply (board_of (eight_of c a code))
    ≡ board_text ordinal (board_of (board_served c a code 128).read)
done-text c a ordinal code d = rw d (ap (λ (x : List ℕ). board_text ordinal (board_of x)) (sym (eight-read c a code d)))

-- on every card, which has 64 records, what was read are the first eight blocks of the store of the code's first service
pub reads-store : (c : Card) → length c.nodes ≡ 64 → ReadsStore c
reads-store c z a code e = store_is c a code e z
