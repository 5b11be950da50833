-- The flag of a packet is set exactly where the next one is answered.
use Rattle.std.proofs.Common.{Option, Some, None, Result, Ok, Err}
use mathlib.Core.Path.{◌≡◌, refl, sym, ap, ◌∙◌}
use mathlib.Core.Bool.{Bool, true, false, cond, not}
use mathlib.Core.List.{List}
use mathlib.Core.Logic.{◌↔◌}
use Prim.Native.Nat.{ℕ, suc, ◌+◌, ◌*◌, ◌≤◌}
use native.Mathlib.Omega.{arith}
use lib.Dec.{ltb}
use lib.ListN.{length}
use borrow.Author.Tests.{le-ltb}
use Rattle.answers.specs.declared.refusal.Refusal.TheVariants.{NotBuilt, PacketPastEnd}
use Rattle.node_messages.specs.declared.code_list.CodeList.{CodeList}
use Rattle.node_messages.specs.declared.code_list.Listed.{Listed}
use Rattle.node_messages.specs.Message.{message_put}
use Rattle.node_messages.specs.CodeList.{empty_list, list_told, list_refused, code_list_bytes, read_code_list}
use Rattle.node_messages.proofs.NumberLaws.{padded-long}
use Rattle.node_messages.proofs.Writes.{ListSized, list-long}
use Rattle.card_nodes.specs.declared.node.Node.{Node}
use Rattle.card_build.specs.declared.card.Card.{Card}
use Rattle.card_build.specs.Card.{nodes_of, is_sound}
use Rattle.card_laws.specs.Children.{area_named, children_at}
use Rattle.card_lists.specs.Packet.{list_of, packet_of, past_end, more_after, packet_told, list_found, put_answered, code_list_of, code_list_put}
use Rattle.card_lists.proofs.Packets.{more-next}
use Rattle.handset_bytes.specs.Card.{card_decoded}
use Rattle.handset_words.specs.Message.{put_as}
use Rattle.law_messages.specs.Told.{list_sent}
use Rattle.law_messages.specs.More.{MoreExactly, LibraryMore}
use Rattle.law_messages.proofs.Back.{refused_not_0, list_sent_lem}
use Rattle.answers.specs.declared.refusal.Refusal.{Refusal}

-- whether the next packet of some children is answered
abbrev Next : List Node → ℕ → Bool → Type 0
Next children p more = (more ≡ true) ↔ ((packet_told children (suc p)).answer ≡ Ok tt)

next : (children : List Node) (p : ℕ) → Next children p (more_after p (length children))
unfolding packet_told
next children p = rw (more-next p (length children)) (by (past_end (suc p) (length children)))
  where
    by : (t : Bool) → (not t ≡ true) ↔ ((cond t (list_refused PacketPastEnd)
        (list_told (list_of (more_after (suc p) (length children)) (packet_of children (suc p))))).answer ≡ Ok tt)
    by true = (λ e. absurd (let z : ◌≡◌ {A = ℕ} 0 1 = cc in (omega arith)), λ e. absurd (let z : ◌≡◌ {A = ℕ} 0 1 = cc in (omega arith)))
    by false = (λ e. refl, λ e. refl)

-- of a packet that is told
packet-next : (children : List Node) (p : ℕ) → (packet_told children p).answer ≡ Ok tt → Next children p (packet_told children p).list.more
unfolding packet_told
packet-next children p e = by (past_end p (length children)) e
  where
    by : (t : Bool) → (cond t (list_refused PacketPastEnd) (list_told (list_of (more_after p (length children)) (packet_of children p)))).answer ≡ Ok tt →
        Next children p (cond t (list_refused PacketPastEnd) (list_told (list_of (more_after p (length children)) (packet_of children p)))).list.more
    by true k = absurd (let z : ◌≡◌ {A = ℕ} 0 1 = cc in (omega arith))
    by false k = next children p

pub more_exactly : (c : Card) → MoreExactly c
unfolding code_list_of
more_exactly c parent p e = by (is_sound c) (area_named (nodes_of c) parent) e
  where
    by : (t : Bool) (f : Option ℕ) → (cond (not t) (list_refused NotBuilt) (list_found (nodes_of c) p f)).answer ≡ Ok tt →
        ((cond (not t) (list_refused NotBuilt) (list_found (nodes_of c) p f)).list.more ≡ true)
        ↔ ((cond (not t) (list_refused NotBuilt) (list_found (nodes_of c) (suc p) f)).answer ≡ Ok tt)
    by false f k = absurd (let z : ◌≡◌ {A = ℕ} 0 1 = cc in (omega arith))
    by true None k = absurd (let z : ◌≡◌ {A = ℕ} 0 1 = cc in (omega arith))
    by true (Some i) k = packet-next (children_at (nodes_of c) i) p k

-- the arrays of what a card answers have their lengths
list_sized : (c : Card) (parent p : ℕ) → ListSized (code_list_of c parent p).list
unfolding code_list_of packet_told
list_sized c parent p = by (is_sound c) (area_named (nodes_of c) parent)
  where
    empty : ListSized empty_list
    empty = record { ranges = refl; codes = refl }

    packet : (children : List Node) (t : Bool) →
        ListSized (cond t (list_refused PacketPastEnd) (list_told (list_of (more_after p (length children)) (packet_of children p)))).list
    packet children true = empty
    packet children false = record { ranges = padded-long 32 _; codes = padded-long 16 _ }

    by : (t : Bool) (f : Option ℕ) → ListSized (cond (not t) (list_refused NotBuilt) (list_found (nodes_of c) p f)).list
    by false f = empty
    by true None = empty
    by true (Some i) = packet (children_at (nodes_of c) i) (past_end p (length (children_at (nodes_of c) i)))

-- a list that is answered is written where there is room for any
written : (c : Card) (parent p room : ℕ) → 67 ≤ room → (code_list_of c parent p).answer ≡ Ok tt → put_as (code_list_put c parent p room) ≡ 0
unfolding code_list_put message_put
written c parent p room h e =
    let l = list-long (list_sized c parent p) in
    rw (e, le-ltb room (length (code_list_bytes (code_list_of c parent p).list)) (omega (arith, l)))

-- and only what is answered is written
answered : (c : Card) (parent p room : ℕ) → put_as (code_list_put c parent p room) ≡ 0 → (code_list_of c parent p).answer ≡ Ok tt
unfolding code_list_put
answered c parent p room e = by (code_list_of c parent p).answer e
  where
    by : (a : Result Unit Refusal) → put_as (put_answered a (code_list_bytes (code_list_of c parent p).list) room) ≡ 0 → a ≡ Ok tt
    by (Ok tt) k = refl
    by (Err r) k = refused_not_0 r k

pub library_more : (s : List ℕ) → LibraryMore s
library_more s parent p out room h e =
    let x = list_sent_lem s parent p out e in
    let m = more_exactly (card_decoded s) parent p x.0 in
    let q : (read_code_list (list_sent s parent p out)).list.more ≡ (code_list_of (card_decoded s) parent p).list.more = ap (λ (l : Listed). l.list.more) x.1 in
    (λ k. written (card_decoded s) parent (suc p) room h (m.0 (sym q ∙ k)), λ k. q ∙ m.1 (answered (card_decoded s) parent (suc p) room k))
