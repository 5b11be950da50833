-- What a card tells, written and read, comes back: with no premise but that it was told.
use Rattle.std.proofs.Common.{Result, Ok, Err}
use mathlib.Core.Path.{◌≡◌, refl, sym, ap, ◌∙◌}
use mathlib.Core.Bool.{Bool, true, false, cond, not}
use mathlib.Core.List.{List}
use Prim.Native.Nat.{ℕ, ◌*◌, ◌≤◌}
use native.Mathlib.Omega.{arith}
use lib.Dec.{ltb, leb}
use lib.ListN.{length, take}
use borrow.Author.Tests.{ltb-false, le-leb}
use Rattle.answers.specs.declared.refusal.Refusal.{Refusal}
use Rattle.answers.specs.declared.refusal.Refusal.TheVariants.{NotBuilt, ShortOutput}
use Rattle.answers.specs.Refusal.{refusal_number}
use Rattle.node_messages.specs.declared.code_list.Listed.{Listed}
use Rattle.node_messages.specs.declared.information.Informed.{Informed}
use Rattle.node_messages.specs.Message.{message_put, message_after}
use Rattle.node_messages.specs.CodeList.{list_refused, code_list_bytes, read_code_list}
use Rattle.node_messages.specs.Information.{information_bytes, read_information}
use Rattle.node_messages.proofs.Beyond.{stands}
use Rattle.card_build.specs.declared.card.Card.{Card}
use Rattle.card_build.specs.Card.{nodes_of, is_sound}
use Rattle.card_laws.specs.Children.{area_named}
use Rattle.card_lists.specs.Packet.{list_found, put_answered, out_answered, code_list_of, code_list_put, code_list_out}
use Rattle.card_lists.specs.Information.{blocks_told, blocks_put, blocks_out}
use Rattle.card_lists.proofs.Back.{code-list-back, blocks-back}
use Rattle.request_plan.specs.declared.Reply.TheVariants.{Refused as NotServed, Done as Served}
use Rattle.handset_bytes.specs.Card.{card_decoded}
use Rattle.handset_words.specs.Outcome.{refused_as, answer_as}
use Rattle.handset_words.specs.Message.{put_as, put_after, roomed_by, roomed, list_read, information_read}
use Rattle.law_calls.proofs.Library.{zero_done}
use Rattle.law_messages.specs.Told.{ListBack, list_sent, ListTaken, ListCalls, blocks_sent, InformationTaken, InformationCalls}
use Rattle.law_messages.proofs.Coded.{sound_coded}

-- a card that answers with a list is sound
pub list_sound : (c : Card) (parent p : ℕ) → (code_list_of c parent p).answer ≡ Ok tt → is_sound c ≡ true
unfolding code_list_of
list_sound c parent p e = by (is_sound c) e
  where
    by : (t : Bool) → (cond (not t) (list_refused NotBuilt) (list_found (nodes_of c) p (area_named (nodes_of c) parent))).answer ≡ Ok tt → t ≡ true
    by true k = refl
    by false k = absurd (let z : ◌≡◌ {A = ℕ} 0 1 = cc in (omega arith))

-- of every card, whatever it is
pub list-read-back : (c : Card) → ListBack c
list-read-back c parent p e = code-list-back c parent p (sound_coded c (list_sound c parent p e)) e

-- no refusal has number 0
pub refused_not_0 : {A : Type 0} (r : Refusal) → refused_as r ≡ 0 → A
refused_not_0 r e = let q : NotServed r ≡ Served = zero_done (NotServed r) e in absurd (let z : ◌≡◌ {A = ℕ} 0 1 = cc in (omega arith))

-- a message that was put, returning 0: it was answered, and stands in front of the output
record Sent (a : Result Unit Refusal) (message out : List ℕ) : Type 0 where
  told : a ≡ Ok tt
  same : take (put_after 0 (put_answered a message (length out))) (out_answered a message out) ≡ message

module _ (message out : List ℕ) where
  -- it was not too short
  stood : (t : Bool) → ltb (length out) (length message) ≡ t → put_as (message_put message (length out)) ≡ 0 →
      take (put_after 0 (message_put message (length out))) (message_after message out) ≡ message
  unfolding message_put
  stood true q k = refused_not_0 ShortOutput (rw q at k)
  stood false q k = rw q (stands message out (ltb-false (length out) (length message) q))

sent : (a : Result Unit Refusal) (message out : List ℕ) → put_as (put_answered a message (length out)) ≡ 0 → Sent a message out
sent (Err r) message out e = refused_not_0 r e
sent (Ok tt) message out e = record { told = refl; same = stood message out (ltb (length out) (length message)) refl e }

-- a reader's lists find room
roomed-done : (n room m rest : ℕ) → n ≤ room → m ≤ rest → roomed (Ok tt) n room m rest ≡ Ok tt
unfolding roomed
roomed-done n room m rest h k = rw (le-leb n room h, le-leb m rest k)

list-taken : {m : Listed} {message areas services : List ℕ} → m.answer ≡ Ok tt → read_code_list message ≡ m →
    2 * m.list.areas ≤ length areas → m.list.services ≤ length services → ListTaken m.list message areas services
list-taken {m = m} {message = message} {areas = areas} {services = services} d q h k =
    let e : list_read message (length areas) (length services) ≡ (Ok tt) =
    rw (q, d) (roomed-done (2 * m.list.areas) (length areas) m.list.services (length services) h k) in
    record {
      returns = rw e;
      ranges = rw (e, q);
      codes = rw (e, q);
      area_count = λ old. rw (e, q);
      service_count = λ old. rw (e, q);
      flag = λ old. rw (e, q);
    }

-- what the library wrote of a list is what the card answered
pub list_sent_lem : (s : List ℕ) (parent p : ℕ) (out : List ℕ) → put_as (code_list_put (card_decoded s) parent p (length out)) ≡ 0 →
    ((code_list_of (card_decoded s) parent p).answer ≡ Ok tt) × (read_code_list (list_sent s parent p out) ≡ code_list_of (card_decoded s) parent p)
unfolding code_list_put code_list_out
list_sent_lem s parent p out e =
    let m = code_list_of (card_decoded s) parent p in
    let x = sent m.answer (code_list_bytes m.list) out e in
    (x.told, ap read_code_list x.same ∙ list-read-back (card_decoded s) parent p x.told)

pub code-list-read : (s : List ℕ) → ListCalls s
code-list-read s parent p out areas services e h k =
    let x = list_sent_lem s parent p out e in
    list-taken x.0 x.1 h k

-- the same of block information
pub blocks_sent_lem : (s : List ℕ) (arena_len : ℕ) (asked out : List ℕ) → put_as (blocks_put (card_decoded s) arena_len asked (length out)) ≡ 0 →
    ((blocks_told (card_decoded s) arena_len asked).answer ≡ Ok tt) × (read_information (blocks_sent s arena_len asked out) ≡ blocks_told (card_decoded s) arena_len asked)
unfolding blocks_put blocks_out
blocks_sent_lem s arena_len asked out e =
    let m = blocks_told (card_decoded s) arena_len asked in
    let x = sent m.answer (information_bytes m.told) out e in
    (x.told, ap read_information x.same ∙ blocks-back (card_decoded s) arena_len asked x.told)

information_taken : {m : Informed} {message assigned free : List ℕ} → m.answer ≡ Ok tt → read_information message ≡ m →
    m.told.count ≤ length assigned → m.told.count ≤ length free → InformationTaken m.told message assigned free
information_taken {m = m} {message = message} {assigned = assigned} {free = free} d q h k =
    let e : information_read message (length assigned) (length free) ≡ (Ok tt) =
    rw (q, d) (roomed-done m.told.count (length assigned) m.told.count (length free) h k) in
    record { returns = rw e; counts = rw (e, q); frees = rw (e, q); nodes = λ old. rw (e, q) }

pub block_information_read : (s : List ℕ) → InformationCalls s
block_information_read s arena_len asked out assigned free e h k =
    let x = blocks_sent_lem s arena_len asked out e in
    information_taken x.0 x.1 h k
