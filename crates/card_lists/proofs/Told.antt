-- The answers of the functions, over the records of a card.
use Rattle.std.proofs.Common.{Option, Some, None, Result, Ok, Err}
use mathlib.Core.Path.{◌≡◌, refl, sym, ◌∙◌, ap}
use mathlib.Core.Bool.{Bool, true, false, cond}
use mathlib.Core.List.{List, [], ◌∷◌, map}
use Prim.Native.Nat.{ℕ, ◌+◌, ◌-◌, ◌*◌, ◌≤◌, ◌<◌, min}
use native.Mathlib.Omega.{arith}
use lib.Dec.{ltb, leb}
use lib.ListN.{length, take, drop, get_or, replicate, length-map}
use borrow.Author.Tests.{ltb-false}
use Rattle.answers.specs.declared.refusal.Refusal.{Refusal}
use Rattle.answers.specs.declared.refusal.Refusal.TheVariants.{NotBuilt, ShortArena, TooManyNodes, ParentNoArea, PacketPastEnd}
use Rattle.byte_parts.specs.Part.{put, padded}
use Rattle.node_messages.specs.declared.code_list.Listed.{Listed}
use Rattle.node_messages.specs.declared.information.Informed.{Informed}
use Rattle.node_messages.specs.Message.{message_put, message_after}
use Rattle.node_messages.specs.CodeList.{list_refused, code_list_bytes}
use Rattle.node_messages.specs.Information.{information_told, information_refused, information_bytes}
use Rattle.node_messages.proofs.NumberLaws.{put-padded}
use Rattle.card_nodes.specs.declared.node.Node.{Node}
use Rattle.card_nodes.specs.Node.{root_node}
use Rattle.card_nodes.specs.Find.{is_area_of, area_of}
use Rattle.card_nodes.proofs.Records.{Records, found_taken, found_node}
use Rattle.card_admit.specs.Admit.{usable}
use Rattle.card_questions.specs.Total.{total_of}
use Rattle.card_build.specs.declared.card.Card.{Card}
use Rattle.card_build.specs.Card.{nodes_of, is_sound}
use Rattle.card_lists.specs.declared.gather.Gathered.{Gathered}
use Rattle.card_laws.specs.Children.{area_named, children_at}
use Rattle.card_lists.specs.Gather.{nothing_gathered, gathered_from}
use Rattle.card_lists.specs.Packet.{past_end, more_after, list_more, packet_told, list_found, code_list_of, code_list_put, code_list_out}
use Rattle.card_lists.specs.Information.{free_for, information_of, ahead_of, blocks_told, blocks_put, blocks_out}
use Rattle.card_laws.proofs.ChildLaws.{named}
use Rattle.card_lists.proofs.Gathering.{state_of, gathered_all}

module _ {nodes : List Node} {count : ℕ} (r : Records nodes count) (parent : ℕ) {f : Option ℕ} {at : ℕ} (told : f ≡ area_named (take count nodes) parent) (e : f ≡ Some at) where
  -- the area is one of the records
  pub area_index : at < min count 64
  area_index = found_taken r (is_area_of parent) refl (named (take count nodes) parent (sym told ∙ e))

  -- and the record there is the node
  pub area-node : (z : Node) → get_or (take count nodes) at root_node ≡ get_or nodes at z
  area-node z = found_node r (is_area_of parent) refl (named (take count nodes) parent (sym told ∙ e)) z

  module _ (p : ℕ) {g : Gathered} (w : g ≡ gathered_from (get_or nodes at root_node).depth (16 * p) nothing_gathered (drop (at + 1) (take count nodes))) where
    -- what is gathered, of the children of the area
    state : g ≡ state_of (16 * p) (children_at (take count nodes) at)
    state = w ∙ rw (area-node root_node) (gathered_all (get_or nodes at root_node).depth (16 * p) (drop (at + 1) (take count nodes)))

    -- 45
    pub past-told : {b : Bool} → b ≡ past_end p g.children → b ≡ true → list_refused PacketPastEnd ≡ list_found (take count nodes) p (area_named (take count nodes) parent)
    unfolding packet_told
    past-told x y =
        let n : past_end p (length (children_at (take count nodes) at)) ≡ true = ap (λ (s : Gathered). past_end p s.children) (sym state) ∙ sym x ∙ y in
        rw (sym told ∙ e, n)

    -- the packet
    pub packet-told : {b : Bool} → b ≡ past_end p g.children → b ≡ false →
        list_more g.list (ltb (16 * p + 16) g.children) ≡ list_found (take count nodes) p (area_named (take count nodes) parent)
    unfolding packet_told more_after
    packet-told x y =
        let n : past_end p (length (children_at (take count nodes) at)) ≡ false = ap (λ (s : Gathered). past_end p s.children) (sym state) ∙ sym x ∙ y in
        rw (sym told ∙ e, n) (ap (λ (s : Gathered). list_more s.list (ltb (16 * p + 16) s.children)) state)

-- 44
pub no_area : (ns : List Node) (p : ℕ) {f : Option ℕ} → f ≡ None → list_refused ParentNoArea ≡ list_found ns p f
no_area ns p e = rw e

-- block information that an answer refuses, and that is else told
abbrev unless : Informed → Result Unit Refusal → Informed
unless rest (Err r) = information_refused r
unless rest (Ok tt) = rest

-- 7 and 46 as one answer
as_one : (rest : Informed) (short many : Bool) →
    unless rest (cond short (Err ShortArena) (cond many (Err TooManyNodes) (Ok tt)))
    ≡ cond short (information_refused ShortArena) (cond many (information_refused TooManyNodes) rest)
as_one rest true many = refl
as_one rest false true = refl
as_one rest false false = refl

-- once nothing is ahead, few are asked
few : (short many : Bool) → ◌≡◌ {A = Result Unit Refusal} (cond short (Err ShortArena) (cond many (Err TooManyNodes) (Ok tt))) (Ok tt) → many ≡ false
few true many e = absurd (let z : ◌≡◌ {A = ℕ} 0 1 = cc in (omega arith))
few false true e = absurd (let z : ◌≡◌ {A = ℕ} 0 1 = cc in (omega arith))
few false false e = refl

-- block information: 8, what is ahead, the counts
module _ (c : Card) (arena_len : ℕ) (asked : List ℕ) where
  pub info_unsound : is_sound c ≡ false → information_refused NotBuilt ≡ blocks_told c arena_len asked
  unfolding blocks_told
  info_unsound s = rw s

  module _ (s : is_sound c ≡ true) {a : Result Unit Refusal} (told : a ≡ ahead_of arena_len c.used (length asked)) where
    ordered : {b : Result Unit Refusal} → a ≡ b → unless (information_of (nodes_of c) (usable arena_len - c.used) asked) b ≡ blocks_told c arena_len asked
    unfolding blocks_told ahead_of
    ordered e =
        ap (unless (information_of (nodes_of c) (usable arena_len - c.used) asked)) (sym e ∙ told)
        ∙ as_one (information_of (nodes_of c) (usable arena_len - c.used) asked) (ltb arena_len (16 * c.used)) (ltb 32 (length asked))
        ∙ rw s

    pub info_refused : {r : Refusal} → a ≡ Err r → information_refused r ≡ blocks_told c arena_len asked
    info_refused e = ordered e

    pub info_few : a ≡ Ok tt → length asked ≤ 32
    unfolding ahead_of
    info_few e = ltb-false 32 (length asked) (few (ltb arena_len (16 * c.used)) (ltb 32 (length asked)) (sym told ∙ e))

    pub info_told : {u : ℕ} {x : Informed} → a ≡ Ok tt → u ≡ usable arena_len - c.used → x ≡ information_of (nodes_of c) u asked → x ≡ blocks_told c arena_len asked
    info_told e k q = q ∙ ap (λ (n : ℕ). information_of (nodes_of c) n asked) k ∙ ordered e

-- the counts of the first i nodes, in front of zeros
abbrev counted : (ℕ → ℕ) → List ℕ → ℕ → List ℕ
counted f asked i = put (replicate 32 0) 0 i (map f asked)

-- all of them
all_counted_lem : (f : ℕ → ℕ) (asked : List ℕ) → length asked ≤ 32 → counted f asked (length asked) ≡ padded 32 (map f asked)
all_counted_lem f asked h = put-padded 32 (length asked) (map f asked) (length-map asked f) h

-- both counts of all nodes
pub info_all : (ns : List Node) (unused : ℕ) (asked : List ℕ) {assigned free : List ℕ} → length asked ≤ 32 →
    assigned ≡ counted (total_of ns) asked (length asked) → free ≡ counted (free_for ns unused) asked (length asked) →
    information_told (record { count = length asked; assigned = assigned; free = free }) ≡ information_of ns unused asked
info_all ns unused asked h a f = rw (a, f, all_counted_lem (total_of ns) asked h, all_counted_lem (free_for ns unused) asked h)

-- an answer as bytes: a refusal, or what the writer makes of the message
module _ (c : Card) (parent p : ℕ) (out : List ℕ) {x : Listed} (e : x ≡ code_list_of c parent p) where
  answer-list : {a : Result Unit Refusal} → x.answer ≡ a → (code_list_of c parent p).answer ≡ a
  answer-list q = ap (λ (l : Listed). l.answer) (sym e) ∙ q

  pub list-refused : {r : Refusal} → x.answer ≡ Err r → (Err r ≡ code_list_put c parent p (length out)) × (out ≡ code_list_out c parent p out)
  unfolding code_list_put code_list_out
  list-refused q = (rw (answer-list q), rw (answer-list q))

  pub list_written : {said : Result ℕ Refusal} {after : List ℕ} → x.answer ≡ Ok tt → said ≡ message_put (code_list_bytes x.list) (length out) → after ≡ message_after (code_list_bytes x.list) out →
      (said ≡ code_list_put c parent p (length out)) × (after ≡ code_list_out c parent p out)
  unfolding code_list_put code_list_out
  list_written q s a = (s ∙ rw (answer-list q, e), a ∙ rw (answer-list q, e))

module _ (c : Card) (arena_len : ℕ) (asked out : List ℕ) {x : Informed} (e : x ≡ blocks_told c arena_len asked) where
  answer-blocks : {a : Result Unit Refusal} → x.answer ≡ a → (blocks_told c arena_len asked).answer ≡ a
  answer-blocks q = ap (λ (l : Informed). l.answer) (sym e) ∙ q

  pub blocks-refused : {r : Refusal} → x.answer ≡ Err r → (Err r ≡ blocks_put c arena_len asked (length out)) × (out ≡ blocks_out c arena_len asked out)
  unfolding blocks_put blocks_out
  blocks-refused q = (rw (answer-blocks q), rw (answer-blocks q))

  pub blocks-written : {said : Result ℕ Refusal} {after : List ℕ} → x.answer ≡ Ok tt → said ≡ message_put (information_bytes x.told) (length out) → after ≡ message_after (information_bytes x.told) out →
      (said ≡ blocks_put c arena_len asked (length out)) × (after ≡ blocks_out c arena_len asked out)
  unfolding blocks_put blocks_out
  blocks-written q s a = (s ∙ rw (answer-blocks q, e), a ∙ rw (answer-blocks q, e))
