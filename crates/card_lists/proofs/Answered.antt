-- What a built card answers for an area: its packets, one after the other, tell all of its children.
use Rattle.std.proofs.Common.{Some}
use mathlib.Core.Path.{◌≡◌, refl, sym, ◌∙◌, ap}
use mathlib.Core.Bool.{Bool, true, false, cond}
use mathlib.Core.List.{List, []}
use Prim.Native.Nat.{ℕ, zero, suc, ◌+◌, ◌*◌, ◌≤◌, ◌<◌}
use native.Mathlib.Omega.{arith}
use lib.ListN.{length, take, drop, drop_of_length-le}
use borrow.Author.Tests.{leb-true, ne_eqb}
use Rattle.answers.specs.declared.refusal.Refusal.TheVariants.{PacketPastEnd}
use Rattle.node_messages.specs.CodeList.{ranges_of, codes_listed, list_told, list_refused}
use Rattle.card_nodes.specs.declared.node.Node.{Node}
use Rattle.card_questions.specs.ListingWorded.{pairs_of}
use Rattle.card_build.specs.declared.card.Card.{Card}
use Rattle.card_build.specs.Card.{nodes_of}
use Rattle.card_laws.specs.Built.{Built}
use Rattle.card_laws.proofs.Built.{built_sound}
use Rattle.card_laws.specs.Children.{area_named, children_at}
use Rattle.card_lists.specs.Packet.{among, ranges_among, codes_among, list_of, packet_of, past_end, more_after, packet_told, code_list_of, packets_joined}
use Rattle.card_lists.proofs.Packets.{packet-few, list-ranges, list-codes, ranges-all, codes_all}

-- a packet past the end has no child
past-empty : (children : List Node) (p : ℕ) → past_end p (length children) ≡ true → packet_of children p ≡ []
unfolding past_end
past-empty children zero e = absurd (let z : ◌≡◌ {A = ℕ} 0 1 = cc in (omega arith))
past-empty children (suc p) e =
    let h : length children ≤ 16 * suc p = leb-true (length children) (16 * suc p) (rw (ne_eqb (suc p) 0 (λ q. omega arith)) at e) in
    rw (drop_of_length-le children h)

-- what a packet tells: its areas and its services
told-ranges : (children : List Node) (p : ℕ) → ranges_of (packet_told children p).list ≡ ranges_among (packet_of children p)
unfolding packet_told among pairs_of
told-ranges children p = by (past_end p (length children)) refl
  where
    by : (t : Bool) → past_end p (length children) ≡ t →
        ranges_of (cond t (list_refused PacketPastEnd) (list_told (list_of (more_after p (length children)) (packet_of children p)))).list ≡ ranges_among (packet_of children p)
    by true e = rw (past-empty children p e)
    by false e = list-ranges (more_after p (length children)) (packet_of children p) (packet-few children p)

told-codes : (children : List Node) (p : ℕ) → codes_listed (packet_told children p).list ≡ codes_among (packet_of children p)
unfolding packet_told among
told-codes children p = by (past_end p (length children)) refl
  where
    by : (t : Bool) → past_end p (length children) ≡ t →
        codes_listed (cond t (list_refused PacketPastEnd) (list_told (list_of (more_after p (length children)) (packet_of children p)))).list ≡ codes_among (packet_of children p)
    by true e = rw (past-empty children p e)
    by false e = list-codes (more_after p (length children)) (packet_of children p) (packet-few children p)

-- packets that tell the same are the same one after the other
same_joined : {A : Type 0} (f g : ℕ → List A) → ((p : ℕ) → f p ≡ g p) → (k : ℕ) → packets_joined f k ≡ packets_joined g k
unfolding packets_joined
same_joined f g e zero = refl
same_joined f g e (suc k) = rw (same_joined f g e k, e k)

module _ {c : Card} (b : Built c) (parent : ℕ) {i : ℕ} (found : area_named (nodes_of c) parent ≡ Some i) where
  -- each packet is that of the area's direct children
  pub answers : (p : ℕ) → code_list_of c parent p ≡ packet_told (children_at (nodes_of c) i) p
  unfolding code_list_of
  answers p = rw (built_sound b, found)

  module _ (k : ℕ) (h : length (children_at (nodes_of c) i) ≤ 16 * k) where
    -- packets 0 to k - 1 tell every area among the children once, in tree order
    pub all-areas : packets_joined (λ p. ranges_of (code_list_of c parent p).list) k ≡ ranges_among (children_at (nodes_of c) i)
    all-areas =
        same_joined _ _ (λ p. rw (answers p) (told-ranges (children_at (nodes_of c) i) p)) k ∙ ranges-all (children_at (nodes_of c) i) k h

    -- and every service
    pub all-services : packets_joined (λ p. codes_listed (code_list_of c parent p).list) k ≡ codes_among (children_at (nodes_of c) i)
    all-services =
        same_joined _ _ (λ p. rw (answers p) (told-codes (children_at (nodes_of c) i) p)) k ∙ codes_all (children_at (nodes_of c) i) k h
