-- Following the flag from packet 0 on tells each child once.
use mathlib.Core.Path.{◌≡◌, refl, sym, ap, ◌∙◌, subst}
use mathlib.Core.Bool.{Bool, true, false, cond, not}
use mathlib.Core.List.{List, [], ◌∷◌, ◌++◌, append-nil}
use Prim.Native.Nat.{ℕ, zero, suc, ◌+◌, ◌*◌, ◌≤◌, ◌<◌, min}
use native.Mathlib.Omega.{arith}
use lib.Dec.{eqb, ltb, leb}
use lib.ListN.{length, get_or, take, drop, length-take, length-drop, drop_of_length-le, take-append-drop}
use lib.Seq.{take_all, drop-drop}
use borrow.Author.Tests.{ltb-false}
use Rattle.node_messages.specs.declared.code_list.CodeList.{CodeList}
use Rattle.node_messages.specs.declared.code_list.Listed.{Listed}
use Rattle.node_messages.specs.CodeList.{ranges_of, codes_listed, list_told}
use Rattle.card_nodes.specs.declared.node.Node.{Node}
use Rattle.card_nodes.specs.Node.{root_node}
use Rattle.card_questions.specs.ListingWorded.{pairs_of}
use Rattle.card_sound.proofs.Laws.{sound_count}
use Rattle.card_build.specs.declared.card.Card.{Card}
use Rattle.card_build.specs.Card.{nodes_of, is_sound}
use Rattle.card_laws.specs.Children.{area_named, children_under, children_at}
use Rattle.card_lists.specs.Packet.{among, ranges_among, codes_among, list_of, packet_of, past_end, more_after, packet_told, code_list_of}
use Rattle.card_lists.proofs.Among.{ranges-append, codes-append}
use Rattle.card_lists.proofs.Packets.{packet-few, list-ranges, list-codes, first_exists, more-next}
use Rattle.law_messages.specs.More.{followed, entries_in, AllAnswered, TellsAll, CardTellsAll}

-- answers that are the same are followed the same
same_followed : (f g : ℕ → Listed) → ((p : ℕ) → f p ≡ g p) → (k p : ℕ) → followed f k p ≡ followed g k p
unfolding followed
same_followed f g e zero p = refl
same_followed f g e (suc k) p = rw (e p, same_followed f g e k (suc p))

module _ (children : List Node) where
  -- the packet from p on, and whether more follow
  abbrev packet : ℕ → Listed
  packet p = list_told (list_of (more_after p (length children)) (packet_of children p))

  here : (p : ℕ) → past_end p (length children) ≡ false → packet_told children p ≡ packet p
  unfolding packet_told
  here p e = rw e

  -- where more follow there is a next packet, and where none do all are told
  exists : (p : ℕ) → more_after p (length children) ≡ true → past_end (suc p) (length children) ≡ false
  exists p e = turned (past_end (suc p) (length children)) (sym (more-next p (length children)) ∙ e)
    where
      turned : (t : Bool) → not t ≡ true → t ≡ false
      turned true k = absurd (let z : ◌≡◌ {A = ℕ} 0 1 = cc in (omega arith))
      turned false k = refl

  few : (p : ℕ) → more_after p (length children) ≡ false → length children ≤ 16 * p + 16
  unfolding more_after
  few p e = ltb-false (16 * p + 16) (length children) e

  -- the children of a packet, and those after it
  split : (p : ℕ) → packet_of children p ++ drop (16 * suc p) children ≡ drop (16 * p) children
  split p =
      let e : 16 * suc p ≡ 16 * p + 16 = omega arith in
      rw (e, sym (drop-drop 16 (16 * p) children)) (take-append-drop 16 (drop (16 * p) children))

  -- the last packet has all that are left
  last : (p : ℕ) → length children ≤ 16 * p + 16 → packet_of children p ≡ drop (16 * p) children
  last p h = take_all 16 (drop (16 * p) children) (simp length-drop (omega arith))

  -- what is taken of each packet, from p on, is taken of all children from 16 p on
  module _ (part : CodeList → List ℕ) (f : List Node → List ℕ) (nil : f [] ≡ []) (app : (xs ys : List Node) → f (xs ++ ys) ≡ f xs ++ f ys)
      (tells : (more : Bool) (xs : List Node) → length xs ≤ 16 → part (list_of more xs) ≡ f xs) where
    from : (k p : ℕ) → past_end p (length children) ≡ false → length children ≤ 16 * (p + k) →
        entries_in part (followed (packet_told children) k p) ≡ f (drop (16 * p) children)
    unfolding followed entries_in
    from zero p e h = let z : length children ≤ 16 * p = omega arith in sym (ap f (drop_of_length-le children z) ∙ nil)
    from (suc k) p e h =
        rw (here p e, tells (more_after p (length children)) (packet_of children p) (packet-few children p))
        (by (λ q. from k (suc p) q (omega arith)) (more_after p (length children)) refl)
      where
        by : (past_end (suc p) (length children) ≡ false → entries_in part (followed (packet_told children) k (suc p)) ≡ f (drop (16 * suc p) children)) →
            (t : Bool) → more_after p (length children) ≡ t →
            f (packet_of children p) ++ entries_in part (cond t (followed (packet_told children) k (suc p)) []) ≡ f (drop (16 * p) children)
        by rest true q = rw (rest (exists p q)) (sym (app (packet_of children p) (drop (16 * suc p) children)) ∙ ap f (split p))
        by rest false q = append-nil (f (packet_of children p)) ∙ ap f (last p (few p q))

    all : (k : ℕ) → length children ≤ 16 * k → entries_in part (followed (packet_told children) k 0) ≡ f children
    all k h = from k 0 (first_exists (length children)) (omega arith)

  -- each that is asked for is answered
  answered : (k p : ℕ) → past_end p (length children) ≡ false → AllAnswered (followed (packet_told children) k p)
  unfolding followed
  answered zero p e = tt
  answered (suc k) p e = rw (here p e) (refl, by (λ q. answered k (suc p) q) (more_after p (length children)) refl)
    where
      by : (past_end (suc p) (length children) ≡ false → AllAnswered (followed (packet_told children) k (suc p))) →
          (t : Bool) → more_after p (length children) ≡ t → AllAnswered (cond t (followed (packet_told children) k (suc p)) [])
      by rest true q = rest (exists p q)
      by rest false q = tt

-- an area has no more children than nodes follow it
children_few : (d : ℕ) (ns : List Node) → length (children_under d ns) ≤ length ns
unfolding children_under
children_few d [] = omega arith
children_few d (n ∷ ns) = by (leb n.depth d) (eqb n.depth (d + 1)) (children_few d ns)
  where
    by : (t u : Bool) → length (children_under d ns) ≤ length ns → length (cond t [] (cond u (n ∷ children_under d ns) (children_under d ns))) ≤ suc (length ns)
    by true u h = omega arith
    by false true h = omega (arith, h)
    by false false h = omega (arith, h)

-- so a sound card's area has at most 64
children_64 : (c : Card) → is_sound c ≡ true → (i : ℕ) → length (children_at (nodes_of c) i) ≤ 64
children_64 c s i =
    let most = (sound_count c.nodes c.count c.used s).most in
    let few : length (drop (i + 1) (nodes_of c)) ≤ c.count = simp (length-drop, length-take) (omega arith) in
    omega (arith, children_few (get_or (nodes_of c) i root_node).depth (drop (i + 1) (nodes_of c)), few, most)

pub card_tells_all : (c : Card) → CardTellsAll c
unfolding code_list_of among pairs_of
card_tells_all c s parent i k found four =
    let children = children_at (nodes_of c) i in
    let few : length children ≤ 16 * k = omega (arith, children_64 c s i) in
    let same : followed (code_list_of c parent) k 0 ≡ followed (packet_told children) k 0 =
    same_followed (code_list_of c parent) (packet_told children) (λ p. rw (s, found)) k 0 in
    record {
      areas = ap (entries_in ranges_of) same ∙ all children ranges_of ranges_among refl ranges-append list-ranges k few;
      services = ap (entries_in codes_listed) same ∙ all children codes_listed codes_among refl codes-append list-codes k few;
      answered = subst AllAnswered (sym same) (answered children k 0 (first_exists (length children)));
    }
