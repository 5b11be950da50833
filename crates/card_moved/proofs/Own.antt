-- A system that a walk goes over, begun at any block, has a card of its own; and back, while its blocks fit. Assumes nothing.
use Rattle.std.proofs.Common.{Some, None}
use Prim.Native.Nat.{ℕ, suc, ◌+◌, ◌-◌, ◌≤◌}
use native.Mathlib.Omega.{arith}
use native.Mathlib.Nat.{add-zero}
use mathlib.Core.Path.{◌≡◌, refl, sym, ap, ◌∙◌, subst}
use mathlib.Core.Bool.{Bool, true, false, cond, not, ◌&&◌}
use mathlib.Core.List.{List, [], ◌∷◌, ◌++◌}
use lib.Dec.{eqb}
use lib.ListN.{length, drop, replicate, length-append, length-replicate, length-map}
use lib.Seq.{take-append_seam, drop-append_seam}
use Rattle.card_nodes.specs.declared.node.Entry.{Entry}
use Rattle.card_nodes.specs.declared.node.Entry.TheVariants.{Area, Service}
use Rattle.card_nodes.specs.declared.node.Node.{Node}
use Rattle.card_nodes.specs.Node.{root_node}
use Rattle.card_sound.specs.Sound.{root_end, is_root, all_roots, steps_from}
use Rattle.card_build.specs.declared.card.System.{System}
use Rattle.card_build.specs.declared.card.Card.{Card}
use Rattle.card_build.specs.Card.{nodes_of}
use Rattle.card_laws.specs.Built.{Built}
use Rattle.card_laws.proofs.Built.{built_sound, sound_built}
use Rattle.card_laws.proofs.Laid.{sized, laid}
use Rattle.card_moved.specs.Moved.{moved_entry, moved_node, moved, StoresWithin}
use Rattle.card_moved.specs.Own.{OwnCard}
use Rattle.card_moved.specs.Two.{system_from}
use Rattle.card_moved.proofs.Looks.{moved_zero}
use Rattle.card_moved.proofs.Accepted.{no_stop}
use Rattle.card_moved.proofs.Begun.{steps_own, steps_back, steps_most}
use Rattle.card_moved.proofs.Sound.{unused_roots, sound_walked, walked_sound_lem, one_sound, root_node_lem}

-- what goes is a root, and a walk over the records after it
system_walked : (k w : ℕ) (n : Node) (ns : List Node) → system_from k (n ∷ ns) ≡ Some w →
    (is_root n ≡ true) × (steps_from (n ∷ []) k ns ≡ Some w)
unfolding system_from
system_walked k w n ns e = by_root (is_root n) e
  where
    by_root : (b : Bool) → cond (not b) None (steps_from (n ∷ []) k ns) ≡ Some w → (b ≡ true) × (steps_from (n ∷ []) k ns ≡ Some w)
    by_root true g = (refl, g)
    by_root false g = no_stop g

-- and back
walked_system : (k w : ℕ) (n : Node) (ns : List Node) → is_root n ≡ true → steps_from (n ∷ []) k ns ≡ Some w → system_from k (n ∷ ns) ≡ Some w
unfolding system_from
walked_system k w n ns r e = rw r e

-- a system that goes has a record
pub system-some : (k w : ℕ) (ns : List Node) → system_from k ns ≡ Some w → 1 ≤ length ns
unfolding system_from
system-some k w [] e = no_stop e
system-some k w (n ∷ ns) e = omega arith

-- and at most 4,096 blocks in use after it
pub system-most : (k w : ℕ) (ns : List Node) → system_from k ns ≡ Some w → k ≤ 4096 → w ≤ 4096
unfolding system_from
system-most k w [] e h = no_stop e
system-most k w (n ∷ ns) e h = steps_most (n ∷ []) k ns (system_walked k w n ns e).1 h

-- records that are walked over from block 0 on, with the root ahead of them and unused ones behind
module _ (system : System) (used : ℕ) (ns : List Node) where
  -- their card
  abbrev card_with : Card
  card_with = record {
    nodes = (root_node ∷ ns) ++ replicate (64 - length (root_node ∷ ns)) root_node;
    count = length (root_node ∷ ns);
    used = used;
    system = system;
  }

  -- it has these nodes
  card-nodes : nodes_of card_with ≡ root_node ∷ ns
  card-nodes = take-append_seam (root_node ∷ ns) (replicate (64 - length (root_node ∷ ns)) root_node)

  -- and was built
  card-built : length (root_node ∷ ns) ≤ 64 → steps_from (root_node ∷ []) 0 ns ≡ Some used → Built card_with
  unfolding is_root
  card-built few e =
      let rest = replicate (64 - length (root_node ∷ ns)) root_node in
      let long : length card_with.nodes ≡ 64 =
      length-append (root_node ∷ ns) rest ∙ ap (λ n. length (root_node ∷ ns) + n) (length-replicate (64 - length (root_node ∷ ns)) root_node)
      ∙ omega (arith, few) in
      let unused : all_roots (drop card_with.count card_with.nodes) ≡ true =
      ap all_roots (drop-append_seam (root_node ∷ ns) rest) ∙ unused_roots (64 - length (root_node ∷ ns)) in
      let goes : system_from 0 (nodes_of card_with) ≡ Some used = ap (system_from 0) card-nodes ∙ walked_system 0 used root_node ns refl e in
      sound_built card_with long
      (one_sound card_with.nodes card_with.count used long
      ∙ walked_sound_lem card_with.nodes card_with.count used (system_from 0 (nodes_of card_with)) few unused goes)

-- A system that a walk goes over from block k on has a card of its own.
pub own_card : (system : System) (k w : ℕ) (ns : List Node) → length ns ≤ 64 → system_from k ns ≡ Some w → OwnCard system k w ns
unfolding system_from
own_card system k w [] h e = no_stop e
own_card system k w (n ∷ ms) h e =
    let g = system_walked k w n ms e in
    let r = root_node_lem n g.0 in
    subst (λ (m : Node). OwnCard system k w (m ∷ ms)) (sym r) (rooted (subst (λ (m : Node). steps_from (m ∷ []) k ms ≡ Some w) r g.1))
  where
    rooted : steps_from (root_node ∷ []) k ms ≡ Some w → OwnCard system k w (root_node ∷ ms)
    rooted goes =
        let o = steps_own k (root_node ∷ []) 0 ms {w = w} (rw (add-zero k) goes) in
        let n : length o.0 ≡ length ms = sym (ap length o.2 ∙ length-map o.0 (moved_node k)) in
        record {
          card = card_with system o.1 o.0;
          built = card-built system o.1 o.0 (omega (arith, n, h)) o.4;
          records = ap (λ (l : List Node). root_node ∷ l) o.2 ∙ ap (moved k) (sym (card-nodes system o.1 o.0));
          blocks = o.3;
          count = ap suc n;
          named = refl;
        }

-- a root stays one
root_moved_lem : (k : ℕ) (n : Node) → is_root (moved_node k n) ≡ is_root n
unfolding is_root
root_moved_lem k n = ap (λ b. eqb n.depth 0 && (eqb n.code 0 && (eqb n.version 0 && b))) (by_entry_lem n.entry)
  where
    by_entry_lem : (e : Entry) → root_end (moved_entry k e) ≡ root_end e
    by_entry_lem (Area e) = refl
    by_entry_lem (Service s b l) = refl

-- a system that goes from block 0 on goes from block k on, moved, while its blocks fit
system-moved : (k u : ℕ) (ns : List Node) → system_from 0 ns ≡ Some u → k + u ≤ 4096 → system_from k (moved k ns) ≡ Some (k + u)
unfolding system_from
system-moved k u [] e h = no_stop e
system-moved k u (n ∷ ns) e h =
    let g = system_walked 0 u n ns e in
    walked_system k (k + u) (moved_node k n) (moved k ns) (root_moved_lem k n ∙ g.0)
    (rw (add-zero k) at (steps_back k (n ∷ []) 0 ns {w = u} g.1 h))

-- And back: a walk from block k on goes over a system that has a card of its own, while its blocks fit.
pub own_walked : {system : System} {k w : ℕ} {ns : List Node} (o : OwnCard system k w ns) → w ≤ 4096 → system_from k ns ≡ Some w
own_walked {k = k} {w = w} o h =
    let c = o.card in
    let sound = sym (one_sound c.nodes c.count c.used (sized o.built).long) ∙ built_sound o.built in
    let goes = (sound_walked c.nodes c.count c.used (system_from 0 (nodes_of c)) sound).2 in
    ap (system_from k) o.records ∙ system-moved k c.used (nodes_of c) goes (omega (arith, o.blocks, h)) ∙ ap Some (sym o.blocks)

-- begun at block 0, its nodes are those of its own card
pub own_first : {system : System} {w : ℕ} {ns : List Node} (o : OwnCard system 0 w ns) → ns ≡ nodes_of o.card
own_first o = o.records ∙ moved_zero (nodes_of o.card)

-- the stores of a system's own card
pub own_within : {system : System} {k w : ℕ} {ns : List Node} (o : OwnCard system k w ns) → StoresWithin (nodes_of o.card) o.card.used
own_within o = (laid o.built).within
