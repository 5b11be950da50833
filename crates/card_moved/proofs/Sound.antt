-- What refusal 8 of two systems asks, and that of one system is one walk. Assumes nothing.
use Rattle.std.proofs.Common.{Option, Some, None}
use Prim.Native.Nat.{ℕ, zero, suc, ◌≤◌}
use native.Mathlib.Omega.{arith}
use mathlib.Core.Path.{◌≡◌, refl, ap}
use mathlib.Core.Bool.{Bool, true, false, cond, not, false≢true}
use mathlib.Core.List.{List, [], ◌∷◌}
use lib.Dec.{eqb, ltb}
use lib.ListN.{length, take, drop, replicate}
use borrow.Author.Tests.{eq-eqb, ne_eqb, eqb-true, le-ltb, ltb-false}
use Rattle.card_nodes.specs.declared.node.Node.{Node}
use Rattle.card_nodes.specs.Node.{root_node}
use Rattle.card_sound.specs.Sound.{is_root, all_roots, steps_from, steps_of, ends_at, sound_of}
use Rattle.card_build.specs.declared.card.Card.{Card}
use Rattle.card_build.specs.Card.{system_of}
use Rattle.card_laws.proofs.Built.{sound_built}
use Rattle.card_laws.proofs.Laid.{laid}
use Rattle.card_moved.specs.Two.{system_from, walked_sound}

-- unused records all read as the root's
pub unused_roots : (n : ℕ) → all_roots (replicate n root_node) ≡ true
unfolding all_roots is_root
unused_roots zero = refl
unused_roots (suc n) = unused_roots n

module _ (nodes : List Node) (count used : ℕ) where
  -- what `walked_sound` asks
  pub sound_walked : (walked : Option ℕ) → walked_sound nodes count used walked ≡ true →
      (count ≤ 64) × (all_roots (drop count nodes) ≡ true) × (walked ≡ Some used)
  unfolding walked_sound
  sound_walked walked e = by_tests (ltb 64 count) (all_roots (drop count nodes)) walked refl refl e
    where
      by_tests : (many unused : Bool) (x : Option ℕ) → ltb 64 count ≡ many → all_roots (drop count nodes) ≡ unused →
          cond many false (cond (not unused) false (ends_at used x)) ≡ true →
          (count ≤ 64) × (all_roots (drop count nodes) ≡ true) × (x ≡ Some used)
      by_tests true unused x p q h = absurd (false≢true h)
      by_tests false false x p q h = absurd (false≢true h)
      by_tests false true None p q h = absurd (false≢true h)
      by_tests false true (Some u) p q h = (ltb-false 64 count p, q, ap Some (eqb-true u used h))

  -- and asks no more
  pub walked_sound_lem : (walked : Option ℕ) → count ≤ 64 → all_roots (drop count nodes) ≡ true → walked ≡ Some used →
      walked_sound nodes count used walked ≡ true
  unfolding walked_sound
  walked_sound_lem walked few unused goes = rw (le-ltb 64 count few, unused, goes, eq-eqb used used refl)

-- refusal 8 of a card of one system is one walk, begun at block 0
pub one_sound : (nodes : List Node) (count used : ℕ) → length nodes ≡ 64 →
    sound_of nodes count used ≡ walked_sound nodes count used (system_from 0 (take count nodes))
unfolding sound_of steps_of system_from walked_sound
one_sound [] count used h = absurd (omega arith)
one_sound (n ∷ nodes) zero used h = by_unused (all_roots (n ∷ nodes))
  where
    by_unused : (b : Bool) → false ≡ cond (not b) false false
    by_unused true = refl
    by_unused false = refl
one_sound (n ∷ nodes) (suc count) used h =
    let some : eqb (suc count) 0 ≡ false = ne_eqb (suc count) 0 (omega arith) in
    rw some (by_tests (ltb 64 (suc count)) (is_root n) (all_roots (drop count nodes)) (steps_from (n ∷ []) 0 (take count nodes)))
  where
    by_tests : (many root unused : Bool) (x : Option ℕ) →
        cond many false (cond (not root) false (cond (not unused) false (ends_at used x)))
        ≡ cond many false (cond (not unused) false (ends_at used (cond (not root) None x)))
    by_tests true root unused x = refl
    by_tests false true unused x = refl
    by_tests false false true x = refl
    by_tests false false false x = refl

-- a record that reads as the root's is the root: a card of it alone was built
pub root_node_lem : (n : Node) → is_root n ≡ true → n ≡ root_node
unfolding sound_of steps_of steps_from
root_node_lem n h = (laid (sound_built alone refl (rw (h, unused_roots 63)))).root
  where
    alone : Card
    alone = record { nodes = n ∷ replicate 63 root_node; count = 1; used = 0; system = system_of 0 0 true }
