-- Refusal 8 of two systems says yes exactly where each has a card of its own, the second's stores after the first's. Assumes nothing.
use Rattle.std.proofs.Common.{Option, Some, None}
use Prim.Native.Nat.{ℕ, ◌-◌, ◌≤◌}
use native.Mathlib.Omega.{arith}
use mathlib.Core.Path.{◌≡◌, refl, sym, ap, ◌∙◌}
use mathlib.Core.Bool.{true}
use mathlib.Core.List.{List, ◌++◌, append_assoc}
use lib.ListN.{length, take, drop, replicate, length-take, length-drop, length-append}
use lib.Seq.{take-append_seam, drop-append_seam}
use Rattle.card_nodes.specs.declared.node.Node.{Node}
use Rattle.card_nodes.specs.Node.{root_node}
use Rattle.card_sound.specs.Sound.{all_roots, then_step}
use Rattle.card_moved.specs.Own.{OwnCard}
use Rattle.card_moved.specs.Two.{system_from, sound_two, TwoOwned, OwnedPass}
use Rattle.card_moved.proofs.Accepted.{no_stop}
use Rattle.card_moved.proofs.Sound.{unused_roots, sound_walked, walked_sound_lem}
use Rattle.card_moved.proofs.Own.{system-some, system-most, own_card, own_walked}

-- each system of a card that passes has a card of its own
pub sound_two_lem : TwoOwned
unfolding sound_two
sound_two_lem one two nodes at count used e =
    let s = sound_walked nodes count used (then_step (system_from 0 (take at nodes)) (λ k. system_from k ms)) e in
    by_first s.0 (system_from 0 (take at nodes)) refl s.2
  where
    ms : List Node
    ms = drop at (take count nodes)

    by_first : count ≤ 64 → (x : Option ℕ) → system_from 0 (take at nodes) ≡ x →
        then_step x (λ k. system_from k ms) ≡ Some used →
        (k : ℕ) × OwnCard one 0 k (take at nodes) × OwnCard two k used ms × (count ≤ 64) × (used ≤ 4096)
    by_first few None q g = no_stop g
    by_first few (Some k) q g =
        let taken : length (take count nodes) ≤ 64 = simp length-take (omega (arith, few)) in
        let long : length ms ≡ length (take count nodes) - at = length-drop at (take count nodes) in
        let some = system-some k used ms g in (
          k,
          own_card one 0 k (take at nodes) (simp length-take (omega (arith, long, taken, some))) q,
          own_card two k used ms (omega (arith, long, taken)) g,
          few,
          system-most k used ms g (system-most 0 k (take at nodes) q (omega arith)),
        )

-- two walks, by the records of each
both_walked : (nodes ns ms : List Node) (at count k w : ℕ) → take at nodes ≡ ns → drop at (take count nodes) ≡ ms →
    system_from 0 ns ≡ Some k → system_from k ms ≡ Some w →
    then_step (system_from 0 (take at nodes)) (λ v. system_from v (drop at (take count nodes))) ≡ Some w
both_walked nodes ns ms at count k w front back e g = rw (front, e, back, g)

-- and two systems that have cards of their own pass
pub two_sound : OwnedPass
unfolding sound_two
two_sound one two k w n ns ms o p few most =
    let rest = replicate n root_node in
    let count = length (ns ++ ms) in
    let joined : ns ++ ms ++ rest ≡ ns ++ (ms ++ rest) = append_assoc ns ms rest in
    let unused : all_roots (drop count (ns ++ (ms ++ rest))) ≡ true =
    ap (λ (l : List Node). all_roots (drop count l)) (sym joined) ∙ ap all_roots (drop-append_seam (ns ++ ms) rest) ∙ unused_roots n in
    let taken : take count (ns ++ (ms ++ rest)) ≡ ns ++ ms =
    ap (λ (l : List Node). take count l) (sym joined) ∙ take-append_seam (ns ++ ms) rest in
    let back : drop (length ns) (take count (ns ++ (ms ++ rest))) ≡ ms = ap (drop (length ns)) taken ∙ drop-append_seam ns ms in
    walked_sound_lem (ns ++ (ms ++ rest)) count w _ (omega (arith, few, length-append ns ms)) unused
    (both_walked (ns ++ (ms ++ rest)) ns ms (length ns) count k w (take-append_seam ns (ms ++ rest)) back
    (own_walked o (omega (arith, p.blocks, most))) (own_walked p most))
