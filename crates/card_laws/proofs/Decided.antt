-- The test of refusal 8 says yes exactly of nodes that were made, with unused records after them.
use Rattle.std.proofs.Common.{Option, Some, None}
use mathlib.Core.Path.{◌≡◌, refl, sym, ◌∙◌, ap, subst}
use mathlib.Core.Bool.{Bool, true, false, cond, not, false≢true, and-eq-true_iff}
use mathlib.Core.List.{List, [], ◌∷◌, ◌++◌}
use Prim.Native.Nat.{ℕ, zero, suc, ◌-◌, ◌≤◌}
use native.Mathlib.Omega.{arith}
use lib.Dec.{eqb, ltb}
use lib.ListN.{length, take, drop, replicate, take-append-drop, length-take, length-drop}
use lib.Seq.{take-append_seam, drop-append_seam}
use borrow.Author.Tests.{eq-eqb, ne_eqb, le-ltb, ltb-false, eqb-true}
use Rattle.card_nodes.specs.declared.node.Entry.{Entry}
use Rattle.card_nodes.specs.declared.node.Entry.TheVariants.{Area, Service}
use Rattle.card_nodes.specs.declared.node.Node.{Node}
use Rattle.card_nodes.specs.Node.{root_node}
use Rattle.card_sound.specs.Sound.{root_end, is_root, all_roots, steps_from, steps_of, ends_at, sound_of}
use Rattle.card_laws.proofs.Made.{Made, steps_made, made_gone}
use Rattle.card_laws.proofs.Cards.{records}

-- unused records
roots : (k : ℕ) → all_roots (replicate k root_node) ≡ true
unfolding all_roots is_root
roots zero = refl
roots (suc k) = roots k

-- the root, and records that the steps go through
sound_yes : (ms : List Node) (used : ℕ) → suc (length ms) ≤ 64 → steps_from (root_node ∷ []) 0 ms ≡ Some used →
    sound_of (root_node ∷ (ms ++ replicate (64 - suc (length ms)) root_node)) (suc (length ms)) used ≡ true
unfolding sound_of steps_of is_root
sound_yes ms used h e =
    let some = ne_eqb (suc (length ms)) 0 (omega arith) in
    let few = le-ltb 64 (suc (length ms)) h in
    simp (some, few, drop-append_seam, roots, take-append_seam, e, eq-eqb used used refl)

-- it says yes of the nodes that were made
pub made_sound : {ns : List Node} {used : ℕ} → Made ns used → length ns ≤ 64 → sound_of (records ns) (length ns) used ≡ true
made_sound {used = used} m h =
    let g = made_gone m in
    subst (λ (l : List Node). sound_of (records l) (length l) used ≡ true) (sym g.rooted)
    (sound_yes g.rest used (rw g.rooted at h) g.goes)

-- what is left where a test went on
yes_then : (a : Bool) {x : Bool} → cond (not a) false x ≡ true → (a ≡ true) × (x ≡ true)
yes_then true e = (refl, e)
yes_then false e = absurd (false≢true e)

no_then : (a : Bool) {x : Bool} → cond a false x ≡ true → (a ≡ false) × (x ≡ true)
no_then true e = absurd (false≢true e)
no_then false e = (refl, e)

-- where the steps end
ends : (s : Option ℕ) (used : ℕ) → ends_at used s ≡ true → s ≡ Some used
ends (Some u) used e = ap Some (eqb-true u used e)
ends None used e = absurd (false≢true e)

-- the root's case
root_entry : (k : Entry) → root_end k ≡ true → k ≡ Area 0xfffe
root_entry (Area e) h = ap Area (eqb-true e 0xfffe h)
root_entry (Service s b l) h = absurd (false≢true h)

-- a record that reads as the root's is
root_node_lem : (n : Node) → is_root n ≡ true → n ≡ root_node
unfolding is_root
root_node_lem n h =
    let d = (and-eq-true_iff (eqb n.depth 0) _).0 h in
    let c = (and-eq-true_iff (eqb n.code 0) _).0 d.1 in
    let v = (and-eq-true_iff (eqb n.version 0) _).0 c.1 in
    let depth = eqb-true n.depth 0 d.0 in
    let code = eqb-true n.code 0 c.0 in
    let version = eqb-true n.version 0 v.0 in
    let entry = root_entry n.entry v.1 in
    λ i. record { depth = depth i; code = code i; version = version i; entry = entry i }

-- and records that all read so
all_roots_lem : (ns : List Node) → all_roots ns ≡ true → ns ≡ replicate (length ns) root_node
unfolding all_roots
all_roots_lem [] h = refl
all_roots_lem (n ∷ ns) h =
    let t = (and-eq-true_iff (is_root n) (all_roots ns)).0 h in
    rw (root_node_lem n t.0) (ap (λ l. root_node ∷ l) (all_roots_lem ns t.1))

-- the nodes of 64 records of which it says yes were made
pub sound_made : (nodes : List Node) (count used : ℕ) → length nodes ≡ 64 → sound_of nodes count used ≡ true →
    (ns : List Node) × Made ns used × (nodes ≡ records ns) × (count ≡ length ns) × (length ns ≤ 64)
unfolding sound_of steps_of
sound_made [] count used h e = absurd (omega arith)
sound_made (x ∷ xs) zero used h e = absurd (false≢true e)
sound_made (x ∷ xs) (suc k) used h e =
    let some = no_then (eqb (suc k) 0) e in
    let few = no_then (ltb 64 (suc k)) some.1 in
    let first = yes_then (is_root x) few.1 in
    let rest = yes_then (all_roots (drop k xs)) first.1 in
    let r = root_node_lem x first.0 in
    let small : suc k ≤ 64 = ltb-false 64 (suc k) few.0 in
    let count : length (take k xs) ≡ k = simp length-take (omega arith) in
    let left : length (drop k xs) ≡ 64 - suc k = simp length-drop (omega arith) in
    let unused : drop k xs ≡ replicate (64 - suc k) root_node = rw left at (all_roots_lem (drop k xs) rest.0) in (
      root_node ∷ take k xs,
      steps_made (take k xs) Made.root (rw r at (ends (steps_from (x ∷ []) 0 (take k xs)) used rest.1)),
      rw (r, count) (ap (λ l. root_node ∷ l) (sym (take-append-drop k xs) ∙ ap (λ l. take k xs ++ l) unused)),
      rw count,
      omega (arith, small, count),
    )
