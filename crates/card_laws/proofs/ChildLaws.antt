-- The direct children of an area are those by which directory and totals are worded, and the area that a code names.
use Rattle.std.proofs.Common.{Some, None}
use mathlib.Core.Path.{◌≡◌, refl, sym, ◌∙◌, ap}
use mathlib.Core.Bool.{Bool, true, false, cond, and-eq-true_iff}
use mathlib.Core.List.{List, [], ◌∷◌}
use mathlib.Core.Logic.{⊎_elim}
use Prim.Native.Nat.{ℕ, zero, suc, ◌+◌, ◌≤◌, ◌<◌}
use native.Mathlib.Numerals.{add-one}
use native.Mathlib.Omega.{arith}
use lib.Dec.{eqb}
use lib.ListN.{length, drop, get_or, length-drop}
use borrow.Author.Tests.{le-leb, lt-leb, eq-eqb, ne_eqb}
use Rattle.card_nodes.specs.declared.node.Entry.{Entry}
use Rattle.card_nodes.specs.declared.node.Entry.TheVariants.{Area, Service}
use Rattle.card_nodes.specs.declared.node.Node.{Node}
use Rattle.card_nodes.specs.Node.{root_node, is_area}
use Rattle.card_nodes.specs.Find.{is_area_of, area_of}
use Rattle.card_nodes.proofs.Searches.{first_found}
use Rattle.card_build.specs.declared.card.Card.{Card}
use Rattle.card_build.specs.Card.{nodes_of}
use Rattle.card_laws.specs.Built.{Built}
use Rattle.card_laws.proofs.Steps.{deepest_by, deepest_after, Steps, steps}
use Rattle.card_laws.specs.Under.{span_under}
use Rattle.card_laws.specs.Worded.{child_span, by_children}
use Rattle.card_laws.proofs.UnderLaws.{le-or-lt}
use Rattle.card_laws.specs.Children.{area_named, children_under, children_at, children_worded}

-- nodes under a child are no children of the area
skip : (d : ℕ) (ns : List Node) → children_under d ns ≡ children_under d (drop (span_under (d + 1) ns) ns)
unfolding children_under span_under
skip d [] = refl
skip d (n ∷ ns) =
    ⊎_elim
    (λ h. rw (le-leb n.depth (d + 1) h))
    (λ h. rw (lt-leb n.depth (d + 1) h, lt-leb n.depth d (omega arith), ne_eqb n.depth (d + 1) (λ e. omega arith)) (skip d ns))
    (le-or-lt n.depth (d + 1))

-- what follows them is no deeper than the child
past_child_lem : (e m : ℕ) (ns : List Node) → Steps m ns → Steps e (drop (span_under e ns) ns)
unfolding span_under
past_child_lem e m [] s = tt
past_child_lem e m (n ∷ ns) s =
    ⊎_elim
    (λ h. rw (le-leb n.depth e h) (h, s.1))
    (λ h. rw (lt-leb n.depth e h) (past_child_lem e (deepest_after n) ns s.1))
    (le-or-lt n.depth e)

shorter : (i : ℕ) (ns : List Node) → length (drop i ns) ≤ length ns
shorter i ns = simp length-drop (omega arith)

-- one level deeper is child by child
pub level_worded : (k d : ℕ) (ns : List Node) → length ns ≤ k → Steps (d + 1) ns → children_worded k d ns ≡ children_under d ns
unfolding by_children children_under
level_worded zero d [] h s = refl
level_worded zero d (n ∷ ns) h s = absurd (omega arith)
level_worded (suc k) d [] h s = refl
level_worded (suc k) d (n ∷ ns) h s =
    ⊎_elim
    (λ e. rw (le-leb n.depth d e))
    (λ e.
    let q : n.depth ≡ d + 1 = omega (arith, s.0) in
    rw (lt-leb n.depth d e, eq-eqb n.depth (d + 1) q) (ap (λ (l : List Node). n ∷ l) (rest (λ ms. level_worded k d ms) q n.entry refl)))
    (le-or-lt n.depth d)
  where
    rest : ((ms : List Node) → length ms ≤ k → Steps (d + 1) ms → children_worded k d ms ≡ children_under d ms) → n.depth ≡ d + 1 → (t : Entry) → n.entry ≡ t → children_worded k d (drop (child_span t (span_under n.depth ns)) ns) ≡ children_under d ns
    rest further q (Area e) f =
        rw q
        (further (drop (span_under (d + 1) ns) ns) (omega (arith, shorter (span_under (d + 1) ns) ns)) (past_child_lem (d + 1) (deepest_after n) ns s.1)
        ∙ sym (skip d ns))
    rest further q (Service x b l) f =
        let e : deepest_after n ≡ d + 1 = rw f q in
        further ns (omega arith) (rw e at s.1)

-- the nodes after one of them
steps_past : (m : ℕ) (ns : List Node) (i : ℕ) → i < length ns → Steps m ns → Steps (deepest_after (get_or ns i root_node)) (drop (suc i) ns)
steps_past m [] i h s = absurd (omega arith)
steps_past m (n ∷ ns) zero h s = s.1
steps_past m (n ∷ ns) (suc i) h s = steps_past (deepest_after n) ns i (omega arith) s.1

-- below an area
area_deepest : (n : Node) → is_area n.entry ≡ true → deepest_after n ≡ n.depth + 1
area_deepest n e = by n.entry refl e
  where
    by : (t : Entry) → n.entry ≡ t → is_area t ≡ true → deepest_by t n.depth ≡ n.depth + 1
    by (Area end) q h = refl
    by (Service s b l) q h = absurd (let z : ◌≡◌ {A = ℕ} 0 1 = cc in (omega arith))

-- the direct children of an area of a built card: child by child, as directory and totals have them
pub children_worded_lem : {c : Card} → Built c → (i : ℕ) → i < length (nodes_of c) → is_area (get_or (nodes_of c) i root_node).entry ≡ true →
    children_worded (length (nodes_of c)) (get_or (nodes_of c) i root_node).depth (drop (i + 1) (nodes_of c)) ≡ children_at (nodes_of c) i
children_worded_lem {c = c} b i h a =
    let n = get_or (nodes_of c) i root_node in
    let s : Steps (n.depth + 1) (drop (suc i) (nodes_of c)) = rw (area_deepest n a) at (steps_past 0 (nodes_of c) i h (steps b)) in
    rw (add-one i) (level_worded (length (nodes_of c)) n.depth (drop (suc i) (nodes_of c)) (shorter (suc i) (nodes_of c)) s)

-- the area that a code names is the first of that code
pub named : (ns : List Node) (code : ℕ) {i : ℕ} → area_named ns code ≡ Some i → area_of ns code ≡ Some i
unfolding area_named
named ns code {i = i} e = by (eqb code 0xffff) e
  where
    by : (t : Bool) → cond t None (area_of ns code) ≡ Some i → area_of ns code ≡ Some i
    by true k = absurd (let z : ◌≡◌ {A = ℕ} 0 1 = cc in (omega arith))
    by false k = k

-- it is one of the nodes, and an area
pub named-area : (ns : List Node) (code : ℕ) {i : ℕ} → area_named ns code ≡ Some i →
    (i < length ns) × (is_area (get_or ns i root_node).entry ≡ true)
named-area ns code {i = i} e =
    let f = first_found (is_area_of code) ns (named ns code e) in
    let t = (and-eq-true_iff (eqb (get_or ns i root_node).code code) (is_area (get_or ns i root_node).entry)).0 f.passes in
    (f.within, t.1)

-- FFFF names none
pub system-none : (ns : List Node) → area_named ns 0xffff ≡ None
unfolding area_named
system-none ns = refl
