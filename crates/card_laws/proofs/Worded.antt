-- A definition over the flat table says what docs/RULES.md words by the children of an area.
use Rattle.std.proofs.Common.{Option}
use mathlib.Core.Path.{◌≡◌, refl, sym, ◌∙◌, ap}
use mathlib.Core.List.{List, [], ◌∷◌}
use mathlib.Core.Logic.{⊎_elim}
use Prim.Native.Nat.{ℕ, zero, suc, ◌≤◌, ◌<◌}
use native.Mathlib.Omega.{arith}
use lib.ListN.{length, drop, get_or, length-drop}
use borrow.Author.Tests.{le-leb, lt-leb}
use Rattle.service_code.specs.declared.limit.Limit.{Limit}
use Rattle.card_nodes.specs.declared.node.Entry.{Entry}
use Rattle.card_nodes.specs.declared.node.Entry.TheVariants.{Area, Service}
use Rattle.card_nodes.specs.declared.node.Node.{Node}
use Rattle.card_nodes.specs.Node.{root_node}
use Rattle.card_laws.specs.Under.{span_under}
use Rattle.card_laws.specs.Worded.{child_span, by_children}
use Rattle.card_laws.proofs.UnderLaws.{le-or-lt, Over, deeper, ends, split}

shorter : (i : ℕ) (ns : List Node) → length (drop i ns) ≤ length ns
shorter i ns = simp length-drop (omega arith)

module _ {B : Type 0} {f : ℕ → List Node → B} {none : B} {one : Node → B → B} {join : B → B → B} (u : Over f none one join) where
  -- a child area counts with all that lies under it, a service alone
  module _ (child : Node → B → B)
      (as-area : (n : Node) (e : ℕ) → n.entry ≡ Area e → (x : B) → child n x ≡ one n x)
      (as-service : (n : Node) (s b : ℕ) (l : Option Limit) → n.entry ≡ Service s b l → (x y : B) → join (child n x) y ≡ one n y) where
    one_child : (d : ℕ) (n : Node) (ns : List Node) → d < n.depth → (t : Entry) → n.entry ≡ t →
        join (child n (f n.depth ns)) (f d (drop (child_span t (span_under n.depth ns)) ns)) ≡ one n (f d ns)
    one_child d n ns h (Area e) q =
        rw (as-area n e q (f n.depth ns)) (u.join_one n _ _ ∙ ap (one n) (sym (split u d n.depth ns h)))
    one_child d n ns h (Service s b l) q = as-service n s b l q (f n.depth ns) (f d ns)

    -- child by child gives the same as over all nodes under the area
    pub worded : (k d : ℕ) (ns : List Node) → length ns ≤ k → by_children none join child k d ns ≡ f d ns
    unfolding by_children
    worded zero d [] h = sym (u.at-end d)
    worded zero d (n ∷ ns) h = absurd (omega arith)
    worded (suc k) d [] h = sym (u.at-end d)
    worded (suc k) d (n ∷ ns) h =
        let j = child_span n.entry (span_under n.depth ns) in
        let i : length (drop j ns) ≤ k = omega (arith, shorter j ns) in
        ⊎_elim
        (λ e. rw (le-leb n.depth d e) (sym (ends u d n ns e)))
        (λ e.
        rw (lt-leb n.depth d e, worded k n.depth ns (omega arith), worded k d (drop j ns) i)
        (one_child d n ns e n.entry refl ∙ sym (deeper u d n ns e)))
        (le-or-lt n.depth d)

  -- where all nodes are deeper, all lie under the area
  pub all_under : (g : List Node → B) → g [] ≡ none → ((n : Node) (ns : List Node) → g (n ∷ ns) ≡ one n (g ns)) →
      (d : ℕ) (ns : List Node) → ((k : ℕ) → k < length ns → d < (get_or ns k root_node).depth) → f d ns ≡ g ns
  all_under g nil cons d [] h = u.at-end d ∙ sym nil
  all_under g nil cons d (n ∷ ns) h =
      deeper u d n ns (h 0 (omega arith)) ∙ ap (one n) (all_under g nil cons d ns (λ k l. h (suc k) (omega arith))) ∙ sym (cons n ns)
