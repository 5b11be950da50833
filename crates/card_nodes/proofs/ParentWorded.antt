-- The parent that one pass over the nodes finds is the one that docs/RULES.md words.
use Rattle.std.proofs.Common.{Option, Some, None}
use mathlib.Core.Path.{◌≡◌, refl, sym, ◌∙◌, ap}
use mathlib.Core.Bool.{Bool, true, false, cond, ◌&&◌, and-true, and-false, and_assoc}
use mathlib.Core.List.{List, [], ◌∷◌, ◌++◌}
use Prim.Native.Nat.{ℕ, zero, suc, ◌+◌, ◌≤◌, ◌<◌}
use native.Mathlib.Nat.{add-zero, zero-add}
use native.Mathlib.Omega.{arith}
use lib.Dec.{eqb, ltb}
use lib.ListN.{length, take, drop, get_or, length-append, drop_of_length-le}
use lib.Seq.{take-suc, take-length, get_or-take, take-append_seam, get_or-append_seam, drop-append-le}
use borrow.Author.Tests.{eqb-true, eqb-false, ltb-true, ltb-false, eq-eqb, ne_eqb, lt-ltb, le-ltb}
use Rattle.card_nodes.specs.declared.node.Node.{Node}
use Rattle.card_nodes.specs.Node.{root_node, is_area}
use Rattle.card_nodes.specs.Find.{or_else, area_at, open_at, parent_from, parent_of}
use Rattle.card_nodes.specs.ParentWorded.{latest_from, all_deeper, is_open_area, if_open_area, parent_worded}
use Rattle.card_nodes.proofs.Searches.{parent_append, area-seen}

-- a test at the end passes through those before it
or_last_lem : (b : Bool) (f g : Option ℕ) (p : ℕ) → or_else (cond b (Some p) f) g ≡ cond b (Some p) (or_else f g)
or_last_lem true f g p = refl
or_last_lem false f g p = refl

-- one node more at the end is the latest, if it is of that depth
latest_append : (depth i : ℕ) (ns : List Node) (m : Node) →
    latest_from depth i (ns ++ (m ∷ [])) ≡ cond (eqb (m.depth + 1) depth) (Some (i + length ns)) (latest_from depth i ns)
unfolding latest_from
latest_append depth i [] m = rw (add-zero i)
latest_append depth i (n ∷ ns) m =
    let e : i + suc (length ns) ≡ suc i + length ns = omega arith in
    rw (latest_append depth (suc i) ns m, e)
    (or_last_lem (eqb (m.depth + 1) depth) (latest_from depth (suc i) ns) (cond (eqb (n.depth + 1) depth) (Some i) None) (suc i + length ns))

-- what is found, counted from i, is a node of depth one less
abbrev OneAbove : ℕ → ℕ → List Node → Option ℕ → Type 0
OneAbove depth i ns (Some p) = (k : ℕ) × (i + k ≡ p) × (k < length ns) × ((get_or ns k root_node).depth + 1 ≡ depth)
OneAbove depth i ns None = Unit {0}

above_or : (depth i : ℕ) (n : Node) (ns : List Node) (f : Option ℕ) (b : Bool) → eqb (n.depth + 1) depth ≡ b → OneAbove depth (suc i) ns f →
    OneAbove depth i (n ∷ ns) (or_else f (cond b (Some i) None))
above_or depth i n ns (Some p) b e a = (suc a.0, omega (arith, a.1), omega (arith, a.2), a.3)
above_or depth i n ns None true e a = (0, omega arith, omega arith, eqb-true _ _ e)
above_or depth i n ns None false e a = tt

latest_above : (depth i : ℕ) (ns : List Node) → OneAbove depth i ns (latest_from depth i ns)
unfolding latest_from
latest_above depth i [] = tt
latest_above depth i (n ∷ ns) =
    above_or depth i n ns (latest_from depth (suc i) ns) (eqb (n.depth + 1) depth) refl (latest_above depth (suc i) ns)

-- one node more has to be deeper too
deeper-append : (d : ℕ) (ns : List Node) (m : Node) → all_deeper d (ns ++ (m ∷ [])) ≡ (all_deeper d ns && ltb d m.depth)
unfolding all_deeper
deeper-append d [] m = and-true (ltb d m.depth)
deeper-append d (n ∷ ns) m =
    ap (λ (b : Bool). ltb d n.depth && b) (deeper-append d ns m) ∙ sym (and_assoc (ltb d n.depth) (all_deeper d ns) (ltb d m.depth))

module _ (ns : List Node) (m : Node) where
  -- a node before it is read as before
  earlier : (p : ℕ) → p < length ns → get_or (ns ++ (m ∷ [])) p root_node ≡ get_or ns p root_node
  earlier p h = sym (get_or-take (length ns) (ns ++ (m ∷ [])) p root_node h) ∙ rw (take-append_seam ns (m ∷ []))

  -- and stays open where it is deeper
  open_append : (p : ℕ) → p < length ns → is_open_area (ns ++ (m ∷ [])) p ≡ (is_open_area ns p && ltb (get_or ns p root_node).depth m.depth)
  open_append p h =
      rw (earlier p h, drop-append-le (p + 1) ns (m ∷ []) (omega arith), deeper-append (get_or ns p root_node).depth (drop (p + 1) ns) m)
      (sym (and_assoc (is_area (get_or ns p root_node).entry) (all_deeper (get_or ns p root_node).depth (drop (p + 1) ns)) (ltb (get_or ns p root_node).depth m.depth)))

  -- the last node itself is open if it is an area
  open_last : if_open_area (ns ++ (m ∷ [])) (Some (length ns)) ≡ area_at m.entry (length ns)
  unfolding all_deeper
  open_last =
      let k : length (ns ++ (m ∷ [])) ≤ length ns + 1 = simp length-append (omega arith) in
      rw (get_or-append_seam ns m [] root_node, drop_of_length-le (ns ++ (m ∷ [])) k, and-true (is_area m.entry))
      (sym (area-seen m.entry (length ns)))

  module _ (depth : ℕ) where
    -- a shallower one shuts all before it
    shut : m.depth + 1 < depth → (f : Option ℕ) → OneAbove depth 0 ns f → None ≡ if_open_area (ns ++ (m ∷ [])) f
    shut h (Some p) a =
        let q : p ≡ a.0 = omega (arith, a.1) in
        let d = a.3 in
        rw (q, open_append a.0 a.2, le-ltb (get_or ns a.0 root_node).depth m.depth (omega arith), and-false (is_open_area ns a.0))
    shut h None a = refl

    -- a deeper one leaves them
    left : depth ≤ m.depth → (f : Option ℕ) → OneAbove depth 0 ns f → if_open_area ns f ≡ if_open_area (ns ++ (m ∷ [])) f
    left h (Some p) a =
        let q : p ≡ a.0 = omega (arith, a.1) in
        let d = a.3 in
        rw (q, open_append a.0 a.2, lt-ltb (get_or ns a.0 root_node).depth m.depth (omega arith), and-true (is_open_area ns a.0))
    left h None a = refl

    other : (b : Bool) → ltb m.depth depth ≡ b → eqb (m.depth + 1) depth ≡ false → parent_of ns depth ≡ parent_worded ns depth →
        cond b None (parent_of ns depth) ≡ if_open_area (ns ++ (m ∷ [])) (latest_from depth 0 ns)
    other true e n same =
        let l = ltb-true m.depth depth e in
        let x = eqb-false (m.depth + 1) depth n in
        shut (omega arith) (latest_from depth 0 ns) (latest_above depth 0 ns)
    other false e n same = same ∙ left (ltb-false m.depth depth e) (latest_from depth 0 ns) (latest_above depth 0 ns)

    by_last : (b : Bool) → eqb (m.depth + 1) depth ≡ b → parent_of ns depth ≡ parent_worded ns depth →
        cond (ltb m.depth depth) (cond b (area_at m.entry (length ns)) None) (parent_of ns depth)
        ≡ if_open_area (ns ++ (m ∷ [])) (cond b (Some (length ns)) (latest_from depth 0 ns))
    by_last true e same = let x = eqb-true (m.depth + 1) depth e in rw (lt-ltb m.depth depth (omega arith)) (sym open_last)
    by_last false e same = other (ltb m.depth depth) refl e same

    -- one node more
    more : parent_of ns depth ≡ parent_worded ns depth → parent_of (ns ++ (m ∷ [])) depth ≡ parent_worded (ns ++ (m ∷ [])) depth
    unfolding parent_from open_at
    more same =
        parent_append depth None 0 ns (m ∷ [])
        ∙ rw (latest_append depth 0 ns m, zero-add) (by_last (eqb (m.depth + 1) depth) refl same)

-- the first k nodes
first_worded : (depth : ℕ) (ns : List Node) (k : ℕ) → k ≤ length ns → parent_of (take k ns) depth ≡ parent_worded (take k ns) depth
unfolding parent_from latest_from
first_worded depth ns zero h = refl
first_worded depth ns (suc k) h =
    rw (take-suc ns k root_node (omega arith)) (more (take k ns) (get_or ns k root_node) depth (first_worded depth ns k (omega arith)))

-- The parent is the latest node of depth one less, which must be an area with no shallower or equally deep node after it.
pub parent_worded_lem : (ns : List Node) (depth : ℕ) → parent_of ns depth ≡ parent_worded ns depth
parent_worded_lem ns depth = rw (take-length ns) at (first_worded depth ns (length ns) (omega arith))
