-- The walk over the records that a count takes: what is known on its way, and one turn of it.
use Rattle.std.proofs.Common.{Option, Some, None}
use mathlib.Core.Path.{◌≡◌, refl, sym, ◌∙◌, ap, subst}
use mathlib.Core.Bool.{Bool, true, false, cond, not, ◌&&◌}
use mathlib.Core.List.{List, [], ◌∷◌, ◌++◌}
use Prim.Native.Nat.{ℕ, ◌+◌, ◌≤◌, ◌<◌}
use native.Mathlib.Numerals.{add-one}
use native.Mathlib.Omega.{arith}
use lib.Dec.{eqb, ltb}
use lib.ListN.{length, take, drop, get_or, set, replicate, length-take, length-set, length-replicate, get_or-replicate}
use lib.Seq.{take-suc}
use borrow.Author.Tests.{eqb-true, eqb-false, ltb-false}
use Rattle.service_code.specs.Code.{number_of}
use Rattle.card_nodes.specs.declared.node.Entry.{Entry}
use Rattle.card_nodes.specs.declared.node.Entry.TheVariants.{Area, Service}
use Rattle.card_nodes.specs.declared.node.Node.{Node}
use Rattle.card_nodes.specs.Node.{root_node, is_area, is_service}
use Rattle.card_nodes.specs.Find.{first_from, shared_of}
use Rattle.card_nodes.proofs.Scan.{read}
use Rattle.card_nodes.proofs.Searches.{in_range_lem}
use Rattle.card_admit.specs.Admit.{parent_at, first_in}
use Rattle.card_admit.proofs.Growth.{parent_at_below}
use Rattle.card_sound.specs.Sound.{is_root, root_end, all_roots, step_of, steps_of, ends_at, sound_of}
use Rattle.card_sound.specs.Walk.{starting, depth_open, deepest_by, first_by, first_after, step_under}
use Rattle.card_sound.proofs.Laws.{passed}
use Rattle.card_sound.proofs.Kept.{Parents, Firsts, index_in, open_within, no_parents, parents_next, firsts_next, first_index_lem, first_there}
use Rattle.card_sound.proofs.Turns.{Stepped, stepped, stops, goes, orphan, under}

-- at record i
pub record Walk (nodes : List Node) (count : ℕ) (parents firsts : List ℕ) (deepest used i : ℕ) : Type 0 where
  pub some : 1 ≤ i
  pub most : count ≤ 64
  pub all : length nodes ≡ 64
  pub tall : length parents ≡ 10
  pub wide : length firsts ≡ 1024
  pub root : is_area (get_or nodes 0 root_node).entry ≡ true
  pub left : Stepped nodes count used i
  pub above : Parents (take i nodes) parents deepest
  pub first : Firsts (take i nodes) firsts

-- the root is an area at depth 0
root_is : (n : Node) → is_root n ≡ true → (n.depth ≡ 0) × (is_area n.entry ≡ true)
unfolding is_root
root_is n e = (eqb-true n.depth 0 (first _ _ e), ends n.entry (last (eqb n.version 0) _ (last (eqb n.code 0) _ (last (eqb n.depth 0) _ e))))
  where
    first : (a b : Bool) → (a && b) ≡ true → a ≡ true
    first true b h = refl
    first false b h = absurd (let z : ◌≡◌ {A = ℕ} 0 1 = cc in (omega arith))

    last : (a b : Bool) → (a && b) ≡ true → b ≡ true
    last true b h = h
    last false b h = absurd (let z : ◌≡◌ {A = ℕ} 0 1 = cc in (omega arith))

    ends : (x : Entry) → root_end x ≡ true → is_area x ≡ true
    ends (Area x) h = refl
    ends (Service s b l) h = absurd (let z : ◌≡◌ {A = ℕ} 0 1 = cc in (omega arith))

-- an area leaves the next depth open
opens : (d : ℕ) (e : Entry) → is_area e ≡ true → deepest_by d e ≡ d + 1
opens d (Area e) h = refl
opens d (Service s b l) h = absurd (let z : ◌≡◌ {A = ℕ} 0 1 = cc in (omega arith))

-- under the root comes the first node
root_above : (n : Node) → n.depth ≡ 0 → is_area n.entry ≡ true → Parents (n ∷ []) (replicate 10 0) 1
root_above n e a =
    let p = parents_next (no_parents (replicate 10 0)) n (omega arith) (omega arith) refl in
    subst (λ (d : ℕ). Parents (n ∷ []) (set (replicate 10 0) (d + 1) 0) (d + 1)) e (rw (opens n.depth n.entry a) at p)

-- and no service came before it
root_first : (n : Node) → Firsts (n ∷ []) (replicate 1024 0)
unfolding first_from
root_first n = record { says = λ m h. get_or-replicate 1024 m 0 0 h ∙ none (eqb (number_of n.code) m && is_service n.entry) }
  where
    none : (b : Bool) → 0 ≡ index_in (cond b (Some 0) None)
    none true = refl
    none false = refl

-- a count and a root to start from
pub record Starts (count : ℕ) (root : Node) : Type 0 where
  pub some : 1 ≤ count
  pub most : count ≤ 64
  pub is : is_root root ≡ true

pub starts_with : (count : ℕ) (root : Node) → starting count root ≡ true → Starts count root
unfolding starting
starts_with count root e =
    let a = passed (eqb count 0) _ e in
    let b = passed (ltb 64 count) _ a.1 in
    let n = eqb-false count 0 a.0 in
    record { some = omega arith; most = ltb-false 64 count b.0; is = b.1 }

-- the walk begins after the root
pub begun : (nodes : List Node) (count : ℕ) → length nodes ≡ 64 → starting count (get_or nodes 0 root_node) ≡ true →
    Walk nodes count (replicate 10 0) (replicate 1024 0) 1 0 1
begun nodes count l e =
    let s = starts_with count (get_or nodes 0 root_node) e in
    let r = root_is (get_or nodes 0 root_node) s.is in
    let one : take 1 nodes ≡ get_or nodes 0 root_node ∷ [] = take-suc nodes 0 root_node (omega arith) in
    record {
      some = omega arith;
      most = s.most;
      all = l;
      tall = refl;
      wide = length-replicate {A = ℕ} 1024 0;
      root = r.1;
      left = stepped nodes count l s.some s.most;
      above = rw one (root_above (get_or nodes 0 root_node) r.0 r.1);
      first = rw one (root_first (get_or nodes 0 root_node));
    }

module _
    {nodes : List Node} {count : ℕ} {parents firsts : List ℕ} {deepest used i : ℕ}
    (w : Walk nodes count parents firsts deepest used i) (h : i < count) (z : Node)
  where
    -- the records before it
    size : length (take i nodes) ≡ i
    size = simp length-take (omega arith)

    -- the root is the first of them
    root_read : is_area (get_or (take i nodes) 0 root_node).entry ≡ true
    root_read = rw (read nodes i 0 root_node root_node (omega (arith, size))) w.root

    module _ {m : ℕ} (own : m ≡ number_of (get_or nodes i z).code) (small : m < 1024) where
      in_front_lem : get_or firsts m 0 < length (take i nodes)
      in_front_lem = rw own (first_index_lem w.first (get_or nodes i z).code (omega arith) (omega (arith, size)))

      -- the index that is kept for its number is a record's
      pub first-at : get_or firsts m 0 < 64
      first-at = omega (arith, in_front_lem, size)

      -- and that record stands for the first service of the number
      pub first-is : {first : Option Node} (y : Node) → first ≡ first_by (get_or nodes (get_or firsts m 0) y) (get_or nodes (get_or firsts m 0) y).entry →
          first ≡ first_in (take i nodes) (shared_of (take i nodes) (get_or nodes i z).code)
      first-is y e =
          e
          ∙ ap (λ (n : Node). first_by n n.entry) (sym (read nodes i (get_or firsts m 0) root_node y in_front_lem))
          ∙ rw own (first_there w.first (get_or nodes i z).code (omega arith) root_read)

    -- a record that may not come there ends the walk
    pub closed : depth_open (get_or nodes i z).depth deepest ≡ false → None ≡ steps_of (take count nodes)
    closed e =
        stops used z w.left h (orphan (take i nodes) used (get_or nodes i z) (w.above.says (get_or nodes i z).depth ∙ rw e))

    module _ (e : depth_open (get_or nodes i z).depth deepest ≡ true) where
      -- its parent is the one that is kept
      parent : parent_at (take i nodes) (get_or nodes i z).depth ≡ Some (get_or parents (get_or nodes i z).depth 0)
      parent = w.above.says (get_or nodes i z).depth ∙ rw e

      before : get_or parents (get_or nodes i z).depth 0 < length (take i nodes)
      before = in_range_lem (parent_at_below (take i nodes) (get_or nodes i z).depth) parent

      pub parent-index : get_or parents (get_or nodes i z).depth 0 < 64
      parent-index = omega (arith, before, size)

      -- so it steps as that parent and that service say
      pub steps : {first : Option Node} {r : Option ℕ} (y : Node) → first ≡ first_in (take i nodes) (shared_of (take i nodes) (get_or nodes i z).code) →
          r ≡ step_under (get_or nodes (get_or parents (get_or nodes i z).depth 0) y) first used (get_or nodes i z).code (get_or nodes i z).entry →
          r ≡ step_of (take i nodes) used (get_or nodes i z)
      steps y f k =
          k
          ∙ rw (f, sym (read nodes i (get_or parents (get_or nodes i z).depth 0) root_node y before))
          (under (take i nodes) used (get_or nodes i z) parent)

      -- and the walk goes on with it among the records passed
      pub next : {m v deep u : ℕ} {first : Option Node} → m ≡ number_of (get_or nodes i z).code → m < 1024 →
          first ≡ first_in (take i nodes) (shared_of (take i nodes) (get_or nodes i z).code) →
          v ≡ first_after first (get_or firsts m 0) (get_or nodes i z).entry i →
          deep ≡ deepest_by (get_or nodes i z).depth (get_or nodes i z).entry →
          step_of (take i nodes) used (get_or nodes i z) ≡ Some u →
          Walk nodes count (set parents ((get_or nodes i z).depth + 1) i) (set firsts m v) deep u (i + 1)
      next own small f k d g =
          let o = open_within (get_or nodes i z).depth deepest e in
          let more : take (i + 1) nodes ≡ take i nodes ++ (get_or nodes i z ∷ []) = rw (add-one, take-suc nodes i z (omega arith)) in
          record {
            some = omega arith;
            most = w.most;
            all = w.all;
            tall = simp length-set w.tall;
            wide = simp length-set w.wide;
            root = w.root;
            left = goes used z w.left h _ g;
            above = rw (more, d) (rw size at (parents_next w.above (get_or nodes i z) o.left o.most w.tall));
            first = rw (more, own) (firsts_next w.first (get_or nodes i z) w.wide (omega arith) (k ∙ rw (f, own, size)));
          }

-- they are looked at first, then the unused records, then the steps
pub sound_from : (nodes : List Node) (count used : ℕ) →
    cond (not (starting count (get_or nodes 0 root_node))) false
    (cond (not (all_roots (drop count nodes))) false (ends_at used (steps_of (take count nodes))))
    ≡ sound_of nodes count used
unfolding starting sound_of
sound_from nodes count used = in_turn_lem (eqb count 0) (ltb 64 count) (is_root (get_or nodes 0 root_node)) _
  where
    in_turn_lem : (a b c rest : Bool) →
        cond (not (cond a false (cond b false c))) false rest ≡ cond a false (cond b false (cond (not c) false rest))
    in_turn_lem true b c rest = refl
    in_turn_lem false true c rest = refl
    in_turn_lem false false c rest = refl
