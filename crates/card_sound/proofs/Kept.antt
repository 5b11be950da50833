-- What is kept of the records that were passed is what a search among them finds.
use Rattle.std.proofs.Common.{Option, Some, None}
use mathlib.Core.Path.{◌≡◌, refl, sym, ◌∙◌, ap}
use mathlib.Core.Bool.{Bool, true, false, cond, not, ◌&&◌}
use mathlib.Core.List.{List, [], ◌∷◌, ◌++◌}
use Prim.Native.Nat.{ℕ, ◌+◌, ◌≤◌, ◌<◌}
use native.Mathlib.Nat.{zero-add}
use native.Mathlib.Omega.{arith}
use lib.Dec.{eqb, ltb, leb}
use lib.ListN.{length, get_or, set}
use lib.Seq.{get_or-set_same, get_or-set_other}
use borrow.Author.Tests.{eqb-true, eqb-false, ltb-true, ltb-false, leb-true, eq-eqb, le-leb, lt-leb, not-false}
use Rattle.service_code.specs.Code.{number_of}
use Rattle.card_nodes.specs.declared.node.Entry.{Entry}
use Rattle.card_nodes.specs.declared.node.Entry.TheVariants.{Area, Service}
use Rattle.card_nodes.specs.declared.node.Node.{Node}
use Rattle.card_nodes.specs.Node.{root_node, is_area, is_service}
use Rattle.card_nodes.specs.Find.{first_from, or_else, shared_of, area_at, open_at, parent_from}
use Rattle.card_nodes.proofs.Searches.{Below, first_below, first_found, first-append, parent_append}
use Rattle.card_admit.specs.Admit.{is_depth, parent_at, first_in}
use Rattle.card_admit.proofs.Growth.{depth_deep, deep_depth}
use Rattle.card_sound.proofs.Laws.{passed}
use Rattle.card_sound.specs.Walk.{depth_open, deepest_by, first_by, first_after}

-- where a node may come: at a depth from 1 to 8, down to the deepest
pub record Within (d deepest : ℕ) : Type 0 where
  pub some : 1 ≤ d
  pub most : d ≤ 8
  pub left : d ≤ deepest

module _ (d deepest : ℕ) where
  pub open_within : depth_open d deepest ≡ true → Within d deepest
  unfolding depth_open
  open_within e =
      let b = passed (not (is_depth d)) _ e in
      let t = depth_deep d (not-false (is_depth d) b.0) in
      record { some = t.low; most = t.high; left = leb-true d deepest b.1 }

  -- at those depths the deepest alone decides
  pub open_by : 1 ≤ d → d ≤ 8 → depth_open d deepest ≡ leb d deepest
  unfolding depth_open
  open_by h k = rw (deep_depth d h k)

-- the deepest that a node leaves open is its own depth or the next
deepest_least : (d : ℕ) (e : Entry) → d ≤ deepest_by d e
deepest_least d (Area e) = omega arith
deepest_least d (Service s b l) = omega arith

deepest_most : (d : ℕ) (e : Entry) → deepest_by d e ≤ d + 1
deepest_most d (Area e) = omega arith
deepest_most d (Service s b l) = omega arith

-- the parents that are kept say where a new node comes
pub record Parents (ns : List Node) (parents : List ℕ) (deepest : ℕ) : Type 0 where
  pub says : (d : ℕ) → parent_at ns d ≡ cond (depth_open d deepest) (Some (get_or parents d 0)) None

-- before the first node none may come
pub no_parents : (parents : List ℕ) → Parents [] parents 0
unfolding parent_at parent_from depth_open
no_parents parents = record { says = λ d. go d (is_depth d) refl }
  where
    go : (d : ℕ) (a : Bool) → is_depth d ≡ a →
        cond (not a) None None ≡ cond (cond (not a) false (leb d 0)) (Some (get_or parents d 0)) None
    go d false e = refl
    go d true e = let t = depth_deep d e in rw (lt-leb d 0 t.low)

module _
    {ns : List Node} {parents : List ℕ} {deepest : ℕ} (kept : Parents ns parents deepest) (n : Node)
    (h : n.depth ≤ deepest) (k : n.depth ≤ 8) (long : length parents ≡ 10)
  where
    -- one node more at the end decides anew, where it is shallower than a new one
    last : (d : ℕ) → 1 ≤ d → d ≤ 8 → parent_at (ns ++ (n ∷ [])) d ≡ cond (ltb n.depth d) (open_at n d (length ns)) (parent_at ns d)
    unfolding parent_at parent_from
    last d some most =
        rw (deep_depth d some most) (rw zero-add at (parent_append d None 0 ns (n ∷ [])))

    module _ (d : ℕ) where
      -- the next depth is open under an area alone
      under : n.depth + 1 ≡ d → (e : Entry) →
          area_at e (length ns)
          ≡ cond (leb d (deepest_by n.depth e)) (Some (get_or (set parents (n.depth + 1) (length ns)) d 0)) None
      under e (Area x) =
          rw (le-leb d (n.depth + 1) (omega arith), sym e, get_or-set_same parents (n.depth + 1) (length ns) 0 (omega arith))
      under e (Service s b l) = rw (lt-leb d n.depth (omega arith))

      -- and none below it
      deeper : n.depth < d → (b : Bool) → eqb (n.depth + 1) d ≡ b →
          cond b (area_at n.entry (length ns)) None
          ≡ cond (leb d (deepest_by n.depth n.entry)) (Some (get_or (set parents (n.depth + 1) (length ns)) d 0)) None
      deeper less true e = under (eqb-true _ _ e) n.entry
      deeper less false e =
          let x = eqb-false (n.depth + 1) d e in
          rw (lt-leb d (deepest_by n.depth n.entry) (omega (arith, deepest_most n.depth n.entry)))

      -- down to its own depth all is as it was
      decided : 1 ≤ d → d ≤ 8 → (b : Bool) → ltb n.depth d ≡ b →
          cond b (open_at n d (length ns)) (parent_at ns d)
          ≡ cond (leb d (deepest_by n.depth n.entry)) (Some (get_or (set parents (n.depth + 1) (length ns)) d 0)) None
      unfolding open_at
      decided some most true e = deeper (ltb-true _ _ e) (eqb (n.depth + 1) d) refl
      decided some most false e =
          let less = ltb-false n.depth d e in
          kept.says d
          ∙ rw (
            open_by d deepest some most,
            le-leb d deepest (omega arith),
            le-leb d (deepest_by n.depth n.entry) (omega (arith, deepest_least n.depth n.entry)),
            get_or-set_other parents (n.depth + 1) d (length ns) 0 (λ e. omega arith),
          )

      by_depth : 1 ≤ d → d ≤ 8 →
          parent_at (ns ++ (n ∷ [])) d
          ≡ cond (depth_open d (deepest_by n.depth n.entry)) (Some (get_or (set parents (n.depth + 1) (length ns)) d 0)) None
      by_depth some most =
          rw (open_by d (deepest_by n.depth n.entry) some most) (last d some most ∙ decided some most (ltb n.depth d) refl)

      -- at any other depth none may come
      either : (a : Bool) → is_depth d ≡ a →
          parent_at (ns ++ (n ∷ [])) d
          ≡ cond (depth_open d (deepest_by n.depth n.entry)) (Some (get_or (set parents (n.depth + 1) (length ns)) d 0)) None
      unfolding parent_at depth_open
      either false e = rw e
      either true e = let t = depth_deep d e in by_depth t.low t.high

    -- the parents after one node more
    pub parents_next : Parents (ns ++ (n ∷ [])) (set parents (n.depth + 1) (length ns)) (deepest_by n.depth n.entry)
    parents_next = record { says = λ d. either d (is_depth d) refl }

-- a service of a number
abbrev is_of : ℕ → Node → Bool
is_of m n = eqb (number_of n.code) m && is_service n.entry

-- an index that was found; 0, the root's, for none
abbrev pub index_in : Option ℕ → ℕ
index_in (Some j) = j
index_in None = 0

-- the first services that are kept say which is the first of a number
pub record Firsts (ns : List Node) (firsts : List ℕ) : Type 0 where
  pub says : (m : ℕ) → m < 1024 → get_or firsts m 0 ≡ index_in (first_from (is_of m) 0 ns)

module _ {ns : List Node} {firsts : List ℕ} (kept : Firsts ns firsts) (n : Node) (long : length firsts ≡ 1024) where
  -- one node more is the first where there was none
  joined : (f : Option ℕ) (e : Entry) →
      first_after (first_in ns f) (index_in f) e (length ns) ≡ index_in (or_else f (cond (is_service e) (Some (length ns)) None))
  joined (Some j) e = refl
  joined None (Area e) = refl
  joined None (Service s b l) = refl

  none : (f : Option ℕ) → f ≡ or_else f None
  none (Some j) = refl
  none None = refl

  last-first : (m : ℕ) → first_from (is_of m) 0 (ns ++ (n ∷ [])) ≡ or_else (first_from (is_of m) 0 ns) (cond (is_of m n) (Some (length ns)) None)
  unfolding first_from
  last-first m = rw zero-add at (first-append (is_of m) 0 ns (n ∷ []))

  module _ {v : ℕ} (small : number_of n.code < 1024)
      (e : v ≡ first_after (first_in ns (shared_of ns n.code)) (get_or firsts (number_of n.code) 0) n.entry (length ns))
    where
      own : v ≡ index_in (first_from (is_of (number_of n.code)) 0 (ns ++ (n ∷ [])))
      own =
          e ∙ rw (
            kept.says (number_of n.code) small,
            last-first (number_of n.code),
            eq-eqb (number_of n.code) (number_of n.code) refl,
          ) (joined (shared_of ns n.code) n.entry)

      each : (m : ℕ) → m < 1024 → (b : Bool) → eqb (number_of n.code) m ≡ b →
          get_or (set firsts (number_of n.code) v) m 0 ≡ index_in (first_from (is_of m) 0 (ns ++ (n ∷ [])))
      each m h true k =
          let q : number_of n.code ≡ m = eqb-true (number_of n.code) m k in
          rw (sym q) (get_or-set_same firsts (number_of n.code) v 0 (omega arith) ∙ own)
      each m h false k =
          get_or-set_other firsts (number_of n.code) m v 0 (λ q. eqb-false (number_of n.code) m k (sym q))
          ∙ kept.says m h
          ∙ rw (last-first m, k) (ap index_in (none (first_from (is_of m) 0 ns)))

      -- the first services after one node more
      pub firsts_next : Firsts (ns ++ (n ∷ [])) (set firsts (number_of n.code) v)
      firsts_next = record { says = λ m h. each m h (eqb (number_of n.code) m) refl }

-- a service stands for itself, an area for none
service-first : (n : Node) (e : Entry) → is_service e ≡ true → first_by n e ≡ Some n
service-first n (Area e) h = absurd (let z : ◌≡◌ {A = ℕ} 0 1 = cc in (omega arith))
service-first n (Service s b l) h = refl

area-first : (n : Node) (e : Entry) → is_area e ≡ true → first_by n e ≡ None
area-first n (Area e) h = refl
area-first n (Service s b l) h = absurd (let z : ◌≡◌ {A = ℕ} 0 1 = cc in (omega arith))

second : (a b : Bool) → (a && b) ≡ true → b ≡ true
second true b e = e
second false b e = absurd (let z : ◌≡◌ {A = ℕ} 0 1 = cc in (omega arith))

index_below : (f : Option ℕ) (k : ℕ) → 0 < k → Below f (0 + k) → index_in f < k
index_below (Some j) k h b = omega arith
index_below None k h b = h

module _ {ns : List Node} {firsts : List ℕ} (kept : Firsts ns firsts) (code : ℕ) (small : number_of code < 1024) where
  -- the index that is kept is that of a node
  pub first_index_lem : 0 < length ns → get_or firsts (number_of code) 0 < length ns
  first_index_lem h =
      rw (kept.says (number_of code) small) (index_below (shared_of ns code) (length ns) h (first_below (is_of (number_of code)) 0 ns))

  module _ (root : is_area (get_or ns 0 root_node).entry ≡ true) where
    stands : (f : Option ℕ) → shared_of ns code ≡ f →
        first_by (get_or ns (index_in f) root_node) (get_or ns (index_in f) root_node).entry ≡ first_in ns f
    stands (Some j) e =
        let t = (first_found (is_of (number_of code)) ns e).passes in
        service-first (get_or ns j root_node) (get_or ns j root_node).entry
        (second (eqb (number_of (get_or ns j root_node).code) (number_of code)) (is_service (get_or ns j root_node).entry) t)
    stands None e = area-first (get_or ns 0 root_node) (get_or ns 0 root_node).entry root

    -- and that node stands for the first service of the number
    pub first_there :
        let n = get_or ns (get_or firsts (number_of code) 0) root_node in first_by n n.entry ≡ first_in ns (shared_of ns code)
    first_there = rw (kept.says (number_of code) small) (stands (shared_of ns code) refl)
