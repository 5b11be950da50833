-- One walk gathers the packet that the definition takes of all children.
use Rattle.std.proofs.Common.{Option}
use mathlib.Core.Path.{◌≡◌, refl, sym, ◌∙◌, ap}
use mathlib.Core.Bool.{Bool, true, false, cond}
use mathlib.Core.List.{List, [], ◌∷◌, ◌++◌, map, append-nil}
use mathlib.Core.Logic.{⊎_elim}
use Prim.Native.Nat.{ℕ, zero, suc, ◌+◌, ◌-◌, ◌*◌, ◌≤◌, ◌<◌, min}
use native.Mathlib.Decide.{ℕ_discrete, dec_lt}
use native.Mathlib.Omega.{arith}
use lib.Dec.{eqb, ltb, leb}
use lib.ListN.{length, get_or, take, drop, set, length-append, length-take, drop_of_length-le}
use lib.Seq.{append_snoc, drop-append-le, take-append-le, take_all, drop-nil}
use borrow.Author.Tests.{lt-ltb, le-ltb, lt-leb, le-leb, leb-false, eq-eqb, ne_eqb}
use Rattle.service_code.specs.declared.limit.Limit.{Limit}
use Rattle.byte_parts.specs.Part.{padded}
use Rattle.node_messages.specs.declared.code_list.CodeList.{CodeList}
use Rattle.node_messages.specs.CodeList.{empty_list}
use Rattle.node_messages.proofs.NumberLaws.{padded-more}
use Rattle.card_nodes.specs.declared.node.Entry.{Entry}
use Rattle.card_nodes.specs.declared.node.Entry.TheVariants.{Area, Service}
use Rattle.card_nodes.specs.declared.node.Node.{Node}
use Rattle.card_nodes.specs.Node.{root_node, is_area, is_service}
use Rattle.card_nodes.proofs.Scan.{Left, here, turn, done}
use Rattle.card_questions.specs.ListingWorded.{pairs_of}
use Rattle.card_laws.proofs.UnderLaws.{le-or-lt}
use Rattle.card_lists.specs.declared.gather.Gathered.{Gathered}
use Rattle.card_laws.specs.Children.{children_under}
use Rattle.card_lists.specs.Gather.{nothing_gathered, area_gathered, service_gathered, child_by, child_added, node_added, gathered_from}
use Rattle.card_lists.specs.Packet.{among, areas_among, services_among, ranges_among, codes_among, list_of}
use Rattle.card_lists.proofs.Among.{among-append, pairs-append, map-append, pairs-long, all_among, ranges-long, codes-long}

-- one child more, where there is room
module _ (xs : List Node) (n : Node) (h : length xs < 16) where
  areas-few : length (areas_among xs) + length (services_among xs) < 16
  areas-few = omega (arith, all_among xs)

  -- an area
  one_area : (e : ℕ) → n.entry ≡ Area e → area_gathered (list_of false xs) n.code e ≡ list_of false (xs ++ (n ∷ []))
  unfolding among pairs_of
  one_area e q =
      let areas : areas_among (xs ++ (n ∷ [])) ≡ areas_among xs ++ (n ∷ []) = among-append is_area xs (n ∷ []) ∙ rw q in
      let services : services_among (xs ++ (n ∷ [])) ≡ services_among xs = among-append is_service xs (n ∷ []) ∙ rw q (append-nil (services_among xs)) in
      let ps = ranges_among xs in
      let k : length (areas_among xs) + 1 ≡ length (areas_among (xs ++ (n ∷ []))) = rw areas (sym (length-append (areas_among xs) (n ∷ []))) in
      let l : length ps ≡ 2 * length (areas_among xs) = ranges-long xs in
      let f : length ps < 32 = omega (arith, areas-few) in
      let m : length (ps ++ (n.code ∷ [])) ≡ 2 * length (areas_among xs) + 1 = omega (arith, length-append ps (n.code ∷ []), l) in
      let g : length (ps ++ (n.code ∷ [])) < 32 = omega (arith, areas-few, m) in
      let pairs : pairs_of (areas_among xs ++ (n ∷ [])) ≡ ps ++ (n.code ∷ []) ++ (e ∷ []) =
      pairs-append (areas_among xs) (n ∷ []) ∙ rw q (sym (append_snoc ps n.code (e ∷ []))) in
      let r : set (set (padded 32 ps) (2 * length (areas_among xs)) n.code) (2 * length (areas_among xs) + 1) e ≡ padded 32 (ranges_among (xs ++ (n ∷ []))) =
      rw (areas, pairs, padded-more 32 (ps ++ (n.code ∷ [])) e g, padded-more 32 ps n.code f, m, l) in
      λ i. record { more = false; areas = k i; ranges = r i; services = length (sym services i); codes = padded 16 (map (λ (x : Node). x.code) (sym services i)) }

  -- a service
  one_service : (s b : ℕ) (l : Option Limit) → n.entry ≡ Service s b l → service_gathered (list_of false xs) n.code ≡ list_of false (xs ++ (n ∷ []))
  unfolding among
  one_service s b l q =
      let services : services_among (xs ++ (n ∷ [])) ≡ services_among xs ++ (n ∷ []) = among-append is_service xs (n ∷ []) ∙ rw q in
      let areas : areas_among (xs ++ (n ∷ [])) ≡ areas_among xs = among-append is_area xs (n ∷ []) ∙ rw q (append-nil (areas_among xs)) in
      let cs = codes_among xs in
      let k : length (services_among xs) + 1 ≡ length (services_among (xs ++ (n ∷ []))) = rw services (sym (length-append (services_among xs) (n ∷ []))) in
      let m : length cs ≡ length (services_among xs) = codes-long xs in
      let f : length cs < 16 = omega (arith, areas-few, m) in
      let codes : codes_among (xs ++ (n ∷ [])) ≡ cs ++ (n.code ∷ []) = rw services (map-append (λ (x : Node). x.code) (services_among xs) (n ∷ [])) in
      let r : set (padded 16 cs) (length (services_among xs)) n.code ≡ padded 16 (codes_among (xs ++ (n ∷ []))) =
      rw (codes, padded-more 16 cs n.code f, m) in
      λ i. record { more = false; areas = length (sym areas i); ranges = padded 32 (pairs_of (sym areas i)); services = k i; codes = r i }

  one_child : child_by (list_of false xs) n.code n.entry ≡ list_of false (xs ++ (n ∷ []))
  one_child = by n.entry refl
    where
      by : (t : Entry) → n.entry ≡ t → child_by (list_of false xs) n.code t ≡ list_of false (xs ++ (n ∷ []))
      by (Area e) q = one_area e q
      by (Service s b l) q = one_service s b l q

-- the packet after the first children, of those that were seen
abbrev packet_after : ℕ → List Node → List Node
packet_after first seen = take 16 (drop first seen)

abbrev pub state_of : ℕ → List Node → Gathered
state_of first seen = record { list = list_of false (packet_after first seen); children = length seen }

-- a child is added to a packet, if that is not full
packet_child : (ys : List Node) (n : Node) → child_added (list_of false (take 16 ys)) n ≡ list_of false (take 16 (ys ++ (n ∷ [])))
unfolding child_added
packet_child ys n =
    elim (dec_lt (length ys) 16) [
      | yes h ↦
          let own : take 16 ys ≡ ys = take_all 16 ys (omega arith) in
          let all : take 16 (ys ++ (n ∷ [])) ≡ ys ++ (n ∷ []) = take_all 16 (ys ++ (n ∷ [])) (simp length-append (omega arith)) in
          rw (own, all, lt-leb 16 (length (areas_among ys) + length (services_among ys)) (omega (arith, all_among ys))) (one_child ys n h)
      | no h ↦
          let few : length (take 16 ys) ≡ 16 = simp length-take (omega arith) in
          rw (take-append-le 16 ys (n ∷ []) (omega arith), le-leb 16 (length (areas_among (take 16 ys)) + length (services_among (take 16 ys))) (omega (arith, all_among (take 16 ys), few)))
    ]

-- one child more is seen
child_seen : (first : ℕ) (seen : List Node) (n : Node) →
    cond (ltb (length seen) first) (list_of false (packet_after first seen)) (child_added (list_of false (packet_after first seen)) n)
    ≡ list_of false (packet_after first (seen ++ (n ∷ [])))
child_seen first seen n =
    ⊎_elim
    (λ (h : first ≤ length seen). rw (le-ltb (length seen) first h, drop-append-le first seen (n ∷ []) h) (packet_child (drop first seen) n))
    (λ (h : length seen < first).
    let k : length seen ≤ first = omega arith in
    let l : length (seen ++ (n ∷ [])) ≤ first = simp length-append (omega arith) in
    rw (lt-ltb (length seen) first h, drop_of_length-le seen k, drop_of_length-le (seen ++ (n ∷ [])) l))
    (le-or-lt first (length seen))

module _ (d first : ℕ) (seen : List Node) (n : Node) where
  -- a node one level deeper is a child
  is_child : n.depth ≡ d + 1 → node_added d first (state_of first seen) n ≡ state_of first (seen ++ (n ∷ []))
  unfolding node_added
  is_child h =
      let k : length seen + 1 ≡ length (seen ++ (n ∷ [])) = sym (length-append seen (n ∷ [])) in
      rw (eq-eqb n.depth (d + 1) h) (λ i. record { list = child_seen first seen n i; children = k i })

  -- any other is not
  no_child : (n.depth ≡ d + 1 → ⊥) → node_added d first (state_of first seen) n ≡ state_of first seen
  unfolding node_added
  no_child h = rw (ne_eqb n.depth (d + 1) h)

-- from the children that were seen
pub gathered : (d first : ℕ) (seen ns : List Node) → gathered_from d first (state_of first seen) ns ≡ state_of first (seen ++ children_under d ns)
unfolding gathered_from children_under
gathered d first seen [] = rw (append-nil seen)
gathered d first seen (n ∷ ns) =
    ⊎_elim
    (λ h. rw (le-leb n.depth d h, append-nil seen))
    (λ h.
    elim (ℕ_discrete n.depth (d + 1)) [
      | yes e ↦
          rw (lt-leb n.depth d h, eq-eqb n.depth (d + 1) e, is_child d first seen n e, gathered d first (seen ++ (n ∷ [])) ns, append_snoc seen n (children_under d ns))
      | no e ↦
          rw (lt-leb n.depth d h, ne_eqb n.depth (d + 1) e, no_child d first seen n e) (gathered d first seen ns)
    ])
    (le-or-lt n.depth d)

-- from none
none_seen : (first : ℕ) → nothing_gathered ≡ state_of first []
unfolding among padded pairs_of
none_seen first = rw (drop-nil {A = Node} first)

pub gathered_all : (d first : ℕ) (ns : List Node) → gathered_from d first nothing_gathered ns ≡ state_of first (children_under d ns)
gathered_all d first ns = rw (none_seen first) (gathered d first [] ns)

-- whether a packet is full, without a sum
pub full_same : (a s : ℕ) → a < 16 → leb (16 - a) s ≡ leb 16 (a + s)
full_same a s h =
    elim (dec_lt s (16 - a)) [
      | yes k ↦ rw (lt-leb (16 - a) s k, lt-leb 16 (a + s) (omega arith))
      | no k ↦ rw (le-leb (16 - a) s (omega arith), le-leb 16 (a + s) (omega arith))
    ]

-- a child is added, or not, by what it is
module _ (m : CodeList) (n : Node) where
  pub child_full : leb 16 (m.areas + m.services) ≡ true → m ≡ child_added m n
  unfolding child_added
  child_full f = rw f

  module _ (f : leb 16 (m.areas + m.services) ≡ false) where
    pub child_room : (m.areas < 16) × (m.services < 16)
    child_room = let h = leb-false 16 (m.areas + m.services) f in (omega arith, omega arith)

    pub child_area : {e : ℕ} {x : CodeList} → n.entry ≡ Area e → x ≡ area_gathered m n.code e → x ≡ child_added m n
    unfolding child_added
    child_area q a = a ∙ rw (f, q)

    pub child_service : {s b : ℕ} {l : Option Limit} {x : CodeList} → n.entry ≡ Service s b l → x ≡ service_gathered m n.code → x ≡ child_added m n
    unfolding child_added
    child_service q a = a ∙ rw (f, q)

-- a node is a child or not, and before the packet or not
module _ (d first : ℕ) (g : Gathered) (n : Node) where
  pub node_other : (n.depth ≡ d + 1 → ⊥) → g ≡ node_added d first g n
  unfolding node_added
  node_other h = rw (ne_eqb n.depth (d + 1) h)

  module _ (h : n.depth ≡ d + 1) where
    pub node_before : g.children < first → record { list = g.list; children = g.children + 1 } ≡ node_added d first g n
    unfolding node_added
    node_before k = rw (eq-eqb n.depth (d + 1) h, lt-ltb g.children first k)

    pub node_child : {m : CodeList} → first ≤ g.children → m ≡ child_added g.list n → record { list = m; children = g.children + 1 } ≡ node_added d first g n
    unfolding node_added
    node_child k e = rw (eq-eqb n.depth (d + 1) h, le-ltb g.children first k, e)

-- a node adds one child at most
node-most : (d first : ℕ) (g : Gathered) (n : Node) → (node_added d first g n).children ≤ g.children + 1
unfolding node_added
node-most d first g n = by (eqb n.depth (d + 1))
  where
    by : (t : Bool) → (cond t (record { list = cond (ltb g.children first) g.list (child_added g.list n); children = g.children + 1 }) g).children ≤ g.children + 1
    by true = omega arith
    by false = omega arith

-- so that there are fewer children than nodes passed
pub still_fewer : (d first : ℕ) (g : Gathered) (n : Node) {i : ℕ} {g' : Gathered} → g.children < i → g' ≡ node_added d first g n → g'.children < i + 1
still_fewer d first g n h e = rw e (omega (arith, node-most d first g n))

-- the walk begins behind the area
pub walk_begins : (nodes : List Node) {count n at d : ℕ} (first : ℕ) {m : CodeList} → length nodes ≡ 64 → n ≡ min count 64 → at < min count 64 →
    d ≡ (get_or nodes at root_node).depth → m ≡ empty_list →
    Left nodes count n (gathered_from (get_or nodes at root_node).depth first nothing_gathered (drop (at + 1) (take count nodes)))
    (λ (j : ℕ) (rest : List Node). gathered_from d first (record { list = m; children = 0 }) rest) (at + 1)
walk_begins nodes first l n h d m = record { within = omega arith; all = omega arith; same = rw (d, m) }

-- a record that is read, whatever a read past the end gives
pub same_read : (nodes : List Node) (i : ℕ) (y z : Node) → i < length nodes → get_or nodes i y ≡ get_or nodes i z
same_read [] i y z h = absurd (omega arith)
same_read (n ∷ nodes) zero y z h = refl
same_read (n ∷ nodes) (suc i) y z h = same_read nodes i y z (omega arith)

-- a turn of the walk
module _ (d first : ℕ) (g : Gathered) (z : Node) {ns : List Node} {count n i : ℕ} {whole : Gathered}
    (left : Left ns count n whole (λ (j : ℕ) (rest : List Node). gathered_from d first g rest) i) where
  -- a node that is no deeper ends it
  pub walk_ends : i < n → (get_or ns i z).depth ≤ d → g ≡ whole
  unfolding gathered_from
  walk_ends h k = rw (le-leb (get_or ns i z).depth d k) at (here left z h)

  -- any other is looked at
  pub walk_on_lem : {g' : Gathered} → i < n → d < (get_or ns i z).depth → g' ≡ node_added d first g (get_or ns i z) →
      Left ns count n whole (λ (j : ℕ) (rest : List Node). gathered_from d first g' rest) (i + 1)
  unfolding gathered_from
  walk_on_lem {g' = g'} h k e = turn left z (λ (j : ℕ) (rest : List Node). gathered_from d first g' rest) h (λ rest. rw (lt-leb (get_or ns i z).depth d k, e))

  -- no node is left
  pub walk-done : n ≤ i → g ≡ whole
  unfolding gathered_from
  walk-done h = done left h
