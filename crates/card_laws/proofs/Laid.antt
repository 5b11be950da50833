-- What is known of the nodes of a card that additions and limits produce, and where their stores lie.
use Rattle.std.proofs.Common.{Option, Some, None, Ok}
use mathlib.Core.Path.{◌≡◌, refl, sym, ◌∙◌, ap}
use mathlib.Core.Bool.{Bool, true, false, ◌&&◌, false≢true, and-eq-true_iff}
use mathlib.Core.List.{List, [], ◌∷◌, ◌++◌}
use mathlib.Core.Logic.{◌⊎◌, inl, inr, ⊎_elim, ◌≢◌}
use Prim.Native.Nat.{ℕ, zero, suc, ◌+◌, ◌≤◌, ◌<◌}
use native.Mathlib.Omega.{arith}
use native.Mathlib.Nat.{eq-or-lt_of_le, zero-add}
use lib.Dec.{eqb, ltb}
use lib.ListN.{length, get_or, length-append, length-replicate, get_or-append}
use lib.Seq.{get_or_at, take-append_seam}
use borrow.Author.Tests.{eqb-true, eq-eqb, ltb-true, ltb-false}
use Rattle.service_code.specs.Code.{number_of, code_kind_of}
use Rattle.service_code.specs.declared.limit.Limit.{Limit}
use Rattle.card_nodes.specs.declared.node.Entry.TheVariants.{Area, Service}
use Rattle.card_nodes.specs.declared.node.Node.{Node}
use Rattle.card_nodes.specs.Node.{root_node, is_service, start_of, blocks_of}
use Rattle.card_nodes.specs.Find.{first_from, service_of, shared_of}
use Rattle.card_admit.specs.Admit.{area_judged, placed_of}
use Rattle.card_nodes.proofs.Searches.{first_found, first-kept, first-after}
use Rattle.card_admit.proofs.Growth.{Deep, Joined, Fresh, stored, used_grows}
use Rattle.card_build.specs.declared.card.Card.{Card}
use Rattle.card_build.specs.Card.{nodes_of}
use Rattle.card_build.specs.Grow.{node_as}
use Rattle.card_laws.specs.Built.{Built}
use Rattle.card_laws.proofs.Made.{Made, made-used}
use Rattle.card_laws.proofs.Built.{Carded, carded, built_carded}
use Rattle.card_laws.proofs.Places.{Known, area_deep, service_known, same_kind_lem}
use Rattle.card_admit.specs.Placed.{placed_at}

-- a node by its index; past the end the root is read, which is no service
abbrev pub node_at : List Node → ℕ → Node
node_at ns i = get_or ns i root_node

-- the blocks up to the end of a node's store
abbrev pub store_end : Node → ℕ
store_end n = start_of n.entry + blocks_of n.entry

-- a service, by the first of its number: that has the same store, of the same kind, after all stores before it
pub record OfFirst (ns : List Node) (n : Node) : Type 0 where
  pub first : ℕ
  pub found : shared_of ns n.code ≡ Some first
  pub start : start_of n.entry ≡ start_of (node_at ns first).entry
  pub blocks : blocks_of n.entry ≡ blocks_of (node_at ns first).entry
  pub kind : code_kind_of n.code ≡ code_kind_of (node_at ns first).code
  pub after : (k : ℕ) → k < first → store_end (node_at ns k) ≤ start_of n.entry

-- the nodes of a card with `used` blocks in use
pub record Laid (ns : List Node) (used : ℕ) : Type 0 where
  -- there is one at least
  pub some : 1 ≤ length ns
  -- the first is the root
  pub root : node_at ns 0 ≡ root_node
  -- every later one is at a depth from 1 to 8
  pub deep : (i : ℕ) → 1 ≤ i → i < length ns → Deep (node_at ns i).depth
  -- each store lies among the blocks in use
  pub within : (i : ℕ) → store_end (node_at ns i) ≤ used
  -- each service has a defined attribute
  pub known : (i : ℕ) → is_service (node_at ns i).entry ≡ true → Known (node_at ns i).code
  -- and the store of the first service of its number
  pub owner : (i : ℕ) → is_service (node_at ns i).entry ≡ true → OfFirst ns (node_at ns i)

-- what holds of each node and of one more
each : (P : Node → Type 0) (ns : List Node) (n : Node) → ((i : ℕ) → P (node_at ns i)) → P n → (i : ℕ) → P (node_at (ns ++ (n ∷ [])) i)
each P [] n old new zero = new
each P [] n old new (suc i) = old i
each P (m ∷ ns) n old new zero = old 0
each P (m ∷ ns) n old new (suc i) = each P ns n (λ k. old (suc k)) new i

-- the nodes before it stay
before : (ns : List Node) (n : Node) (i : ℕ) → i < length ns → node_at (ns ++ (n ∷ [])) i ≡ node_at ns i
before ns n i h = get_or-append ns (n ∷ []) root_node i h

-- a service of a code's number
abbrev sharer : ℕ → Node → Bool
sharer code n = eqb (number_of n.code) (number_of code) && is_service n.entry

-- what a search finds is a service of the code, or of its number
found-is : (by : Node → ℕ) (x : ℕ) (ns : List Node) {p : ℕ} → first_from (λ m. eqb (by m) x && is_service m.entry) 0 ns ≡ Some p →
    (p < length ns) × (by (node_at ns p) ≡ x) × (is_service (node_at ns p).entry ≡ true)
found-is by x ns {p = p} e =
    let f = first_found (λ m. eqb (by m) x && is_service m.entry) ns e in
    let t = (and-eq-true_iff (eqb (by (node_at ns p)) x) (is_service (node_at ns p).entry)).0 f.passes in
    (f.within, eqb-true (by (node_at ns p)) x t.0, t.1)

-- by its number
shared_is : (ns : List Node) (code : ℕ) {p : ℕ} → shared_of ns code ≡ Some p →
    (p < length ns) × (number_of (node_at ns p).code ≡ number_of code) × (is_service (node_at ns p).entry ≡ true)
shared_is ns code e = found-is (λ m. number_of m.code) (number_of code) ns e

-- a service of a code, at index i
pub record Served (ns : List Node) (code i : ℕ) : Type 0 where
  pub inside : i < length ns
  pub coded : (node_at ns i).code ≡ code
  pub service : is_service (node_at ns i).entry ≡ true

-- what service_of finds is one
pub served : (ns : List Node) (code : ℕ) {i : ℕ} → service_of ns code ≡ Some i → Served ns code i
served ns code e = let f = found-is (λ m. m.code) code ns e in record { inside = f.0; coded = f.1; service = f.2 }

-- codes of one number find one service
shared_same : (ns : List Node) (a b : ℕ) → number_of a ≡ number_of b → shared_of ns a ≡ shared_of ns b
shared_same ns a b e = ap (λ k. first_from (λ m. eqb (number_of m.code) k && is_service m.entry) 0 ns) e

-- the first of a number stays the first
owner_kept : {ns : List Node} {m : Node} (n : Node) → OfFirst ns m → OfFirst (ns ++ (n ∷ [])) m
owner_kept {ns = ns} {m = m} n o =
    let h = (shared_is ns m.code o.found).0 in
    let same = before ns n o.first h in
    record {
      first = o.first;
      found = first-kept (sharer m.code) 0 ns (n ∷ []) o.found;
      start = rw same o.start;
      blocks = rw same o.blocks;
      kind = rw same o.kind;
      after = λ k i. rw (before ns n k (omega arith)) (o.after k i);
    }

-- a new service of a new number is the first
owner_new : (ns : List Node) (n : Node) → shared_of ns n.code ≡ None → is_service n.entry ≡ true →
    ((k : ℕ) → store_end (node_at ns k) ≤ start_of n.entry) → OfFirst (ns ++ (n ∷ [])) n
unfolding first_from
owner_new ns n e h above =
    let same : node_at (ns ++ (n ∷ [])) (length ns) ≡ n = get_or_at ns n [] root_node (length ns) refl in
    record {
      first = length ns;
      found = first-after (sharer n.code) 0 ns (n ∷ []) e ∙ rw (eq-eqb (number_of n.code) (number_of n.code) refl, h, zero-add);
      start = rw same;
      blocks = rw same;
      kind = rw same;
      after = λ k i. rw (before ns n k i) (above k);
    }

-- an area is no service
no_service : {A : Type 0} → ◌≡◌ {A = Bool} false true → A
no_service h = absurd (false≢true h)

-- a node that comes next
record Next (ns : List Node) (used : ℕ) (n : Node) (u : ℕ) : Type 0 where
  deep : Deep n.depth
  grows : used ≤ u
  within : store_end n ≤ u
  known : is_service n.entry ≡ true → Known n.code
  owner : is_service n.entry ≡ true → OfFirst (ns ++ (n ∷ [])) n

module _ {ns : List Node} {used : ℕ} (l : Laid ns used) where
  -- and so with it
  laid_next : {n : Node} {u : ℕ} → Next ns used n u → Laid (ns ++ (n ∷ [])) u
  laid_next {n = n} {u = u} x = record {
    some = simp length-append (omega arith);
    root = before ns n 0 l.some ∙ l.root;
    deep = λ i h k.
        ⊎_elim
        (λ e. rw (get_or_at ns n [] root_node i (sym e)) x.deep)
        (λ o. rw (before ns n i o) (l.deep i h o))
        (eq-or-lt_of_le (omega (arith, k, length-append ns (n ∷ []))));
    within = each (λ m. store_end m ≤ u) ns n (λ i. omega (arith, l.within i)) x.within;
    known = each (λ m. is_service m.entry ≡ true → Known m.code) ns n l.known x.known;
    owner = each (λ m. is_service m.entry ≡ true → OfFirst (ns ++ (n ∷ [])) m) ns n (λ i s. owner_kept n (l.owner i s)) x.owner;
  }

  -- an area has no store
  laid_area : (depth code end version : ℕ) → area_judged ns depth code end ≡ Ok tt →
      Laid (ns ++ (node_as depth code version (Area end) ∷ [])) used
  laid_area depth code end version e = laid_next (record {
    deep = area_deep ns depth code end e;
    grows = omega arith;
    within = omega arith;
    known = no_service;
    owner = no_service;
  })

  module _ {s b u : ℕ} (depth code version : ℕ) (limit : Option Limit) (e : placed_of ns used 65536 depth code b ≡ placed_at s b u) where
    abbrev new : Node
    new = node_as depth code version (Service s b limit)

    -- a store that it joins
    joins : Joined ns used code s b u → (store_end new ≤ u) × OfFirst (ns ++ (new ∷ [])) new
    joins j =
        let m = node_at ns j.first in
        let t = shared_is ns code j.found in
        let o = l.owner j.first t.2 in (
          omega (arith, l.within j.first),
          owner_kept new (record {
            first = o.first;
            found = shared_same ns code m.code (sym t.1) ∙ o.found;
            start = j.start ∙ o.start;
            blocks = j.count ∙ o.blocks;
            kind = sym (same_kind_lem m.code code j.kind) ∙ o.kind;
            after = λ k h. rw j.start (o.after k h);
          }),
        )

    -- a store that it makes
    makes : Fresh ns used 65536 code b s b u → (store_end new ≤ u) × OfFirst (ns ++ (new ∷ [])) new
    makes f = (omega arith, owner_new ns new f.none refl (λ k. omega (arith, l.within k)))

    laid_service : Laid (ns ++ (new ∷ [])) u
    laid_service =
        let k = service_known ns used 65536 depth code b e in
        let x = ⊎_elim joins makes (stored ns depth code used 65536 b e) in
        laid_next (record {
          deep = k.0;
          grows = used_grows ns depth code used 65536 b e;
          within = x.0;
          known = λ h. k.1;
          owner = λ h. x.1;
        })

-- the root alone
laid_root : Laid (root_node ∷ []) 0
laid_root = record {
  some = omega arith;
  root = refl;
  deep = λ i h k. absurd (omega arith);
  within = each (λ m. store_end m ≤ 0) [] root_node (λ i. omega arith) (omega arith);
  known = each (λ m. is_service m.entry ≡ true → Known m.code) [] root_node (λ i. no_service) no_service;
  owner = each (λ m. is_service m.entry ≡ true → OfFirst (root_node ∷ []) m) [] root_node (λ i. no_service) no_service;
}

made_laid : {ns : List Node} {used : ℕ} → Made ns used → Laid ns used
made_laid Made.root = laid_root
made_laid (Made.area depth code end version m e) = laid_area (made_laid m) depth code end version e
made_laid (Made.service depth code version limit m e) = laid_service (made_laid m) depth code version limit e

-- two services with one store, of one kind
pub record Shared (n m : Node) : Type 0 where
  pub start : start_of n.entry ≡ start_of m.entry
  pub blocks : blocks_of n.entry ≡ blocks_of m.entry
  pub kind : code_kind_of n.code ≡ code_kind_of m.code

module _ {ns : List Node} {used : ℕ} (l : Laid ns used) (i j : ℕ) (h : is_service (node_at ns i).entry ≡ true)
    (k : is_service (node_at ns j).entry ≡ true) where
  -- services of one number have one store, and are of one kind
  pub shared : number_of (node_at ns i).code ≡ number_of (node_at ns j).code → Shared (node_at ns i) (node_at ns j)
  shared e =
      let o = l.owner i h in
      let p = l.owner j k in
      let at : Some o.first ≡ Some p.first = sym o.found ∙ shared_same ns (node_at ns i).code (node_at ns j).code e ∙ p.found in
      let same : o.first ≡ p.first = cc in
      record {
        start = o.start ∙ ap (λ x. start_of (node_at ns x).entry) same ∙ sym p.start;
        blocks = o.blocks ∙ ap (λ x. blocks_of (node_at ns x).entry) same ∙ sym p.blocks;
        kind = o.kind ∙ ap (λ x. code_kind_of (node_at ns x).code) same ∙ sym p.kind;
      }

  -- stores of different numbers lie one after the other, empty ones too
  pub apart : number_of (node_at ns i).code ≢ number_of (node_at ns j).code →
      (store_end (node_at ns i) ≤ start_of (node_at ns j).entry) ⊎ (store_end (node_at ns j) ≤ start_of (node_at ns i).entry)
  apart e =
      let o = l.owner i h in
      let p = l.owner j k in
      by_first o p (ltb o.first p.first) refl
    where
      by_first : (o : OfFirst ns (node_at ns i)) (p : OfFirst ns (node_at ns j)) (t : Bool) → ltb o.first p.first ≡ t →
          (store_end (node_at ns i) ≤ start_of (node_at ns j).entry) ⊎ (store_end (node_at ns j) ≤ start_of (node_at ns i).entry)
      by_first o p true q = inl (omega (arith, p.after o.first (ltb-true o.first p.first q)))
      by_first o p false q =
          ⊎_elim
          (λ same.
          absurd (e (sym (shared_is ns (node_at ns i).code o.found).1
          ∙ ap (λ x. number_of (node_at ns x).code) (sym same) ∙ (shared_is ns (node_at ns j).code p.found).1)))
          (λ less. inr (omega (arith, o.after p.first less)))
          (eq-or-lt_of_le (ltb-false o.first p.first q))

-- 64 records, of which 1 to 64 are nodes, and at most 4,096 blocks in use
pub record Sized (c : Card) : Type 0 where
  pub some : 1 ≤ c.count
  pub few : c.count ≤ 64
  pub long : length c.nodes ≡ 64
  pub nodes : length (nodes_of c) ≡ c.count
  pub most : c.used ≤ 4096

carded_sized : {c : Card} → Carded c → Sized c
carded_sized (carded system {ns = ns} m few) = record {
  some = (made_laid m).some;
  few = few;
  long = simp (length-append, length-replicate) (omega arith);
  nodes = rw take-append_seam;
  most = made-used m;
}

carded_laid : {c : Card} → Carded c → Laid (nodes_of c) c.used
carded_laid (carded system m h) = rw take-append_seam (made_laid m)

module _ {c : Card} (b : Built c) where
  -- the sizes of a card that is produced
  pub sized : Sized c
  sized = carded_sized (built_carded b)

  -- its nodes: root first, depths, attributes, stores
  pub laid : Laid (nodes_of c) c.used
  laid = carded_laid (built_carded b)
