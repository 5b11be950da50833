-- In tree order a node is at most one level deeper than an area before it, and no deeper than a service before it.
use Rattle.std.proofs.Common.{Option, Some, None, Ok}
use mathlib.Core.Path.{◌≡◌, refl, sym, ◌∙◌, subst}
use mathlib.Core.Bool.{Bool, true, false, cond, not}
use mathlib.Core.List.{List, [], ◌∷◌, ◌++◌}
use Prim.Native.Nat.{ℕ, suc, ◌+◌, ◌≤◌, ◌<◌}
use native.Mathlib.Omega.{arith}
use lib.Dec.{eqb, ltb, leb}
use lib.ListN.{length}
use lib.Seq.{take-append_seam}
use borrow.Author.Tests.{eqb-true, ltb-false}
use Rattle.answers.specs.declared.refusal.Refusal.TheVariants.{TableFull}
use Rattle.card_nodes.specs.declared.node.Entry.{Entry}
use Rattle.card_nodes.specs.declared.node.Entry.TheVariants.{Area, Service}
use Rattle.card_nodes.specs.declared.node.Node.{Node}
use Rattle.card_nodes.specs.Find.{area_at, open_at, parent_from, parent_of}
use Rattle.card_admit.specs.declared.Placed.{Placed}
use Rattle.card_admit.specs.Admit.{is_depth, parent_at, area_found, area_judged, service_found, placed_of}
use Rattle.card_build.specs.declared.card.Card.{Card}
use Rattle.card_build.specs.Card.{nodes_of}
use Rattle.card_build.specs.Grow.{node_as}
use Rattle.card_laws.specs.Built.{Built}
use Rattle.card_laws.proofs.Made.{Made}
use Rattle.card_laws.proofs.Built.{Carded, carded, built_carded}
use Rattle.card_admit.specs.Placed.{placed_at}

-- the deepest that may follow a node
abbrev pub deepest_by : Entry → ℕ → ℕ
deepest_by (Area e) d = d + 1
deepest_by (Service s b l) d = d

abbrev pub deepest_after : Node → ℕ
deepest_after n = deepest_by n.entry n.depth

-- nodes of which the first is no deeper than m, and each other no deeper than may follow the one before it
abbrev pub Steps : ℕ → List Node → Type 0
Steps m [] = Unit {0}
Steps m (n ∷ ns) = (n.depth ≤ m) × Steps (deepest_after n) ns

-- the deepest that may follow them
abbrev deepest_last : ℕ → List Node → ℕ
deepest_last m [] = m
deepest_last m (n ∷ ns) = deepest_last (deepest_after n) ns

-- one node more
steps_more : (m : ℕ) (ns : List Node) (n : Node) → Steps m ns → n.depth ≤ deepest_last m ns → Steps m (ns ++ (n ∷ []))
steps_more m [] n s h = (h, tt)
steps_more m (x ∷ ns) n s h = (s.0, steps_more (deepest_after x) ns n s.1 h)

-- where something is found
abbrev IfAt : Option ℕ → Type 0 → Type 0
IfAt (Some p) P = P
IfAt None P = Unit {0}

-- a node at least as deep may come next
deepest_least : (n : Node) → n.depth ≤ deepest_after n
deepest_least n = by n.entry
  where
    by : (t : Entry) → n.depth ≤ deepest_by t n.depth
    by (Area e) = omega arith
    by (Service s b l) = omega arith

-- a node that is a parent is an area one level up
open_bound : (n : Node) (depth i : ℕ) → IfAt (open_at n depth i) (depth ≤ deepest_after n)
unfolding open_at
open_bound n depth i = by (eqb (n.depth + 1) depth) refl n.entry
  where
    by : (b : Bool) → eqb (n.depth + 1) depth ≡ b → (t : Entry) → IfAt (cond b (area_at t i) None) (depth ≤ deepest_by t n.depth)
    by true e (Area end) = let q = eqb-true (n.depth + 1) depth e in omega arith
    by true e (Service s b l) = tt
    by false e t = tt

-- a node that has a parent is no deeper than may come next
parent_bound : (depth : ℕ) (f : Option ℕ) (i m : ℕ) (ns : List Node) → IfAt f (depth ≤ m) → IfAt (parent_from depth f i ns) (depth ≤ deepest_last m ns)
unfolding parent_from
parent_bound depth f i m [] h = h
parent_bound depth f i m (n ∷ ns) h =
    parent_bound depth (cond (ltb n.depth depth) (open_at n depth i) f) (suc i) (deepest_after n) ns (by (ltb n.depth depth) refl f)
  where
    by : (b : Bool) → ltb n.depth depth ≡ b → (g : Option ℕ) → IfAt (cond b (open_at n depth i) g) (depth ≤ deepest_after n)
    by true e g = open_bound n depth i
    by false e (Some p) = let q = ltb-false n.depth depth e in omega (arith, deepest_least n)
    by false e None = tt

parent_last : (ns : List Node) (depth : ℕ) {p : ℕ} → parent_at ns depth ≡ Some p → depth ≤ deepest_last 0 ns
unfolding parent_at
parent_last ns depth {p = p} e =
    subst (λ (f : Option ℕ). IfAt f (depth ≤ deepest_last 0 ns)) (found (is_depth depth) e) (parent_bound depth None 0 0 ns tt)
  where
    found : (b : Bool) → cond (not b) None (parent_of ns depth) ≡ Some p → parent_of ns depth ≡ Some p
    found true k = k
    found false k = absurd (let z : ◌≡◌ {A = ℕ} 0 1 = cc in (omega arith))

-- an area that is accepted
area-last : (ns : List Node) (depth code end : ℕ) → area_judged ns depth code end ≡ Ok tt → depth ≤ deepest_last 0 ns
unfolding area_judged
area-last ns depth code end e = under (parent_at ns depth) refl e
  where
    under : (f : Option ℕ) → parent_at ns depth ≡ f → area_found ns code end f ≡ Ok tt → depth ≤ deepest_last 0 ns
    under None q k = absurd (let z : ◌≡◌ {A = ℕ} 0 1 = cc in (omega arith))
    under (Some p) q k = parent_last ns depth q

-- a service that got a store
service-last : (ns : List Node) (used arena_len depth code blocks : ℕ) {s b u : ℕ} → placed_of ns used arena_len depth code blocks ≡ placed_at s b u →
    depth ≤ deepest_last 0 ns
unfolding placed_of
service-last ns used arena_len depth code blocks {s = s} {b = b} {u = u} e = under (parent_at ns depth) refl e
  where
    under : (f : Option ℕ) → parent_at ns depth ≡ f → service_found ns used arena_len code blocks f ≡ placed_at s b u → depth ≤ deepest_last 0 ns
    under None q k = absurd (let z : ◌≡◌ {A = ℕ} 0 1 = cc in (omega arith))
    under (Some p) q k = parent_last ns depth q

made_steps : {ns : List Node} {used : ℕ} → Made ns used → Steps 0 ns
made_steps Made.root = (omega arith, tt)
made_steps (Made.area {ns = ns} depth code end version m e) =
    steps_more 0 ns (node_as depth code version (Area end)) (made_steps m) (area-last ns depth code end e)
made_steps (Made.service {ns = ns} {used = used} {s = s} {b = b} depth code version limit m e) =
    steps_more 0 ns (node_as depth code version (Service s b limit)) (made_steps m) (service-last ns used 65536 depth code b e)

carded_steps : {c : Card} → Carded c → Steps 0 (nodes_of c)
carded_steps (carded system m few) = rw take-append_seam (made_steps m)

-- the nodes of a card that is produced
pub steps : {c : Card} → Built c → Steps 0 (nodes_of c)
steps b = carded_steps (built_carded b)
