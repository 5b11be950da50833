-- The nodes that additions and limits give, one by one, and the blocks in use: what refusal 8 goes through.
use Rattle.std.proofs.Common.{Option, Some, None, Result, Ok, Err}
use mathlib.Core.Path.{◌≡◌, refl, ap, subst}
use mathlib.Core.Bool.{Bool, true, false, cond, not}
use mathlib.Core.List.{List, [], ◌∷◌, ◌++◌, append-nil}
use Prim.Native.Nat.{ℕ, ◌≤◌}
use native.Mathlib.Omega.{arith}
use lib.Dec.{eqb}
use lib.Seq.{append_snoc}
use borrow.Author.Tests.{eq-eqb, eqb-true}
use Rattle.service_code.specs.declared.limit.Limit.{Limit}
use Rattle.card_nodes.specs.declared.node.Entry.{Entry}
use Rattle.card_nodes.specs.declared.node.Entry.TheVariants.{Area, Service}
use Rattle.card_nodes.specs.declared.node.Node.{Node}
use Rattle.card_admit.specs.declared.Placed.{Placed}
use Rattle.card_nodes.specs.Node.{root_node}
use Rattle.card_admit.specs.Admit.{area_judged, placed_of}
use Rattle.card_admit.proofs.Growth.{used-most}
use Rattle.card_sound.specs.Sound.{area_step, service_step, step_by, step_of, then_step, steps_from}
use Rattle.card_build.specs.Grow.{node_as}
use Rattle.answers.specs.declared.refusal.Refusal.{Refusal}
use Rattle.card_admit.specs.Placed.{placed_at}

-- the root, then areas and services that were accepted in the longest arena, with any limits
pub data Made : List Node → ℕ → Type 0 where
  root : Made (root_node ∷ []) 0
  area : {ns : List Node} {used : ℕ} (depth code end version : ℕ) → Made ns used → area_judged ns depth code end ≡ Ok tt →
      Made (ns ++ (node_as depth code version (Area end) ∷ [])) used
  service : {ns : List Node} {used s b u : ℕ} (depth code version : ℕ) (limit : Option Limit) → Made ns used →
      placed_of ns used 65536 depth code b ≡ placed_at s b u → Made (ns ++ (node_as depth code version (Service s b limit) ∷ [])) u

-- at most 4,096 blocks in use
pub made-used : {ns : List Node} {used : ℕ} → Made ns used → used ≤ 4096
made-used Made.root = omega arith
made-used (Made.area depth code end version m e) = made-used m
made-used (Made.service {ns = ns} {used = used} {b = b} depth code version l m e) = used-most ns depth code used 65536 b e (made-used m)

-- a step that goes is no stop
stopped : {A : Type 0} {u : ℕ} → None ≡ Some u → A
stopped e = absurd (let z : ◌≡◌ {A = ℕ} 0 1 = cc in (omega arith))

-- where two steps go, the first goes
went : (x : Option ℕ) (more : ℕ → Option ℕ) {u : ℕ} → then_step x more ≡ Some u → (v : ℕ) × (x ≡ Some v) × (more v ≡ Some u)
went (Some v) more e = (v, refl, e)
went None more e = stopped e

-- an area's step
area_went : (used : ℕ) (a : Result Unit Refusal) {u : ℕ} → area_step used a ≡ Some u → (a ≡ Ok tt) × (used ≡ u)
area_went used (Ok tt) e = (refl, cc)
area_went used (Err r) e = stopped e

-- a service's step
service_went : (s b : ℕ) (p : Result Placed Refusal) {u : ℕ} → service_step s b p ≡ Some u → p ≡ placed_at s b u
service_went s b (Ok placed) {u = u} e =
    let t = tested (eqb placed.start s) e in
    let r = tested (eqb placed.blocks b) t.1 in
    let start : placed.start ≡ s = eqb-true placed.start s t.0 in
    let blocks : placed.blocks ≡ b = eqb-true placed.blocks b r.0 in
    let goes : Some placed.used ≡ Some u = r.1 in
    let used : placed.used ≡ u = cc in
    λ i. placed_at (start i) (blocks i) (used i)
  where
    tested : (t : Bool) {x : Option ℕ} → cond (not t) None x ≡ Some u → (t ≡ true) × (x ≡ Some u)
    tested true k = (refl, k)
    tested false k = stopped k
service_went s b (Err r) e = stopped e

-- a node's step, by its case
entry-made : {ns : List Node} {used u : ℕ} (n : Node) (k : Entry) → Made ns used → step_by ns used n k ≡ Some u →
    Made (ns ++ (node_as n.depth n.code n.version k ∷ [])) u
entry-made {ns = ns} {used = used} n (Area e) m h =
    let w = area_went used (area_judged ns n.depth n.code e) h in
    subst (Made _) w.1 (Made.area n.depth n.code e n.version m w.0)
entry-made {ns = ns} {used = used} n (Service s b l) m h =
    Made.service n.depth n.code n.version l m (service_went s b (placed_of ns used 65536 n.depth n.code b) h)

step_made : {ns : List Node} {used u : ℕ} (n : Node) → Made ns used → step_of ns used n ≡ Some u → Made (ns ++ (n ∷ [])) u
unfolding step_of
step_made n m h = entry-made n n.entry m h

-- records that refusal 8 goes through were made
pub steps_made : {ns : List Node} {used u : ℕ} (ms : List Node) → Made ns used → steps_from ns used ms ≡ Some u → Made (ns ++ ms) u
unfolding steps_from
steps_made {ns = ns} {used = used} {u = u} [] m h = let e : used ≡ u = cc in rw (append-nil ns) (subst (Made ns) e m)
steps_made {ns = ns} {used = used} (n ∷ ms) m h =
    let w = went (step_of ns used n) (λ u. steps_from (ns ++ (n ∷ [])) u ms) h in
    rw (append_snoc ns n ms) at (steps_made {ns = ns ++ (n ∷ [])} {used = w.0} ms (step_made n m w.1) w.2)

-- one record more after those that it goes through
steps_more : (ns : List Node) (used : ℕ) (ms : List Node) (n : Node) {u v : ℕ} → steps_from ns used ms ≡ Some u →
    step_of (ns ++ ms) u n ≡ Some v → steps_from ns used (ms ++ (n ∷ [])) ≡ Some v
unfolding steps_from
steps_more ns used [] n {u = u} h k = let e : used ≡ u = cc in rw (e, rw (append-nil ns) at k)
steps_more ns used (m ∷ ms) n h k =
    let w = went (step_of ns used m) (λ u. steps_from (ns ++ (m ∷ [])) u ms) h in
    rw w.1 (steps_more (ns ++ (m ∷ [])) w.0 ms n w.2 (rw (append_snoc ns m ms) k))

-- the root and then records that it goes through
pub record Gone (ns : List Node) (used : ℕ) : Type 0 where
  pub rest : List Node
  pub rooted : ns ≡ root_node ∷ rest
  pub goes : steps_from (root_node ∷ []) 0 rest ≡ Some used

next : {ns : List Node} {used u : ℕ} → Gone ns used → (n : Node) → step_of ns used n ≡ Some u → Gone (ns ++ (n ∷ [])) u
next g n e = record {
  rest = g.rest ++ (n ∷ []);
  rooted = ap (λ (l : List Node). l ++ (n ∷ [])) g.rooted;
  goes = steps_more (root_node ∷ []) 0 g.rest n g.goes (rw g.rooted at e);
}

-- such are all that were made
pub made_gone : {ns : List Node} {used : ℕ} → Made ns used → Gone ns used
unfolding step_of steps_from
made_gone Made.root = record { rest = []; rooted = refl; goes = refl }
made_gone (Made.area depth code end version m e) = next (made_gone m) (node_as depth code version (Area end)) (rw e)
made_gone (Made.service {s = s} {b = b} depth code version l m e) =
    next (made_gone m) (node_as depth code version (Service s b l)) (rw (e, eq-eqb s s refl, eq-eqb b b refl))
