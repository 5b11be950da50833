-- Codes and ends of a sound card are numbers of 16 bits: refusal 13 stands ahead of every node.
use Rattle.std.proofs.Common.{Option, Some, None, Result, Ok, Err}
use mathlib.Core.Path.{◌≡◌, refl}
use mathlib.Core.Bool.{Bool, true, false, cond, not, ◌&&◌, and-eq-true_iff}
use mathlib.Core.List.{List, [], ◌∷◌, ◌++◌}
use Prim.Native.Nat.{ℕ, zero, suc, ◌+◌, ◌*◌, ◌≤◌, ◌<◌, ◌^◌}
use native.Mathlib.Omega.{arith}
use lib.Dec.{eqb, ltb}
use lib.ListN.{get_or, take, drop}
use borrow.Author.Tests.{eqb-true, ltb-false}
use Rattle.answers.specs.declared.refusal.Refusal.TheVariants.{NodeCodeOutOfRange}
use Rattle.card_nodes.specs.declared.node.Entry.{Entry}
use Rattle.card_nodes.specs.declared.node.Entry.TheVariants.{Area, Service}
use Rattle.card_nodes.specs.declared.node.Node.{Node}
use Rattle.card_nodes.specs.Node.{root_node}
use Rattle.card_admit.specs.declared.Placed.{Placed}
use Rattle.card_admit.specs.Admit.{parent_at, area_under, area_found, area_judged, service_under, if_done, service_found, placed_of}
use Rattle.card_questions.specs.Directory.{second_of}
use Rattle.card_sound.specs.Sound.{root_end, is_root, all_roots, area_step, service_step, step_by, step_of, then_step, steps_from, steps_of, ends_at, sound_of}
use Rattle.card_sound.proofs.Laws.{passed}
use Rattle.card_build.specs.declared.card.Card.{Card}
use Rattle.card_build.specs.Card.{nodes_of, is_sound}
use Rattle.card_laws.specs.Built.{Built}
use Rattle.card_laws.proofs.Built.{built_sound}
use Rattle.card_lists.specs.Coded.{CodedNode, Coded}
use Rattle.answers.specs.declared.refusal.Refusal.{Refusal}
use Rattle.card_admit.specs.Placed.{placed_at}

-- a code or an end that is not past FFFE
small : (n : ℕ) → ltb 0xfffe n ≡ false → n < 2 ^ 16
small n e = let h : n ≤ 0xfffe = ltb-false 0xfffe n e in omega arith

-- a test that must fail for what follows to be done
done : (b : Bool) (x : Result Unit Refusal) → cond b (Err NodeCodeOutOfRange) x ≡ Ok tt → (b ≡ false) × (x ≡ Ok tt)
done true x e = absurd (let z : ◌≡◌ {A = ℕ} 0 1 = cc in (omega arith))
done false x e = (refl, e)

-- 13 of an area and of a service
area_small : (above : Node) (code end : ℕ) → area_under above code end ≡ Ok tt → (code < 2 ^ 16) × (end < 2 ^ 16)
unfolding area_under
area_small above code end k =
    let a = done (ltb 0xfffe code) _ k in
    let b = done (ltb 0xfffe end) _ a.1 in
    (small code a.0, small end b.0)

service_small : (above : Node) (code : ℕ) → service_under above code ≡ Ok tt → code < 2 ^ 16
unfolding service_under
service_small above code k = small code (done (ltb 0xfffe code) _ k).0

-- an area that may follow
area_coded : (ns : List Node) (depth code end : ℕ) → area_judged ns depth code end ≡ Ok tt → (code < 2 ^ 16) × (end < 2 ^ 16)
unfolding area_judged
area_coded ns depth code end e = by (parent_at ns depth) e
  where
    by : (f : Option ℕ) → area_found ns code end f ≡ Ok tt → (code < 2 ^ 16) × (end < 2 ^ 16)
    by None k = absurd (let z : ◌≡◌ {A = ℕ} 0 1 = cc in (omega arith))
    by (Some p) k = area_small (get_or ns p root_node) code end k

-- a service that gets a store
service_coded : (ns : List Node) (used arena_len depth code blocks : ℕ) {s b u : ℕ} → placed_of ns used arena_len depth code blocks ≡ placed_at s b u →
    code < 2 ^ 16
unfolding placed_of
service_coded ns used arena_len depth code blocks {s = s} {b = b} {u = u} e = by (parent_at ns depth) e
  where
    placed : (p : Result Placed Refusal) (a : Result Unit Refusal) → if_done a p ≡ placed_at s b u → a ≡ Ok tt
    placed p (Ok tt) k = refl
    placed p (Err r) k = absurd (let z : ◌≡◌ {A = ℕ} 0 1 = cc in (omega arith))

    by : (f : Option ℕ) → service_found ns used arena_len code blocks f ≡ placed_at s b u → code < 2 ^ 16
    by None k = absurd (let z : ◌≡◌ {A = ℕ} 0 1 = cc in (omega arith))
    by (Some p) k = service_small (get_or ns p root_node) code (placed _ (service_under (get_or ns p root_node) code) k)

-- a record over which the test goes on
step_coded : (before : List Node) (used : ℕ) (n : Node) {u : ℕ} → step_of before used n ≡ Some u → CodedNode n
unfolding step_of
step_coded before used n {u = u} e = let h = by n.entry e in record { code = h.0; end = h.1 }
  where
    area : (a : Result Unit Refusal) → area_step used a ≡ Some u → a ≡ Ok tt
    area (Ok tt) k = refl
    area (Err r) k = absurd (let z : ◌≡◌ {A = ℕ} 0 1 = cc in (omega arith))

    store : (s b : ℕ) (p : Result Placed Refusal) → placed_of before used 65536 n.depth n.code b ≡ p → service_step s b p ≡ Some u → n.code < 2 ^ 16
    store s b (Ok placed) q k = service_coded before used 65536 n.depth n.code b q
    store s b (Err r) q k = absurd (let z : ◌≡◌ {A = ℕ} 0 1 = cc in (omega arith))

    by : (t : Entry) → step_by before used n t ≡ Some u → (n.code < 2 ^ 16) × (second_of t < 2 ^ 16)
    by (Area end) k = area_coded before n.depth n.code end (area _ k)
    by (Service s b l) k = (store s b (placed_of before used 65536 n.depth n.code b) refl k, omega arith)

-- all that follow
steps_coded : (before : List Node) (used : ℕ) (ns : List Node) {u : ℕ} → steps_from before used ns ≡ Some u → Coded ns
unfolding steps_from
steps_coded before used [] e = tt
steps_coded before used (n ∷ ns) {u = u} e = by (λ w k. steps_coded (before ++ (n ∷ [])) w ns k) (step_of before used n) refl e
  where
    by : ((w : ℕ) → steps_from (before ++ (n ∷ [])) w ns ≡ Some u → Coded ns) → (s : Option ℕ) → step_of before used n ≡ s →
        then_step s (λ w. steps_from (before ++ (n ∷ [])) w ns) ≡ Some u → CodedNode n × Coded ns
    by rest None q k = absurd (let z : ◌≡◌ {A = ℕ} 0 1 = cc in (omega arith))
    by rest (Some w) q k = (step_coded before used n q, rest w k)

-- the root
root_coded : (n : Node) → is_root n ≡ true → CodedNode n
unfolding is_root
root_coded n e =
    let a = (and-eq-true_iff (eqb n.depth 0) (eqb n.code 0 && (eqb n.version 0 && root_end n.entry))).0 e in
    let b = (and-eq-true_iff (eqb n.code 0) (eqb n.version 0 && root_end n.entry)).0 a.1 in
    let d = (and-eq-true_iff (eqb n.version 0) (root_end n.entry)).0 b.1 in
    let z : n.code ≡ 0 = eqb-true _ _ b.0 in
    record { code = omega arith; end = by n.entry d.1 }
  where
    by : (t : Entry) → root_end t ≡ true → second_of t < 2 ^ 16
    by (Area end) k = let q : end ≡ 0xfffe = eqb-true end 0xfffe k in omega arith
    by (Service s b l) k = omega arith

-- the root and all that follow it
all_coded : (ns : List Node) (count : ℕ) {u : ℕ} → is_root (get_or ns 0 root_node) ≡ true → steps_of (take count ns) ≡ Some u → Coded (take count ns)
unfolding steps_of
all_coded ns zero r e = tt
all_coded [] (suc count) r e = tt
all_coded (n ∷ ns) (suc count) r e = (root_coded n r, steps_coded (n ∷ []) 0 (take count ns) e)

pub sound_coded : (c : Card) → is_sound c ≡ true → Coded (nodes_of c)
unfolding sound_of
sound_coded c e =
    let a = passed (eqb c.count 0) _ e in
    let b = passed (ltb 64 c.count) _ a.1 in
    let d = passed (not (is_root (get_or c.nodes 0 root_node))) _ b.1 in
    let f = passed (not (all_roots (drop c.count c.nodes))) _ d.1 in
    by (steps_of (nodes_of c)) refl (rooted (is_root (get_or c.nodes 0 root_node)) d.0) f.1
  where
    rooted : (b : Bool) → not b ≡ false → b ≡ true
    rooted true k = refl
    rooted false k = absurd (let z : ◌≡◌ {A = ℕ} 0 1 = cc in (omega arith))

    by : (s : Option ℕ) → steps_of (nodes_of c) ≡ s → is_root (get_or c.nodes 0 root_node) ≡ true → ends_at c.used s ≡ true → Coded (nodes_of c)
    by None q r k = absurd (let z : ◌≡◌ {A = ℕ} 0 1 = cc in (omega arith))
    by (Some u) q r k = all_coded c.nodes c.count r q

pub built_coded : {c : Card} → Built c → Coded (nodes_of c)
built_coded {c = c} b = sound_coded c (built_sound b)
