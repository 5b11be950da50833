-- A walk begun at block k goes exactly over the records that it goes over from block 0, moved by k, while they all fit. Assumes nothing.
use Rattle.std.proofs.Common.{Some, None, Result, Ok, Err}
use Prim.Native.Nat.{ℕ, ◌+◌, ◌≤◌}
use native.Mathlib.Omega.{arith}
use mathlib.Core.Path.{◌≡◌, refl, sym, ap, ap₂, ◌∙◌}
use mathlib.Core.List.{List, [], ◌∷◌, ◌++◌}
use mathlib.Core.Logic.{⊎_elim}
use lib.Dec.{ltb}
use borrow.Author.Tests.{le-ltb}
use Rattle.card_nodes.specs.declared.node.Entry.TheVariants.{Area, Service}
use Rattle.card_nodes.specs.declared.node.Node.{Node}
use Rattle.card_nodes.specs.Find.{shared_of}
use Rattle.card_admit.specs.declared.Placed.{Placed}
use Rattle.card_admit.specs.Admit.{usable, placed_of}
use Rattle.card_admit.proofs.Growth.{no_store, same_store, stored}
use Rattle.card_sound.specs.Sound.{steps_from}
use Rattle.card_build.specs.Grow.{node_as}
use Rattle.card_moved.specs.Moved.{moved_entry, moved_node, moved}
use Rattle.card_moved.proofs.Building.{at_nothing_lem, area_judged_lem, moved_placed, placed_moved, placed_or_full}
use Rattle.card_moved.proofs.Accepted.{Accepted, area, service, accepted_goes, accepted_grows, accepted-most, walked_on}
use Rattle.answers.specs.declared.refusal.Refusal.{Refusal}
use Rattle.card_admit.specs.Placed.{placed_at}

-- the blocks in use never fall over a walk
steps_grow : (before : List Node) (used : ℕ) (ns : List Node) {w : ℕ} → steps_from before used ns ≡ Some w → used ≤ w
unfolding steps_from
steps_grow before used [] {w} h = let e : used ≡ w = cc in omega (arith, e)
steps_grow before used (n ∷ ns) h =
    let g = walked_on before used n ns h in
    omega (arith, accepted_grows before used n g.1, steps_grow (before ++ (n ∷ [])) g.0 ns g.2)

-- and stay within 4,096
pub steps_most : (before : List Node) (used : ℕ) (ns : List Node) {w : ℕ} → steps_from before used ns ≡ Some w → used ≤ 4096 → w ≤ 4096
unfolding steps_from
steps_most before used [] {w} h l = let e : used ≡ w = cc in omega (arith, e, l)
steps_most before used (n ∷ ns) h l =
    let g = walked_on before used n ns h in
    steps_most (before ++ (n ∷ [])) g.0 ns g.2 (accepted-most before used n g.1 l)

module _ (k : ℕ) where
  -- one node more, moved with the others
  moved_snoc : (ns : List Node) (n : Node) → moved k (ns ++ (n ∷ [])) ≡ moved k ns ++ (moved_node k n ∷ [])
  moved_snoc [] n = refl
  moved_snoc (m ∷ ns) n = ap (λ (l : List Node). moved_node k m ∷ l) (moved_snoc ns n)

  -- a store that a service gets after moved nodes is one that it gets after the nodes, moved
  placed_own : (ns : List Node) (used len depth code b : ℕ) {s c w : ℕ} → placed_of (moved k ns) (k + used) len depth code b ≡ placed_at s c w →
      (t u : ℕ) × (s ≡ k + t) × (w ≡ k + u) × (placed_of ns used len depth code b ≡ placed_at t c u)
  placed_own ns used len depth code b {s} {c} {w} e =
      ⊎_elim (λ full. no_store (sym full ∙ e)) (λ q. by_placed (placed_of ns used len depth code b) refl (sym q ∙ e))
      (placed_or_full k ns used len depth code b)
    where
      by_placed : (p : Result Placed Refusal) → placed_of ns used len depth code b ≡ p → moved_placed k p ≡ placed_at s c w →
          (t u : ℕ) × (s ≡ k + t) × (w ≡ k + u) × (placed_of ns used len depth code b ≡ placed_at t c u)
      by_placed (Err r) q h = no_store h
      by_placed (Ok placed) q h =
          let r = same_store h in
          let x : s ≡ k + placed.start = sym (ap (λ p. p.start) r) in
          let y : w ≡ k + placed.used = sym (ap (λ p. p.used) r) in
          let z : placed.blocks ≡ c = ap (λ p. p.blocks) r in
          (placed.start, placed.used, x, y, q ∙ ap (λ n. placed_at placed.start n placed.used) z)

  -- a record accepted after moved nodes is a moved one
  accepted_own : (before : List Node) (used : ℕ) (n : Node) {w : ℕ} → Accepted (moved k before) (k + used) n w →
      (m : Node) × (u : ℕ) × (n ≡ moved_node k m) × (w ≡ k + u) × Accepted before used m u
  accepted_own before used n (area e q j g) =
      let m = node_as n.depth n.code n.version (Area e) in (
        m,
        used,
        (λ i. record { depth = n.depth; code = n.code; version = n.version; entry = q i }),
        sym g,
        area e refl (sym (area_judged_lem k before n.depth n.code e) ∙ j) refl,
      )
  accepted_own before used n (service s b l q p) =
      let y = placed_own before used 65536 n.depth n.code b p in (
        node_as n.depth n.code n.version (Service y.0 b l),
        y.1,
        (λ i. record { depth = n.depth; code = n.code; version = n.version; entry = (q ∙ ap (λ z. Service z b l) y.2) i }),
        y.3,
        service y.0 b l refl y.4,
      )

  -- so are all that a walk begun k blocks later goes over
  pub steps_own : (before : List Node) (used : ℕ) (ms : List Node) {w : ℕ} → steps_from (moved k before) (k + used) ms ≡ Some w →
      (ns : List Node) × (u : ℕ) × (ms ≡ moved k ns) × (w ≡ k + u) × (steps_from before used ns ≡ Some u)
  unfolding steps_from
  steps_own before used [] {w} h = let e : k + used ≡ w = cc in ([], used, refl, sym e, refl)
  steps_own before used (n ∷ ms) {w} h =
      let g = walked_on (moved k before) (k + used) n ms h in
      let o = accepted_own before used n g.1 in
      let m = o.0 in
      let u = o.1 in
      let list : moved k before ++ (n ∷ []) ≡ moved k (before ++ (m ∷ [])) =
      ap (λ (x : Node). moved k before ++ (x ∷ [])) o.2 ∙ sym (moved_snoc before m) in
      let r = steps_own (before ++ (m ∷ [])) u ms {w = w}
      (ap₂ (λ (l : List Node) (v : ℕ). steps_from l v ms) (sym list) (sym o.3) ∙ g.2) in
      (m ∷ r.0, r.1, ap₂ (λ (x : Node) (l : List Node). x ∷ l) o.2 r.2, r.3, rw (accepted_goes before used m o.4) r.4)

  -- and back, while there is room: a store
  placed_back : (ns : List Node) (used len size depth code b : ℕ) {s c u : ℕ} → placed_of ns used size depth code b ≡ placed_at s c u →
      k + u ≤ usable len → placed_of (moved k ns) (k + used) len depth code b ≡ placed_at (k + s) c (k + u)
  placed_back ns used len size depth code b {s} {c} {u} e h =
      placed_moved k ns used len size code b room depth ∙ ap (moved_placed k) e
    where
      room : shared_of ns code ≡ None → ltb (usable len) (k + used + b) ≡ ltb (usable size) (used + b)
      room none =
          ⊎_elim
          (λ j. at_nothing_lem (sym j.found ∙ none))
          (λ f.
          le-ltb (usable len) (k + used + b) (omega (arith, f.more, f.count, h))
          ∙ sym (le-ltb (usable size) (used + b) (omega (arith, f.more, f.count, f.fits))))
          (stored ns depth code used size b e)

  -- a record
  accepted-back : (before : List Node) (used : ℕ) (n : Node) {u : ℕ} → Accepted before used n u → k + u ≤ 4096 →
      Accepted (moved k before) (k + used) (moved_node k n) (k + u)
  unfolding usable
  accepted-back before used n (area e q j g) h =
      area e (ap (moved_entry k) q) (area_judged_lem k before n.depth n.code e ∙ j) (ap (λ v. k + v) g)
  accepted-back before used n (service s b l q p) h =
      service (k + s) b l (ap (moved_entry k) q) (placed_back before used 65536 65536 n.depth n.code b p h)

  -- all of them
  pub steps_back : (before : List Node) (used : ℕ) (ns : List Node) {w : ℕ} → steps_from before used ns ≡ Some w → k + w ≤ 4096 →
      steps_from (moved k before) (k + used) (moved k ns) ≡ Some (k + w)
  unfolding steps_from
  steps_back before used [] {w} h l = let e : used ≡ w = cc in rw e
  steps_back before used (n ∷ ns) {w} h l =
      let g = walked_on before used n ns h in
      let f : g.0 ≤ w = steps_grow (before ++ (n ∷ [])) g.0 ns g.2 in
      let a = accepted-back before used n g.1 (omega (arith, f, l)) in
      rw (accepted_goes (moved k before) (k + used) (moved_node k n) a, ← moved_snoc before n)
      (steps_back (before ++ (n ∷ [])) g.0 ns g.2 l)
