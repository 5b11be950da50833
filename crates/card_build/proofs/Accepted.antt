-- What is known once a node was accepted, of its depth and of the arena.
use Rattle.std.proofs.Common.{Option, Some, None, Result, Ok, Err}
use mathlib.Core.Path.{◌≡◌, refl}
use mathlib.Core.List.{List}
use mathlib.Core.Logic.{⊎_elim}
use Prim.Native.Nat.{ℕ, ◌/◌, ◌≤◌}
use native.Mathlib.Omega.{arith}
use Rattle.answers.specs.declared.refusal.Refusal.{Refusal}
use Rattle.card_nodes.specs.declared.node.Node.{Node}
use Rattle.card_admit.specs.Admit.{parent_at, area_found, area_judged, usable, service_found, placed_of}
use Rattle.card_admit.proofs.Growth.{parent_deep, stored, used_grows}
use Rattle.card_admit.specs.Placed.{placed_at}

-- a refusal of an area is no acceptance
pub not_done : {r : Refusal} → ◌≡◌ {A = Result Unit Refusal} (Err r) (Ok tt) → ⊥
not_done e = let z : ◌≡◌ {A = ℕ} 0 1 = cc in omega arith

-- and neither is one of a service
not_stored : {r : Refusal} {s b u : ℕ} → Err r ≡ placed_at s b u → ⊥
not_stored e = let z : ◌≡◌ {A = ℕ} 0 1 = cc in omega arith

module _ {A : Type 0} (ns : List Node) (depth : ℕ) (by : Option ℕ → A) {yes : A} (unless : by None ≡ yes → ⊥) where
  -- what is accepted has a parent
  under : (f : Option ℕ) → parent_at ns depth ≡ f → by f ≡ yes → depth ≤ 8
  under None k e = absurd (unless e)
  under (Some p) k e = (parent_deep ns depth k).high

-- the depth of a service fits, and its store ends within the arena's first u blocks
pub record Fits (depth used arena_len u : ℕ) : Type 0 where
  pub low : depth ≤ 8
  pub grows : used ≤ u
  pub within : u ≤ arena_len / 16

module _ (ns : List Node) (depth code : ℕ) where
  -- an accepted area
  pub area-accepted : (end : ℕ) → area_judged ns depth code end ≡ Ok tt → depth ≤ 8
  unfolding area_judged
  area-accepted end e = under ns depth (area_found ns code end) not_done (parent_at ns depth) refl e

  -- an accepted service, in an arena that holds the blocks in use
  pub service-accepted : {s b u : ℕ} (used arena_len blocks : ℕ) → placed_of ns used arena_len depth code blocks ≡ placed_at s b u →
      used ≤ arena_len / 16 → Fits depth used arena_len u
  unfolding placed_of usable
  service-accepted used arena_len blocks e h = record {
    low = under ns depth (service_found ns used arena_len code blocks) not_stored (parent_at ns depth) refl e;
    grows = used_grows ns depth code used arena_len blocks e;
    within = ⊎_elim (λ j. omega arith) (λ f. omega arith) (stored ns depth code used arena_len blocks e);
  }
