-- One turn of each loop over the records.
use Rattle.std.proofs.Common.{Some, None}
use mathlib.Core.Path.{◌≡◌}
use mathlib.Core.Bool.{Bool, true, false}
use mathlib.Core.List.{List}
use Prim.Native.Nat.{ℕ, ◌+◌, ◌≤◌, ◌<◌}
use native.Mathlib.Omega.{arith}
use lib.ListN.{length, take, drop, get_or}
use lib.Seq.{take_all, take-take, take-suc}
use Rattle.card_nodes.specs.declared.node.Entry.{Entry}
use Rattle.card_nodes.specs.declared.node.Entry.TheVariants.{Area, Service}
use Rattle.card_nodes.specs.declared.node.Node.{Node}
use Rattle.card_nodes.specs.Node.{root_node}
use Rattle.card_nodes.specs.Find.{shared_of}
use Rattle.card_admit.specs.Admit.{parent_at, area_judged, first_in, placed_of}
use Rattle.card_nodes.proofs.Scan.{Left, here, turn}
use Rattle.card_sound.specs.Sound.{is_root, all_roots, step_by, step_of, steps_from, steps_of}
use Rattle.card_sound.specs.Walk.{step_under}

-- whether the records from an index on are unused, of which those from i on are left
abbrev pub Unused : List Node → Bool → ℕ → Type 0
Unused nodes whole i = Left nodes 64 64 whole (λ i. all_roots) i

pub unused : (nodes : List Node) (from : ℕ) → length nodes ≡ 64 → from ≤ 64 → Unused nodes (all_roots (drop from nodes)) from
unused nodes from l h = record { within = h; all = omega arith; same = rw (take_all 64 nodes (omega arith)) }

module _ {nodes : List Node} {whole : Bool} {i : ℕ} (z : Node) (left : Unused nodes whole i) (h : i < 64) where
  -- one that is used decides
  pub used : is_root (get_or nodes i z) ≡ false → false ≡ whole
  unfolding all_roots
  used e = rw e at (here left z h)

  -- any other leaves the rest
  pub more : is_root (get_or nodes i z) ≡ true → Unused nodes whole (i + 1)
  unfolding all_roots
  more e = turn left z (λ i. all_roots) h (λ rest. rw e)

module _ (before : List Node) (used : ℕ) (n : Node) where
  -- a record that has no parent stops
  pub orphan : parent_at before n.depth ≡ None → step_of before used n ≡ None
  unfolding step_of area_judged placed_of
  orphan k = by_entry_lem n.entry
    where
      by_entry_lem : (e : Entry) → step_by before used n e ≡ None
      by_entry_lem (Area e) = rw k
      by_entry_lem (Service s b l) = rw k

  -- any other steps as it does under its parent
  pub under : {p : ℕ} → parent_at before n.depth ≡ Some p →
      step_under (get_or before p root_node) (first_in before (shared_of before n.code)) used n.code n.entry ≡ step_of before used n
  unfolding step_of area_judged placed_of
  under {p = p} k = by_entry_lem n.entry
    where
      by_entry_lem : (e : Entry) →
          step_under (get_or before p root_node) (first_in before (shared_of before n.code)) used n.code e ≡ step_by before used n e
      by_entry_lem (Area e) = rw k
      by_entry_lem (Service s b l) = rw k

-- the records of a count are stepped through, of which those from i on are left
abbrev pub Stepped : List Node → ℕ → ℕ → ℕ → Type 0
Stepped nodes count used i = Left nodes count count (steps_of (take count nodes)) (λ i. steps_from (take i nodes) used) i

pub stepped : (nodes : List Node) (count : ℕ) → length nodes ≡ 64 → 1 ≤ count → count ≤ 64 → Stepped nodes count 0 1
unfolding steps_of
stepped nodes count l h k = record { within = h; all = omega arith; same = rw (take-take 1 count nodes h) }

module _ {nodes : List Node} {count i : ℕ} (used : ℕ) (z : Node) (left : Stepped nodes count used i) (h : i < count) where
  -- a record that no addition makes ends the steps
  pub stops : step_of (take i nodes) used (get_or nodes i z) ≡ None → None ≡ steps_of (take count nodes)
  unfolding steps_from
  stops e = rw e at (here left z h)

  -- any other goes on with the blocks in use after it
  pub goes : (u : ℕ) → step_of (take i nodes) used (get_or nodes i z) ≡ Some u → Stepped nodes count u (i + 1)
  unfolding steps_from
  goes u e = turn left z (λ i. steps_from (take i nodes) u) h (λ rest. rw (e, take-suc nodes i z (omega arith)))
