-- What the code finds among the nodes is what the definitions judge by.
use Rattle.std.proofs.Common.{Option, Some, None, Err}
use mathlib.Core.Path.{◌≡◌, sym, ◌∙◌}
use mathlib.Core.Bool.{Bool}
use mathlib.Core.List.{List}
use Prim.Native.Nat.{ℕ, ◌<◌}
use native.Mathlib.Omega.{arith}
use lib.ListN.{length, get_or}
use Rattle.answers.specs.declared.refusal.Refusal.TheVariants.{NoParent}
use Rattle.card_nodes.specs.declared.node.Node.{Node}
use Rattle.card_nodes.specs.Node.{root_node}
use Rattle.card_nodes.specs.Find.{is_sharer_of, shared_of}
use Rattle.card_nodes.proofs.Searches.{first_below, in_range_lem}
use Rattle.card_admit.specs.Admit.{parent_at, area_under, area_judged, first_in, placed_under, placed_of, agreed}
use Rattle.card_admit.proofs.Growth.{parent_at_below}
use Rattle.card_sound.proofs.Laws.{same_read}

module _ (ns : List Node) where
  module _ {f : Option ℕ} (depth : ℕ) (told : f ≡ parent_at ns depth) (e : f ≡ None) where
    -- an area without a parent is refused with 21
    pub area_orphan : (code end : ℕ) → Err NoParent ≡ area_judged ns depth code end
    unfolding area_judged
    area_orphan code end = rw (sym told ∙ e)

    -- and so is a service
    pub service_orphan : (join : Bool) (used arena_len code blocks : ℕ) →
        Err NoParent ≡ agreed join blocks (placed_of ns used arena_len depth code blocks)
    unfolding placed_of
    service_orphan join used arena_len code blocks = rw (sym told ∙ e)

  module _ {f : Option ℕ} {p : ℕ} (depth : ℕ) (told : f ≡ parent_at ns depth) (e : f ≡ Some p) where
    -- the index of the parent
    pub parent-index : p < length ns
    parent-index = let h = in_range_lem (parent_at_below ns depth) (sym told ∙ e) in omega arith

    -- an area is judged under the record of its parent
    pub judged : (z : Node) (code end : ℕ) → area_under (get_or ns p z) code end ≡ area_judged ns depth code end
    unfolding area_judged
    judged z code end = rw (sym told ∙ e, same_read ns p z root_node parent-index)

    -- and so is a service, which then gets its store
    pub placed : {first : Option Node} (z : Node) (used arena_len code blocks : ℕ) → first ≡ first_in ns (shared_of ns code) →
        placed_under (get_or ns p z) first used arena_len code blocks ≡ placed_of ns used arena_len depth code blocks
    unfolding placed_of
    placed z used arena_len code blocks k = rw (sym told ∙ e, same_read ns p z root_node parent-index, k)

  module _ {f : Option ℕ} {j : ℕ} (code : ℕ) (told : f ≡ shared_of ns code) (e : f ≡ Some j) where
    -- the index of the first service of a number
    pub shared-index : j < length ns
    shared-index = let h = in_range_lem (first_below (is_sharer_of code) 0 ns) (sym told ∙ e) in omega arith

    -- which is at its record
    pub there : (z : Node) → Some (get_or ns j z) ≡ first_in ns (shared_of ns code)
    there z = rw (sym told ∙ e, same_read ns j z root_node shared-index)
