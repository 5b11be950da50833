-- Of 64 records the first `count` are the nodes: what the code reads there is what the definitions find.
use Rattle.std.proofs.Common.{Option, Some}
use mathlib.Core.Path.{◌≡◌, sym, ◌∙◌}
use mathlib.Core.Bool.{Bool}
use mathlib.Core.List.{List}
use Prim.Native.Nat.{ℕ, ◌+◌, ◌<◌, min}
use native.Mathlib.Omega.{arith}
use lib.ListN.{length, take, get_or, length-take}
use Rattle.card_nodes.specs.declared.node.Node.{Node}
use Rattle.card_nodes.specs.Node.{root_node}
use Rattle.card_nodes.specs.Find.{first_from}
use Rattle.card_nodes.proofs.Scan.{read}
use Rattle.card_nodes.proofs.Searches.{Below, first_below, in_range_lem}

-- the records of a card, and how many of them are nodes
pub record Records (nodes : List Node) (count : ℕ) : Type 0 where
  pub all : length nodes ≡ 64

module _ {nodes : List Node} {count : ℕ} (r : Records nodes count) where
  module _ {f : Option ℕ} {p : ℕ} (b : Below f (0 + length (take count nodes))) (e : f ≡ Some p) where
    -- an index that was found among the nodes is one of the 64
    pub indexed : p < 64
    indexed = omega (arith, simp length-take at (in_range_lem b e))

    -- and the record there is the node
    pub recorded : (z : Node) → get_or (take count nodes) p root_node ≡ get_or nodes p z
    recorded z = read nodes count p root_node z (in_range_lem b e)

-- a node that a search found
module _ {nodes : List Node} {count : ℕ} (r : Records nodes count) (t : Node → Bool) {f : Option ℕ} {i : ℕ} (told : f ≡ first_from t 0 (take count nodes)) (e : f ≡ Some i) where
  -- it is one of the 64
  pub found_index_lem : i < 64
  found_index_lem = indexed r (first_below t 0 (take count nodes)) (sym told ∙ e)

  -- and of those that the count takes
  pub found_taken : i < min count 64
  found_taken = let h = in_range_lem (first_below t 0 (take count nodes)) (sym told ∙ e) in omega (arith, r.all, simp length-take at h)

  -- the record there is the node
  pub found_node : (z : Node) → get_or (take count nodes) i root_node ≡ get_or nodes i z
  found_node z = recorded r (first_below t 0 (take count nodes)) (sym told ∙ e) z
