-- A node that a search found: its version is what the definition says.
use Rattle.std.proofs.Common.{Option, Some}
use mathlib.Core.Path.{◌≡◌, sym, ◌∙◌, ap}
use mathlib.Core.Bool.{Bool}
use mathlib.Core.List.{List}
use Prim.Native.Nat.{ℕ, ◌<◌}
use lib.ListN.{length, get_or}
use lib.Seq.{drop-cons}
use Rattle.card_nodes.specs.declared.node.Node.{Node}
use Rattle.card_nodes.specs.Node.{root_node}
use Rattle.card_nodes.specs.Find.{first_from}
use Rattle.card_nodes.proofs.Searches.{first_below, in_range_lem}
use Rattle.card_questions.specs.Keys.{version_at}

module _ (ns : List Node) (t : Node → Bool) {f : Option ℕ} {i : ℕ} (told : f ≡ first_from t 0 ns) (e : f ≡ Some i) where
  -- it is one of the nodes
  pub found_inside : i < length ns
  found_inside = in_range_lem (first_below t 0 ns) (sym told ∙ e)

  -- the record there, whatever a read past the end would give
  found_record : (z : Node) → get_or ns i z ≡ get_or ns i root_node
  found_record z = cc (drop-cons ns i z found_inside, drop-cons ns i root_node found_inside)

  -- the version of the record there is the node's
  pub found_version : (z : Node) (other : ℕ) → (get_or ns i z).version ≡ version_at ns (first_from t 0 ns) other
  found_version z other = ap (λ (n : Node). n.version) (found_record z) ∙ rw (sym told ∙ e)
