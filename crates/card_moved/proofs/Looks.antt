-- Moved nodes look alike to every search; where they are read, and where their stores lie. Assumes nothing.
use Prim.Native.Nat.{ℕ, ◌+◌, ◌≤◌}
use native.Mathlib.Omega.{arith}
use native.Mathlib.Nat.{zero-add}
use mathlib.Core.Path.{◌≡◌, refl, sym, ap, subst}
use mathlib.Core.List.{List, [], ◌∷◌, map}
use lib.ListN.{get_or, get_or-map}
use Rattle.card_nodes.specs.declared.node.Entry.{Entry}
use Rattle.card_nodes.specs.declared.node.Entry.TheVariants.{Area, Service}
use Rattle.card_nodes.specs.declared.node.Node.{Node}
use Rattle.card_nodes.specs.Node.{root_node, is_area, start_of, blocks_of}
use Rattle.card_nodes.proofs.Searches.{look}
use Rattle.card_moved.specs.Moved.{moved_entry, moved_node, moved, entry_at, StoresWithin}

module _ (k : ℕ) where
  -- an area stays one, and so does a service
  area-moved : (e : Entry) → is_area (moved_entry k e) ≡ is_area e
  area-moved (Area e) = refl
  area-moved (Service s b l) = refl

  -- moved nodes look alike to every search
  pub look_moved : (ns : List Node) → map look (moved k ns) ≡ map look ns
  look_moved [] = refl
  look_moved (n ∷ ns) = λ i. record { depth = n.depth; code = n.code; area = area-moved n.entry i } ∷ look_moved ns i

  -- a moved node is read at its old index
  pub node-moved : (ns : List Node) (j : ℕ) → get_or (moved k ns) j root_node ≡ moved_node k (get_or ns j root_node)
  node-moved ns j = get_or-map (moved_node k) ns j root_node

-- nodes moved by no block stay
pub moved_zero : (ns : List Node) → moved 0 ns ≡ ns
moved_zero [] = refl
moved_zero (n ∷ ns) =
    λ i. record { depth = n.depth; code = n.code; version = n.version; entry = by_entry_lem n.entry i } ∷ moved_zero ns i
  where
    by_entry_lem : (e : Entry) → moved_entry 0 e ≡ e
    by_entry_lem (Area e) = refl
    by_entry_lem (Service s b l) = ap (λ z. Service z b l) (zero-add s)

-- moved stores end k blocks later, and so among as many blocks more
pub within-moved : (k : ℕ) (ns : List Node) (blocks used : ℕ) → StoresWithin ns blocks → k + blocks ≤ used → StoresWithin (moved k ns) used
within-moved k ns blocks used h l j =
    subst (λ (n : Node). start_of n.entry + blocks_of n.entry ≤ used) (sym (node-moved k ns j)) (by_entry_lem (entry_at ns j) (h j))
  where
    by_entry_lem : (e : Entry) → start_of e + blocks_of e ≤ blocks → start_of (moved_entry k e) + blocks_of (moved_entry k e) ≤ used
    by_entry_lem (Area e) w = omega arith
    by_entry_lem (Service s b m) w = omega arith
