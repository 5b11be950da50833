-- On a card of two systems each byte of a store is of one number of one system. Assumes nothing.
use Prim.Native.Nat.{ℕ}
use native.Mathlib.Omega.{arith}
use mathlib.Core.Path.{◌≡◌, refl}
use mathlib.Core.List.{List}
use Rattle.card_nodes.specs.declared.node.Node.{Node}
use Rattle.card_build.specs.declared.card.System.{System}
use Rattle.card_moved.specs.Own.{OwnCard}
use Rattle.card_moved.proofs.Laid.{own_laid}
use Rattle.law_terminals.proofs.Owned.{Holds, one_number}
use Rattle.law_systems.specs.Alike.{Stored}
use Rattle.law_systems.proofs.Served.{systems_apart}

-- the first system or the second
pub data Which : Type 0 where
  first : Which
  second : Which

-- a byte of a number's store is one of a store
holds_stored : {ns : List Node} {m i : ℕ} → Holds ns m i → Stored ns i
holds_stored h = record { node = h.node; from = h.from; to = h.to }

module _ {one two : System} {k w : ℕ} {ns ms : List Node} (o : OwnCard one 0 k ns) (p : OwnCard two k w ms) where
  -- the nodes of either
  abbrev pub nodes_by : Which → List Node
  nodes_by first = ns
  nodes_by second = ms

  -- one system, and one number
  pub one_owner : (x y : Which) (i m n : ℕ) → Holds (nodes_by x) m i → Holds (nodes_by y) n i → (x ≡ y) × (m ≡ n)
  one_owner first first i m n h g = (refl, one_number (own_laid {used = k} o (omega arith)) i m n h g)
  one_owner second second i m n h g = (refl, one_number (own_laid {used = w} p (omega arith)) i m n h g)
  one_owner first second i m n h g = absurd (systems_apart one two k w w ns ms o p i (holds_stored h) (holds_stored g))
  one_owner second first i m n h g = absurd (systems_apart one two k w w ns ms o p i (holds_stored g) (holds_stored h))
