-- A system that has a card of its own is served as that card is, but for 4 and 7; two systems of one card leave each other alone.
use Prim.Native.Nat.{ℕ, ◌+◌, ◌*◌, ◌≤◌, ◌<◌}
use native.Mathlib.Omega.{arith}
use mathlib.Core.Path.{◌≡◌, subst}
use mathlib.Core.Bool.{Bool, true}
use mathlib.Core.List.{List}
use lib.ListN.{get_or}
use Rattle.card_nodes.specs.declared.node.Entry.{Entry}
use Rattle.card_nodes.specs.declared.node.Entry.TheVariants.{Area, Service}
use Rattle.card_nodes.specs.declared.node.Node.{Node}
use Rattle.card_nodes.specs.Node.{start_of, blocks_of}
use Rattle.card_build.specs.declared.card.System.{System}
use Rattle.card_build.specs.Card.{nodes_of}
use Rattle.card_laws.proofs.Built.{built_sound}
use Rattle.card_moved.specs.Moved.{moved_entry, moved, entry_at}
use Rattle.card_moved.specs.Own.{OwnCard}
use Rattle.card_moved.proofs.Looks.{node-moved, within-moved}
use Rattle.card_moved.proofs.Own.{own_within}
use Rattle.request_plan.specs.Request.{Request}
use Rattle.request_plan.specs.Serve.{serve}
use Rattle.law_systems.specs.On.{serve_on}
use Rattle.law_systems.specs.Alike.{Stored, StoresAlike, SameButLent}
use Rattle.law_systems.proofs.Spares.{serve_on_spares}
use Rattle.law_systems.proofs.Systems.{serve_on_alike, serve_on_lem}

-- A system on a card with `used` blocks in use, those of all its systems.
module _ (system : System) (k w used : ℕ) (ns : List Node) (o : OwnCard system k w ns) (enough : w ≤ used) where
  -- it is served as its own card is
  pub own_served : (a b : List ℕ) (r : Request) → StoresAlike k (nodes_of o.card) a b →
      SameButLent k (nodes_of o.card) (serve_on true ns used a r) (serve o.card b r)
  own_served a b r h =
      rw (serve_on_lem o.card b r, built_sound o.built, o.records)
      (serve_on_alike (nodes_of o.card) k used o.card.used
      (within-moved k (nodes_of o.card) o.card.used used (own_within o) (omega (arith, o.blocks, enough))) (own_within o)
      a b r true h)

  -- its stores lie from block k up to block w
  pub own_from : (i : ℕ) → Stored ns i → (16 * k ≤ i) × (i < 16 * w)
  own_from i p = by_node (subst (λ (l : List Node). Stored l i) o.records p)
    where
      by_entry_lem : (e : Entry) → start_of e + blocks_of e ≤ o.card.used → 16 * start_of (moved_entry k e) ≤ i →
          i < 16 * start_of (moved_entry k e) + 16 * blocks_of (moved_entry k e) → (16 * k ≤ i) × (i < 16 * w)
      by_entry_lem (Area e) u x y = absurd (omega arith)
      by_entry_lem (Service s b l) u x y = (omega arith, omega (arith, u, x, y, o.blocks))

      by_node : Stored (moved k (nodes_of o.card)) i → (16 * k ≤ i) × (i < 16 * w)
      by_node q =
          by_entry_lem (entry_at (nodes_of o.card) q.node) (own_within o q.node)
          (subst (λ (n : Node). 16 * start_of n.entry ≤ i) (node-moved k (nodes_of o.card) q.node) q.from)
          (subst (λ (n : Node). i < 16 * start_of n.entry + 16 * blocks_of n.entry) (node-moved k (nodes_of o.card) q.node)
          q.to)

-- Two systems of a card, the second begun where the first ended.
module _ (one two : System) (k w used : ℕ) (ns ms : List Node) (o : OwnCard one 0 k ns) (p : OwnCard two k w ms) where
  -- no byte is of a store of both
  pub systems_apart : (i : ℕ) → Stored ns i → Stored ms i → ⊥
  systems_apart i x y =
      let a = own_from one 0 k k ns o (omega arith) i x in
      let b = own_from two k w w ms p (omega arith) i y in
      omega (arith, a.1, b.0)

  -- so a request to the second leaves the stores of the first
  pub first_spared : (sound : Bool) (a : List ℕ) (r : Request) (i : ℕ) → Stored ns i →
      get_or a i 0 ≡ get_or (serve_on sound ms used a r).arena i 0
  first_spared sound a r i x = (serve_on_spares sound ms used a r).each i (λ y. systems_apart i x y)

  -- and one to the first those of the second
  pub second_spared : (sound : Bool) (a : List ℕ) (r : Request) (i : ℕ) → Stored ms i →
      get_or a i 0 ≡ get_or (serve_on sound ns used a r).arena i 0
  second_spared sound a r i y = (serve_on_spares sound ns used a r).each i (λ x. systems_apart i x y)
