-- The cards that bytes hold: their numbers fit the fields, and records past the count are unused.
use Rattle.std.specs.Prelude.{ℕ, ◌-◌, ◌≤◌, ◌<◌, ◌^◌, ◌≡◌, length, get_or, drop, replicate, Option, Some, None}
use Rattle.std.specs.Int.Signed.{mag}
use Rattle.service_code.specs.declared.limit.Limit.{Limit}
use Rattle.card_nodes.specs.declared.node.Entry.{Entry}
use Rattle.card_nodes.specs.declared.node.Entry.TheVariants.{Area, Service}
use Rattle.card_nodes.specs.declared.node.Node.{Node}
use Rattle.card_nodes.specs.Node.{root_node}
use Rattle.card_build.specs.declared.card.System.{System}
use Rattle.card_build.specs.declared.card.Card.{Card}

abbrev pub LimitFits : Option Limit → Type 0
LimitFits None = Unit
LimitFits (Some limit) = (mag limit.upper < 2 ^ 31) × (mag limit.lower < 2 ^ 31) × (limit.generation < 2 ^ 8)

abbrev pub EntryFits : Entry → Type 0
EntryFits (Area end) = end < 2 ^ 16
EntryFits (Service start blocks limit) = (start < 2 ^ 16) × (blocks < 2 ^ 16) × LimitFits limit

pub record NodeFits (n : Node) : Type 0 where
  pub depth : n.depth < 2 ^ 8
  pub code : n.code < 2 ^ 16
  pub version : n.version < 2 ^ 16
  pub entry : EntryFits n.entry

pub record SystemFits (s : System) : Type 0 where
  pub code : s.code < 2 ^ 16
  pub version : s.version < 2 ^ 16

pub record Fits (c : Card) : Type 0 where
  pub nodes : (i : ℕ) → NodeFits (get_or c.nodes i root_node)
  pub records : length c.nodes ≡ 64
  pub count : c.count ≤ 64
  pub unused : drop c.count c.nodes ≡ replicate (64 - c.count) root_node
  pub used : c.used < 2 ^ 16
  pub system : SystemFits c.system
