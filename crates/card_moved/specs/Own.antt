-- The card that a system would be if it had a card to itself.
use Rattle.std.specs.Prelude.{ℕ, ◌+◌, List, ◌≡◌, length}
use Rattle.card_nodes.specs.declared.node.Node.{Node}
use Rattle.card_build.specs.declared.card.System.{System}
use Rattle.card_build.specs.declared.card.Card.{Card}
use Rattle.card_build.specs.Card.{nodes_of}
use Rattle.card_laws.specs.Built.{Built}
use Rattle.card_moved.specs.Moved.{moved}

-- The nodes ns of a system, whose stores begin at block k and end at block `end`, are those of a built card, each store k blocks later.
pub record OwnCard (system : System) (k end : ℕ) (ns : List Node) : Type 0 where
  -- the card, which accepted additions and limits produce
  pub card : Card
  pub built : Built card
  -- its nodes, its blocks in use, how many records it takes, and its system
  pub records : ns ≡ moved k (nodes_of card)
  pub blocks : end ≡ k + card.used
  pub count : card.count ≡ length ns
  pub named : card.system ≡ system
