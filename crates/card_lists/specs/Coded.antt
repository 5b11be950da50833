-- The nodes whose codes and ends are numbers of 16 bits, as the types of a card have them.
use Rattle.std.specs.Prelude.{◌<◌, ◌^◌, List, [], ◌∷◌}
use Rattle.card_nodes.specs.declared.node.Node.{Node}
use Rattle.card_questions.specs.Directory.{second_of}

pub record CodedNode (n : Node) : Type 0 where
  pub code : n.code < 2 ^ 16
  pub end : second_of n.entry < 2 ^ 16

abbrev pub Coded : List Node → Type 0
Coded [] = Unit {0}
Coded (n ∷ ns) = CodedNode n × Coded ns
