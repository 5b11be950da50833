-- Tags of nodes, and the search by a tag.
use Rattle.std.specs.Prelude.{ℕ, suc, ◌+◌, ◌*◌, Bool, true, false, cond, List, [], ◌∷◌, map, ◌≡◌, eqb, Option, Some, None}
use Rattle.card_nodes.specs.declared.node.Node.{Node}
use Rattle.card_nodes.specs.Node.{is_service}

-- twice the code, and one more for a service
abbrev pub tag_as : ℕ → Bool → ℕ
tag_as code true = 2 * code + 1
tag_as code false = 2 * code

abbrev pub tag_of : Node → ℕ
tag_of n = tag_as n.code (is_service n.entry)

-- the first place of a tag, the first of all being counted i
unfoldable pub first_tag : ℕ → ℕ → List ℕ → Option ℕ
first_tag t i [] = None
first_tag t i (x ∷ xs) = cond (eqb x t) (Some i) (first_tag t (suc i) xs)

-- what holds of nodes, of any that have these tags
abbrev pub OfTags : List ℕ → (List Node → Type 0) → Type 0
OfTags tags holds = (ns : List Node) → tags ≡ map tag_of ns → holds ns
