-- What a search of the library finds is what the definition of a search says.
use Rattle.std.proofs.Common.{◌≡◌, ℕ, suc, ◌+◌, ◌<◌, Bool, cond, List, [], ◌∷◌, Option, Some, None, length, ltb, sym, ◌∙◌, ap, refl, rules, add-one}
use Rattle.std.specs.List.{position_from, position_or_len}
use Rattle.std.proofs.lemmas.Iterator.Adapters.{position_from-zero}
use Rattle.card_nodes.specs.declared.node.Node.{Node}
use Rattle.card_nodes.specs.Find.{first_from}

positions : (test : Node → Bool) (i : ℕ) (ns : List Node) → position_from test i ns ≡ first_from test i ns
unfolding first_from
positions test i [] = refl
positions test i (n ∷ ns) = rw add-one (ap (λ r. cond (test n) (Some i) r) (positions test (suc i) ns))

pub position_first : (test : Node → Bool) (ns : List Node) → cond (ltb (position_or_len test ns) (length ns)) (Some (position_or_len test ns)) None ≡ first_from test 0 ns
position_first test ns = position_from-zero test ns ∙ positions test 0 ns
