-- Block totals.
use Rattle.std.specs.Prelude.{ℕ, ◌+◌, min, List, cond, not, drop, get_or, Option, Some, None, Result, Ok, Err}
use Rattle.answers.specs.declared.refusal.Refusal.TheVariants.{NotBuilt}
use Rattle.card_nodes.specs.declared.node.Node.{Node}
use Rattle.card_nodes.specs.Node.{root_node, blocks_of}
use Rattle.card_nodes.specs.Find.{service_of, area_of}
use Rattle.card_build.specs.declared.card.Card.{Card}
use Rattle.card_build.specs.Card.{nodes_of, is_sound}
use Rattle.card_laws.specs.Under.{sum_under}
use Rattle.answers.specs.declared.refusal.Refusal.{Refusal}

-- the most that an answer says
abbrev pub most_told : ℕ
most_told = 65535

-- an area's total stops at 65,535: at the answer, not on the way
abbrev pub area_total_at : List Node → Option ℕ → ℕ
area_total_at ns (Some i) = min (sum_under (get_or ns i root_node).depth (drop (i + 1) ns)) most_told
area_total_at ns None = 0

-- that of the first area of a code, and 0 where there is none
-- RULES 6.2
abbrev pub area_total : List Node → ℕ → ℕ
area_total ns code = area_total_at ns (area_of ns code)

-- that of the service that was found, else the area's
abbrev pub total_at : List Node → ℕ → Option ℕ → ℕ
total_at ns code (Some i) = min (blocks_of (get_or ns i root_node).entry) most_told
total_at ns code None = area_total ns code

-- for a service code it is that store's count, and an unknown node gives 0
-- RULES 6.3
unfoldable pub total_of : List Node → ℕ → ℕ
total_of ns code = total_at ns code (service_of ns code)

-- what a card answers, refusal 8 first
unfoldable pub total_answer : Card → ℕ → Result ℕ Refusal
total_answer c code = cond (not (is_sound c)) (Err NotBuilt) (Ok (total_of (nodes_of c) code))
