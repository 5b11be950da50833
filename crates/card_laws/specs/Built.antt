-- The cards that accepted additions and limits produce.
use Rattle.std.specs.Prelude.{◌≡◌, ℕ, ℤ}
use Rattle.card_build.specs.declared.card.System.{System}
use Rattle.card_build.specs.declared.card.Card.{Card}
use Rattle.card_build.specs.Card.{new_card, accepted}
use Rattle.card_build.specs.Grow.{add_area, add_service, set_limit}

-- RULES 5.12
pub data Built : Card → Type 0 where
  new : (system : System) → Built (new_card system)
  area : {c c' : Card} (depth code end version : ℕ) → Built c → add_area c depth code end version ≡ accepted c' → Built c'
  service : {c c' : Card} (arena_len depth code blocks version : ℕ) → Built c → add_service c arena_len depth code blocks version ≡ accepted c' → Built c'
  limit : {c c' : Card} (upper lower : ℤ) (generation : ℕ) → Built c → set_limit c upper lower generation ≡ accepted c' → Built c'
