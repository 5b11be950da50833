-- What each call that builds a card answers: refusal 8 first.
use Rattle.std.specs.Prelude.{ℕ, ◌-◌, ◌*◌, List, cond, not, ℤ, replicate}
use Rattle.byte_parts.specs.Sizes.{block_size}
use Rattle.answers.specs.declared.refusal.Refusal.TheVariants.{NotBuilt}
use Rattle.byte_parts.specs.Part.{put}
use Rattle.card_build.specs.declared.card.Card.{Card}
use Rattle.card_build.specs.declared.card.Added.{Added}
use Rattle.card_build.specs.Card.{is_sound, refused}
use Rattle.card_build.specs.Grow.{add_area, add_service, set_limit}

-- 8, then those of an area
unfoldable pub area_added : Card → ℕ → ℕ → ℕ → ℕ → Added
area_added c depth code end version = cond (not (is_sound c)) (refused c NotBuilt) (add_area c depth code end version)

-- 8, then 7 and those of a service, in an arena of `arena_len` bytes
unfoldable pub service_added : Card → ℕ → ℕ → ℕ → ℕ → ℕ → Added
service_added c arena_len depth code blocks version =
    cond (not (is_sound c)) (refused c NotBuilt) (add_service c arena_len depth code blocks version)

-- the bytes of the blocks that are newly in use are zero, all others as they were
-- RULES 5.7
unfoldable pub arena_added : Card → Added → List ℕ → List ℕ
arena_added c a arena =
    put arena (block_size * c.used) (block_size * (a.card.used - c.used)) (replicate (block_size * (a.card.used - c.used)) 0)

-- 8, then 28
unfoldable pub limit_added : Card → ℤ → ℤ → ℕ → Added
limit_added c upper lower generation = cond (not (is_sound c)) (refused c NotBuilt) (set_limit c upper lower generation)
