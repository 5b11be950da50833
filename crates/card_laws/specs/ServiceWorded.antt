-- A service's addition as docs/RULES.md words its refusals (2.3, 5.4, 5.6): 8, 7, 20, 21, then those under its parent, 24 among them.
use Rattle.std.specs.Prelude.{ℕ, Bool, cond, not, List, leb, get_or, Option, Some, None, Result, Err}
use Rattle.answers.specs.declared.refusal.Refusal.TheVariants.{NotBuilt, ShortArena, TableFull, NoParent}
use Rattle.card_nodes.specs.declared.node.Node.{Node}
use Rattle.card_nodes.specs.Node.{root_node}
use Rattle.card_nodes.specs.Find.{shared_of}
use Rattle.card_admit.specs.declared.Placed.{Placed}
use Rattle.card_admit.specs.Admit.{parent_at, first_in}
use Rattle.card_admit.specs.Order.{under_worded}
use Rattle.card_build.specs.declared.card.Card.{Card}
use Rattle.card_build.specs.declared.card.Added.{Added}
use Rattle.card_build.specs.Card.{nodes_of, is_sound, is_short, refused}
use Rattle.card_build.specs.Grow.{service_by}
use Rattle.answers.specs.declared.refusal.Refusal.{Refusal}

-- 21, then those of a service under its parent
abbrev pub placed_worded : Bool → List Node → ℕ → ℕ → ℕ → ℕ → Option ℕ → Result Placed Refusal
placed_worded join ns used arena_len code blocks None = Err NoParent
placed_worded join ns used arena_len code blocks (Some p) =
    under_worded join (get_or ns p root_node) (first_in ns (shared_of ns code)) used arena_len code blocks

-- 8, 7 and 20 come ahead of those
-- RULES 2.3
abbrev pub service_worded : Card → ℕ → ℕ → ℕ → ℕ → ℕ → Added
service_worded c arena_len depth code blocks version =
    cond (not (is_sound c)) (refused c NotBuilt)
    (cond (is_short arena_len c.used) (refused c ShortArena)
    (cond (leb 64 c.count) (refused c TableFull)
    (service_by c depth code version
    (placed_worded c.system.join (nodes_of c) c.used arena_len code blocks (parent_at (nodes_of c) depth)))))
