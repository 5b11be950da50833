-- The definition of a service's addition says what docs/RULES.md words, refusal by refusal.
use Rattle.std.proofs.Common.{Option, Some, None, Result}
use mathlib.Core.Path.{◌≡◌, refl, ap}
use mathlib.Core.Bool.{Bool, cond, not}
use mathlib.Core.List.{List}
use Prim.Native.Nat.{ℕ, ◌*◌}
use lib.Dec.{ltb, leb}
use lib.ListN.{get_or}
use Rattle.answers.specs.declared.refusal.Refusal.TheVariants.{NotBuilt, ShortArena, TableFull}
use Rattle.card_nodes.specs.declared.node.Node.{Node}
use Rattle.card_nodes.specs.Node.{root_node}
use Rattle.card_nodes.specs.Find.{shared_of}
use Rattle.card_admit.specs.declared.Placed.{Placed}
use Rattle.card_admit.specs.Admit.{parent_at, first_in, service_found, placed_of, agreed}
use Rattle.card_admit.proofs.Counts.{order_worded}
use Rattle.card_build.specs.declared.card.Card.{Card}
use Rattle.card_build.specs.Card.{nodes_of, is_sound, refused}
use Rattle.card_build.specs.Grow.{service_by, add_service}
use Rattle.card_build.specs.Build.{service_added}
use Rattle.card_laws.specs.ServiceWorded.{placed_worded, service_worded}
use Rattle.answers.specs.declared.refusal.Refusal.{Refusal}

-- 21 comes ahead of those under a parent
placed_worded_lem : (join : Bool) (ns : List Node) (used arena_len code blocks : ℕ) (f : Option ℕ) →
    agreed join blocks (service_found ns used arena_len code blocks f) ≡ placed_worded join ns used arena_len code blocks f
placed_worded_lem join ns used arena_len code blocks None = refl
placed_worded_lem join ns used arena_len code blocks (Some p) =
    order_worded join used arena_len code blocks (get_or ns p root_node) (first_in ns (shared_of ns code))

-- 8, 7 and 20 come ahead of 21 and of all others, 24 among them.
pub service_worded_lem : (c : Card) (arena_len depth code blocks version : ℕ) →
    service_added c arena_len depth code blocks version ≡ service_worded c arena_len depth code blocks version
unfolding service_added add_service placed_of
service_worded_lem c arena_len depth code blocks version =
    ap (λ (p : Result Placed Refusal). cond (not (is_sound c)) (refused c NotBuilt) (cond (ltb arena_len (16 * c.used)) (refused c ShortArena)
    (cond (leb 64 c.count) (refused c TableFull) (service_by c depth code version p))))
    (placed_worded_lem c.system.join (nodes_of c) c.used arena_len code blocks (parent_at (nodes_of c) depth))
