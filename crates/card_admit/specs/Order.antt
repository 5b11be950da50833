-- A service under its parent as docs/RULES.md words its refusals: 13, 16, 17, 19, 24, 22.
use Rattle.std.specs.Prelude.{ℕ, Bool, cond, not, Option, Some, None, Result, Err}
use Rattle.answers.specs.declared.refusal.Refusal.TheVariants.{OverlapKindMismatch, CountsDiffer}
use Rattle.card_nodes.specs.declared.node.Node.{Node}
use Rattle.card_nodes.specs.Node.{start_of, blocks_of}
use Rattle.card_admit.specs.declared.Placed.{Placed}
use Rattle.card_admit.specs.Admit.{service_under, same_kind, new_store, if_done, may_join}
use Rattle.answers.specs.declared.refusal.Refusal.{Refusal}
use Rattle.card_admit.specs.Placed.{placed_at}

-- 19, then 24, of a store that is there; 22 of a new one
abbrev pub store_worded : Bool → ℕ → ℕ → ℕ → ℕ → Option Node → Result Placed Refusal
store_worded join used arena_len code blocks (Some first) =
    cond (not (same_kind first.code code)) (Err OverlapKindMismatch)
    (cond (not (may_join join (blocks_of first.entry) blocks)) (Err CountsDiffer)
    (placed_at (start_of first.entry) (blocks_of first.entry) used))
store_worded join used arena_len code blocks None = new_store used arena_len blocks

-- 13, 16 and 17 come ahead of those
-- RULES 5.6
abbrev pub under_worded : Bool → Node → Option Node → ℕ → ℕ → ℕ → ℕ → Result Placed Refusal
under_worded join above first used arena_len code blocks = if_done (service_under above code) (store_worded join used arena_len code blocks first)
