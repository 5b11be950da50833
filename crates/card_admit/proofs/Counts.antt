-- A store that is given agrees in its count, or the system joins; and where 24 stands among the refusals of a service.
use Rattle.std.proofs.Common.{Option, Some, None, Result, Ok, Err}
use mathlib.Core.Path.{◌≡◌, refl}
use mathlib.Core.Bool.{Bool, true, false, cond, not}
use Prim.Native.Nat.{ℕ, ◌+◌}
use lib.Dec.{ltb}
use borrow.Author.Tests.{eq-eqb}
use Rattle.answers.specs.declared.refusal.Refusal.TheVariants.{NoRoom, OverlapKindMismatch, CountsDiffer}
use Rattle.card_nodes.specs.declared.node.Node.{Node}
use Rattle.card_nodes.specs.Node.{start_of, blocks_of}
use Rattle.card_admit.specs.declared.Placed.{Placed}
use Rattle.card_admit.specs.Admit.{service_under, same_kind, joined_to, usable, new_store, store_by, if_done, placed_under, may_join, agreed}
use Rattle.card_admit.specs.Order.{store_worded, under_worded}
use Rattle.card_admit.proofs.Growth.{no_store}
use Rattle.answers.specs.declared.refusal.Refusal.{Refusal}
use Rattle.card_admit.specs.Placed.{placed_at}

-- what is given is what was placed
pub agreed-stored : (join : Bool) (blocks : ℕ) (p : Result Placed Refusal) {s b u : ℕ} → agreed join blocks p ≡ placed_at s b u → p ≡ placed_at s b u
agreed-stored join blocks (Err r) e = no_store e
agreed-stored join blocks (Ok placed) e = by (may_join join placed.blocks blocks) e
  where
    by : (t : Bool) {s' b' u' : ℕ} → cond (not t) (Err CountsDiffer) (placed_at placed.start placed.blocks placed.used) ≡ placed_at s' b' u' → placed_at placed.start placed.blocks placed.used ≡ placed_at s' b' u'
    by true k = k
    by false k = no_store k

-- a store of the count that the service names
pub own_count : (join : Bool) (s b u : ℕ) → agreed join b (placed_at s b u) ≡ placed_at s b u
unfolding may_join
own_count true s b u = refl
own_count false s b u = rw (eq-eqb b b refl)

-- a system that joins takes whatever was placed
pub joins_any : (blocks : ℕ) (p : Result Placed Refusal) → agreed true blocks p ≡ p
unfolding may_join
joins_any blocks (Err r) = refl
joins_any blocks (Ok placed) = refl

module _ (join : Bool) (used arena_len code blocks : ℕ) where
  -- 24 comes after 19, and a new store never meets it
  store_worded_lem : (first : Option Node) → agreed join blocks (store_by used arena_len code blocks first) ≡ store_worded join used arena_len code blocks first
  unfolding joined_to new_store
  store_worded_lem (Some first) = by_kind (same_kind first.code code)
    where
      by_kind : (k : Bool) →
          agreed join blocks (cond (not k) (Err OverlapKindMismatch) (placed_at (start_of first.entry) (blocks_of first.entry) used))
          ≡ cond (not k) (Err OverlapKindMismatch)
          (cond (not (may_join join (blocks_of first.entry) blocks)) (Err CountsDiffer)
          (placed_at (start_of first.entry) (blocks_of first.entry) used))
      by_kind true = refl
      by_kind false = refl
  store_worded_lem None = by_room (ltb (usable arena_len) (used + blocks))
    where
      by_room : (k : Bool) →
          agreed join blocks (cond k (Err NoRoom) (placed_at used blocks (used + blocks)))
          ≡ cond k (Err NoRoom) (placed_at used blocks (used + blocks))
      by_room true = refl
      by_room false = own_count join used blocks (used + blocks)

  -- so it stands between 19 and 22
  pub order_worded : (above : Node) (first : Option Node) →
      agreed join blocks (placed_under above first used arena_len code blocks) ≡ under_worded join above first used arena_len code blocks
  order_worded above first = by (service_under above code)
    where
      by : (a : Result Unit Refusal) → agreed join blocks (if_done a (store_by used arena_len code blocks first)) ≡ if_done a (store_worded join used arena_len code blocks first)
      by (Ok tt) = store_worded_lem first
      by (Err r) = refl
