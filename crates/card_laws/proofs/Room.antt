-- Refusal 22 comes exactly above the free blocks, and 24 for every other count: laws and computed rows.
use Rattle.std.proofs.Common.{Err}
use mathlib.Core.Path.{◌≡◌, refl}
use mathlib.Core.Bool.{true, false}
use Prim.Native.Nat.{ℕ, ◌+◌, ◌-◌, ◌≤◌, ◌<◌}
use native.Mathlib.Omega.{arith}
use borrow.Author.Tests.{lt-ltb, le-ltb}
use Rattle.answers.specs.declared.refusal.Refusal.TheVariants.{NoRoom, CountsDiffer}
use Rattle.card_admit.specs.Admit.{usable, new_store, may_join, agreed}
use Rattle.card_admit.specs.Placed.{placed_at}

module _ (used arena_len blocks : ℕ) where
  -- a new store of more blocks than are free is refused
  pub above_free : usable arena_len - used < blocks → new_store used arena_len blocks ≡ Err NoRoom
  unfolding new_store
  above_free h = rw (lt-ltb (usable arena_len) (used + blocks) (omega arith))

  -- and one of no more is made
  pub within-free : used ≤ usable arena_len → blocks ≤ usable arena_len - used → new_store used arena_len blocks ≡ placed_at used blocks (used + blocks)
  unfolding new_store
  within-free h k = rw (le-ltb (usable arena_len) (used + blocks) (omega arith))

-- the usable blocks of arenas: of no whole block, of two and a half, of 4,095 and 4,096, and of more, which are not used
pub usable_rows :
    (usable 15 ≡ 0) × (usable 40 ≡ 2) × (usable 65535 ≡ 4095) × (usable 65536 ≡ 4096) × (usable 65552 ≡ 4096) × (usable 1048560 ≡ 4096)
unfolding usable
usable_rows = (refl, refl, refl, refl, refl, refl)

-- a store of four blocks, for a service that names three, five, none and four of them, and by a system that joins
pub count_rows_lem :
    (agreed false 3 (placed_at 7 4 11) ≡ Err CountsDiffer)
    × (agreed false 5 (placed_at 7 4 11) ≡ Err CountsDiffer)
    × (agreed false 0 (placed_at 7 4 11) ≡ Err CountsDiffer)
    × (agreed false 4 (placed_at 7 4 11) ≡ placed_at 7 4 11)
    × (agreed true 3 (placed_at 7 4 11) ≡ placed_at 7 4 11)
unfolding may_join
count_rows_lem = (refl, refl, refl, refl, refl)
