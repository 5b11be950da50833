-- A store comes next after those in use where the usable blocks leave it room.
use Rattle.std.proofs.Common.{Err}
use mathlib.Core.Path.{◌≡◌}
use Prim.Native.Nat.{ℕ, ◌+◌, ◌<◌, ◌≤◌}
use native.Mathlib.Omega.{arith}
use borrow.Author.Rules.{rules}
use Rattle.answers.specs.declared.refusal.Refusal.TheVariants.{NoRoom}
use Rattle.card_admit.specs.Admit.{new_store, usable}
use Rattle.byte_parts.proofs.Tests.{tests}
use Rattle.card_admit.proofs.Growth.{usable-most}
use Rattle.card_admit.proofs.new_store.Goals as goal
use Rattle.card_admit.specs.Placed.{placed_at}

module _ (used arena_len blocks : ℕ) where
  -- no room
  short : usable arena_len < used + blocks → Err NoRoom ≡ new_store used arena_len blocks
  unfolding new_store
  short h = search tests

  -- room
  room : used + blocks ≤ usable arena_len → placed_at used blocks (used + blocks) ≡ new_store used arena_len blocks
  unfolding new_store
  room h = search tests

pub overflow_cast-result : goal.overflow_cast-result
overflow_cast-result c = omega (arith, usable-most c.args.arena_len)

pub overflow_cast-result-2 : goal.overflow_cast-result-2
overflow_cast-result-2 c = omega (arith, usable-most c.args.arena_len)

pub returns-then-usable-used : goal.returns-then-usable-used
returns-then-usable-used c = short _ _ _ (omega arith)

pub returns-then-usable-used-2 : goal.returns-then-usable-used-2
returns-then-usable-used-2 c = short _ _ _ (omega arith)

pub returns : goal.returns
returns c = room _ _ _ (omega arith)
