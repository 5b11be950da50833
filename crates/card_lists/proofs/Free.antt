-- The free count of an area is what a new store may have: 22 comes exactly above it.
use Rattle.std.proofs.Common.{Some, Err}
use mathlib.Core.Path.{◌≡◌}
use mathlib.Core.Bool.{true}
use mathlib.Core.List.{[], ◌∷◌}
use Prim.Native.Nat.{ℕ, ◌+◌, ◌-◌, ◌*◌, ◌≤◌, ◌<◌}
use native.Mathlib.Omega.{arith}
use lib.ListN.{get_or}
use borrow.Author.Tests.{le-ltb}
use Rattle.answers.specs.declared.refusal.Refusal.TheVariants.{NoRoom}
use Rattle.byte_parts.specs.Part.{padded}
use Rattle.card_admit.specs.Admit.{usable, new_store}
use Rattle.card_build.specs.declared.card.Card.{Card}
use Rattle.card_build.specs.Card.{nodes_of, is_sound}
use Rattle.card_laws.specs.Children.{area_named}
use Rattle.card_laws.proofs.Room.{above_free, within-free}
use Rattle.card_lists.specs.Information.{blocks_told}
use Rattle.card_admit.specs.Placed.{placed_at}

-- the free count that is told of one node
abbrev free_told : Card → ℕ → ℕ → ℕ
free_told c arena_len code = get_or (blocks_told c arena_len (code ∷ [])).told.free 0 0

module _ (c : Card) (arena_len code : ℕ) {i : ℕ} (s : is_sound c ≡ true) (h : 16 * c.used ≤ arena_len) (a : area_named (nodes_of c) code ≡ Some i) where
  -- of an area it is the usable blocks of this arena that are not in use
  free-told : free_told c arena_len code ≡ usable arena_len - c.used
  unfolding blocks_told padded
  free-told = rw (s, le-ltb arena_len (16 * c.used) h, a)

  -- a new store of more is refused with 22
  pub free-refused : (blocks : ℕ) → free_told c arena_len code < blocks → new_store c.used arena_len blocks ≡ Err NoRoom
  free-refused blocks k = above_free c.used arena_len blocks (rw free-told at k)

  -- and one of no more is made
  pub free_given : (blocks : ℕ) → c.used ≤ 4096 → blocks ≤ free_told c arena_len code → new_store c.used arena_len blocks ≡ placed_at c.used blocks (c.used + blocks)
  unfolding usable
  free_given blocks m k = within-free c.used arena_len blocks (omega arith) (rw free-told at k)
