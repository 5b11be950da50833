-- No more than 128, and no more than there are.
use mathlib.Core.Path.{◌≡◌, refl, ◌∙◌}
use mathlib.Core.Bool.{Bool, true, false, cond}
use Prim.Native.Nat.{ℕ, min}
use native.Mathlib.Omega.{arith}
use lib.Dec.{ltb}
use borrow.Author.Rules.{rules}
use borrow.Author.Tests.{ltb-true, ltb-false}
use Rattle.handset_words.specs.Board.{board_room}
use Rattle.handset.proofs.board.room.Goals as goal

-- the room is the lesser of the two
lesser : (n : ℕ) → min n 128 ≡ board_room n
unfolding board_room
lesser n = by_test_lem (ltb n 128) refl
  where
    by_test_lem : (t : Bool) → ltb n 128 ≡ t → min n 128 ≡ cond t n 128
    by_test_lem true e = let l = ltb-true n 128 e in omega arith
    by_test_lem false e = let l = ltb-false n 128 e in omega arith

pub returns : goal.returns
returns c = (c.least.ensures ∙ lesser c.args.len, omega arith, omega arith)
