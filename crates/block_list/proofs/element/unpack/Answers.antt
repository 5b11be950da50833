-- Each answer is its case of `unpack_at`; a byte of the list is below 256.
use Prim.Native.Nat.{◌+◌, ◌<◌}
use mathlib.Core.Path.{sym}
use native.Mathlib.Omega.{arith}
use borrow.Author.Rules.{rules}
use lib.ListN.{get_or}
use Rattle.block_list.proofs.Cases.{past, cut_three_lem, cut_two_lem, three, two}
use Rattle.block_list.proofs.element.unpack.Goals as goal

pub returns-then-list-at : goal.returns-then-list-at
returns-then-list-at c = sym (past _ _ (omega arith))

pub returns-then-left-lt3 : goal.returns-then-left-lt3
returns-then-left-lt3 c = sym (cut_three_lem _ _ (omega arith) (omega arith) (omega arith))

pub overflow_cast-low : goal.overflow_cast-low
overflow_cast-low c = omega (arith, c.shared_slice_known-then-head-lt128-1.given (c.args.at + 1))

pub returns-then-left-lt2 : goal.returns-then-left-lt2
returns-then-left-lt2 c = sym (cut_two_lem _ _ (omega arith) (omega arith) (omega arith))

pub overflow_cast-list : goal.overflow_cast-list
overflow_cast-list c = omega (arith, c.shared_slice_known-else-head-lt128-1.given (c.args.at + 1))

pub returns-else-left-lt3 : goal.returns-else-left-lt3
returns-else-left-lt3 c = rw c.element_of.ensures (sym (three _ _ (omega arith) (omega arith)))

pub returns-else-left-lt2 : goal.returns-else-left-lt2
returns-else-left-lt2 c = rw c.element_of-else-head-lt128.ensures (sym (two _ _ (omega arith) (omega arith)))
