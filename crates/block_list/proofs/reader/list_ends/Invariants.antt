-- The invariant: the answer of the whole is the answer of what is left from the reader's place on.
use Rattle.std.proofs.Common.{◌≡◌, ◌-◌}
use Rattle.block_list.specs.Element.{ends_from, ends_after}
use Rattle.block_list.proofs.reader.list_ends.Given as goal

abbrev pub invariant-loop-i : goal.invariant-loop-i
invariant-loop-i l = (l.reader.list.now ≡ l.list) × (ends_after l.list l.count ≡ ends_from l.list (l.count - l.i) l.reader.at)
