use Rattle.std.proofs.Common.{◌≡◌, ◌*◌, length}
use Rattle.byte_parts.specs.Part.{put}
use Rattle.node_messages.specs.Numbers.{numbers_bytes}
use Rattle.node_messages.proofs.numbers.put_numbers.Given as goal

abbrev pub invariant-loop-i : goal.invariant-loop-i
invariant-loop-i l = (l.out ≡ put l.initial.out l.at (2 * l.i) (numbers_bytes l.numbers)) × (length l.out ≡ length l.initial.out)
