use Rattle.std.proofs.Common.{◌≡◌, length, drop}
use Rattle.byte_parts.specs.Part.{put}
use Rattle.node_messages.specs.Numbers.{numbers_in}
use Rattle.node_messages.proofs.numbers.read_numbers.Given as goal

abbrev pub invariant-loop-i : goal.invariant-loop-i
invariant-loop-i l = (l.to ≡ put l.initial.to 0 l.i (numbers_in l.n (drop l.at l.s))) × (length l.to ≡ length l.initial.to)
