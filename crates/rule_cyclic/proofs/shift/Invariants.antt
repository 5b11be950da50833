use Rattle.std.proofs.Common.{◌≡◌, ◌-◌, ◌≤◌, length, drop}
use Rattle.byte_parts.specs.Part.{put}
use Rattle.rule_cyclic.proofs.shift.Given as goal

abbrev pub invariant-loop-i : goal.invariant-loop-i
invariant-loop-i l =
    (l.n ≤ l.i) × (l.store ≡ put l.initial.store l.i (length l.initial.store - l.i) (drop (l.i - l.n) l.initial.store)) × (length l.store ≡ length l.initial.store)
