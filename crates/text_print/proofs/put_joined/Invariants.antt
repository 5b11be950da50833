use Prim.Native.Nat.{◌+◌, ◌*◌, ◌≤◌}
use mathlib.Core.Path.{◌≡◌}
use lib.ListN.{length, take}
use Rattle.text_numbers.specs.Hex.{to_hex}
use Rattle.text_stream.specs.Stream.{Written}
use Rattle.text_print.specs.Print.{high_first}
use Rattle.text_print.proofs.put_joined.Given as goal

abbrev pub invariant-loop-n : goal.invariant-loop-n
invariant-loop-n l =
    (l.last ≤ l.at + l.n-index * 4) × (length l.out ≡ length l.initial.out) × Written l.initial.out l.at (to_hex (high_first (take l.n-index l.numbers))) l.last l.out
