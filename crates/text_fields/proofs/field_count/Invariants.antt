use Rattle.std.proofs.Common.{◌≡◌, ◌+◌, ◌≤◌, length, drop}
use Rattle.text_fields.specs.Field.{split}
use Rattle.text_fields.proofs.field_count.Given as goal

abbrev pub invariant-loop-b : goal.invariant-loop-b
invariant-loop-b l = (l.n ≤ l.b-index + 1) × (length (split l.separator l.s) + 1 ≡ l.n + length (split l.separator (drop l.b-index l.s)))
