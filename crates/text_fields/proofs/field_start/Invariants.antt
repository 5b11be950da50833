use Rattle.std.proofs.Common.{◌≡◌, ◌-◌, [], get_or, drop}
use Rattle.text_fields.specs.Field.{split}
use Rattle.text_fields.proofs.field_start.Given as goal

abbrev pub invariant-loop : goal.invariant-loop
invariant-loop l = get_or (split l.separator l.s) l.k [] ≡ get_or (split l.separator (drop l.from l.s)) (l.k - l.counter) []
