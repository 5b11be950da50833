-- `field_at` meets its contract: between two ends stands a field. Assumes nothing.
use mathlib.Core.Path.{◌∙◌}
use native.Mathlib.Omega.{arith}
use Rattle.text_fields.proofs.EndLaws.{ends-within, first_field, second_field, third_field, fourth_field, fifth_field, sixth_field}
use Rattle.text_fields.proofs.field_at.Goals as goal

pub part-requires : goal.part-requires
part-requires c = omega (arith, ends-within c.args.separator c.args.s.now c.args.ends c.requires)

pub returns-in-0 : goal.returns-in-0
returns-in-0 c = rw c.in-0.is (c.part.ensures ∙ first_field c.args.separator c.args.s.now c.args.ends c.requires)

pub part-requires-in-1 : goal.part-requires-in-1
part-requires-in-1 c = omega (arith, ends-within c.args.separator c.args.s.now c.args.ends c.requires)

pub overflow_add-ends : goal.overflow_add-ends
overflow_add-ends c = omega (arith, ends-within c.args.separator c.args.s.now c.args.ends c.requires)

pub returns-in-1 : goal.returns-in-1
returns-in-1 c = rw c.in-1.is (c.part-in-1.ensures ∙ second_field c.args.separator c.args.s.now c.args.ends c.requires)

pub part-requires-in-2 : goal.part-requires-in-2
part-requires-in-2 c = omega (arith, ends-within c.args.separator c.args.s.now c.args.ends c.requires)

pub overflow_add-ends-in-2 : goal.overflow_add-ends-in-2
overflow_add-ends-in-2 c = omega (arith, ends-within c.args.separator c.args.s.now c.args.ends c.requires)

pub returns-in-2 : goal.returns-in-2
returns-in-2 c = rw c.in-2.is (c.part-in-2.ensures ∙ third_field c.args.separator c.args.s.now c.args.ends c.requires)

pub part-requires-in-3 : goal.part-requires-in-3
part-requires-in-3 c = omega (arith, ends-within c.args.separator c.args.s.now c.args.ends c.requires)

pub overflow_add-ends-in-3 : goal.overflow_add-ends-in-3
overflow_add-ends-in-3 c = omega (arith, ends-within c.args.separator c.args.s.now c.args.ends c.requires)

pub returns-in-3 : goal.returns-in-3
returns-in-3 c = rw c.in-3.is (c.part-in-3.ensures ∙ fourth_field c.args.separator c.args.s.now c.args.ends c.requires)

pub part-requires-in-4 : goal.part-requires-in-4
part-requires-in-4 c = omega (arith, ends-within c.args.separator c.args.s.now c.args.ends c.requires)

pub overflow_add-ends-in-4 : goal.overflow_add-ends-in-4
overflow_add-ends-in-4 c = omega (arith, ends-within c.args.separator c.args.s.now c.args.ends c.requires)

pub returns-in-4 : goal.returns-in-4
returns-in-4 c = rw c.in-4.is (c.part-in-4.ensures ∙ fifth_field c.args.separator c.args.s.now c.args.ends c.requires)

pub part-requires-in-5 : goal.part-requires-in-5
part-requires-in-5 c = omega (arith, ends-within c.args.separator c.args.s.now c.args.ends c.requires)

pub overflow_add-ends-in-5 : goal.overflow_add-ends-in-5
overflow_add-ends-in-5 c = omega (arith, ends-within c.args.separator c.args.s.now c.args.ends c.requires)

pub returns-in-5 : goal.returns-in-5
returns-in-5 c = rw c.in-5.is (c.part-in-5.ensures ∙ sixth_field c.args.separator c.args.s.now c.args.ends c.requires)
