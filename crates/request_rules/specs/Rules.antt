-- What an element, and the end of a run, do to the bytes of one store; and to that store where it lies in the stage.
use Rattle.std.specs.Prelude.{ℕ, ◌*◌, List, cond, eqb, Option, Some, None, Result, Ok, Err}
use Rattle.byte_parts.specs.Sizes.{block_size}
use Rattle.service_code.specs.declared.code.ServiceAttribute.TheVariants.{RandomReadWrite, RandomReadOnly, CyclicReadWrite, CyclicReadOnly, PurseDirect, PurseCashback, PurseDecrement, PurseReadOnly}
use Rattle.answers.specs.declared.status.Fault.TheVariants.{Attribute, ReadOnly, CyclicBlock}
use Rattle.byte_parts.specs.Part.{put}
use Rattle.rule_purse.specs.declared.fields.PurseOperation.{PurseOperation}
use Rattle.rule_purse.specs.declared.fields.PurseOperation.TheVariants.{Direct, Decrement, Cashback}
use Rattle.service_code.specs.declared.limit.Limit.{Limit}
use Rattle.answers.specs.Outcome.{Outcome, passed, failed}
use Rattle.rule_cyclic.specs.Cyclic.{cyclic_of}
use Rattle.rule_purse.specs.Bytes.{purse_applied}
use Rattle.request_check.specs.declared.table.Row.{Row}
use Rattle.request_rules.specs.Lens.{within}
use Rattle.answers.specs.declared.status.Fault.{Fault}
use Rattle.service_code.specs.declared.code.ServiceAttribute.{ServiceAttribute}

-- a block of a purse store
abbrev pub purse_in : PurseOperation → Option Limit → ℕ → List ℕ → List ℕ → Outcome
purse_in operation limit number block store = within (block_size * number) 16 (λ b. purse_applied operation limit b block) store

-- a cashback service in mode 1 gives cashback, in mode 0 it decrements
-- RULES 9.11
unfoldable pub cashback_in : ℕ → PurseOperation
cashback_in mode = cond (eqb mode 1) Cashback Decrement

-- how an element of a cyclic store ends: it must name block 0
unfoldable pub cyclic_element : ℕ → Result Unit Fault
cyclic_element number = cond (eqb number 0) (Ok tt) (Err CyclicBlock)

-- One element with its sixteen bytes. Random: the block is replaced. Cyclic: it must name block 0, and the run's end does the rest.
-- Purse: by the attribute, and for cashback by the mode too.
-- RULES 9.5, 9.6
unfoldable pub element_by : Option ServiceAttribute → Option Limit → ℕ → ℕ → List ℕ → List ℕ → Outcome
element_by (Some RandomReadWrite) limit number mode block store = passed (put store (block_size * number) 16 block)
element_by (Some RandomReadOnly) limit number mode block store = failed ReadOnly
element_by (Some CyclicReadWrite) limit number mode block store = cond (eqb number 0) (passed store) (failed CyclicBlock)
element_by (Some CyclicReadOnly) limit number mode block store = failed ReadOnly
element_by (Some PurseDirect) limit number mode block store = purse_in Direct limit number block store
element_by (Some PurseCashback) limit number mode block store = purse_in (cashback_in mode) limit number block store
element_by (Some PurseDecrement) limit number mode block store = purse_in Decrement limit number block store
element_by (Some PurseReadOnly) limit number mode block store = failed ReadOnly
element_by None limit number mode block store = failed Attribute

-- the end of a run, with the bytes of all its elements
-- RULES 9.6
unfoldable pub end_by : Option ServiceAttribute → List ℕ → List ℕ → Outcome
end_by (Some RandomReadWrite) run store = passed store
end_by (Some RandomReadOnly) run store = passed store
end_by (Some CyclicReadWrite) run store = cyclic_of store run
end_by (Some CyclicReadOnly) run store = passed store
end_by (Some PurseDirect) run store = passed store
end_by (Some PurseCashback) run store = passed store
end_by (Some PurseDecrement) run store = passed store
end_by (Some PurseReadOnly) run store = passed store
end_by None run store = passed store

-- a rule on a row's store among the staged ones
unfoldable pub on_store : Row → (List ℕ → Outcome) → List ℕ → Outcome
on_store w rule stage = within (block_size * w.start) (block_size * w.blocks) rule stage
