-- The cyclic rule. Manual, section 3.4.3, and 4.5.2, table 4-12.
use Rattle.std.specs.Prelude.{ℕ, ◌-◌, List, ◌++◌, cond, ltb, length, take}
use Rattle.answers.specs.declared.status.Fault.TheVariants.{CyclicTooLong}
use Rattle.byte_parts.specs.Part.{same_bytes}
use Rattle.answers.specs.Outcome.{Outcome, passed, failed}

-- A run longer than the store fails. A run equal to the store's first blocks changes nothing.
-- Else the run, then the store's first blocks, as many as still fit.
-- RULES 9.6
unfoldable pub cyclic_of : List ℕ → List ℕ → Outcome
cyclic_of store run =
    cond (ltb (length store) (length run)) (failed CyclicTooLong)
    (cond (same_bytes (take (length run) store) run) (passed store)
    (passed (run ++ take (length store - length run) store)))
