-- Every rule leaves a store as long as it was. Assumes nothing.
use Rattle.std.proofs.Common.{Option, Some, None}
use Prim.Native.Nat.{ℕ, ◌*◌}
use native.Mathlib.Omega.{arith}
use mathlib.Core.Path.{◌≡◌}
use mathlib.Core.Bool.{Bool, true, false, cond}
use mathlib.Core.List.{List}
use lib.Dec.{eqb}
use lib.ListN.{length}
use Rattle.service_code.specs.declared.code.ServiceAttribute.TheVariants.{RandomReadWrite, RandomReadOnly, CyclicReadWrite, CyclicReadOnly, PurseDirect, PurseCashback, PurseDecrement, PurseReadOnly}
use Rattle.service_code.specs.declared.limit.Limit.{Limit}
use Rattle.answers.specs.declared.status.Fault.{Fault}
use Rattle.answers.specs.declared.status.Fault.TheVariants.{CyclicBlock}
use Rattle.answers.specs.Outcome.{Outcome, passed, failed}
use Rattle.byte_parts.specs.Part.{part}
use Rattle.byte_parts.proofs.Part.{length-put}
use Rattle.rule_cyclic.proofs.Again.{ring_holds}
use Rattle.request_rules.specs.Lens.{back, within}
use Rattle.request_rules.specs.Rules.{element_by, end_by}
use Rattle.service_code.specs.declared.code.ServiceAttribute.{ServiceAttribute}

-- an outcome that passes is what was stored
stored_is : {t u : List ℕ} → passed u ≡ passed t → u ≡ t
stored_is e = cc

never : {A : Type 0} {f : Fault} {t : List ℕ} → failed f ≡ passed t → A
never e = absurd (let z : ◌≡◌ {A = ℕ} 0 1 = cc in (omega arith))

-- a rule that leaves a store as long as it was
abbrev pub Long : (List ℕ → Outcome) → Type 0
Long rule = (s t : List ℕ) → rule s ≡ passed t → length t ≡ length s

-- what is done within a part
within-long : (at n : ℕ) (rule : List ℕ → Outcome) → Long (within at n rule)
unfolding within back
within-long at n rule s t e = here (rule (part s at n)) e
  where
    here : (o : Outcome) → back s at n o ≡ passed t → length t ≡ length s
    here (passed u) h = rw (← stored_is h) (length-put s at n u)
    here (failed f) h = never h

-- so does each element
pub element_long : (d : Option ServiceAttribute) (limit : Option Limit) (number mode : ℕ) (block : List ℕ) → Long (element_by d limit number mode block)
unfolding element_by
element_long (Some RandomReadWrite) limit number mode block s t e = rw (← stored_is e) (length-put s (16 * number) 16 block)
element_long (Some RandomReadOnly) limit number mode block s t e = never e
element_long (Some CyclicReadWrite) limit number mode block s t e = here (eqb number 0) e
  where
    here : (b : Bool) → cond b (passed s) (failed CyclicBlock) ≡ passed t → length t ≡ length s
    here true h = rw (stored_is h)
    here false h = never h
element_long (Some CyclicReadOnly) limit number mode block s t e = never e
element_long (Some PurseDirect) limit number mode block s t e = within-long (16 * number) 16 _ s t e
element_long (Some PurseCashback) limit number mode block s t e = within-long (16 * number) 16 _ s t e
element_long (Some PurseDecrement) limit number mode block s t e = within-long (16 * number) 16 _ s t e
element_long (Some PurseReadOnly) limit number mode block s t e = never e
element_long None limit number mode block s t e = never e

-- and each run's end
pub end-long : (d : Option ServiceAttribute) (run : List ℕ) → Long (end_by d run)
unfolding end_by
end-long (Some RandomReadWrite) run s t e = rw (stored_is e)
end-long (Some RandomReadOnly) run s t e = rw (stored_is e)
end-long (Some CyclicReadWrite) run s t e = (ring_holds s run t e).0
end-long (Some CyclicReadOnly) run s t e = rw (stored_is e)
end-long (Some PurseDirect) run s t e = rw (stored_is e)
end-long (Some PurseCashback) run s t e = rw (stored_is e)
end-long (Some PurseDecrement) run s t e = rw (stored_is e)
end-long (Some PurseReadOnly) run s t e = rw (stored_is e)
end-long None run s t e = rw (stored_is e)
