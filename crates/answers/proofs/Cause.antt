-- A fault has a cause exactly where its byte is A5, and the cause tells which fault it was. Assumes nothing.
use Prim.Native.Nat.{ℕ, ◌≤◌}
use native.Mathlib.Omega.{arith}
use mathlib.Core.Path.{◌≡◌, refl, sym, ◌∙◌, ap}
use mathlib.Core.Bool.{cond}
use lib.Dec.{eqb}
use Rattle.answers.specs.declared.status.Fault.{Fault}
use Rattle.answers.specs.declared.status.Fault.TheVariants.{ListIndex, AccessMode, Attribute, NoService, KeyNeeded, ReadOnly, NoCashback, BlockNumber, CyclicBlock, PurseRaised, CashbackRaised, SumTooLarge, OutsideLimits, OutsideWord, CashbackExceeds, CyclicTooLong}
use Rattle.answers.specs.Status.{sf2_of, cause_of}

-- A5 has a cause.
pub caused : (f : Fault) → sf2_of f ≡ 0xa5 → 1 ≤ cause_of f
caused ListIndex e = omega arith
caused AccessMode e = omega arith
caused Attribute e = omega arith
caused NoService e = omega arith
caused KeyNeeded e = omega arith
caused ReadOnly e = omega arith
caused NoCashback e = omega arith
caused BlockNumber e = omega arith
caused CyclicBlock e = omega arith
caused PurseRaised e = omega arith
caused CashbackRaised e = omega arith
caused SumTooLarge e = omega arith
caused OutsideLimits e = omega arith
caused OutsideWord e = omega arith
caused CashbackExceeds e = omega arith
caused CyclicTooLong e = omega arith

-- No other byte has one.
pub only_a5 : (f : Fault) → 1 ≤ cause_of f → sf2_of f ≡ 0xa5
only_a5 ListIndex h = omega arith
only_a5 AccessMode h = omega arith
only_a5 Attribute h = omega arith
only_a5 NoService h = omega arith
only_a5 KeyNeeded h = refl
only_a5 ReadOnly h = refl
only_a5 NoCashback h = refl
only_a5 BlockNumber h = omega arith
only_a5 CyclicBlock h = refl
only_a5 PurseRaised h = refl
only_a5 CashbackRaised h = refl
only_a5 SumTooLarge h = refl
only_a5 OutsideLimits h = omega arith
only_a5 OutsideWord h = omega arith
only_a5 CashbackExceeds h = omega arith
only_a5 CyclicTooLong h = omega arith

-- There are seven.
pub most_cause : (f : Fault) → cause_of f ≤ 7
most_cause ListIndex = omega arith
most_cause AccessMode = omega arith
most_cause Attribute = omega arith
most_cause NoService = omega arith
most_cause KeyNeeded = omega arith
most_cause ReadOnly = omega arith
most_cause NoCashback = omega arith
most_cause BlockNumber = omega arith
most_cause CyclicBlock = omega arith
most_cause PurseRaised = omega arith
most_cause CashbackRaised = omega arith
most_cause SumTooLarge = omega arith
most_cause OutsideLimits = omega arith
most_cause OutsideWord = omega arith
most_cause CashbackExceeds = omega arith
most_cause CyclicTooLong = omega arith

-- the fault of a cause
unfoldable fault_of : ℕ → Fault
fault_of n =
    cond (eqb n 1) KeyNeeded
    (cond (eqb n 2) ReadOnly
    (cond (eqb n 3) NoCashback
    (cond (eqb n 4) CyclicBlock
    (cond (eqb n 5) PurseRaised
    (cond (eqb n 6) CashbackRaised
    SumTooLarge)))))

-- the cause of an A5 leads back to its fault
back : (f : Fault) → sf2_of f ≡ 0xa5 → fault_of (cause_of f) ≡ f
unfolding fault_of
back ListIndex e = absurd (omega arith)
back AccessMode e = absurd (omega arith)
back Attribute e = absurd (omega arith)
back NoService e = absurd (omega arith)
back KeyNeeded e = refl
back ReadOnly e = refl
back NoCashback e = refl
back BlockNumber e = absurd (omega arith)
back CyclicBlock e = refl
back PurseRaised e = refl
back CashbackRaised e = refl
back SumTooLarge e = refl
back OutsideLimits e = absurd (omega arith)
back OutsideWord e = absurd (omega arith)
back CashbackExceeds e = absurd (omega arith)
back CyclicTooLong e = absurd (omega arith)

-- Different faults of A5 have different causes.
pub cause_tells : (f g : Fault) → sf2_of f ≡ 0xa5 → sf2_of g ≡ 0xa5 → cause_of f ≡ cause_of g → f ≡ g
cause_tells f g e e' s = sym (back f e) ∙ ap fault_of s ∙ back g e'
