-- A run that a ring took stands at its front: it passes again, and changes nothing. Assumes nothing.
use Prim.Native.Nat.{ℕ, ◌-◌, ◌≤◌}
use native.Mathlib.Omega.{arith}
use mathlib.Core.Path.{◌≡◌, refl}
use mathlib.Core.Bool.{Bool, true, false, cond}
use mathlib.Core.List.{List, ◌++◌}
use lib.Dec.{ltb}
use lib.ListN.{length, take, length-append, length-take}
use lib.Seq.{take-append_seam}
use borrow.Author.Tests.{le-ltb, ltb-false}
use Rattle.answers.specs.declared.status.Fault.TheVariants.{CyclicTooLong}
use Rattle.answers.specs.Outcome.{passed, failed}
use Rattle.byte_parts.specs.Part.{same_bytes}
use Rattle.byte_parts.proofs.Part.{equal_same_lem, same_equal}
use Rattle.rule_cyclic.specs.Cyclic.{cyclic_of}

module _ (s run t : List ℕ) where
  -- a run that passed: the store is as long as it was, and begins with the run
  pub ring_holds : cyclic_of s run ≡ passed t → (length t ≡ length s) × (length run ≤ length s) × (take (length run) t ≡ run)
  unfolding cyclic_of
  ring_holds e = by_long (ltb (length s) (length run)) refl e
    where
      by_same : length run ≤ length s → (b : Bool) → same_bytes (take (length run) s) run ≡ b →
          cond b (passed s) (passed (run ++ take (length s - length run) s)) ≡ passed t →
          (length t ≡ length s) × (length run ≤ length s) × (take (length run) t ≡ run)
      by_same l true q h = let z : s ≡ t = cc in rw (← z) (refl, l, same_equal (take (length run) s) run q)
      by_same l false q h =
          let z : run ++ take (length s - length run) s ≡ t = cc in
          rw (← z) (simp (length-append, length-take) (omega arith), l, take-append_seam run (take (length s - length run) s))

      by_long : (b : Bool) → ltb (length s) (length run) ≡ b →
          cond b (failed CyclicTooLong) (cond (same_bytes (take (length run) s) run) (passed s)
          (passed (run ++ take (length s - length run) s))) ≡ passed t →
          (length t ≡ length s) × (length run ≤ length s) × (take (length run) t ≡ run)
      by_long true q h = absurd (let z : ◌≡◌ {A = ℕ} 0 1 = cc in (omega arith))
      by_long false q h = by_same (ltb-false (length s) (length run) q) (same_bytes (take (length run) s) run) refl h

  -- so the same run changes nothing of it
  pub ring_again : cyclic_of s run ≡ passed t → cyclic_of t run ≡ passed t
  unfolding cyclic_of
  ring_again e =
      let h = ring_holds e in
      rw (le-ltb (length t) (length run) (omega (arith, h.0, h.1)), equal_same_lem (take (length run) t) run h.2)
