-- A rule on a part that was lent is the rule on the whole. Assumes nothing.
use Rattle.std.proofs.Common.{Result, Ok, Err}
use Prim.Native.Nat.{ℕ, ◌+◌, ◌-◌, ◌*◌, ◌≤◌}
use native.Mathlib.Omega.{arith}
use mathlib.Core.Path.{◌≡◌, refl, ap, ◌∙◌}
use mathlib.Core.Bool.{Bool, true, false, cond}
use mathlib.Core.List.{List, ◌++◌}
use lib.Dec.{eqb}
use lib.ListN.{length, take, drop}
use Rattle.byte_parts.specs.Part.{part, put}
use Rattle.byte_parts.proofs.Part.{length_part, put-part, put_lent}
use Rattle.answers.specs.declared.status.Fault.TheVariants.{CyclicBlock}
use Rattle.answers.specs.Outcome.{Outcome, passed, failed, written_of, bytes_after}
use Rattle.request_check.specs.declared.table.Row.{Row}
use Rattle.request_rules.specs.Lens.{back, within}
use Rattle.request_rules.specs.Rules.{cyclic_element, on_store}
use Rattle.answers.specs.declared.status.Fault.{Fault}

-- what a function that keeps a rule tells: how it ended, and the bytes that it left
abbrev pub Told : List ℕ → Outcome → Result Unit Fault → List ℕ → Type 0
Told s o r t = (r ≡ written_of o) × (t ≡ bytes_after s o)

module _ (s : List ℕ) (at n : ℕ) (rule : List ℕ → Outcome) (fits : at + n ≤ length s) (r : Result Unit Fault) (ys : List ℕ) where
  -- the part that comes back, put where it was
  told_back : (o : Outcome) → Told (part s at n) o r ys → Told s (back s at n o) r (put s at n ys)
  unfolding back
  told_back (passed t) (e, f) = (e, ap (put s at n) f)
  told_back (failed x) (e, f) = (e, ap (put s at n) f ∙ put-part s at n)

  -- `&mut s[at..at + n]` was lent to a rule and comes back as ys
  pub within_lent_lem
      : let lent = take (at + n - at) (drop at s) in
      length ys ≡ length lent → Told lent (rule lent) r ys
      → Told s (within at n rule s) r (take at s ++ (ys ++ drop (at + n - at) (drop at s)))
  unfolding within part
  within_lent_lem l e =
      let k : at + n - at ≡ n = omega arith in
      let m : length ys ≡ n = (rw k at l) ∙ length_part s at n fits in
      rw (put_lent s at n ys fits m) (told_back (rule (take n (drop at s))) (rw k at e))

-- the same of a row's store in the stage, which begins at `at`
pub store_lent
    : (w : Row) (s : List ℕ) (rule : List ℕ → Outcome) (r : Result Unit Fault) (ys : List ℕ) (at : ℕ) → at ≡ 16 * w.start
    → let size = at + 16 * w.blocks - at in
    let lent = take size (drop at s) in
    16 * w.start + 16 * w.blocks ≤ length s → length ys ≡ length lent → Told lent (rule lent) r ys
    → Told s (on_store w rule s) r (take at s ++ (ys ++ drop size (drop at s)))
unfolding on_store
store_lent w s rule r ys at q fits l e = rw (← q) (within_lent_lem s at (16 * w.blocks) rule (omega (arith, q, fits)) r ys l e)

-- an element of a cyclic store leaves it as it was
pub cyclic_ends : (number : ℕ) (s : List ℕ) {r : Result Unit Fault} → r ≡ cyclic_element number → Told s (cond (eqb number 0) (passed s) (failed CyclicBlock)) r s
unfolding cyclic_element
cyclic_ends number s e = by_test_lem (eqb number 0) e
  where
    by_test_lem : (b : Bool) {r : Result Unit Fault} → r ≡ cond b (Ok tt) (Err CyclicBlock) → Told s (cond b (passed s) (failed CyclicBlock)) r s
    by_test_lem true e = (e, refl)
    by_test_lem false e = (e, refl)
