-- An element, and the end of a run, that the rules have carried out. Assumes nothing.
use Rattle.std.proofs.Common.{Result, Ok, Err, IsErrAnd}
use Prim.Native.Nat.{ℕ, ◌+◌, ◌-◌, ◌*◌}
use native.Mathlib.Omega.{arith}
use mathlib.Core.Path.{◌≡◌, sym, ap}
use mathlib.Core.List.{List}
use lib.ListN.{take, drop}
use Rattle.answers.specs.declared.status.Fault.{Fault}
use Rattle.std.proofs.lemmas.Result.{err_from_is_err_and}
use Rattle.answers.specs.declared.status.Failure.{Failure}
use Rattle.request_runs.specs.Ready.{walked_to}
use Rattle.answers.specs.Outcome.{Outcome, passed, failed}
use Rattle.block_list.specs.declared.element.BlockListElement.{BlockListElement}
use Rattle.byte_parts.specs.Part.{part}
use Rattle.request_check.specs.declared.table.Row.{Row}
use Rattle.request_rules.specs.Rules.{element_by, end_by, on_store}
use Rattle.request_rules.proofs.Lent.{Told}
use Rattle.request_runs.specs.Runs.{bad, good}
use Rattle.request_runs.specs.Staged.{at_index, carried_on, closed_on}

module _ (i : ℕ) (s t : List ℕ) (r : Result Unit Fault) where
  -- a rule that was done passes
  told-good : (o : Outcome) → Told s o r t → r ≡ Ok tt → at_index i o ≡ good t
  told-good (passed u) (e, f) h = ap good (sym f)
  told-good (failed x) (e, f) h = let z : ◌≡◌ {A = ℕ} 0 1 = cc in absurd (omega arith)

  -- one that failed fails
  told-bad : (x : Fault) (o : Outcome) → Told s o r t → r ≡ Err x → at_index i o ≡ bad i x
  told-bad x (passed u) (e, f) h = let z : ◌≡◌ {A = ℕ} 0 1 = cc in absurd (omega arith)
  told-bad x (failed y) (e, f) h = let z : y ≡ x = cc in ap (bad i) z

module _ (w : Row) (d : List ℕ) (i : ℕ) (e : BlockListElement) (s : List ℕ) {r : Result Unit Fault} {t : List ℕ}
    (told : Told s (on_store w (element_by w.attribute w.limit e.number e.mode (take (16 * i + 16 - 16 * i) (drop (16 * i) d))) s) r t) where
  -- what becomes of an element
  element_told : Told s (on_store w (element_by w.attribute w.limit e.number e.mode (part d (16 * i) 16)) s) r t
  unfolding part
  element_told = let k : 16 * i + 16 - 16 * i ≡ 16 = omega arith in rw k at told

  -- it passes
  pub element_passes : r ≡ Ok tt → carried_on w d i e s ≡ good t
  unfolding carried_on
  element_passes h = told-good i s t r (on_store w (element_by w.attribute w.limit e.number e.mode (part d (16 * i) 16)) s) element_told h

  -- it fails
  pub element_fails : {x : Fault} → r ≡ Err x → carried_on w d i e s ≡ bad i x
  unfolding carried_on
  element_fails {x} h = told-bad i s t r x (on_store w (element_by w.attribute w.limit e.number e.mode (part d (16 * i) 16)) s) element_told h

module _ (w : Row) (d : List ℕ) (i j : ℕ) (s : List ℕ) {r : Result Unit Fault} {t : List ℕ}
    (told : Told s (on_store w (end_by w.attribute (take (16 * j - 16 * i) (drop (16 * i) d))) s) r t) where
  -- what becomes of a run's end
  end-told : Told s (on_store w (end_by w.attribute (part d (16 * i) (16 * (j - i)))) s) r t
  unfolding part
  end-told = let k : 16 * j - 16 * i ≡ 16 * (j - i) = omega arith in rw k at told

  -- it passes
  pub run_passes_lem : r ≡ Ok tt → closed_on w d i j s ≡ good t
  unfolding closed_on
  run_passes_lem h = told-good i s t r (on_store w (end_by w.attribute (part d (16 * i) (16 * (j - i)))) s) end-told h

  -- it fails
  pub run_ends-bad : {x : Fault} → r ≡ Err x → closed_on w d i j s ≡ bad i x
  unfolding closed_on
  run_ends-bad {x} h = told-bad i s t r x (on_store w (end_by w.attribute (part d (16 * i) (16 * (j - i)))) s) end-told h

-- a failure that is handed on
pub led : (r : Result Unit Failure) {f : Failure} → IsErrAnd r (λ (g : Failure). g ≡ f) → (s : List ℕ) → bad f.index f.fault ≡ walked_to r s
led r h s = let q = err_from_is_err_and r h in rw (q.1, q.2)
