-- `decimals::positive_of` meets its contract: what 32 bits with a sign hold is given. Assumes nothing.
use Prim.Native.Nat.{ℕ}
use native.Mathlib.Omega.{arith}
use mathlib.Core.Path.{◌≡◌, sym, ap, ◌∙◌}
use lib.IntN.{ℤ, pos}
use mir.Syntax.{w32}
use mir.Val.{SFits}
use Rattle.std.proofs.Common.{Some}
use Rattle.std.specs.Prelude.{Result, OkIff}
use Rattle.std.specs.Result.{result_ok}
use Rattle.text_numbers.specs.Decimal.{positive}
use Rattle.text_numbers.proofs.DecimalLaws.{positive_from}
use Rattle.text_numbers.proofs.decimals.positive_of.Goals as goal

-- What is converted is the number that was read.
converted : {E : Type 0} (k : ℕ) {m : ℕ} (r : Result ℤ E) → OkIff r (SFits w32 (pos m)) (pos m) → m ≡ k → result_ok r ≡ positive (Some k)
converted k {m} r p h = positive_from m r p ∙ ap (λ (n : ℕ). positive (Some n)) h

pub returns-in_err-k : goal.returns-in_err-k
unfolding positive
returns-in_err-k c = c.from_residual.ensures ∙ sym (ap positive c.in_err-k.was)

pub returns : goal.returns
returns c = c.ok.ensures.value ∙ converted c.in_ok-k.k c.try_from.result c.try_from.ensures (omega arith) ∙ sym (ap positive c.in_ok-k.was)
