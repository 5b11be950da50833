-- What holds of all that a line can say, however its fields are read. Assumes nothing.
use Rattle.std.specs.Prelude.{None, Some}
use Rattle.std.proofs.Common.{Option}
use Prim.Native.Nat.{ℕ}
use mathlib.Core.Bool.{Bool, true, false, cond}
use lib.IntN.{ℤ}
use Rattle.line_fields.specs.Fields.{with_code, with_number, with_bound}

module _ {A : Type 0} (P : A → Type 0) where
  -- By a test.
  pub either : (t : Bool) (x y : A) → P x → P y → P (cond t x y)
  either true x y p q = p
  either false x y p q = q

  module _ (none : A) (z : P none) where
    -- By a code.
    pub on_code : (x : Option ℕ) (more : ℕ → A) → ((n : ℕ) → P (more n)) → P (with_code none x more)
    on_code (Some n) more p = p n
    on_code None more p = z

    -- By a decimal.
    pub on_number : (x : Option ℕ) (more : ℕ → A) → ((n : ℕ) → P (more n)) → P (with_number none x more)
    on_number (Some n) more p = p n
    on_number None more p = z

    -- By a bound.
    pub on_bound : (x : Option ℤ) (more : ℤ → A) → ((n : ℤ) → P (more n)) → P (with_bound none x more)
    on_bound (Some n) more p = p n
    on_bound None more p = z
