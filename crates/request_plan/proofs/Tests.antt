-- What a chain of refusals has passed, once its end is known.
use mathlib.Core.Path.{◌≡◌, refl}
use mathlib.Core.Bool.{Bool, true, false, cond}

-- a test whose refusal was not given
pub passed_over : {A : Type 0} {stop done : A} → (stop ≡ done → ⊥) → (b : Bool) (more : A) → cond b stop more ≡ done → (b ≡ false) × (more ≡ done)
passed_over apart true more e = absurd (apart e)
passed_over apart false more e = (refl, e)
