-- A replay that stops reading has ended. Assumes nothing.
use Prim.Native.Nat.{ℕ}
use native.Mathlib.Omega.{arith}
use mathlib.Core.Path.{◌≡◌, refl, ap}
use mathlib.Core.Bool.{Bool, true, cond}
use Rattle.replay_state.specs.declared.Phase.{Phase}
use Rattle.replay_state.specs.declared.Phase.TheVariants.{First, Image, Requests, Ended}
use Rattle.replay_state.specs.Phases.{stops_in}

pub ended_of : (x : Phase) → stops_in x ≡ true → x ≡ Ended
ended_of First e = absurd (omega (arith, ap {B = ℕ} (λ (b : Bool). cond b 1 0) e))
ended_of Image e = absurd (omega (arith, ap {B = ℕ} (λ (b : Bool). cond b 1 0) e))
ended_of Requests e = absurd (omega (arith, ap {B = ℕ} (λ (b : Bool). cond b 1 0) e))
ended_of Ended e = refl
