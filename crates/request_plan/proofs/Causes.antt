-- A reply has a cause exactly where its status flag 2 is A5. Assumes nothing.
use Prim.Native.Nat.{ℕ, ◌≤◌}
use native.Mathlib.Omega.{arith}
use mathlib.Core.Path.{◌≡◌}
use Rattle.answers.proofs.Cause as cause
use Rattle.request_plan.specs.declared.Reply.{Reply}
use Rattle.request_plan.specs.declared.Reply.TheVariants.{Refused, Done, ShortData, Failed}
use Rattle.request_plan.specs.declared.Response.{Response}
use Rattle.request_plan.specs.declared.Response.TheVariants.{Pair, Refusal}
use Rattle.request_plan.specs.Request.{response_of, cause_in}

-- status flag 2; a refusal has none
abbrev pub flag2_of : Response → ℕ
flag2_of (Pair flag1 flag2) = flag2
flag2_of (Refusal number) = 0

-- A5 is told with its cause.
pub caused : (x : Reply) → flag2_of (response_of x) ≡ 0xa5 → 1 ≤ cause_in x
caused (Refused r) e = omega arith
caused Done e = omega arith
caused ShortData e = omega arith
caused (Failed i f) e = cause.caused f e

-- Nothing else is told with one.
pub only_a5 : (x : Reply) → 1 ≤ cause_in x → flag2_of (response_of x) ≡ 0xa5
only_a5 (Refused r) h = omega arith
only_a5 Done h = omega arith
only_a5 ShortData h = omega arith
only_a5 (Failed i f) h = cause.only_a5 f h

-- A cause is one digit.
pub most_cause : (x : Reply) → cause_in x ≤ 7
most_cause (Refused r) = omega arith
most_cause Done = omega arith
most_cause ShortData = omega arith
most_cause (Failed i f) = cause.most_cause f
