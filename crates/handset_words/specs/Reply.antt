-- What a request returns: its status pair, and above it which A5 it was; or its refusal.
use Rattle.std.specs.Prelude.{ℕ, ◌+◌, ◌*◌}
use Rattle.request_plan.specs.declared.Reply.{Reply}
use Rattle.request_plan.specs.declared.Response.{Response}
use Rattle.request_plan.specs.declared.Response.TheVariants.{Pair, Refusal}
use Rattle.request_plan.specs.Request.{response_of, cause_in}
use Rattle.handset_words.specs.Outcome.{refusal_as}

-- a cause stands above all that a refusal takes
abbrev pub response_as : ℕ → Response → ℕ
response_as cause (Pair flag1 flag2) = 16777216 * cause + 256 * flag1 + flag2
response_as cause (Refusal number) = refusal_as number

-- RULES 15.4
abbrev pub reply_as : Reply → ℕ
reply_as r = response_as (cause_in r) (response_of r)
