-- By the reply's cases.
use borrow.Author.Rules.{rules}
use Prim.Native.Nat.{ℕ}
use mathlib.Core.Path.{◌≡◌, refl, sym, ◌∙◌, ap}
use Rattle.request_plan.specs.declared.Reply.{Reply}
use Rattle.request_plan.specs.declared.Reply.TheVariants.{Done, ShortData}
use Rattle.request_plan.specs.declared.Response.TheVariants.{Pair}
use Rattle.request_plan.specs.Request.{flag1_in, flag2_in, response_of}
use Rattle.request_plan.proofs.Reply.response.Goals as goal

-- a reply that is told by its flags
told : {x y : Reply} → x ≡ y → Pair (flag1_in y) (flag2_in y) ≡ response_of y → {a b : ℕ} → a ≡ flag1_in x → b ≡ flag2_in x → Pair a b ≡ response_of x
told h e p q = (λ i. Pair (p i) (q i)) ∙ rw h e

-- a refusal's number
pub returns-in-Refused : goal.returns-in-Refused
returns-in-Refused c = c.number_told.ensures ∙ ap response_of (sym c.in-Refused.is)

pub returns-in-Done : goal.returns-in-Done
returns-in-Done c = told c.in-Done.is refl c.flag1-flag1.ensures c.flag2-flag2.ensures

pub returns-in-ShortData : goal.returns-in-ShortData
returns-in-ShortData c = told c.in-ShortData.is refl c.flag1-flag1.ensures c.flag2-flag2.ensures

pub returns-in-Failed : goal.returns-in-Failed
returns-in-Failed c = told c.in-Failed.is refl c.flag1-flag1.ensures c.flag2-flag2.ensures
