-- What a request that is told any pair but 00 00, or is refused, leaves of the output: every byte. Assumes nothing.
use Prim.Native.Nat.{ℕ, ◌*◌}
use mathlib.Core.Path.{◌≡◌, refl}
use mathlib.Core.Bool.{Bool, true, false}
use mathlib.Core.List.{List, []}
use lib.ListN.{length, take}
use Rattle.block_list.specs.declared.element.BlockListElement.{BlockListElement}
use Rattle.byte_parts.proofs.Part.{put_zero}
use Rattle.card_build.specs.declared.card.Card.{Card}
use Rattle.request_check.specs.declared.table.Row.{Row}
use Rattle.request_runs.specs.Runs.{Walked, bad, good}
use Rattle.request_runs.specs.Staged.{staged}
use Rattle.request_plan.specs.declared.Response.TheVariants.{Pair}
use Rattle.request_plan.specs.Request.{Request, response_of}
use Rattle.request_plan.specs.Plan.{Plan, stop, go, plan_of, rows_in}
use Rattle.request_plan.specs.Serve.{Served, answered_only, committed, carried, plan_served, serve, output_after}

-- where no byte is read, none is put
unput : (out : List ℕ) (s : Served) → s.read ≡ [] → output_after out s ≡ out
unput out s e = rw e (put_zero out 0 [])

-- a write reads none, however its runs end
unread : (size : ℕ) (a : List ℕ) (w : Walked (List ℕ)) → (committed size a w).read ≡ []
unfolding committed
unread size a (bad i f) = refl
unread size a (good s) = refl

-- by whether it is a write
by_kind : (out : List ℕ) (write : Bool) (rows : List Row) (size : ℕ) (d a : List ℕ) (es : List BlockListElement) →
    (response_of (carried write rows size d a es).reply ≡ Pair 0 0 → ⊥) → output_after out (carried write rows size d a es) ≡ out
unfolding carried
by_kind out true rows size d a es h = unput out (committed size a (staged rows d es (take size a))) (unread size a (staged rows d es (take size a)))
by_kind out false rows size d a es h = absurd (h refl)

module _ (c : Card) (a : List ℕ) (r : Request) (out : List ℕ) where
  -- by its plan
  by_plan : (p : Plan) → (response_of (plan_served c a r p).reply ≡ Pair 0 0 → ⊥) → output_after out (plan_served c a r p) ≡ out
  by_plan (stop x) h = unput out (answered_only a x) refl
  by_plan (go es) h = by_kind out r.write (rows_in c r) (16 * c.used) r.«data» a es h

  -- Unless it is told 00 00.
  pub output_left : (response_of (serve c a r).reply ≡ Pair 0 0 → ⊥) → output_after out (serve c a r) ≡ out
  unfolding serve
  output_left h = by_plan (plan_of c (length a) r) h
