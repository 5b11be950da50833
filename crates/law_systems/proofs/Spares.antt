-- A request to a system changes no byte but those of its stores, and keeps the arena's length. Assumes nothing.
use Prim.Native.Nat.{ℕ, ◌*◌}
use mathlib.Core.Path.{◌≡◌, sym}
use mathlib.Core.Bool.{Bool, true, false}
use mathlib.Core.List.{List}
use lib.ListN.{length, take}
use Rattle.card_nodes.specs.declared.node.Node.{Node}
use Rattle.request_check.specs.Row.{rows_of}
use Rattle.request_runs.specs.Runs.{Walked, bad, good}
use Rattle.request_runs.specs.Staged.{staged}
use Rattle.request_plan.specs.Request.{Request}
use Rattle.request_plan.specs.Plan.{Plan, stop, go}
use Rattle.request_plan.specs.Serve.{committed, carried}
use Rattle.request_plan.proofs.Same.{Same, same_refl, front_spare}
use Rattle.request_plan.proofs.Frame.{Spared, staged_spares}
use Rattle.law_systems.specs.Alike.{Stored}
use Rattle.law_systems.specs.On.{judged_on, plan_by, served_by, serve_on}
use Rattle.law_systems.proofs.Places.{rows_stored}

module _ (sound : Bool) (ns : List Node) (used : ℕ) (a : List ℕ) (r : Request) where
  -- a byte of none of its stores
  abbrev pub Other : ℕ → Type 0
  Other i = Stored ns i → ⊥

  -- a request whose plan is settled
  plan_spares : (p : Plan) → Same Other a (served_by ns used a r p).arena
  unfolding carried committed
  plan_spares (stop x) = same_refl Other a
  plan_spares (go es) = by_write r.write
    where
      done : (x : Walked (List ℕ)) → Spared Other (take (16 * used) a) x → Same Other a (committed (16 * used) a x).arena
      done (bad i f) w = same_refl Other a
      done (good s) w = front_spare Other a (16 * used) s w

      by_write : (w : Bool) → Same Other a (carried w (rows_of ns r.codes) (16 * used) r.«data» a es).arena
      by_write true =
          done (staged (rows_of ns r.codes) r.«data» es (take (16 * used) a))
          (staged_spares Other (rows_of ns r.codes) r.«data» es (λ j i l o. o (rows_stored ns r.codes j i l)) (take (16 * used) a))
      by_write false = same_refl Other a

  -- any
  pub serve_on_spares : Same Other a (serve_on sound ns used a r).arena
  unfolding serve_on
  serve_on_spares = plan_spares (plan_by ns r (judged_on sound used (length a) r))

  -- the arena's length
  pub serve_on_long : length (serve_on sound ns used a r).arena ≡ length a
  serve_on_long = sym serve_on_spares.long
