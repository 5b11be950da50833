-- What a whole request comes to, by how it was judged and checked.
use Rattle.std.proofs.Common.{Ok}
use mathlib.Core.Path.{◌≡◌, refl, sym}
use mathlib.Core.List.{List, []}
use Prim.Native.Nat.{ℕ, ◌*◌}
use lib.ListN.{length}
use Rattle.answers.specs.declared.refusal.Refusal.{Refusal}
use Rattle.answers.specs.declared.status.Fault.{Fault}
use Rattle.byte_parts.proofs.Part.{put_zero}
use Rattle.card_build.specs.declared.card.Card.{Card}
use Rattle.request_check.specs.Check.{checked_from}
use Rattle.request_plan.specs.declared.Reply.{Reply}
use Rattle.request_plan.specs.declared.Reply.TheVariants.{Refused, ShortData, Failed}
use Rattle.request_plan.specs.declared.Judged.TheVariants.{Refused as NotFit, ShortData as NoData, Fit}
use Rattle.request_plan.specs.Request.{Request}
use Rattle.request_plan.specs.Plan.{rows_in, elements_in, judged_of, plan_of}
use Rattle.request_plan.specs.Serve.{Served, answered_only, carried, serve, output_after}
use Rattle.answers.specs.Failure.{failed_at}

module _ (c : Card) (a : List ℕ) (r : Request) where
  -- a request that is refused
  pub refused : {x : Refusal} → judged_of c (length a) r ≡ NotFit x → serve c a r ≡ answered_only a (Refused x)
  unfolding serve plan_of
  refused j = rw j

  -- a write with too few data
  pub short : judged_of c (length a) r ≡ NoData → serve c a r ≡ answered_only a ShortData
  unfolding serve plan_of
  short j = rw j

  module _ (j : judged_of c (length a) r ≡ Fit) where
    -- an element that fails
    pub failed : {i : ℕ} {f : Fault} → checked_from (rows_in c r) r.write r.«open» 0 (elements_in r) ≡ failed_at i f →
        serve c a r ≡ answered_only a (Failed i f)
    unfolding serve plan_of
    failed e = rw (j, e)

    -- all elements pass
    pub passed : checked_from (rows_in c r) r.write r.«open» 0 (elements_in r) ≡ Ok tt →
        serve c a r ≡ carried r.write (rows_in c r) (16 * c.used) r.«data» a (elements_in r)
    unfolding serve plan_of
    passed e = rw (j, e)

-- a reply that changes nothing leaves the output
pub unread : {a : List ℕ} {x : Reply} {s : Served} (out : List ℕ) → s ≡ answered_only a x → (x ≡ s.reply) × (out ≡ output_after out s)
unread out e = rw e (refl, sym (put_zero out 0 []))

-- a reply that changes nothing leaves the arena
pub unchanged : {a : List ℕ} {x : Reply} {s : Served} → s ≡ answered_only a x → (x ≡ s.reply) × (a ≡ s.arena)
unchanged e = rw e (refl, refl)
