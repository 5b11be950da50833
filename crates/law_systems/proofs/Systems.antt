-- One request to one system on two cards, its stores k blocks later on the first. Assumes nothing.
use Rattle.std.proofs.Common.{Result, Ok, Err}
use Prim.Native.Nat.{ℕ, ◌+◌, ◌*◌, ◌≤◌, ◌<◌}
use native.Mathlib.Omega.{arith}
use mathlib.Core.Path.{◌≡◌, refl, sym, ap, ◌∙◌}
use mathlib.Core.Bool.{Bool, true, false}
use mathlib.Core.List.{List}
use mathlib.Core.Logic.{inl, inr}
use lib.ListN.{length, take}
use Rattle.block_list.specs.declared.element.BlockListElement.{BlockListElement}
use Rattle.card_nodes.specs.declared.node.Node.{Node}
use Rattle.card_build.specs.declared.card.Card.{Card}
use Rattle.card_build.specs.Card.{nodes_of, is_sound}
use Rattle.request_check.specs.declared.table.Row.{Row}
use Rattle.request_check.specs.Row.{rows_of}
use Rattle.request_check.specs.Check.{checked_from}
use Rattle.request_runs.specs.Runs.{Walked, bad, good}
use Rattle.request_runs.specs.Staged.{staged}
use Rattle.request_plan.specs.declared.Reply.{Reply}
use Rattle.request_plan.specs.declared.Reply.TheVariants.{Refused, Failed}
use Rattle.request_plan.specs.declared.Judged.{Judged}
use Rattle.request_plan.specs.declared.Judged.TheVariants.{Refused as NotFit, ShortData as NoData, Fit}
use Rattle.request_plan.specs.Request.{Request}
use Rattle.request_plan.specs.Plan.{Plan, stop, go, elements_in, plan_of, judged_of, judged_plan, checked_plan}
use Rattle.request_plan.specs.Serve.{Served, answered_only, committed, carried, plan_served, serve}
use Rattle.card_moved.specs.Moved.{moved, StoresWithin}
use Rattle.law_systems.specs.On.{judged_on, plan_by, served_by, serve_on}
use Rattle.law_systems.specs.Alike.{Stored, StoresAlike, ServedAlike, LentShort, SameButLent}
use Rattle.law_systems.proofs.Shifted.{Shifted, take_shifted, front_shifted}
use Rattle.law_systems.proofs.Rows.{rows_moved, checked_alike}
use Rattle.law_systems.proofs.Walks.{Both, read_alike, staged_alike}
use Rattle.law_systems.proofs.Judged.{LentJudged, Close, judged_close, judged_arena}
use Rattle.law_systems.proofs.Places.{rows_stored, stored-within, alike_shifted, shifted_alike}
use Rattle.answers.specs.declared.status.Failure.{Failure}

-- The nodes ns, with their stores among `blocks` blocks in use; and moved by k, among `used`.
module _ (ns : List Node) (k used blocks : ℕ) (far : StoresWithin (moved k ns) used) (near : StoresWithin ns blocks) where
  -- arenas that hold its stores alike, byte by byte
  abbrev Near : List ℕ → List ℕ → Type 0
  Near = Shifted (Stored ns) (16 * k)

  module _ (a b : List ℕ) (r : Request) where
    -- the rows of the request on the first card
    abbrev ws : List Row
    ws = rows_of (moved k ns) r.codes

    -- and on the second
    abbrev vs : List Row
    vs = rows_of ns r.codes

    -- what is claimed once neither is refused with 4 or 7
    abbrev Told : Served → Served → Type 0
    Told = ServedAlike k ns

    -- a request that is only answered
    only_alike : (x : Reply) → StoresAlike k ns a b → Told (answered_only a x) (answered_only b x)
    only_alike x h = record { reply = refl; read = refl; left = h }

    -- one whose elements are carried out
    carried_alike : (es : List BlockListElement) → Near a b →
        Told (carried r.write ws (16 * used) r.«data» a es) (carried r.write vs (16 * blocks) r.«data» b es)
    unfolding carried committed
    carried_alike es h = by_write r.write
      where
        sizes : (i : ℕ) → Stored ns i → (16 * k + i < 16 * used) × (i < 16 * blocks)
        sizes = stored-within ns k used blocks far near

        done : (x y : Walked (List ℕ)) → Both Near x y → Told (committed (16 * used) a x) (committed (16 * blocks) b y)
        done (bad i f) (bad j g) w = record { reply = λ d. Failed (w.0 d) (w.1 d); read = refl; left = shifted_alike ns k a b h }
        done (bad i f) (good u) w = absurd w
        done (good s) (bad j g) w = absurd w
        done (good s) (good u) w = record {
          reply = refl;
          read = refl;
          left = shifted_alike ns k _ _ (front_shifted (Stored ns) (16 * k) (16 * used) (16 * blocks) sizes a b s u h w);
        }

        by_write : (w : Bool) → Told (carried w ws (16 * used) r.«data» a es) (carried w vs (16 * blocks) r.«data» b es)
        by_write true =
            done (staged ws r.«data» es (take (16 * used) a)) (staged vs r.«data» es (take (16 * blocks) b))
            (staged_alike (Stored ns) k ws vs (rows_moved k ns r.codes) (rows_stored ns r.codes) r.«data» es _ _
            (take_shifted (Stored ns) (16 * k) (16 * used) (16 * blocks) sizes a b h))
        by_write false = record {
          reply = refl;
          read = read_alike (Stored ns) k ws vs (rows_moved k ns r.codes) (rows_stored ns r.codes) a b h es;
          left = shifted_alike ns k a b h;
        }

    -- one that both judge the same
    pub judged_alike : (j : Judged) → StoresAlike k ns a b → (j ≡ Fit → (16 * used ≤ length a) × (16 * blocks ≤ length b)) →
        Told (served_by (moved k ns) used a r (plan_by (moved k ns) r j)) (served_by ns blocks b r (plan_by ns r j))
    judged_alike (NotFit x) h f = only_alike (Refused x) h
    judged_alike NoData h f = only_alike _ h
    judged_alike Fit h f =
        rw (checked_alike k r.write r.«open» (rows_moved k ns r.codes) 0 (elements_in r))
        (by_checked (checked_from vs r.write r.«open» 0 (elements_in r)))
      where
        lies : Near a b
        lies =
            alike_shifted ns k a b (λ i p.
            let q = stored-within ns k used blocks far near i p in
            let l = f refl in
            (omega (arith, q.0, l.0), omega (arith, q.1, l.1))) h

        by_checked : (x : Result Unit Failure) →
            Told (served_by (moved k ns) used a r (checked_plan (elements_in r) x)) (served_by ns blocks b r (checked_plan (elements_in r) x))
        by_checked (Ok tt) = carried_alike (elements_in r) lies
        by_checked (Err failure) = only_alike (Failed failure.index failure.fault) h

    -- refusal 4 or 7 is told
    lent_told : (ms : List Node) (n : ℕ) (s : List ℕ) (j : Judged) → LentJudged j → LentShort (served_by ms n s r (plan_by ms r j))
    lent_told ms n s j (inl e) = rw e (inl refl)
    lent_told ms n s j (inr e) = rw e (inr refl)

    -- any
    pub serve_on_alike : (sound : Bool) → StoresAlike k ns a b →
        SameButLent k ns (serve_on sound (moved k ns) used a r) (serve_on sound ns blocks b r)
    unfolding serve_on
    serve_on_alike sound h =
        by_close (judged_on sound used (length a) r) (judged_on sound blocks (length b) r) refl refl
        (judged_close sound used blocks (length a) (length b) r)
      where
        by_close : (x y : Judged) → judged_on sound used (length a) r ≡ x → judged_on sound blocks (length b) r ≡ y → Close x y →
            SameButLent k ns (served_by (moved k ns) used a r (plan_by (moved k ns) r x)) (served_by ns blocks b r (plan_by ns r y))
        by_close x y p q (inl l) = inl (lent_told (moved k ns) used a x l)
        by_close x y p q (inr (inl l)) = inr (inl (lent_told ns blocks b y l))
        by_close x y p q (inr (inr e)) =
            inr (inr (rw (← e) (judged_alike x h (λ g.
            (judged_arena sound used (length a) r (p ∙ g), judged_arena sound blocks (length b) r (q ∙ sym e ∙ g))))))

-- A whole request goes by the card's soundness, nodes and blocks in use alone.
pub serve_on_lem : (c : Card) (a : List ℕ) (r : Request) → serve c a r ≡ serve_on (is_sound c) (nodes_of c) c.used a r
unfolding serve serve_on plan_of
serve_on_lem c a r = ap (plan_served c a r) (plan_on_lem (judged_of c (length a) r)) ∙ served_on (plan_by (nodes_of c) r (judged_of c (length a) r))
  where
    plan_on_lem : (j : Judged) → judged_plan c r j ≡ plan_by (nodes_of c) r j
    plan_on_lem (NotFit x) = refl
    plan_on_lem NoData = refl
    plan_on_lem Fit = refl

    served_on : (p : Plan) → plan_served c a r p ≡ served_by (nodes_of c) c.used a r p
    served_on (stop x) = refl
    served_on (go es) = refl
