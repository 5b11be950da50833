-- Refusal 8, as a test of the records: each must be the one that its own addition, made after those before it, would store.
use Rattle.std.specs.Prelude.{ℕ, List, [], ◌∷◌, ◌++◌, Bool, true, false, cond, not, ◌&&◌, eqb, ltb, take, drop, get_or, Option, Some, None, Result, Ok, Err}
use Rattle.card_nodes.specs.declared.node.Entry.{Entry}
use Rattle.card_nodes.specs.declared.node.Entry.TheVariants.{Area, Service}
use Rattle.card_nodes.specs.declared.node.Node.{Node}
use Rattle.card_admit.specs.declared.Placed.{Placed}
use Rattle.card_nodes.specs.Node.{root_node}
use Rattle.card_admit.specs.Admit.{area_judged, placed_of}
use Rattle.answers.specs.declared.refusal.Refusal.{Refusal}

-- the root ends at FFFE
abbrev pub root_end : Entry → Bool
root_end (Area e) = eqb e 0xfffe
root_end (Service s b l) = false

-- a record as the root's
unfoldable pub is_root : Node → Bool
is_root n = eqb n.depth 0 && (eqb n.code 0 && (eqb n.version 0 && root_end n.entry))

-- records that are all so
unfoldable pub all_roots : List Node → Bool
all_roots [] = true
all_roots (n ∷ ns) = is_root n && all_roots ns

-- an area puts no block more in use
abbrev pub area_step : ℕ → Result Unit Refusal → Option ℕ
area_step used (Err r) = None
area_step used (Ok tt) = Some used

-- a service's record holds the very store that the building gives it
abbrev pub service_step : ℕ → ℕ → Result Placed Refusal → Option ℕ
service_step start blocks (Err r) = None
service_step start blocks (Ok placed) = cond (not (eqb placed.start start)) None (cond (not (eqb placed.blocks blocks)) None (Some placed.used))

-- the step over a record, by its case, after those before it
abbrev pub step_by : List Node → ℕ → Node → Entry → Option ℕ
step_by before used n (Area e) = area_step used (area_judged before n.depth n.code e)
step_by before used n (Service s b l) = service_step s b (placed_of before used 65536 n.depth n.code b)

-- a record after those before it; its limit may be any
unfoldable pub step_of : List Node → ℕ → Node → Option ℕ
step_of before used n = step_by before used n n.entry

abbrev pub then_step : Option ℕ → (ℕ → Option ℕ) → Option ℕ
then_step None more = None
then_step (Some u) more = more u

-- all the records that follow
unfoldable pub steps_from : List Node → ℕ → List Node → Option ℕ
steps_from before used [] = Some used
steps_from before used (n ∷ ns) = then_step (step_of before used n) (λ u. steps_from (before ++ (n ∷ [])) u ns)

-- all after the first, with no block in use yet
unfoldable pub steps_of : List Node → Option ℕ
steps_of ns = steps_from (take 1 ns) 0 (drop 1 ns)

abbrev pub ends_at : ℕ → Option ℕ → Bool
ends_at used None = false
ends_at used (Some u) = eqb u used

-- a root, then records that the building gives, then unused ones, and the blocks in use
-- RULES 5.12
unfoldable pub sound_of : List Node → ℕ → ℕ → Bool
sound_of nodes count used =
    cond (eqb count 0) false
    (cond (ltb 64 count) false
    (cond (not (is_root (get_or nodes 0 root_node))) false
    (cond (not (all_roots (drop count nodes))) false
    (ends_at used (steps_of (take count nodes))))))
