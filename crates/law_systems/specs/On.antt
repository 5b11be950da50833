-- A whole request without its card. Of a card a request asks three things: whether it is sound, the nodes of the system, and how many
-- blocks are in use, those of all its systems together. `serve` is this, of the card's own (`serve_on_lem`, proofs/Systems).
use Rattle.std.specs.Prelude.{ℕ, ◌*◌, Bool, List, length}
use Rattle.byte_parts.specs.Sizes.{block_size}
use Rattle.card_nodes.specs.declared.node.Node.{Node}
use Rattle.request_check.specs.Row.{rows_of}
use Rattle.request_check.specs.Check.{checked_from}
use Rattle.request_plan.specs.declared.Reply.TheVariants.{Refused, ShortData}
use Rattle.request_plan.specs.declared.Sizes.{Sizes}
use Rattle.request_plan.specs.declared.Judged.{Judged}
use Rattle.request_plan.specs.declared.Judged.TheVariants.{Refused as NotFit, ShortData as NoData, Fit}
use Rattle.request_plan.specs.Request.{Request}
use Rattle.request_plan.specs.Plan.{Plan, stop, go, elements_in, judged_with, checked_plan}
use Rattle.request_plan.specs.Serve.{Served, answered_only, carried}
use Rattle.law_terminals.specs.Orders.{after, answers}
use Rattle.law_terminals.specs.Two.{Answer}

-- the numbers that a request is judged by
abbrev pub sizes_on : ℕ → ℕ → Request → Sizes
sizes_on used arena_len r = record {
  used = used;
  count = r.count;
  codes = length r.codes;
  arena = arena_len;
  «data» = length r.«data»;
  room = r.room;
}

-- how it is judged on an arena of so many bytes
abbrev pub judged_on : Bool → ℕ → ℕ → Request → Judged
judged_on sound used arena_len r = judged_with sound r.write r.list (sizes_on used arena_len r)

-- its plan, once it is judged
abbrev pub plan_by : List Node → Request → Judged → Plan
plan_by ns r (NotFit x) = stop (Refused x)
plan_by ns r NoData = stop ShortData
plan_by ns r Fit = checked_plan (elements_in r) (checked_from (rows_of ns r.codes) r.write r.«open» 0 (elements_in r))

-- what it comes to, once its plan is settled
abbrev pub served_by : List Node → ℕ → List ℕ → Request → Plan → Served
served_by ns used a r (stop x) = answered_only a x
served_by ns used a r (go es) = carried r.write (rows_of ns r.codes) (block_size * used) r.«data» a es

-- a whole request to the system of the nodes ns, on a card that is sound or not and has `used` blocks in use, and on an arena
unfoldable pub serve_on : Bool → List Node → ℕ → List ℕ → Request → Served
serve_on sound ns used a r = served_by ns used a r (plan_by ns r (judged_on sound used (length a) r))

-- what its caller is told
abbrev pub answer_on : Bool → List Node → ℕ → List ℕ → Request → Answer
answer_on sound ns used a r = record { reply = (serve_on sound ns used a r).reply; read = (serve_on sound ns used a r).read }

-- the arena that the next request finds
abbrev pub arena_on : Bool → List Node → ℕ → List ℕ → Request → List ℕ
arena_on sound ns used a r = (serve_on sound ns used a r).arena

-- what the callers of a list of requests are told, each on the arena that the one before it left
abbrev pub told_on : Bool → List Node → ℕ → List ℕ → List Request → List Answer
told_on sound ns used a rs = answers (answer_on sound ns used) (arena_on sound ns used) a rs

-- the arena that the last of them leaves
abbrev pub left_on : Bool → List Node → ℕ → List ℕ → List Request → List ℕ
left_on sound ns used a rs = after (answer_on sound ns used) (arena_on sound ns used) a rs
