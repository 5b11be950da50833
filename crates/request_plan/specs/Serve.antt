-- A whole read and a whole write: reply, bytes read, arena and staging after.
use Rattle.std.specs.Prelude.{ℕ, ◌*◌, List, [], ◌∷◌, ◌++◌, Bool, true, false, length, take, replicate}
use Rattle.byte_parts.specs.Sizes.{block_size}
use Rattle.block_list.specs.declared.element.BlockListElement.{BlockListElement}
use Rattle.byte_parts.specs.Part.{part, put}
use Rattle.card_build.specs.declared.card.Card.{Card}
use Rattle.request_check.specs.declared.table.Row.{Row}
use Rattle.request_check.specs.Row.{row_in}
use Rattle.request_runs.specs.Runs.{Walked, bad, good}
use Rattle.request_runs.specs.Staged.{staged}
use Rattle.request_plan.specs.declared.Reply.{Reply}
use Rattle.request_plan.specs.declared.Reply.TheVariants.{Refused, Done, ShortData, Failed}
use Rattle.request_plan.specs.Request.{Request}
use Rattle.request_plan.specs.Plan.{Plan, stop, go, plan_of, rows_in}

-- what a request comes to: its reply, the bytes that are read, and the arena after it
pub record Served : Type 0 where
  pub reply : Reply
  pub read : List ℕ
  pub arena : List ℕ

-- what a request comes to that is answered, reads nothing and leaves the arena
-- RULES 2.1
abbrev pub answered_only : List ℕ → Reply → Served
answered_only a x = record { reply = x; read = []; arena = a }

-- the bytes of a row's store
abbrev pub store_in : List ℕ → Row → List ℕ
store_in a w = part a (block_size * w.start) (block_size * w.blocks)

-- the blocks that the elements name, one after the other
-- RULES 10.1
unfoldable pub blocks_read : List Row → List ℕ → List BlockListElement → List ℕ
blocks_read rows a [] = []
blocks_read rows a (e ∷ es) = part (store_in a (row_in rows e)) (block_size * e.number) 16 ++ blocks_read rows a es

-- the staged stores go into the arena only if every run passed; else the first failing run answers
-- RULES 2.1, 9.4
unfoldable pub committed : ℕ → List ℕ → Walked (List ℕ) → Served
committed size a (bad i f) = answered_only a (Failed i f)
committed size a (good s) = record { reply = Done; read = []; arena = put a 0 size s }

-- a request whose elements all passed, carried out: on a write the runs work on the staged stores, of `size` bytes
unfoldable pub carried : Bool → List Row → ℕ → List ℕ → List ℕ → List BlockListElement → Served
carried true rows size d a es = committed size a (staged rows d es (take size a))
carried false rows size d a es = record { reply = Done; read = blocks_read rows a es; arena = a }

-- a request, once its plan is settled
abbrev pub plan_served : Card → List ℕ → Request → Plan → Served
plan_served c a r (stop x) = answered_only a x
plan_served c a r (go es) = carried r.write (rows_in c r) (block_size * c.used) r.«data» a es

-- a whole request, on a card and an arena
-- RULES 9.14
unfoldable pub serve : Card → List ℕ → Request → Served
serve c a r = plan_served c a r (plan_of c (length a) r)

-- how many bytes a read puts out: sixteen for each element, if it is carried out
abbrev pub length_read : Reply → ℕ → ℕ
length_read (Refused r) count = 0
length_read Done count = block_size * count
length_read ShortData count = 0
length_read (Failed i f) count = 0

-- output: beyond the answer it stays as it was
-- RULES 2.5
abbrev pub output_after : List ℕ → Served → List ℕ
output_after out x = put out 0 (length x.read) x.read

-- staging: after a status pair 16 bytes per block in use are zero and the rest unchanged, after a refusal all is unchanged
-- RULES 2.6
abbrev pub staging_by : Reply → ℕ → List ℕ → List ℕ
staging_by (Refused r) size s = s
staging_by Done size s = put s 0 size (replicate size 0)
staging_by ShortData size s = put s 0 size (replicate size 0)
staging_by (Failed i f) size s = put s 0 size (replicate size 0)
