-- Parts of what the steps of a read and a write promise.
use Rattle.std.specs.Prelude.{◌≡◌, ℕ, ◌*◌, List, Bool, length, take, drop}
use Rattle.byte_parts.specs.Sizes.{block_size}
use Rattle.byte_parts.specs.Part.{put}
use Rattle.block_list.specs.Element.{elements_from}
use Rattle.card_build.specs.declared.card.Card.{Card}
use Rattle.card_build.specs.Card.{nodes_of}
use Rattle.request_check.specs.declared.table.Row.{Row}
use Rattle.request_check.specs.declared.table.Table.{Table}
use Rattle.request_check.specs.Row.{row_table}
use Rattle.request_check.specs.Check.{checked_from}
use Rattle.request_plan.specs.declared.Reply.{Reply}
use Rattle.request_plan.specs.Serve.{Served, staging_by}
use Rattle.request_serve.specs.declared.settle.Settled.{Settled}

-- the rows that the table holds
abbrev pub rows_held : Table → List Row
rows_held t = take t.count t.rows

-- what is settled of a request beside its judgement: what its codes come to, and how the check of its elements ends
abbrev pub Looked : Card → Bool → Bool → List ℕ → List ℕ → ℕ → Settled → Type 0
Looked c write «open» codes list count x =
    (x.table ≡ row_table (nodes_of c) codes) × (x.checked ≡ checked_from (rows_held x.table) write «open» 0 (elements_from list count 0))

-- the output with these bytes at its front
abbrev pub front_filled : List ℕ → List ℕ → List ℕ
front_filled out bytes = put out 0 (length bytes) bytes

-- the staging after this reply on this card: 16 bytes for each of its blocks in use are concerned
abbrev pub staging_left : Card → Reply → List ℕ → List ℕ
staging_left c reply old = staging_by reply (block_size * c.used) old

-- from this byte on the two are alike
abbrev pub SameFrom : ℕ → List ℕ → List ℕ → Type 0
SameFrom n new old = drop n new ≡ drop n old

-- reply and arena are those that the request comes to, and the staging is as told
abbrev pub WriteLeaves : Served → Reply → List ℕ → Type 0 → Type 0
WriteLeaves x reply arena staging = (reply ≡ x.reply) × ((arena ≡ x.arena) × staging)
