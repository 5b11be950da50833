-- The theorems are not empty: a system begun at block 2 and at block 0, requests of each kind computed on both, and one that is refused
-- with 4 on the card of more blocks in use alone.
use Rattle.std.proofs.Common.{Some, None}
use Prim.Native.Nat.{ℕ, zero, suc, ◌+◌}
use mathlib.Core.Path.{◌≡◌, refl}
use mathlib.Core.Bool.{true}
use mathlib.Core.List.{List, [], ◌∷◌, ◌++◌}
use lib.ListN.{replicate}
use Rattle.answers.specs.declared.status.Fault.TheVariants.{OutsideWord}
use Rattle.answers.specs.declared.refusal.Refusal.TheVariants.{ShortStaging}
use Rattle.service_code.specs.Code.{number_of, attributes_of, table_of, decoded_of, attribute_of, code_kind_of, requires_key}
use Rattle.block_list.specs.Element.{unpack_at, ends_from, ends_after, elements_from}
use Rattle.byte_parts.specs.Part.{part, put, same_bytes}
use Rattle.byte_parts.specs.Word.{word_at, word_bytes, signed_of, word_of}
use Rattle.rule_purse.specs.Purse.{value_of, inside_of, outside_of, sum_of, stored_of, purse_rule}
use Rattle.rule_cyclic.specs.Cyclic.{cyclic_of}
use Rattle.rule_purse.specs.Bytes.{purse_data_of, block_of, purse_applied}
use Rattle.card_nodes.specs.declared.node.Entry.TheVariants.{Service}
use Rattle.card_nodes.specs.declared.node.Node.{Node}
use Rattle.card_nodes.specs.Node.{root_node}
use Rattle.card_nodes.specs.Find.{first_from, open_at, parent_from}
use Rattle.card_admit.specs.Admit.{is_depth, parent_at, outside, service_under, same_kind, joined_to, usable, new_store, placed_of}
use Rattle.card_sound.specs.Sound.{step_of, steps_from}
use Rattle.card_build.specs.Grow.{node_as}
use Rattle.request_check.specs.Row.{row_of}
use Rattle.request_check.specs.Check.{mode_allowed, attribute_check, service_check, row_check, element_check, checked_from}
use Rattle.request_rules.specs.Lens.{back, within}
use Rattle.request_rules.specs.Rules.{cashback_in, element_by, end_by, on_store}
use Rattle.request_runs.specs.Runs.{then, push, runs_of, scan, walk}
use Rattle.request_runs.specs.Staged.{staged}
use Rattle.request_plan.specs.declared.Reply.TheVariants.{Refused, Done, Failed}
use Rattle.request_plan.specs.Request.{Request, read_request, write_request}
use Rattle.request_plan.specs.Plan.{write_judged, read_judged, judged_with}
use Rattle.request_plan.specs.Serve.{blocks_read, committed, carried}
use Rattle.card_moved.specs.Moved.{moved}
use Rattle.law_terminals.specs.Orders.{answers}
use Rattle.law_terminals.specs.Two.{Answer}
use Rattle.law_systems.specs.On.{serve_on, told_on}
use Rattle.law_systems.specs.Alike.{StoresAlike}

-- a random block, a purse and a ring of two, begun at a block
abbrev nodes_from : ℕ → List Node
nodes_from k =
    node_as 1 0x1049 0 (Service k 1 None)
    ∷ node_as 1 0x1095 0 (Service (k + 1) 1 None)
    ∷ node_as 1 0x10cd 0 (Service (k + 2) 2 None)
    ∷ []

-- the walk of refusal 8 goes over them from block 0 and from block 2 on
goes : (steps_from (root_node ∷ []) 0 (nodes_from 0) ≡ Some 4) × (steps_from (root_node ∷ []) 2 (nodes_from 2) ≡ Some 6)
unfolding steps_from step_of placed_of is_depth parent_at parent_from open_at first_from service_under outside same_kind joined_to usable new_store number_of attributes_of table_of decoded_of attribute_of code_kind_of
goes = (refl, refl)

-- the latter are the former, moved
are_moved : root_node ∷ nodes_from 2 ≡ moved 2 (root_node ∷ nodes_from 0)
are_moved = refl

-- an empty block, a credit of 100, two blocks of 7
abbrev own : List ℕ
own = replicate 16 0 ++ (100 ∷ replicate 15 0) ++ replicate 32 7

-- two blocks of another system ahead of them, and one behind
abbrev shared : List ℕ
shared = replicate 32 1 ++ own ++ replicate 16 2

-- the stores are alike in both
alike : StoresAlike 2 (root_node ∷ nodes_from 0) shared own
unfolding part
alike zero = refl
alike (suc zero) = refl
alike (suc (suc zero)) = refl
alike (suc (suc (suc zero))) = refl
alike (suc (suc (suc (suc j)))) = refl

-- one block written
abbrev writing : ℕ → ℕ → List ℕ → ℕ → Request
writing code number block room = write_request true (code ∷ []) 1 (0x80 ∷ number ∷ []) block room

-- a payment
abbrev paying : ℕ → ℕ → ℕ → Request
paying amount id room = writing 0x1095 0 (amount ∷ replicate 11 0 ++ (id ∷ 0 ∷ 0 ∷ 0 ∷ [])) room

-- one block read
abbrev reading : ℕ → ℕ → Request
reading code number = read_request true (code ∷ []) 1 (0x80 ∷ number ∷ []) 16

-- a payment, one too high, a write to the ring, one to the block, and what is read
abbrev requests : List Request
requests =
    paying 60 1 112
    ∷ paying 60 2 112
    ∷ writing 0x10cd 0 (replicate 16 5) 112
    ∷ writing 0x1049 0 (replicate 16 9) 112
    ∷ reading 0x1049 0
    ∷ reading 0x10cd 0
    ∷ []

-- the answers that are due
abbrev due : List Answer
due =
    record { reply = Done; read = [] }
    ∷ record { reply = Failed 0 OutsideWord; read = [] }
    ∷ record { reply = Done; read = [] }
    ∷ record { reply = Done; read = [] }
    ∷ record { reply = Done; read = replicate 16 9 }
    ∷ record { reply = Done; read = replicate 16 5 }
    ∷ []

-- told so on both; and with a staging of 64 bytes a payment is refused on the longer card alone
told
    : (told_on true (root_node ∷ nodes_from 0) 4 own requests ≡ due)
    × (told_on true (root_node ∷ nodes_from 2) 7 (shared ++ replicate 16 2) requests ≡ due)
    × ((serve_on true (root_node ∷ nodes_from 0) 4 own (paying 60 1 64)).reply ≡ Done)
    × ((serve_on true (root_node ∷ nodes_from 2) 6 shared (paying 60 1 64)).reply ≡ Refused ShortStaging)
unfolding answers serve_on judged_with write_judged read_judged carried committed blocks_read staged then push runs_of scan walk cashback_in element_by end_by on_store back within mode_allowed attribute_check service_check row_check element_check checked_from row_of first_from number_of attributes_of table_of decoded_of attribute_of code_kind_of requires_key unpack_at ends_from ends_after elements_from part put same_bytes word_at word_bytes signed_of word_of value_of inside_of outside_of sum_of stored_of purse_rule cyclic_of purse_data_of block_of purse_applied
told = (refl, refl, refl, refl)
