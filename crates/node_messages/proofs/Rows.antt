-- Each message with its bytes, as antt computes them. Assumes nothing.
use Rattle.std.proofs.Common.{Ok, Err}
use Prim.Native.Nat.{ℕ}
use mathlib.Core.Path.{◌≡◌, refl}
use mathlib.Core.Bool.{Bool, true, false}
use mathlib.Core.List.{List, [], ◌∷◌}
use lib.ListN.{replicate}
use Rattle.answers.specs.declared.refusal.Refusal.TheVariants.{ShortOutput, NotAMessage}
use Rattle.byte_parts.specs.Half.{half_bytes, half_at}
use Rattle.byte_parts.specs.Part.{put, padded}
use Rattle.node_messages.specs.declared.code_list.CodeList.{CodeList}
use Rattle.node_messages.specs.declared.information.BlockInformation.{BlockInformation}
use Rattle.node_messages.specs.Numbers.{numbers_bytes, numbers_in}
use Rattle.node_messages.specs.Message.{message_put, message_after}
use Rattle.node_messages.specs.CodeList.{code_list_bytes, is_code_list, empty_list, list_told, list_refused, read_code_list}
use Rattle.node_messages.specs.Information.{information_bytes, is_information, information_told, information_refused, read_information}

-- one area, 0040 to 107F, and two services, 1009 and 110A
abbrev listed : Bool → CodeList
listed more = record { more = more; areas = 1; ranges = padded 32 (0x0040 ∷ 0x107f ∷ []); services = 2; codes = padded 16 (0x1009 ∷ 0x110a ∷ []) }

-- the same as bytes, behind its flag
abbrev listed_bytes : ℕ → List ℕ
listed_bytes flag = flag ∷ 1 ∷ 0x40 ∷ 0x00 ∷ 0x7f ∷ 0x10 ∷ 2 ∷ 0x09 ∷ 0x10 ∷ 0x0a ∷ 0x11 ∷ []

-- A list after which more follow, the last one, one without entries; flag 2, seventeen entries, a byte too few and one left over.
pub list_rows
    : (code_list_bytes (listed true) ≡ listed_bytes 1)
    × (code_list_bytes (listed false) ≡ listed_bytes 0)
    × (code_list_bytes empty_list ≡ 0 ∷ 0 ∷ 0 ∷ [])
    × (read_code_list (listed_bytes 1) ≡ list_told (listed true))
    × (read_code_list (listed_bytes 0) ≡ list_told (listed false))
    × (read_code_list (0 ∷ 0 ∷ 0 ∷ []) ≡ list_told empty_list)
    × (read_code_list (listed_bytes 2) ≡ list_refused NotAMessage)
    × (read_code_list (0 ∷ 0 ∷ 17 ∷ replicate 34 0) ≡ list_refused NotAMessage)
    × (read_code_list (0 ∷ 0 ∷ []) ≡ list_refused NotAMessage)
    × (read_code_list (0 ∷ 0 ∷ 0 ∷ 0 ∷ []) ≡ list_refused NotAMessage)
unfolding code_list_bytes numbers_bytes half_bytes read_code_list is_code_list numbers_in half_at padded
list_rows = (refl, refl, refl, refl, refl, refl, refl, refl, refl, refl)

-- two nodes: 3 blocks and 300 assigned, 4096 and none free
abbrev told : BlockInformation
told = record { count = 2; assigned = padded 32 (3 ∷ 300 ∷ []); free = padded 32 (4096 ∷ 0 ∷ []) }

abbrev told_bytes : List ℕ
told_bytes = 2 ∷ 3 ∷ 0 ∷ 44 ∷ 1 ∷ 0 ∷ 16 ∷ 0 ∷ 0 ∷ []

-- Two nodes; 33 nodes, a byte too few and one left over.
pub information_rows
    : (information_bytes told ≡ told_bytes)
    × (read_information told_bytes ≡ information_told told)
    × (read_information (33 ∷ replicate 132 0) ≡ information_refused NotAMessage)
    × (read_information [] ≡ information_refused NotAMessage)
    × (read_information (0 ∷ 0 ∷ []) ≡ information_refused NotAMessage)
unfolding information_bytes numbers_bytes half_bytes read_information is_information numbers_in half_at padded
information_rows = (refl, refl, refl, refl, refl)

-- An output that a message just fills, one a byte shorter; what is beyond it, and after a refusal.
pub output_rows
    : (message_put told_bytes 9 ≡ Ok 9)
    × (message_put told_bytes 8 ≡ Err ShortOutput)
    × (message_after (1 ∷ 2 ∷ []) (7 ∷ 8 ∷ []) ≡ 1 ∷ 2 ∷ [])
    × (message_after (1 ∷ 2 ∷ []) (7 ∷ 8 ∷ 9 ∷ []) ≡ 1 ∷ 2 ∷ 9 ∷ [])
    × (message_after (1 ∷ 2 ∷ []) (7 ∷ []) ≡ 7 ∷ [])
unfolding message_put message_after put
output_rows = (refl, refl, refl, refl, refl)
