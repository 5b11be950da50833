-- Packets and free counts of small cards, as antt computes them. Assumes nothing.
use Rattle.std.proofs.Common.{None}
use Prim.Native.Nat.{ℕ}
use mathlib.Core.Path.{◌≡◌, refl}
use mathlib.Core.Bool.{true, false}
use mathlib.Core.List.{List, [], ◌∷◌}
use lib.ListN.{replicate}
use Rattle.answers.specs.declared.refusal.Refusal.TheVariants.{PacketPastEnd}
use Rattle.byte_parts.specs.Part.{padded}
use Rattle.node_messages.specs.CodeList.{list_told, list_refused}
use Rattle.card_nodes.specs.declared.node.Entry.TheVariants.{Area, Service}
use Rattle.card_nodes.specs.declared.node.Node.{Node}
use Rattle.card_questions.specs.ListingWorded.{pairs_of}
use Rattle.card_lists.specs.Packet.{among, past_end, more_after, packet_told}

-- the service 1009, and the area 1000 to 107F
abbrev crews : Node
crews = record { depth = 1; code = 0x1009; version = 0; entry = Service 0 1 None }

abbrev races : Node
races = record { depth = 1; code = 0x1000; version = 0; entry = Area 0x107f }

-- Which packets there are of no child, of sixteen and of seventeen; of 63 children the last is packet 3, and no packet of 8, 16 or 32 bits
-- more is one of them.
pub packet_rows
    : (past_end 0 0 ≡ false) × (past_end 1 0 ≡ true) × (past_end 0 16 ≡ false) × (past_end 1 16 ≡ true) × (past_end 1 17 ≡ false) × (past_end 2 17 ≡ true)
    × (past_end 3 63 ≡ false) × (past_end 4 63 ≡ true) × (past_end 256 63 ≡ true) × (past_end 65536 63 ≡ true) × (past_end 65537 63 ≡ true)
    × (past_end 4294967295 63 ≡ true)
unfolding past_end
packet_rows = (refl, refl, refl, refl, refl, refl, refl, refl, refl, refl, refl, refl)

-- after which of them more follow
pub more_rows
    : (more_after 0 0 ≡ false) × (more_after 0 16 ≡ false) × (more_after 0 17 ≡ true) × (more_after 1 17 ≡ false) × (more_after 2 63 ≡ true) × (more_after 3 63 ≡ false)
unfolding more_after
more_rows = (refl, refl, refl, refl, refl, refl)

-- an area and sixteen services: the first packet and the second, and packets 2, 65,536 and the last of 32 bits
abbrev seventeen : List Node
seventeen = races ∷ replicate 16 crews

pub told_rows
    : (packet_told seventeen 0
    ≡ list_told (record { more = true; areas = 1; ranges = padded 32 (0x1000 ∷ 0x107f ∷ []); services = 15; codes = padded 16 (replicate 15 0x1009) }))
    × (packet_told seventeen 1 ≡ list_told (record { more = false; areas = 0; ranges = replicate 32 0; services = 1; codes = padded 16 (0x1009 ∷ []) }))
    × (packet_told seventeen 2 ≡ list_refused PacketPastEnd)
    × (packet_told seventeen 65536 ≡ list_refused PacketPastEnd)
    × (packet_told seventeen 4294967295 ≡ list_refused PacketPastEnd)
unfolding packet_told past_end more_after among pairs_of padded
told_rows = (refl, refl, refl, refl, refl)
