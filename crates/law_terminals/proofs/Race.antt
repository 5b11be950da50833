-- The race of samples/regatta.txt: lane 1, written in the first request, is read in the fourth, though the third redraws lanes 2 and 3
-- of the same service. Example computes it. Assumes nothing.
use Prim.Native.Nat.{ℕ, zero, suc, ◌<◌}
use native.Mathlib.Omega.{arith}
use lib.IntN.{pos}
use mathlib.Core.Bool.{true, false}
use mathlib.Core.List.{List, [], ◌∷◌, ◌++◌}
use lib.ListN.{replicate}
use Rattle.service_code.specs.Code.{number_of}
use Rattle.block_list.specs.Element.{unpack_at, elements_from}
use Rattle.card_build.specs.declared.card.Card.{Card}
use Rattle.card_build.specs.Card.{system_of, new_card}
use Rattle.card_build.specs.Grow.{add_area, add_service, set_limit}
use Rattle.request_plan.specs.Request.{Request, read_request, write_request}
use Rattle.law_terminals.specs.Last.{NamesBlock}

-- the regatta's area; crews and lanes, a random store of six blocks, with the tower's read-only service; practice credit, with limits
abbrev pub field : Card
field = (add_area (new_card (system_of 1 0 false)) 1 0x1040 0x10bf 0).card

abbrev pub marshals : Card
marshals = (add_service field 112 2 0x1049 6 0).card

abbrev pub towers : Card
towers = (add_service marshals 112 2 0x104b 6 0).card

abbrev pub credit : Card
credit = (add_service towers 112 2 0x1095 1 0).card

abbrev pub limited : Card
limited = (set_limit credit (pos 120) (pos 0) 1).card

abbrev pub race : Card
race = (add_service limited 112 2 0x1097 1 0).card

-- seven blocks: six empty lanes, a credit of 90
abbrev pub arena : List ℕ
arena = replicate 96 0 ++ (0x5a ∷ replicate 15 0)

-- the crews: `1 LEANDER M4+`, `2 THAMES M4+`, `3 MOLESEY M4+`, and after the redraw `2 MOLESEY M4+`, `3 THAMES M4+`
abbrev pub leander : List ℕ
leander = (0x31 ∷ 0x20 ∷ 0x4c ∷ 0x45 ∷ 0x41 ∷ 0x4e ∷ 0x44 ∷ 0x45 ∷ 0x52 ∷ 0x20 ∷ 0x4d ∷ 0x34 ∷ 0x2b ∷ 0x20 ∷ 0x20 ∷ 0x20 ∷ [])

abbrev pub thames : List ℕ
thames = (0x32 ∷ 0x20 ∷ 0x54 ∷ 0x48 ∷ 0x41 ∷ 0x4d ∷ 0x45 ∷ 0x53 ∷ 0x20 ∷ 0x4d ∷ 0x34 ∷ 0x2b ∷ 0x20 ∷ 0x20 ∷ 0x20 ∷ 0x20 ∷ [])

abbrev pub molesey : List ℕ
molesey = (0x33 ∷ 0x20 ∷ 0x4d ∷ 0x4f ∷ 0x4c ∷ 0x45 ∷ 0x53 ∷ 0x45 ∷ 0x59 ∷ 0x20 ∷ 0x4d ∷ 0x34 ∷ 0x2b ∷ 0x20 ∷ 0x20 ∷ 0x20 ∷ [])

abbrev pub molesey_two : List ℕ
molesey_two = (0x32 ∷ 0x20 ∷ 0x4d ∷ 0x4f ∷ 0x4c ∷ 0x45 ∷ 0x53 ∷ 0x45 ∷ 0x59 ∷ 0x20 ∷ 0x4d ∷ 0x34 ∷ 0x2b ∷ 0x20 ∷ 0x20 ∷ 0x20 ∷ [])

abbrev pub thames_three : List ℕ
thames_three = (0x33 ∷ 0x20 ∷ 0x54 ∷ 0x48 ∷ 0x41 ∷ 0x4d ∷ 0x45 ∷ 0x53 ∷ 0x20 ∷ 0x4d ∷ 0x34 ∷ 0x2b ∷ 0x20 ∷ 0x20 ∷ 0x20 ∷ 0x20 ∷ [])

-- requests 1 to 4 of the sample: lanes 1 to 3 drawn, read, lanes 2 and 3 redrawn, read
abbrev pub draw : Request
draw = write_request true (0x1049 ∷ []) 3 (0x80 ∷ 0 ∷ 0x80 ∷ 1 ∷ 0x80 ∷ 2 ∷ []) (leander ++ thames ++ molesey) 112

abbrev pub look : Request
look = read_request true (0x104b ∷ []) 3 (0x80 ∷ 0 ∷ 0x80 ∷ 1 ∷ 0x80 ∷ 2 ∷ []) 48

abbrev pub redraw : Request
redraw = write_request true (0x1049 ∷ []) 2 (0x80 ∷ 1 ∷ 0x80 ∷ 2 ∷ []) (molesey_two ++ thames_three) 112

abbrev pub between : List Request
between = look ∷ redraw ∷ []

-- the redraw names no block 0
pub redraw_spares : (i : ℕ) → NamesBlock 0x41 0 redraw i → ⊥
unfolding number_of unpack_at elements_from
redraw_spares zero h = let e = h.block in omega arith
redraw_spares (suc zero) h = let e = h.block in omega arith
redraw_spares (suc (suc i)) h = let l = h.listed in omega arith

-- nor does a later element of the draw
pub draw_later : (i : ℕ) → 0 < i → NamesBlock 0x41 0 draw i → ⊥
unfolding number_of unpack_at elements_from
draw_later zero l h = omega arith
draw_later (suc zero) l h = let e = h.block in omega arith
draw_later (suc (suc zero)) l h = let e = h.block in omega arith
draw_later (suc (suc (suc i))) l h = let k = h.listed in omega arith
