-- Fifteen worked rows, subject by subject (`Whole` has them in one statement), which the definitions compute: so they say what the rules say, at these values at least. Assumes nothing.
use Rattle.std.proofs.Common.{Option, Some, None, Ok, Err}
use Prim.Native.Nat.{ℕ}
use mathlib.Core.Path.{◌≡◌, refl}
use mathlib.Core.Bool.{true}
use mathlib.Core.List.{List, [], ◌∷◌, ◌++◌}
use lib.ListN.{replicate}
use lib.IntN.{pos, negsuc}
use Rattle.answers.specs.declared.status.Fault.TheVariants.{OutsideLimits, OutsideWord, CashbackExceeds, CyclicTooLong}
use Rattle.service_code.specs.declared.code.ServiceAttribute.TheVariants.{RandomReadWrite}
use Rattle.service_code.specs.Code.{number_of, attributes_of, table_of, decoded_of, attribute_of, requires_key}
use Rattle.answers.specs.Status.{sf1_of, sf2_of}
use Rattle.block_list.specs.Element.{pack_of}
use Rattle.error_places.specs.Bitmap.{places_from, places_of}
use Rattle.byte_parts.specs.Part.{put, same_bytes}
use Rattle.byte_parts.specs.Sizes.{block_size}
use Rattle.byte_parts.specs.Word.{word_at, word_bytes, signed_of, word_of}
use Rattle.rule_purse.specs.declared.fields.PurseOperation.TheVariants.{Decrement, Cashback}
use Rattle.service_code.specs.declared.limit.Limit.{Limit}
use Rattle.rule_purse.specs.declared.fields.PurseData.{PurseData}
use Rattle.rule_purse.specs.declared.fields.PurseWrite.TheVariants.{Unchanged, Stored}
use Rattle.answers.specs.Outcome.{passed, failed}
use Rattle.rule_purse.specs.Purse.{value_of, inside_of, outside_of, sum_of, stored_of, purse_rule}
use Rattle.rule_cyclic.specs.Cyclic.{cyclic_of}
use Rattle.rule_purse.specs.Bytes.{purse_data_of, block_of, purse_applied}
use Rattle.service_code.specs.Limit.{limited_to}

-- The fields of a purse block.
abbrev fields : ℕ → ℕ → ℕ → PurseData
fields p k i = record { purse = p; cashback = k; id = i }

-- A block of equal bytes.
abbrev block : ℕ → List ℕ
block n = replicate block_size n

-- 1048: number 41h, keyed random.
abbrev pub P1 : Type 0
P1 = (number_of 0x1048 ≡ 0x41) × (attribute_of 0x1048 ≡ Some RandomReadWrite) × (requires_key 0x1048 ≡ true)

-- Pack 255, index 1, mode 0: 81 FF.
abbrev pub P2 : Type 0
P2 = pack_of (record { number = 255; index = 1; mode = 0 }) ≡ 0x81 ∷ 0xff ∷ []

-- Pack 256, index 1, mode 1: 11 00 01.
abbrev pub P3 : Type 0
P3 = pack_of (record { number = 256; index = 1; mode = 1 }) ≡ 0x11 ∷ 0x00 ∷ 0x01 ∷ []

-- Bitmap 81h: 1, 8, 9.
abbrev pub P4 : Type 0
P4 = places_of 0x81 ≡ 1 ∷ 8 ∷ 9 ∷ []

-- FFh: fifteen.
abbrev pub P5 : Type 0
P5 = places_of 0xff ≡ 1 ∷ 2 ∷ 3 ∷ 4 ∷ 5 ∷ 6 ∷ 7 ∷ 8 ∷ 9 ∷ 10 ∷ 11 ∷ 12 ∷ 13 ∷ 14 ∷ 15 ∷ []

-- Purse 100, ids unequal: less 100 gives 0.
abbrev pub P6 : Type 0
P6 = purse_rule Decrement None (fields 100 0 1) (fields 100 0 2) ≡ Ok (Stored 0 100)

-- Less 101 gives 01.
abbrev pub P7 : Type 0
P7 = (purse_rule Decrement None (fields 100 0 1) (fields 101 0 2) ≡ Err OutsideWord) × (sf2_of OutsideWord ≡ 0x01)

-- The same with equal ids is unchanged.
abbrev pub P8 : Type 0
P8 = purse_rule Decrement None (fields 100 0 1) (fields 101 0 1) ≡ Ok Unchanged

-- Cashback held 30: 30 passes.
abbrev pub P9 : Type 0
P9 = purse_rule Cashback None (fields 100 30 1) (fields 30 0 2) ≡ Ok (Stored 130 0)

-- 31 is 02.
abbrev pub P10 : Type 0
P10 = (purse_rule Cashback None (fields 100 30 1) (fields 31 0 2) ≡ Err CashbackExceeds) × (sf2_of CashbackExceeds ≡ 0x02)

-- The limit of the next two: -50 to 200.
abbrev narrow : Option Limit
narrow = limited_to (pos 200) (negsuc 49) 0

-- Purse 0: less 50 stores CE FF FF FF. Of the block's other bytes, 4 to 7 are the amount, 8 to 11 kept, 12 to 15 the command's.
abbrev pub P11 : Type 0
P11 =
    (purse_rule Decrement narrow (fields 0 0 1) (fields 50 0 2) ≡ Ok (Stored 0xffff_ffce 50))
    × (purse_applied Decrement narrow (replicate 8 0 ++ replicate 4 7 ++ replicate 4 1) (50 ∷ replicate 11 0 ++ replicate 4 2)
    ≡ passed (0xce ∷ 0xff ∷ 0xff ∷ 0xff ∷ 50 ∷ 0 ∷ 0 ∷ 0 ∷ replicate 4 7 ++ replicate 4 2))

-- Less 51 is 03.
abbrev pub P12 : Type 0
P12 = (purse_rule Decrement narrow (fields 0 0 1) (fields 51 0 2) ≡ Err OutsideLimits) × (sf2_of OutsideLimits ≡ 0x03)

-- Cyclic x y z: p q gives p q x.
abbrev pub P13 : Type 0
P13 = cyclic_of (block 1 ++ block 2 ++ block 3) (block 4 ++ block 5) ≡ passed (block 4 ++ block 5 ++ block 1)

-- Four blocks are AF.
abbrev pub P14 : Type 0
P14 =
    (cyclic_of (block 1 ++ block 2 ++ block 3) (block 4 ++ block 5 ++ block 6 ++ block 7) ≡ failed CyclicTooLong)
    × (sf2_of CyclicTooLong ≡ 0xaf)

-- Index 253 is place 254, 254 and 300 are 255.
abbrev pub P15 : Type 0
P15 = (sf1_of 253 ≡ 254) × (sf1_of 254 ≡ 255) × (sf1_of 300 ≡ 255)

-- Codes and elements of a list.
pub packed_rows : P1 × P2 × P3
unfolding number_of attributes_of table_of decoded_of attribute_of requires_key pack_of
packed_rows = ((refl, refl, refl), refl, refl)

-- The bitmap of an error byte.
pub bitmap_rows : P4 × P5
unfolding places_from places_of
bitmap_rows = (refl, refl)

-- The purse.
pub purse_rows : P6 × P7 × P8 × P9 × P10 × P11 × P12
unfolding purse_rule stored_of sum_of inside_of outside_of value_of signed_of word_of purse_applied block_of purse_data_of word_at word_bytes put
purse_rows = (refl, (refl, refl), refl, refl, (refl, refl), (refl, refl), (refl, refl))

-- The ring.
pub cyclic_rows : P13 × P14
unfolding put cyclic_of same_bytes
cyclic_rows = (refl, (refl, refl))

-- The place of an error.
pub place_rows : P15
place_rows = (refl, refl, refl)
