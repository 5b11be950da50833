-- Where things stand in the bytes of a card: a header, then a column of 64 for each field of a record. Numbers stand low byte first, signed
-- ones in two's complement. Places that have no name here are no part of a card.
use Rattle.std.specs.Prelude.{ℕ, ◌+◌, ◌*◌}

-- the header, two bytes each: how many records are taken, the blocks in use
abbrev pub count_place : ℕ
count_place = 0

abbrev pub used_place : ℕ
used_place = 2

-- the system's code, its key version, whether it joins
abbrev pub system_place : ℕ
system_place = 6

abbrev pub key_place : ℕ
key_place = 8

abbrev pub flags_place : ℕ
flags_place = 12

-- and by which layout the card was written: this one is number 2
abbrev pub layout_place : ℕ
layout_place = 22

abbrev pub layout_number : ℕ
layout_number = 2

-- a record's kind and depth, a byte each
abbrev pub kind_place : ℕ → ℕ
kind_place i = 32 + 2 * i

abbrev pub depth_place : ℕ → ℕ
depth_place i = 33 + 2 * i

-- two bytes each: its code, an area's end or a service's start, a service's blocks, its key version
abbrev pub code_place : ℕ → ℕ
code_place i = 160 + 2 * i

abbrev pub start_place : ℕ → ℕ
start_place i = 288 + 2 * i

abbrev pub blocks_place : ℕ → ℕ
blocks_place i = 416 + 2 * i

abbrev pub version_place : ℕ → ℕ
version_place i = 544 + 2 * i

-- a limit: its generation is a byte, its bounds four each
abbrev pub generation_place : ℕ → ℕ
generation_place i = 800 + i

abbrev pub upper_place : ℕ → ℕ
upper_place i = 864 + 4 * i

abbrev pub lower_place : ℕ → ℕ
lower_place i = 1120 + 4 * i

-- RULES 15.1
abbrev pub card_size : ℕ
card_size = 1376
