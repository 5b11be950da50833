-- The sizes that every floor above goes by, each said once.
use Rattle.std.specs.Prelude.{ℕ}

-- the bytes of a block
abbrev pub block_size : ℕ
block_size = 16

-- the most blocks of a lent arena that are usable
abbrev pub most_blocks : ℕ
most_blocks = 4096

-- the most elements of a request
-- RULES 1.6
abbrev pub most_elements : ℕ
most_elements = 512

-- the most service codes of a request
-- RULES 1.6
abbrev pub most_codes : ℕ
most_codes = 16

-- the most bytes of a line before its LF
-- RULES 1.7
abbrev pub longest_line : ℕ
longest_line = 32768

-- the most bytes that are printed for a line: 512 blocks in hex, and 64 for what stands before them
abbrev pub most_printed : ℕ
most_printed = 16448
