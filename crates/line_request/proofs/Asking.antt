-- What is known of the fields of a line that asks a read or a write. Assumes nothing.
use Rattle.std.proofs.Common.{Option, Some, None}
use Prim.Native.Nat.{ℕ, ◌≤◌}
use mathlib.Core.Path.{◌≡◌, refl}
use mathlib.Core.Bool.{Bool, true, false, cond, ◌&&◌, and-eq-true_iff}
use mathlib.Core.List.{List}
use native.Mathlib.Omega.{arith}
use lib.Dec.{ltb, eqb}
use lib.ListN.{length, get_or}
use borrow.Author.Tests.{ltb-false, eq-eqb, ne_eqb}
use Rattle.text_fields.specs.Field.{split}
use Rattle.text_numbers.specs.Hex.{hex_field}
use Rattle.text_numbers.specs.Codes.{codes_field}
use Rattle.line_request.specs.declared.Ask.{Ask}
use Rattle.line_request.specs.declared.Ask.TheVariants.{Read, Write}
use Rattle.line_fields.specs.Fields.{field_in}
use Rattle.line_request.specs.Ask.{is_letter, is_either, is_open, shaped, is_write, count_in, counted_ask, ask_of}

-- No letter, where there is not one byte.
pub no_letter_lem : (x : ℕ) (s : List ℕ) → (length s ≡ 1 → ⊥) → false ≡ is_letter x s
unfolding is_letter
no_letter_lem x s h = rw (ne_eqb (length s) 1 h)

-- Where there is, it is the letter or not.
pub letter_first : (x : ℕ) (s : List ℕ) → length s ≡ 1 → eqb (get_or s 0 0) x ≡ is_letter x s
unfolding is_letter
letter_first x s h = rw (eq-eqb (length s) 1 h)

-- a line's length, and its codes and list
pub record Fields (line : List ℕ) : Type 0 where
  pub long : length line ≤ 32768
  pub codes : codes_field (field_in line 2) ≡ true
  pub list : hex_field (field_in line 4) ≡ true

-- What a shape says.
shape : (letter n : ℕ) (line : List ℕ) → ltb 32768 (length line) ≡ false → shaped letter n line ≡ true → Fields line
unfolding shaped
shape letter n line b e =
    let k = (and-eq-true_iff (is_letter letter (field_in line 0)) _).0 e in
    let f = (and-eq-true_iff (eqb (length (split 9 line)) n) _).0 k.1 in
    let g = (and-eq-true_iff (is_either 79 83 (field_in line 1)) _).0 f.1 in
    let h = (and-eq-true_iff (codes_field (field_in line 2)) (hex_field (field_in line 4))).0 g.1 in
    record { long = ltb-false 32768 (length line) b; codes = h.0; list = h.1 }

module _ {«open» : Bool} {count : ℕ} where
  -- A malformed line asks no read.
  no_read : {A : Type 0} → None ≡ Some (Read «open» count) → A
  no_read e = let z : ◌≡◌ {A = ℕ} 0 1 = cc in absurd (omega arith)

  -- Nor a write.
  no_write : {A : Type 0} → None ≡ Some (Write «open» count) → A
  no_write e = let z : ◌≡◌ {A = ℕ} 0 1 = cc in absurd (omega arith)

  -- The tests that a read has passed.
  read_tests
      : (s w o : Bool) (n : ℕ) → cond s (Some (Read o n)) (cond w (Some (Write o n)) None) ≡ Some (Read «open» count) → s ≡ true
  read_tests true w o n e = refl
  read_tests false true o n e = let z : ◌≡◌ {A = ℕ} 0 1 = cc in absurd (omega arith)
  read_tests false false o n e = no_read e

  -- Those that a write has passed.
  write_tests
      : (s w o : Bool) (n : ℕ) → cond s (Some (Read o n)) (cond w (Some (Write o n)) None) ≡ Some (Write «open» count) → w ≡ true
  write_tests true w o n e = let z : ◌≡◌ {A = ℕ} 0 1 = cc in absurd (omega arith)
  write_tests false true o n e = refl
  write_tests false false o n e = no_write e

  module _ (line : List ℕ) where
    -- By the count of a read.
    read_counted : (m : Option ℕ) → counted_ask line m ≡ Some (Read «open» count) → shaped 82 5 line ≡ true
    read_counted (Some n) e = read_tests (shaped 82 5 line) (is_write line) (is_open line) n e
    read_counted None e = no_read e

    -- By that of a write.
    write_counted : (m : Option ℕ) → counted_ask line m ≡ Some (Write «open» count) → is_write line ≡ true
    write_counted (Some n) e = write_tests (shaped 82 5 line) (is_write line) (is_open line) n e
    write_counted None e = no_write e

    -- A read's line is not too long.
    read-long
        : (b : Bool) → cond b None (counted_ask line (count_in line)) ≡ Some (Read «open» count)
        → (b ≡ false) × (shaped 82 5 line ≡ true)
    read-long true e = no_read e
    read-long false e = (refl, read_counted (count_in line) e)

    -- Nor is a write's.
    write-long
        : (b : Bool) → cond b None (counted_ask line (count_in line)) ≡ Some (Write «open» count)
        → (b ≡ false) × (is_write line ≡ true)
    write-long true e = no_write e
    write-long false e = (refl, write_counted (count_in line) e)

    -- The fields of a read.
    pub read_fields_lem : ask_of line ≡ Some (Read «open» count) → Fields line
    unfolding ask_of
    read_fields_lem e = let t = read-long (ltb 32768 (length line)) e in shape 82 5 line t.0 t.1

    -- Those of a write, which has data too.
    pub write_fields_lem : ask_of line ≡ Some (Write «open» count) → Fields line × (hex_field (field_in line 5) ≡ true)
    unfolding ask_of is_write
    write_fields_lem e =
        let t = write-long (ltb 32768 (length line)) e in
        let d = (and-eq-true_iff (shaped 87 6 line) (hex_field (field_in line 5))).0 t.1 in
        (shape 87 6 line t.0 d.0, d.1)
