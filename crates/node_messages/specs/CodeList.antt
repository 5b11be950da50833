-- The code list: flag, area count, code and end of each area, service count, codes.
use Rattle.std.specs.Prelude.{ℕ, ◌+◌, ◌-◌, ◌*◌, min, List, ◌∷◌, ◌++◌, Bool, false, cond, ◌&&◌, eqb, leb, length, get_or, take, drop, replicate, Ok, Err}
use Rattle.byte_parts.specs.Values.{flag_of}
use Rattle.byte_parts.specs.Part.{padded}
use Rattle.answers.specs.declared.refusal.Refusal.{Refusal}
use Rattle.answers.specs.declared.refusal.Refusal.TheVariants.{NotAMessage}
use Rattle.node_messages.specs.declared.code_list.CodeList.{CodeList}
use Rattle.node_messages.specs.declared.code_list.Listed.{Listed}
use Rattle.node_messages.specs.Numbers.{numbers_bytes, numbers_in}

-- the most entries of a packet, areas and services together
abbrev pub most_entries : ℕ
most_entries = 16

-- how many areas and services of a list are written: a list that counts more than sixteen entries is cut to them
abbrev pub areas_of : CodeList → ℕ
areas_of m = min m.areas most_entries

abbrev pub services_of : CodeList → ℕ
services_of m = min m.services (most_entries - areas_of m)

-- those areas, a code and an end each, and those services
abbrev pub ranges_of : CodeList → List ℕ
ranges_of m = take (2 * areas_of m) m.ranges

abbrev pub codes_listed : CodeList → List ℕ
codes_listed m = take (services_of m) m.codes

-- a list as bytes
-- RULES 18.5
unfoldable pub code_list_bytes : CodeList → List ℕ
code_list_bytes m = flag_of m.more ∷ areas_of m ∷ numbers_bytes (ranges_of m) ++ (services_of m ∷ numbers_bytes (codes_listed m))

-- the counts that bytes hold; where there is no such byte, 0
abbrev pub areas_in : List ℕ → ℕ
areas_in s = get_or s 1 0

abbrev pub services_in : List ℕ → ℕ
services_in s = get_or s (2 + 4 * areas_in s) 0

-- at most sixteen entries in all, and exactly as many bytes as they take
unfoldable pub is_counted : List ℕ → Bool
is_counted s = leb (areas_in s + services_in s) most_entries && eqb (length s) (3 + 4 * areas_in s + 2 * services_in s)

-- flag 0 or 1, at most sixteen entries in all, and exactly as many bytes as they take
-- RULES 18.6
unfoldable pub is_code_list : List ℕ → Bool
is_code_list s =
    leb (get_or s 0 0) 1 && (leb (areas_in s + services_in s) most_entries && eqb (length s) (3 + 4 * areas_in s + 2 * services_in s))

-- what bytes read as; unused entries are 0
abbrev pub code_list_in : List ℕ → CodeList
code_list_in s = record {
  more = eqb (get_or s 0 0) 1;
  areas = areas_in s;
  ranges = padded 32 (numbers_in (2 * areas_in s) (drop 2 s));
  services = services_in s;
  codes = padded 16 (numbers_in (services_in s) (drop (3 + 4 * areas_in s) s));
}

-- the list of no entries, the last one
abbrev pub empty_list : CodeList
empty_list = record { more = false; areas = 0; ranges = replicate 32 0; services = 0; codes = replicate 16 0 }

-- a list, or why there is none
abbrev pub list_told : CodeList → Listed
list_told m = record { list = m; answer = Ok tt }

abbrev pub list_refused : Refusal → Listed
list_refused r = record { list = empty_list; answer = Err r }

-- 47 for all other bytes
-- RULES 18.6
unfoldable pub read_code_list : List ℕ → Listed
read_code_list s = cond (is_code_list s) (list_told (code_list_in s)) (list_refused NotAMessage)
