-- The line that answers a question: its name and the fields of its answer.
use Rattle.std.specs.Prelude.{ℕ, ◌/◌, min, true, false, List, [], ◌∷◌, ◌++◌, length, take, get_or}
use Rattle.byte_parts.specs.Letters.{lf, tab, what}
use Rattle.text_fields.specs.Field.{split}
use Rattle.text_numbers.specs.Decimal.{dec_text}
use Rattle.text_numbers.specs.Hex.{unhex}
use Rattle.text_numbers.specs.Codes.{codes_of}
use Rattle.text_print.specs.Print.{closed}
use Rattle.card_build.specs.declared.card.Card.{Card}
use Rattle.card_questions.specs.Total.{total_answer}
use Rattle.card_questions.specs.Keys.{version_answer, area_list_answer, service_list_answer}
use Rattle.inspect_ask.specs.declared.Asked.{Asked}
use Rattle.inspect_ask.specs.declared.Asked.TheVariants as asks
use Rattle.inspect_ask.specs.Question.{list_name, info_name, readlist_name, readinfo_name, total_name, ver_name, dir_name, areas_name, svcs_name, block_name, used_name, attr_name, most_room}
use Rattle.inspect_fields.specs.Attribute.{attribute_fields}
use Rattle.inspect_fields.specs.Fields.{field_one, read_fields}
use Rattle.inspect_answer.specs.Fields.{list_fields, info_fields, told_fields, directory_fields, checked_fields, block_fields, used_fields}

-- a line's first field, which is the name of what it asks
abbrev pub field_zero : List ℕ → List ℕ
field_zero line = get_or (split tab line) 0 []

abbrev pub name_of : Asked → List ℕ
name_of (asks.List parent p) = list_name
name_of asks.Info = info_name
name_of asks.ReadList = readlist_name
name_of asks.ReadInfo = readinfo_name
name_of (asks.Total code) = total_name
name_of (asks.Version code) = ver_name
name_of asks.Directory = dir_name
name_of asks.Areas = areas_name
name_of asks.Services = svcs_name
name_of (asks.Block code number) = block_name
name_of asks.Used = used_name
name_of (asks.Attribute code) = attr_name

-- on a card, the arena lent and an output of `room` bytes; `info` and `block` alone go by the arena
-- RULES 19.2
abbrev pub fields_of : Card → List ℕ → ℕ → List ℕ → Asked → List ℕ
fields_of c a room line (asks.List parent p) = list_fields c parent p room
fields_of c a room line asks.Info = info_fields c (length a) (codes_of (field_one line)) room
fields_of c a room line asks.ReadList = read_fields true (unhex (field_one line))
fields_of c a room line asks.ReadInfo = read_fields false (unhex (field_one line))
fields_of c a room line (asks.Total code) = told_fields false (total_answer c code)
fields_of c a room line (asks.Version code) = told_fields true (version_answer c code)
fields_of c a room line asks.Directory = directory_fields c (room / 2)
fields_of c a room line asks.Areas = checked_fields (area_list_answer c (codes_of (field_one line)))
fields_of c a room line asks.Services = checked_fields (service_list_answer c (codes_of (field_one line)))
fields_of c a room line (asks.Block code number) = block_fields c a code number
fields_of c a room line asks.Used = used_fields c
fields_of c a room line (asks.Attribute code) = attribute_fields code

-- lent are the first bytes of the arena, and of an output of 4,096 bytes
-- RULES 19.3
unfoldable pub told_text : Card → List ℕ → ℕ → ℕ → List ℕ → Asked → List ℕ
told_text c arena lent room line asked = closed tab (name_of asked) ++ fields_of c (take lent arena) (min room most_room) line asked

-- `?` (63), line number
-- RULES 19.3
unfoldable pub unknown_text : ℕ → List ℕ
unknown_text number = closed tab (what ∷ []) ++ closed lf (dec_text number)
