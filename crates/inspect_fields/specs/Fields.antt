-- Fields that answer a question and need no card: parted by tabs (9) and ended by LF (10).
use Rattle.std.specs.Prelude.{ℕ, Bool, true, false, List, [], ◌∷◌, ◌++◌, take, get_or, Result, Err, Ok}
use Rattle.byte_parts.specs.Letters.{bang, lf, tab}
use Rattle.answers.specs.declared.refusal.Refusal.{Refusal}
use Rattle.answers.specs.Refusal.{refusal_number}
use Rattle.text_fields.specs.Field.{split}
use Rattle.text_numbers.specs.Decimal.{dec_text}
use Rattle.text_print.specs.Print.{closed, four_digits}
use Rattle.node_messages.specs.declared.code_list.CodeList.{CodeList}
use Rattle.node_messages.specs.declared.information.BlockInformation.{BlockInformation}
use Rattle.node_messages.specs.CodeList.{ranges_of, codes_listed, read_code_list}
use Rattle.node_messages.specs.Information.{node_count, read_information}

-- codes and bytes of a question stand in field 1
abbrev pub field_one : List ℕ → List ℕ
field_one line = get_or (split tab line) 1 []

-- no answer's fields are longer: 4,096 bytes in hex are 8,192 digits
abbrev pub most_fields : ℕ
most_fields = 8256

-- refused: `!` (33), the refusal's number
-- RULES 19.3
unfoldable pub refusal_told : Refusal → List ℕ
refusal_told refusal = closed tab (bang ∷ []) ++ closed lf (dec_text (refusal_number refusal))

-- `readlist`: flag, areas (code and end), services
abbrev pub flag_text : Bool → List ℕ
flag_text true = 49 ∷ []
flag_text false = 48 ∷ []

abbrev pub code_list_fields : CodeList → List ℕ
code_list_fields m = closed tab (flag_text m.more) ++ closed tab (four_digits (ranges_of m)) ++ closed lf (four_digits (codes_listed m))

abbrev pub listed_fields : CodeList → Result Unit Refusal → List ℕ
listed_fields m (Ok tt) = code_list_fields m
listed_fields m (Err refusal) = refusal_told refusal

-- RULES 19.3
unfoldable pub read_list_fields : List ℕ → List ℕ
read_list_fields s = listed_fields (read_code_list s).list (read_code_list s).answer

-- `readinfo`: assigned, free
abbrev pub information_fields : BlockInformation → List ℕ
information_fields m = closed tab (four_digits (take (node_count m) m.assigned)) ++ closed lf (four_digits (take (node_count m) m.free))

abbrev pub informed_fields : BlockInformation → Result Unit Refusal → List ℕ
informed_fields m (Ok tt) = information_fields m
informed_fields m (Err refusal) = refusal_told refusal

-- RULES 19.3
unfoldable pub read_info_fields : List ℕ → List ℕ
read_info_fields s = informed_fields (read_information s).told (read_information s).answer

-- the answer to `readlist`, or to `readinfo`
abbrev pub read_fields : Bool → List ℕ → List ℕ
read_fields true s = read_list_fields s
read_fields false s = read_info_fields s
