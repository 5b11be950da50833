-- The fields that answer a question to a card, after its name: parted by tabs (9) and ended by LF (10).
use Rattle.std.specs.Prelude.{ℕ, Bool, true, false, List, [], ◌∷◌, Result, Err, Ok}
use Rattle.byte_parts.specs.Letters.{lf, e, n, o, s, y}
use Rattle.text_numbers.specs.Decimal.{dec_text}
use Rattle.text_numbers.specs.Hex.{hex_text}
use Rattle.text_print.specs.Print.{closed, four_digits}
use Rattle.node_messages.specs.CodeList.{code_list_bytes}
use Rattle.node_messages.specs.Information.{information_bytes}
use Rattle.card_build.specs.declared.card.Card.{Card}
use Rattle.card_build.specs.Card.{nodes_of}
use Rattle.card_questions.specs.Total.{total_answer}
use Rattle.card_questions.specs.Keys.{version_answer, area_list_answer, service_list_answer}
use Rattle.card_questions.specs.Directory.{directory_of, directory_answer}
use Rattle.card_lists.specs.Packet.{code_list_of, code_list_put}
use Rattle.card_lists.specs.Information.{blocks_told, blocks_put}
use Rattle.request_block.specs.Block.{stored_block}
use Rattle.inspect_fields.specs.Fields.{refusal_told}
use Rattle.answers.specs.declared.refusal.Refusal.{Refusal}

-- `list`, `info`: the message's bytes, where the writer wrote them
abbrev pub put_fields : List ℕ → Result ℕ Refusal → List ℕ
put_fields message (Ok n) = closed lf (hex_text message)
put_fields message (Err refusal) = refusal_told refusal

-- how many bytes it wrote
abbrev pub size_of : Result ℕ Refusal → ℕ
size_of (Ok n) = n
size_of (Err refusal) = 0

unfoldable pub list_fields : Card → ℕ → ℕ → ℕ → List ℕ
list_fields c parent p room = put_fields (code_list_bytes (code_list_of c parent p).list) (code_list_put c parent p room)

unfoldable pub info_fields : Card → ℕ → List ℕ → ℕ → List ℕ
info_fields c arena_len asked room = put_fields (information_bytes (blocks_told c arena_len asked).told) (blocks_put c arena_len asked room)

-- `ver`, `total`: the key version, or the total, of a code
abbrev pub told_answer : Bool → Card → ℕ → Result ℕ Refusal
told_answer true c code = version_answer c code
told_answer false c code = total_answer c code

-- a version has four digits, a total is a decimal
abbrev pub count_text : Bool → ℕ → List ℕ
count_text true n = four_digits (n ∷ [])
count_text false n = dec_text n

abbrev pub told_fields : Bool → Result ℕ Refusal → List ℕ
told_fields version (Ok n) = closed lf (count_text version n)
told_fields version (Err refusal) = refusal_told refusal

-- `dir`: pairs, where an output of so many numbers has room for one of each node
abbrev pub listing_fields : List ℕ → Result ℕ Refusal → List ℕ
listing_fields pairs (Ok n) = closed lf (four_digits pairs)
listing_fields pairs (Err refusal) = refusal_told refusal

unfoldable pub directory_fields : Card → ℕ → List ℕ
directory_fields c numbers = listing_fields (directory_of (nodes_of c)) (directory_answer c numbers)

-- `areas`, `svcs`: whether a list of areas, or of services, is well formed, `yes` or `no`
abbrev pub list_answer : Bool → Card → List ℕ → Result Bool Refusal
list_answer true c codes = area_list_answer c codes
list_answer false c codes = service_list_answer c codes

abbrev pub checked_fields : Result Bool Refusal → List ℕ
checked_fields (Ok true) = closed lf (y ∷ e ∷ s ∷ [])
checked_fields (Ok false) = closed lf (n ∷ o ∷ [])
checked_fields (Err refusal) = refusal_told refusal

-- `block`: the stored block, `-` if there is none
abbrev pub block_fields : Card → List ℕ → ℕ → ℕ → List ℕ
block_fields c a code number = closed lf (hex_text (stored_block c a code number))

-- `used`: the blocks in use
abbrev pub used_fields : Card → List ℕ
used_fields c = closed lf (dec_text c.used)
