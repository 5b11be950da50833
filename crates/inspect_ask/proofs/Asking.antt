-- A question that was read has what it wants in its line: codes or bytes in field 1, and no more than 32,768 bytes. Assumes nothing.
use Rattle.std.proofs.Common.{Option, Some, None}
use Prim.{Unit, tt}
use Prim.Native.Nat.{ℕ, ◌≤◌}
use native.Mathlib.Omega.{arith}
use native.Mathlib.Decide.{dec_lt}
use mathlib.Core.Path.{◌≡◌, refl, sym, ap, ◌∙◌}
use mathlib.Core.Bool.{Bool, true, false, cond}
use mathlib.Core.List.{List, []}
use lib.ListN.{length, get_or}
use borrow.Author.Tests.{lt-ltb, le-ltb}
use Rattle.text_fields.specs.Field.{split}
use Rattle.text_numbers.specs.Hex.{hex_field}
use Rattle.text_numbers.specs.Codes.{codes_field}
use Rattle.line_fields.specs.Fields.{code_at, number_at, form}
use Rattle.line_fields.proofs.Said.{either, on_code, on_number}
use Rattle.inspect_ask.specs.declared.Asked.{Asked}
use Rattle.inspect_ask.specs.declared.Asked.TheVariants as asks
use Rattle.inspect_ask.specs.declared.Single.TheVariants as singles
use Rattle.inspect_ask.specs.declared.Question.{Question}
use Rattle.inspect_ask.specs.declared.Question.TheVariants.{Of, Room, Arena}
use Rattle.inspect_ask.specs.Question.{list_name, info_name, readlist_name, readinfo_name, total_name, ver_name, dir_name, areas_name, svcs_name, block_name, used_name, attr_name, room_name, arena_name, list_line, block_question, code_line, codes_line, bytes_line, room_line, arena_line, lent_asked, stored_asked, lists_asked, card_asked, bytes_asked, message_asked, question_of}

-- whether field 1 is codes, and whether it is bytes
abbrev pub Wants : Bool → Bool → Asked → Type 0
Wants c b (asks.List parent p) = Unit {0}
Wants c b asks.Info = c ≡ true
Wants c b asks.ReadList = b ≡ true
Wants c b asks.ReadInfo = b ≡ true
Wants c b (asks.Total code) = Unit {0}
Wants c b (asks.Version code) = Unit {0}
Wants c b asks.Directory = Unit {0}
Wants c b asks.Areas = c ≡ true
Wants c b asks.Services = c ≡ true
Wants c b (asks.Block code number) = Unit {0}
Wants c b asks.Used = Unit {0}
Wants c b (asks.Attribute code) = Unit {0}

abbrev Has : Bool → Bool → Option Question → Type 0
Has c b None = Unit {0}
Has c b (Some (Of asked)) = Wants c b asked
Has c b (Some (Room n)) = Unit {0}
Has c b (Some (Arena n)) = Unit {0}

-- a test that the question wants
tested : (c b t : Bool) (asked : Asked) → (t ≡ true → Wants c b asked) → Has c b (cond t (Some (Of asked)) None)
tested c b true asked p = p refl
tested c b false asked p = tt

module _ (fs : List (List ℕ)) where
  abbrev are_codes : Bool
  are_codes = codes_field (get_or fs 1 [])

  abbrev are_bytes_lem : Bool
  are_bytes_lem = hex_field (get_or fs 1 [])

  on_codes : (asked : Asked) → (are_codes ≡ true → Wants are_codes are_bytes_lem asked) → Has are_codes are_bytes_lem (codes_line asked fs)
  unfolding codes_line
  on_codes asked p = tested are_codes are_bytes_lem are_codes asked p

  on_bytes : (asked : Asked) → (are_bytes_lem ≡ true → Wants are_codes are_bytes_lem asked) → Has are_codes are_bytes_lem (bytes_line asked fs)
  unfolding bytes_line
  on_bytes asked p = tested are_codes are_bytes_lem are_bytes_lem asked p

  -- what a question has in its line
  abbrev Its : Option Question → Type 0
  Its = Has are_codes are_bytes_lem

  on_lent : Its (lent_asked fs)
  unfolding lent_asked room_line arena_line
  on_lent =
      either Its (form room_name 2 fs) (room_line fs) _ (on_number Its None tt (number_at fs 1 4096) (λ n. Some (Room n)) (λ n. tt))
      (either Its (form arena_name 2 fs) (arena_line fs) None (on_number Its None tt (number_at fs 1 65536) (λ n. Some (Arena n)) (λ n. tt)) tt)

  on_stored : Its (stored_asked fs)
  unfolding stored_asked block_question code_line
  on_stored =
      either Its (form block_name 3 fs) (block_question fs) _ (on_code Its None tt (code_at fs 1) _ (λ n. on_number Its None tt (number_at fs 2 4294967295) _ (λ m. tt)))
      (either Its (form used_name 1 fs) (Some (Of asks.Used)) _ tt
      (either Its (form attr_name 2 fs) (code_line singles.Attribute fs) (lent_asked fs) (on_code Its None tt (code_at fs 1) _ (λ n. tt)) on_lent))

  on_lists : Its (lists_asked fs)
  unfolding lists_asked
  on_lists =
      either Its (form areas_name 2 fs) (codes_line asks.Areas fs) _ (on_codes asks.Areas (λ e. e))
      (either Its (form svcs_name 2 fs) (codes_line asks.Services fs) (stored_asked fs) (on_codes asks.Services (λ e. e)) on_stored)

  on_card : Its (card_asked fs)
  unfolding card_asked code_line
  on_card =
      either Its (form total_name 2 fs) (code_line singles.Total fs) _ (on_code Its None tt (code_at fs 1) _ (λ n. tt))
      (either Its (form ver_name 2 fs) (code_line singles.Version fs) _ (on_code Its None tt (code_at fs 1) _ (λ n. tt))
      (either Its (form dir_name 1 fs) (Some (Of asks.Directory)) (lists_asked fs) tt on_lists))

  on_read : Its (bytes_asked fs)
  unfolding bytes_asked
  on_read =
      either Its (form readlist_name 2 fs) (bytes_line asks.ReadList fs) _ (on_bytes asks.ReadList (λ e. e))
      (either Its (form readinfo_name 2 fs) (bytes_line asks.ReadInfo fs) (card_asked fs) (on_bytes asks.ReadInfo (λ e. e)) on_card)

  on_message : Its (message_asked fs)
  unfolding message_asked list_line
  on_message =
      either Its (form list_name 3 fs) (list_line fs) _ (on_code Its None tt (code_at fs 1) _ (λ n. on_number Its None tt (number_at fs 2 4294967295) _ (λ m. tt)))
      (either Its (form info_name 2 fs) (codes_line asks.Info fs) (bytes_asked fs) (on_codes asks.Info (λ e. e)) on_read)

-- a question of the card is not unknown
known : Option Question → ℕ
known None = 0
known (Some (Of asked)) = 1
known (Some (Room n)) = 1
known (Some (Arena n)) = 1

module _ (line : List ℕ) (asked : Asked) (e : question_of line ≡ Some (Of asked)) where
  -- The line is short enough.
  pub asked_short : length line ≤ 32768
  unfolding question_of known
  asked_short =
      elim (dec_lt 32768 (length line)) [
        | yes h ↦ absurd (let x : question_of line ≡ None = rw (lt-ltb 32768 (length line) h) in let z : ◌≡◌ {A = ℕ} 0 1 = sym (ap known x) ∙ ap known e in omega arith)
        | no h ↦ omega arith
      ]

  -- And has what the question wants.
  pub asked_wants : Wants (codes_field (get_or (split 9 line) 1 [])) (hex_field (get_or (split 9 line) 1 [])) asked
  unfolding question_of
  asked_wants =
      let h = asked_short in
      let x : message_asked (split 9 line) ≡ Some (Of asked) = rw (le-ltb 32768 (length line) h) at e in
      rw x at (on_message (split 9 line))
