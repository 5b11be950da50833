-- The first field of a question's line is its name. Assumes nothing.
use Rattle.std.proofs.Common.{Option, Some, None}
use Prim.{Unit, tt}
use Prim.Native.Nat.{ℕ, ◌≤◌}
use native.Mathlib.Omega.{arith}
use mathlib.Core.Path.{◌≡◌, refl}
use mathlib.Core.Bool.{Bool, true, false, cond, and-eq-true_iff}
use mathlib.Core.List.{List, []}
use lib.Dec.{eqb}
use lib.ListN.{length, get_or}
use borrow.Author.Tests.{le-ltb}
use Rattle.byte_parts.specs.Part.{same_bytes}
use Rattle.byte_parts.proofs.Part.{same_equal}
use Rattle.text_fields.specs.Field.{split}
use Rattle.text_numbers.specs.Hex.{hex_field}
use Rattle.text_numbers.specs.Codes.{codes_field}
use Rattle.line_fields.specs.Fields.{code_at, number_at, named, form}
use Rattle.line_fields.proofs.Said.{on_code, on_number}
use Rattle.inspect_ask.specs.declared.Asked.{Asked}
use Rattle.inspect_ask.specs.declared.Asked.TheVariants as asks
use Rattle.inspect_ask.specs.declared.Single.TheVariants as singles
use Rattle.inspect_ask.specs.declared.Question.{Question}
use Rattle.inspect_ask.specs.declared.Question.TheVariants.{Of, Room, Arena}
use Rattle.inspect_ask.specs.Question.{list_name, info_name, readlist_name, readinfo_name, total_name, ver_name, dir_name, areas_name, svcs_name, block_name, used_name, attr_name, room_name, arena_name, list_line, block_question, code_line, codes_line, bytes_line, room_line, arena_line, lent_asked, stored_asked, lists_asked, card_asked, bytes_asked, message_asked, question_of}
use Rattle.inspect_ask.proofs.Asking.{asked_short}
use Rattle.inspect_answer.specs.Answer.{field_zero, name_of}

-- a field is the name of the question, if there is one
abbrev Named : List ℕ → Option Question → Type 0
Named f None = Unit {0}
Named f (Some (Of asked)) = f ≡ name_of asked
Named f (Some (Room n)) = Unit {0}
Named f (Some (Arena n)) = Unit {0}

module _ (fs : List (List ℕ)) where
  abbrev first : List ℕ
  first = get_or fs 0 []

  -- a line of a form has the form's name
  formed : (name : List ℕ) (n : ℕ) → form name n fs ≡ true → first ≡ name
  unfolding form named
  formed name n e = same_equal first name ((and-eq-true_iff (same_bytes first name) (eqb (length fs) n)).0 e).0

  by : (name : List ℕ) (n : ℕ) (x y : Option Question) → (first ≡ name → Named first x) → Named first y → Named first (cond (form name n fs) x y)
  by name n x y p q = go (form name n fs) refl
    where
      go : (t : Bool) → form name n fs ≡ t → Named first (cond t x y)
      go true e = p (formed name n e)
      go false e = q

  tested : (t : Bool) (asked : Asked) → first ≡ name_of asked → Named first (cond t (Some (Of asked)) None)
  tested true asked e = e
  tested false asked e = tt

  on_lent : Named first (lent_asked fs)
  unfolding lent_asked room_line arena_line
  on_lent =
      by room_name 2 (room_line fs) _ (λ e. on_number (Named first) None tt (number_at fs 1 4096) (λ n. Some (Room n)) (λ n. tt))
      (by arena_name 2 (arena_line fs) None (λ e. on_number (Named first) None tt (number_at fs 1 65536) (λ n. Some (Arena n)) (λ n. tt)) tt)

  on_stored : Named first (stored_asked fs)
  unfolding stored_asked block_question code_line
  on_stored =
      by block_name 3 (block_question fs) _ (λ e. on_code (Named first) None tt (code_at fs 1) _ (λ n. on_number (Named first) None tt (number_at fs 2 4294967295) _ (λ m. e)))
      (by used_name 1 (Some (Of asks.Used)) _ (λ e. e)
      (by attr_name 2 (code_line singles.Attribute fs) (lent_asked fs) (λ e. on_code (Named first) None tt (code_at fs 1) _ (λ n. e)) on_lent))

  on_lists : Named first (lists_asked fs)
  unfolding lists_asked codes_line
  on_lists =
      by areas_name 2 (codes_line asks.Areas fs) _ (λ e. tested (codes_field (get_or fs 1 [])) asks.Areas e)
      (by svcs_name 2 (codes_line asks.Services fs) (stored_asked fs) (λ e. tested (codes_field (get_or fs 1 [])) asks.Services e) on_stored)

  on_card : Named first (card_asked fs)
  unfolding card_asked code_line
  on_card =
      by total_name 2 (code_line singles.Total fs) _ (λ e. on_code (Named first) None tt (code_at fs 1) _ (λ n. e))
      (by ver_name 2 (code_line singles.Version fs) _ (λ e. on_code (Named first) None tt (code_at fs 1) _ (λ n. e))
      (by dir_name 1 (Some (Of asks.Directory)) (lists_asked fs) (λ e. e) on_lists))

  on_bytes : Named first (bytes_asked fs)
  unfolding bytes_asked bytes_line
  on_bytes =
      by readlist_name 2 (bytes_line asks.ReadList fs) _ (λ e. tested (hex_field (get_or fs 1 [])) asks.ReadList e)
      (by readinfo_name 2 (bytes_line asks.ReadInfo fs) (card_asked fs) (λ e. tested (hex_field (get_or fs 1 [])) asks.ReadInfo e) on_card)

  on_message : Named first (message_asked fs)
  unfolding message_asked list_line codes_line
  on_message =
      by list_name 3 (list_line fs) _ (λ e. on_code (Named first) None tt (code_at fs 1) _ (λ n. on_number (Named first) None tt (number_at fs 2 4294967295) _ (λ m. e)))
      (by info_name 2 (codes_line asks.Info fs) (bytes_asked fs) (λ e. tested (codes_field (get_or fs 1 [])) asks.Info e) on_bytes)

-- A line that asks has the question's name in its first field.
pub asked_name : (line : List ℕ) (asked : Asked) → question_of line ≡ Some (Of asked) → field_zero line ≡ name_of asked
unfolding question_of
asked_name line asked e =
    let x : message_asked (split 9 line) ≡ Some (Of asked) = rw (le-ltb 32768 (length line) (asked_short line asked e)) at e in
    rw x at (on_message (split 9 line))

-- No name has more than eight bytes.
pub name_long : (asked : Asked) → length (name_of asked) ≤ 8
name_long (asks.List parent p) = omega arith
name_long asks.Info = omega arith
name_long asks.ReadList = omega arith
name_long asks.ReadInfo = omega arith
name_long (asks.Total code) = omega arith
name_long (asks.Version code) = omega arith
name_long asks.Directory = omega arith
name_long asks.Areas = omega arith
name_long asks.Services = omega arith
name_long (asks.Block code number) = omega arith
name_long asks.Used = omega arith
name_long (asks.Attribute code) = omega arith
