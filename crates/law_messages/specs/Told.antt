-- What a card tells is read back: of a card, and of the library's two calls. The statements.
use Rattle.std.specs.Prelude.{ℕ, ◌*◌, ◌≤◌, Bool, List, ◌≡◌, length, take, Ok}
use Rattle.byte_parts.specs.Part.{put}
use Rattle.node_messages.specs.declared.code_list.CodeList.{CodeList}
use Rattle.node_messages.specs.declared.information.BlockInformation.{BlockInformation}
use Rattle.node_messages.specs.CodeList.{code_list_bytes, read_code_list}
use Rattle.node_messages.specs.Information.{information_bytes, read_information}
use Rattle.card_build.specs.declared.card.Card.{Card}
use Rattle.card_lists.specs.Packet.{code_list_of, code_list_put, code_list_out}
use Rattle.card_lists.specs.Information.{blocks_told, blocks_put, blocks_out}
use Rattle.handset_bytes.specs.Card.{card_decoded}
use Rattle.handset_words.specs.Outcome.{answer_as}
use Rattle.handset_words.specs.Message.{put_as, put_after, told_by, numbers_told, list_read, information_read}

-- a code list that a card answers with, written and read, comes back
-- RULES 18.6
abbrev pub ListBack : Card → Type 0
ListBack c =
    (parent p : ℕ) → (code_list_of c parent p).answer ≡ Ok tt
    → read_code_list (code_list_bytes (code_list_of c parent p).list) ≡ code_list_of c parent p

-- what uluvoli_code_list leaves of its output, as many bytes as it says, where it returns 0
abbrev pub list_sent : List ℕ → ℕ → ℕ → List ℕ → List ℕ
list_sent s parent p out =
    take (put_after 0 (code_list_put (card_decoded s) parent p (length out))) (code_list_out (card_decoded s) parent p out)

-- what uluvoli_read_code_list returns and leaves of a message: the list m, in front of what it is lent
pub record ListTaken (m : CodeList) (message areas services : List ℕ) : Type 0 where
  pub returns : answer_as (list_read message (length areas) (length services)) ≡ 0
  pub ranges
      : numbers_told (list_read message (length areas) (length services)) areas
      (2 * (read_code_list message).list.areas) (read_code_list message).list.ranges
      ≡ put areas 0 (2 * m.areas) m.ranges
  pub codes
      : numbers_told (list_read message (length areas) (length services)) services
      (read_code_list message).list.services (read_code_list message).list.codes
      ≡ put services 0 m.services m.codes
  pub area_count
      : (old : ℕ) → told_by {A = ℕ} (list_read message (length areas) (length services)) old (read_code_list message).list.areas
      ≡ m.areas
  pub service_count
      : (old : ℕ) → told_by {A = ℕ} (list_read message (length areas) (length services)) old (read_code_list message).list.services
      ≡ m.services
  pub flag
      : (old : Bool) → told_by {A = Bool} (list_read message (length areas) (length services)) old (read_code_list message).list.more
      ≡ m.more

-- on any bytes of a card: what the one call wrote, returning 0, the other reads as the card's own answer, where its lists find room
-- RULES 18.6
abbrev pub ListCalls : List ℕ → Type 0
ListCalls s =
    (parent p : ℕ) (out areas services : List ℕ) → let m = (code_list_of (card_decoded s) parent p).list in
    put_as (code_list_put (card_decoded s) parent p (length out)) ≡ 0
    → 2 * m.areas ≤ length areas → m.services ≤ length services
    → ListTaken m (list_sent s parent p out) areas services

-- the same of block information
abbrev pub blocks_sent : List ℕ → ℕ → List ℕ → List ℕ → List ℕ
blocks_sent s arena_len asked out =
    take (put_after 0 (blocks_put (card_decoded s) arena_len asked (length out))) (blocks_out (card_decoded s) arena_len asked out)

pub record InformationTaken (m : BlockInformation) (message assigned free : List ℕ) : Type 0 where
  pub returns : answer_as (information_read message (length assigned) (length free)) ≡ 0
  pub counts
      : numbers_told (information_read message (length assigned) (length free)) assigned
      (read_information message).told.count (read_information message).told.assigned
      ≡ put assigned 0 m.count m.assigned
  pub frees
      : numbers_told (information_read message (length assigned) (length free)) free
      (read_information message).told.count (read_information message).told.free
      ≡ put free 0 m.count m.free
  pub nodes
      : (old : ℕ) → told_by {A = ℕ} (information_read message (length assigned) (length free)) old (read_information message).told.count
      ≡ m.count

-- RULES 18.6
abbrev pub InformationCalls : List ℕ → Type 0
InformationCalls s =
    (arena_len : ℕ) (asked out assigned free : List ℕ) → let m = (blocks_told (card_decoded s) arena_len asked).told in
    put_as (blocks_put (card_decoded s) arena_len asked (length out)) ≡ 0
    → m.count ≤ length assigned → m.count ≤ length free
    → InformationTaken m (blocks_sent s arena_len asked out) assigned free
