-- The flag of a code list says whether more follow: of a card, and of the library's calls. The statements.
use Rattle.std.specs.Prelude.{ℕ, zero, suc, ◌≤◌, Bool, true, cond, List, [], ◌∷◌, ◌++◌, ◌↔◌, ◌≡◌, length, Some, Ok}
use Rattle.node_messages.specs.declared.code_list.CodeList.{CodeList}
use Rattle.node_messages.specs.declared.code_list.Listed.{Listed}
use Rattle.node_messages.specs.CodeList.{ranges_of, codes_listed, read_code_list}
use Rattle.card_build.specs.declared.card.Card.{Card}
use Rattle.card_build.specs.Card.{nodes_of, is_sound}
use Rattle.card_laws.specs.Children.{area_named, children_at}
use Rattle.card_lists.specs.Packet.{ranges_among, codes_among, code_list_of, code_list_put}
use Rattle.handset_bytes.specs.Card.{card_decoded}
use Rattle.handset_words.specs.Message.{put_as}
use Rattle.law_messages.specs.Told.{list_sent}

-- the flag of a packet is set exactly where the next packet is answered
-- RULES 18.2
abbrev pub MoreExactly : Card → Type 0
MoreExactly c =
    (parent p : ℕ) → (code_list_of c parent p).answer ≡ Ok tt
    → ((code_list_of c parent p).list.more ≡ true) ↔ ((code_list_of c parent (suc p)).answer ≡ Ok tt)

-- the most bytes of a code list: sixteen areas
abbrev pub longest_list : ℕ
longest_list = 67

-- of the library: a call returned 0, and the flag that is read of its message is set exactly where the call for the next packet, with room
-- for any list, returns 0
-- RULES 18.2
abbrev pub LibraryMore : List ℕ → Type 0
LibraryMore s =
    (parent p : ℕ) (out : List ℕ) (room : ℕ) → longest_list ≤ room
    → put_as (code_list_put (card_decoded s) parent p (length out)) ≡ 0
    → ((read_code_list (list_sent s parent p out)).list.more ≡ true) ↔ (put_as (code_list_put (card_decoded s) parent (suc p) room) ≡ 0)

-- answers from packet p on, each next one asked for only where the one before it says that more follow, and at most k of them
unfoldable pub followed : (ℕ → Listed) → ℕ → ℕ → List Listed
followed packet zero p = []
followed packet (suc k) p = packet p ∷ cond (packet p).list.more (followed packet k (suc p)) []

-- what they hold, one after the other
unfoldable pub entries_in : (CodeList → List ℕ) → List Listed → List ℕ
entries_in part [] = []
entries_in part (x ∷ xs) = part x.list ++ entries_in part xs

-- none of them is a refusal
abbrev pub AllAnswered : List Listed → Type 0
AllAnswered [] = Unit {0}
AllAnswered (x ∷ xs) = (x.answer ≡ Ok tt) × AllAnswered xs

-- following the flag from packet 0 on tells each child of an area once, areas and services each in tree order; four packets are enough
pub record TellsAll (c : Card) (parent i k : ℕ) : Type 0 where
  pub areas : entries_in ranges_of (followed (code_list_of c parent) k 0) ≡ ranges_among (children_at (nodes_of c) i)
  pub services : entries_in codes_listed (followed (code_list_of c parent) k 0) ≡ codes_among (children_at (nodes_of c) i)
  pub answered : AllAnswered (followed (code_list_of c parent) k 0)

-- RULES 18.2
abbrev pub CardTellsAll : Card → Type 0
CardTellsAll c = is_sound c ≡ true → (parent i k : ℕ) → area_named (nodes_of c) parent ≡ Some i → 4 ≤ k → TellsAll c parent i k
