-- What a refresh line prints of the blocks that it read. Assumes nothing.
use Prim.Native.Nat.{ℕ}
use mathlib.Core.Path.{◌≡◌, refl, sym, ap, ◌∙◌}
use mathlib.Core.List.{List}
use lib.ListN.{length}
use Rattle.card_build.specs.declared.card.Card.{Card}
use Rattle.board_read.specs.declared.Refreshed.{Refreshed}
use Rattle.board_read.specs.declared.Refreshed.TheVariants.{Board, NoBoard, Card as ByCard}
use Rattle.board_read.specs.Refresh.{board_served, refreshed, blocks_after}
use Rattle.board_read.proofs.Refreshing.{board-bytes}
use Rattle.board_line.specs.Line.{refreshed_text}

-- Only a board prints blocks.
same_text : (ordinal : ℕ) (a b : List ℕ) (x : Refreshed) → (x ≡ Board → a ≡ b) → refreshed_text ordinal a x ≡ refreshed_text ordinal b x
same_text ordinal a b Board h = rw (h refl)
same_text ordinal a b (NoBoard y) h = refl
same_text ordinal a b (ByCard y) h = refl

-- The blocks lent are those read.
pub text-read
    : (card : Card) (arena : List ℕ) (code ordinal : ℕ) (bytes : List ℕ) {x : Refreshed} {blocks : List ℕ} → length card.nodes ≡ 64 → length bytes ≡ 128
    → x ≡ refreshed card arena code (length bytes) → blocks ≡ blocks_after card arena code bytes
    → refreshed_text ordinal blocks x ≡ refreshed_text ordinal (board_served card arena code (length bytes)).read (refreshed card arena code (length bytes))
text-read card arena code ordinal bytes h n e b =
    rw (e, b)
    (same_text ordinal (blocks_after card arena code bytes) (board_served card arena code (length bytes)).read (refreshed card arena code (length bytes))
    (board-bytes card arena code bytes h n))
