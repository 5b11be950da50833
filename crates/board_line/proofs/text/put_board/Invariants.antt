use borrow.Author.Rules.{rules}
use Prim.Native.Nat.{◌+◌, ◌-◌, ◌*◌, ◌≤◌}
use native.Mathlib.Omega.{arith}
use mathlib.Core.Path.{◌≡◌, refl, sym, ap, ◌∙◌}
use lib.ListN.{length}
use Rattle.text_stream.specs.Stream.{Written}
use Rattle.text_stream.proofs.Prints.{written_none, written-more}
use Rattle.board_lanes.specs.Board.{block_at, lane_of, lanes_from}
use Rattle.board_line.specs.Text.{lane_text, lanes_text}
use Rattle.board_line.proofs.TextLaws.{text-more}
use Rattle.board_line.proofs.text.put_board.Given as goal

abbrev pub invariant-loop-k : goal.invariant-loop-k
invariant-loop-k l =
    (l.last ≤ l.at + 21 * l.k) × (length l.out ≡ length l.initial.out) × Written l.initial.out l.at (lanes_text 1 (lanes_from l.bytes l.k 0)) l.last l.out
