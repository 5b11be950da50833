-- One answer only: the lane board, judged, as records, read and asked by a line.
use mathlib.Core.Path.{refl}
use seplogic.Ra.Ura.{Ura}
use base.Logic.{SProp}
use prog.Memory.{Memory}
use prog.Routine.{Routine}
use types.Logic.{Logic}
use contract.Monad.{Fun}
use Rattle.law_once.specs.One.{OneAnswer, OneSeen}
use Rattle.law_once.proofs.Law.{once, of_one, of_two, result}
use Rattle.board_lanes.specs.contracts.refusal.BoardRefusal.number as board_lanes·BoardRefusal·number
use Rattle.board_lanes.specs.contracts.lanes.judge as board_lanes·judge
use Rattle.board_lanes.specs.contracts.block.block as board_lanes·block
use Rattle.board_lanes.specs.contracts.block.race as board_lanes·race
use Rattle.board_lanes.specs.contracts.block.is_empty as board_lanes·is-empty
use Rattle.board_lanes.specs.contracts.block.crew_of as board_lanes·crew-of
use Rattle.board_lanes.specs.contracts.records.put_records as board_lanes·put-records
use Rattle.board_read.specs.contracts.refresh as board_read·refresh
use Rattle.board_line.specs.contracts.is_board as board_line·is-board
use Rattle.board_line.specs.contracts.board_line as board_line·board-line

module _ {M : Type 1} {𝓤 : Ura M} (𝓛 : Logic 𝓤) (mem : Memory → SProp 𝓤) (run : Routine → Fun 𝓤) where
  pub board_lanes·BoardRefusal·number-once : OneAnswer 𝓤 board_lanes·BoardRefusal·number.ended (board_lanes·BoardRefusal·number.clauses 𝓛 mem run)
  board_lanes·BoardRefusal·number-once κs a g r r' ws ws' = result 𝓤 refl

  pub board_lanes·judge-once : OneAnswer 𝓤 board_lanes·judge.ended (board_lanes·judge.clauses 𝓛 mem run)
  board_lanes·judge-once κs a g r r' ws ws' = result 𝓤 refl

  -- a part of the lent blocks: its bytes are one answer, and nothing is said of where they lie
  pub board_lanes·block-once : OneSeen 𝓤 board_lanes·block.ended (board_lanes·block.clauses 𝓛 mem run) (λ κs x. x.now)
  board_lanes·block-once κs a g r r' ws ws' = result 𝓤 refl

  pub board_lanes·race-once : OneAnswer 𝓤 board_lanes·race.ended (board_lanes·race.clauses 𝓛 mem run)
  board_lanes·race-once κs a g r r' ws ws' = of_one 𝓤 (λ p q. (once p.0 q.0, refl))

  pub board_lanes·is-empty-once : OneAnswer 𝓤 board_lanes·is-empty.ended (board_lanes·is-empty.clauses 𝓛 mem run)
  board_lanes·is-empty-once κs a g r r' ws ws' = result 𝓤 refl

  -- the same of a crew
  pub board_lanes·crew-of-once : OneSeen 𝓤 board_lanes·crew-of.ended (board_lanes·crew-of.clauses 𝓛 mem run) (λ κs x. x.now)
  board_lanes·crew-of-once κs a g r r' ws ws' = result 𝓤 refl

  pub board_lanes·put-records-once : OneAnswer 𝓤 board_lanes·put-records.ended (board_lanes·put-records.clauses 𝓛 mem run)
  board_lanes·put-records-once κs a g r r' ws ws' = of_one 𝓤 (λ p q. (refl, λ i. (tt, (once p q i, tt))))

  pub board_read·refresh-once : OneAnswer 𝓤 board_read·refresh.ended (board_read·refresh.clauses 𝓛 mem run)
  board_read·refresh-once κs a g r r' ws ws' = of_two 𝓤 (λ p p' q q'. (once p q, λ i. (tt, (tt, (tt, (once p' q' i, tt))))))

  pub board_line·is-board-once : OneAnswer 𝓤 board_line·is-board.ended (board_line·is-board.clauses 𝓛 mem run)
  board_line·is-board-once κs a g r r' ws ws' = result 𝓤 refl

  pub board_line·board-line-once : OneAnswer 𝓤 board_line·board-line.ended (board_line·board-line.clauses 𝓛 mem run)
  board_line·board-line-once κs a g r r' ws ws' = of_two 𝓤 (λ p p' q q'. (once p.place q.place, λ i. (tt, (tt, (tt, (tt, (once p.bytes q.bytes i, (tt, tt))))))))
