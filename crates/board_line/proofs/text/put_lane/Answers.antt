-- `text::put_lane` meets its contract: an empty lane, or a filled one. Assumes nothing.
use native.Mathlib.Omega.{arith}
use mathlib.Core.Path.{sym, ◌∙◌}
use mathlib.Core.List.{[], ◌∷◌}
use lib.ListN.{length-append}
use Rattle.text_numbers.specs.Decimal.{dec_text}
use Rattle.text_numbers.proofs.DecimalLaws.{long_one}
use Rattle.text_stream.proofs.Prints.{written-more}
use Rattle.text_print.specs.Print.{closed}
use Rattle.board_lanes.specs.Board.{race_of, crew_of}
use Rattle.board_lanes.proofs.LaneLaws.{crew_most, lane-empty, lane-filled}
use Rattle.board_line.proofs.TextLaws.{race_room, empty-line}
use Rattle.board_line.proofs.text.put_lane.Goals as goal

pub put_word-requires : goal.put_word-requires
put_word-requires c =
    omega (arith, c.put_number-next.ensures.written.place, long_one c.args.lane c.requires.0, length-append (dec_text c.args.lane) (9 ∷ []))

pub returns-then-is_empty-clause-written : goal.returns-then-is_empty-clause-written
returns-then-is_empty-clause-written c =
    let a = c.args in
    rw (lane-empty a.b.now (sym c.is_empty.ensures ∙ c.if-is_empty.true), empty-line a.lane)
    (written-more (closed 9 (dec_text a.lane)) (closed 10 (45 ∷ 9 ∷ 45 ∷ [])) c.put_number-next.ensures.written c.put_word.ensures.written)

pub returns-then-is_empty-clause-upper_bound : goal.returns-then-is_empty-clause-upper_bound
returns-then-is_empty-clause-upper_bound c =
    omega (arith, c.put_number-next.ensures.written.place, long_one c.args.lane c.requires.0, length-append (dec_text c.args.lane) (9 ∷ []), c.put_word.ensures.upper_bound)

pub put_number-after-requires : goal.put_number-after-requires
put_number-after-requires c =
    omega (arith, c.put_number-next.ensures.written.place, long_one c.args.lane c.requires.0, length-append (dec_text c.args.lane) (9 ∷ []))

pub put_word-requires-2 : goal.put_word-requires-2
put_word-requires-2 c =
    let a = c.args in
    let n = c.race.result in
    rw c.crew_of.ensures (omega (
      arith,
      c.put_number-next.ensures.written.place,
      long_one a.lane c.requires.0,
      length-append (dec_text a.lane) (9 ∷ []),
      c.put_number-after.ensures.written.place,
      race_room n c.race.ensures.1,
      length-append (dec_text n) (9 ∷ []),
      crew_most a.b.now,
    ))

pub returns-clause-written : goal.returns-clause-written
returns-clause-written c =
    let a = c.args in
    let w = written-more (closed 9 (dec_text a.lane)) (closed 9 (dec_text (race_of a.b.now))) c.put_number-next.ensures.written (rw c.race.ensures.0 at c.put_number-after.ensures.written) in
    rw (lane-filled a.b.now (sym c.is_empty.ensures ∙ c.if-is_empty.false))
    (written-more _ (closed 10 (crew_of a.b.now)) w (rw c.crew_of.ensures at c.put_word-2.ensures.written))

pub returns-clause-upper_bound : goal.returns-clause-upper_bound
returns-clause-upper_bound c =
    let a = c.args in
    let n = c.race.result in
    omega (
      arith,
      c.put_number-next.ensures.written.place,
      long_one a.lane c.requires.0,
      length-append (dec_text a.lane) (9 ∷ []),
      c.put_number-after.ensures.written.place,
      race_room n c.race.ensures.1,
      length-append (dec_text n) (9 ∷ []),
      rw c.crew_of.ensures at c.put_word-2.ensures.upper_bound,
      crew_most a.b.now,
    )
