-- `stored::put` meets its contract: a byte is put within the buffer, and what is counted is there. Assumes nothing.
use Rattle.std.proofs.Common.{◌<◌, length, sym, ◌∙◌, arith, ltb-true}
use Rattle.test_stored.proofs.put.Goals as goal

-- there is room
has : (c : goal.Then-has_room) → c.args.n < length c.args.out.now
has c = ltb-true _ _ (sym c.has_room.ensures ∙ c.if-has_room.true)

pub bounds-out-n : goal.bounds-out-n
bounds-out-n c = has c

pub returns-then-has_room : goal.returns-then-has_room
returns-then-has_room c = omega (arith, has c)
