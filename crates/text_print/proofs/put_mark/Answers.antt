-- `text_print::put_mark` meets its contract: two bytes are stored. Assumes nothing.
use native.Mathlib.Omega.{arith}
use mathlib.Core.Path.{refl}
use lib.ListN.{length-set}
use Rattle.byte_parts.proofs.Put.{put_two}
use Rattle.text_print.proofs.put_mark.Goals as goal

pub returns : goal.returns
returns c =
    record { written = record { place = refl; bytes = put_two c.args.out.now c.args.at c.args.mark c.args.end }; upper_bound = omega arith }

pub bounds-out-at-2 : goal.bounds-out-at-2
bounds-out-at-2 c = simp length-set (omega arith)
