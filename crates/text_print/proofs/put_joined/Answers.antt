-- `text_print::put_joined` meets its contract: the digits of the numbers so far. Assumes nothing.
use native.Mathlib.Omega.{arith}
use mathlib.Core.Path.{◌≡◌, refl}
use mathlib.Core.List.{[], ◌∷◌}
use lib.ListN.{length, take, get_or}
use lib.Seq.{take-length}
use Rattle.text_numbers.specs.Hex.{to_hex}
use Rattle.text_stream.proofs.Prints.{written_none, written-more}
use Rattle.text_print.specs.Print.{high_first}
use Rattle.text_print.proofs.Digits.{none_yet, one_more}
use Rattle.text_print.proofs.put_joined.Goals as goal

pub loop-n-init : goal.loop-n-init
loop-n-init c =
    let a = c.args in
    (omega arith, refl, rw (none_yet a.numbers.now) (written_none a.out.now a.at))

pub put_four-last-requires : goal.put_four-last-requires
put_four-last-requires c = omega (arith, c.loop-n.invariant.0, c.loop-n.invariant.1)

pub loop-n-preserved : goal.loop-n-preserved
loop-n-preserved c =
    let a = c.args in
    let i = c.loop-n.n-index in
    let m = written-more (to_hex (high_first (take i a.numbers.now))) (to_hex (high_first (get_or a.numbers.now i 0 ∷ []))) c.loop-n.invariant.2 c.put_four-last.ensures.written in
    (omega (arith, c.put_four-last.ensures.upper_bound, c.loop-n.invariant.0), omega (arith, c.put_four-last.auto, c.loop-n.invariant.1), rw (one_more a.numbers.now i (omega arith)) m)

pub shape_of-out : goal.shape_of-out
shape_of-out c = omega (arith, c.loop-n.invariant.1)

pub returns : goal.returns
returns c =
    let a = c.args in
    let e : c.loop-n.n-index ≡ length a.numbers.now = omega arith in
    let t : take c.loop-n.n-index a.numbers.now ≡ a.numbers.now = rw e (take-length a.numbers.now) in
    record { written = rw t at c.loop-n.invariant.2; upper_bound = omega (arith, e, c.loop-n.invariant.0) }
