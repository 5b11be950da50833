-- `text_print::put_word` meets its contract: the word, and the byte after it. Assumes nothing.
use native.Mathlib.Omega.{arith}
use mathlib.Core.Path.{refl}
use Rattle.text_stream.proofs.Prints.{written_byte}
use Rattle.text_print.proofs.put_word.Goals as goal

pub returns : goal.returns
returns c =
    let a = c.args in
    record { written = written_byte a.word.now a.end record { place = refl; bytes = c.copy.ensures }; upper_bound = omega arith }
