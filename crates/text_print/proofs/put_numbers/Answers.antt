-- `text_print::put_numbers` meets its contract: no number, or the digits of all. Assumes nothing.
use native.Mathlib.Omega.{arith}
use Rattle.text_numbers.specs.Hex.{to_hex}
use Rattle.text_stream.proofs.Prints.{written_byte}
use Rattle.text_print.specs.Print.{high_first}
use Rattle.text_print.proofs.Digits.{no_digits_lem, some-digits}
use Rattle.text_print.proofs.put_numbers.Goals as goal

pub returns-then-numbers-eq0 : goal.returns-then-numbers-eq0
returns-then-numbers-eq0 c =
    let a = c.args in
    record {
      written = rw (no_digits_lem a.numbers.now c.if-numbers-eq0.true) c.put_mark.ensures.written;
      upper_bound = omega (arith, c.put_mark.ensures.upper_bound);
    }

pub returns : goal.returns
returns c =
    let a = c.args in
    record {
      written =
          rw (some-digits a.numbers.now c.if-numbers-eq0.false) (written_byte (to_hex (high_first a.numbers.now)) a.end c.put_joined-next.ensures.written);
      upper_bound = omega (arith, c.put_joined-next.ensures.upper_bound);
    }
