-- `digits::hex_digit` meets its contract. Assumes nothing.
use Rattle.text_numbers.proofs.DigitLaws.{digit_known}
use Rattle.text_numbers.proofs.digits.hex_digit.Goals as goal

pub returns : goal.returns
returns c = digit_known c.args.x c.requires
