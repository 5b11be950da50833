-- `digits::digit` meets its contract: the tests that led to a return pick the case of `digit_of`. Assumes nothing.
use native.Mathlib.Omega.{arith}
use Rattle.text_numbers.specs.Digit.{digit_of}
use Rattle.text_numbers.proofs.DigitLaws.{amid, under, past}
use Rattle.text_numbers.proofs.digits.digit.Goals as goal

pub returns-in-48-to-57 : goal.returns-in-48-to-57
unfolding digit_of
returns-in-48-to-57 c = let x = c.args.x in rw (amid 48 57 x (omega arith) (omega arith))

pub returns-in-65-to-70 : goal.returns-in-65-to-70
unfolding digit_of
returns-in-65-to-70 c = let x = c.args.x in rw (past 48 57 x (omega arith), amid 65 70 x (omega arith) (omega arith))

pub returns-in-97-to-102 : goal.returns-in-97-to-102
unfolding digit_of
returns-in-97-to-102 c = let x = c.args.x in rw (past 48 57 x (omega arith), past 65 70 x (omega arith), amid 97 102 x (omega arith) (omega arith))

pub returns-in_default : goal.returns-in_default
unfolding digit_of
returns-in_default c = let x = c.args.x in rw (under 48 57 x (omega arith), under 65 70 x (omega arith), under 97 102 x (omega arith))

pub returns-in_default-2 : goal.returns-in_default-2
unfolding digit_of
returns-in_default-2 c = let x = c.args.x in rw (past 48 57 x (omega arith), under 65 70 x (omega arith), under 97 102 x (omega arith))

pub returns-in_default-3 : goal.returns-in_default-3
unfolding digit_of
returns-in_default-3 c = let x = c.args.x in rw (past 48 57 x (omega arith), past 65 70 x (omega arith), under 97 102 x (omega arith))

pub returns-in_default-4 : goal.returns-in_default-4
unfolding digit_of
returns-in_default-4 c = let x = c.args.x in rw (past 48 57 x (omega arith), past 65 70 x (omega arith), past 97 102 x (omega arith))
