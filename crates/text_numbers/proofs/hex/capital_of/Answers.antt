-- `hex::capital_of` meets its contract. Assumes nothing.
use Rattle.text_numbers.specs.Hex.{capital}
use Rattle.byte_parts.proofs.Tests.{tests}
use Rattle.text_numbers.proofs.hex.capital_of.Goals as goal

pub returns-then-d-lt10 : goal.returns-then-d-lt10
unfolding capital
returns-then-d-lt10 c = search tests

pub returns-else-d-lt10 : goal.returns-else-d-lt10
unfolding capital
returns-else-d-lt10 c = search tests
