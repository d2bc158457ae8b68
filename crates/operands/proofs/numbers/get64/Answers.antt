-- `get64` meets its contract: two halves.
use Rattle.operands.specs.Numbers.{num64}
use Rattle.operands.proofs.numbers.get64.Goals as goal

pub returns : goal.returns
unfolding num64
returns c = cc
