-- `get16` meets its contract: two bytes.
use native.Mathlib.Omega.{arith}
use Rattle.operands.specs.Numbers.{num16}
use Rattle.operands.proofs.numbers.get16.Goals as goal

pub returns : goal.returns
unfolding num16
returns c = (omega (arith, c.from_le_bytes.ensures, c.byte.ensures, c.byte-2.ensures), omega (arith, c.from_le_bytes.type_inv))
