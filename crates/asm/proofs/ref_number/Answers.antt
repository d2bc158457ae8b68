-- The number of the label or of the entry, and the number of the kind.
use native.Mathlib.Omega.{arith}
use Rattle.asm.specs.State.{ref_no}
use Rattle.asm.proofs.ref_number.Goals as goal

pub returns-in-ToLabel : goal.returns-in-ToLabel
unfolding ref_no
returns-in-ToLabel c = rw c.in-ToLabel.is (omega (arith, c.fix_number.ensures.0))

pub returns-in-ToPool : goal.returns-in-ToPool
unfolding ref_no
returns-in-ToPool c = rw c.in-ToPool.is
