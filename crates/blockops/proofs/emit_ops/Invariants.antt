-- The operations from position i on are left.
use Rattle.block.specs.Block.{ops_of}
use Rattle.lowering.specs.Steps.{ops_steps}
use Rattle.lower.proofs.Loop.{Left}
use Rattle.blockops.proofs.Loop.{steps_from}
use Rattle.blockops.proofs.emit_ops.Given as goal

abbrev pub invariant-loop-i : goal.invariant-loop-i
invariant-loop-i l = Left (ops_steps 0 l.b.pc0 (ops_of l.b)) l.initial.asm l.initial.g (steps_from l.ops l.i l.pc) l.asm l.g
