-- The registers from r on are left.
use Prim.Native.Nat.{◌+◌, ◌-◌}
use Rattle.block.specs.Block.{saved}
use Rattle.lowering.specs.Steps.{pop_all}
use Rattle.lower.proofs.Loop.{Left}
use Rattle.groups.proofs.Saved.{pops}
use Rattle.groups.proofs.pop_regs.Given as goal

abbrev pub invariant-loop-r : goal.invariant-loop-r
invariant-loop-r l = Left (pop_all l.i (saved l.n)) l.initial.asm l.initial.g (pops l.i l.r (l.r-end + 1 - l.r)) l.asm l.g
