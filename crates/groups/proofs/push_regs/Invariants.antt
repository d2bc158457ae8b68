-- The registers from r down are left.
use mathlib.Core.List.{reverse}
use Prim.Native.Nat.{◌+◌, ◌-◌}
use Rattle.block.specs.Block.{saved}
use Rattle.lowering.specs.Steps.{push_all}
use Rattle.lower.proofs.Loop.{Left}
use Rattle.groups.proofs.Saved.{pushes}
use Rattle.groups.proofs.push_regs.Given as goal

abbrev pub invariant-loop-r : goal.invariant-loop-r
invariant-loop-r l = Left (push_all l.i (reverse (saved l.n))) l.initial.asm l.initial.g (pushes l.i l.r-start (l.r + 1 - l.r-start)) l.asm l.g
