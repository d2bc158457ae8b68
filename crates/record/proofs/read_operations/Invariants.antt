-- `read_operations` meets its contract. The loop's invariant: the definition, from `at` on with the operations read so far, gives what it
-- gives from the start; `jumped` says whether the last of the operations jumps. The measure is what is left of the record.
use Prim.Native.Nat.{◌≤◌, ◌-◌}
use mathlib.Core.Path.{◌≡◌}
use lib.ListN.{length}
use Rattle.record.specs.Record.{last_jumps, operations}
use Rattle.record.proofs.read_operations.Given as goal

abbrev pub invariant-loop-at : goal.invariant-loop-at
invariant-loop-at l =
    (l.at ≤ length l.s)
    × (l.block.n ≤ 32)
    × (length l.block.ops ≡ 32)
    × (l.jumped ≡ last_jumps l.block.n l.block.ops)
    × (operations (33 - l.block.n) l.s l.at l.block ≡ operations 33 l.s l.from l.initial.block)

abbrev pub decreases-loop-at : goal.decreases-loop-at
decreases-loop-at l = length l.s - l.at
