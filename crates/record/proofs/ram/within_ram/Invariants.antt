-- `within_ram` meets its contract. The loop's invariant: the definition, from this operation on, with `room` bytes left to RAM's end, gives
-- what it gives from the first; a field has at most 65,538 bytes, so `at` fits.
use Prim.Native.Nat.{◌+◌, ◌*◌, ◌≤◌}
use mathlib.Core.Path.{◌≡◌}
use lib.ListN.{drop}
use Rattle.block.specs.Block.{ops_of}
use Rattle.record.specs.Record.{accepted, in_ram}
use Rattle.record.proofs.ram.within_ram.Given as goal

abbrev pub invariant-loop-op : goal.invariant-loop-op
invariant-loop-op l =
    (l.at ≤ 96 + 65538 * l.op-index)
    × (in_ram (drop l.op-index (ops_of l.b)) l.s l.at l.room (accepted l.b) ≡ in_ram (ops_of l.b) l.s 96 l.initial.room (accepted l.b))
