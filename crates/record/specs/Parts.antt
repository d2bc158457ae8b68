-- What the parts of the reader ask of each other.
use Rattle.std.specs.Prelude.{◌≡◌, List, ℕ, ◌+◌, ◌≤◌, length}
use Rattle.block.specs.declared.Block.{Block}
use Rattle.record.specs.Record.{layout_field, memory_field, addresses_field, start_field}

-- fields 01 to 04 have no fault
pub record Faultless (s : List ℕ) : Type 0 where
  pub layout : layout_field s ≡ 0
  pub memory : memory_field s ≡ 0
  pub addresses : addresses_field s ≡ 0
  pub start : start_field s ≡ 0

-- a RAM block as far as it is read: its operations have their places, and it does not start behind RAM's end
pub record Roomy (b : Block) : Type 0 where
  pub count : b.n ≤ 32
  pub size : length b.ops ≡ 32
  pub start : b.pc0 ≤ b.memory.ram_base + b.memory.ram_len
