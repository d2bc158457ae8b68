-- A block of which only some fields matter: a method of `Gen` is given these, and not the block.
use Rattle.std.specs.Prelude.{[]}
use Rattle.block.specs.declared.Layout.{Layout}
use Rattle.block.specs.declared.Memory.{Memory}
use Rattle.block.specs.declared.Addresses.{Addresses}
use Rattle.block.specs.declared.Block.{Block}
use Rattle.block.specs.Block.{no_guard}

abbrev pub given : Layout → Memory → Addresses → Block
given lay mem addr = record { layout = lay; memory = mem; addresses = addr; pc0 = 0; guard = no_guard; ops = []; n = 0 }
