-- Pieces of the definition of `load` and `store`, as a function of its own emits each.
use Rattle.std.specs.Prelude.{Bool, ◌&&◌, [], ◌∷◌, ◌++◌, ℕ, ◌-◌}
use Rattle.block.specs.declared.Width.{Width}
use Rattle.block.specs.declared.Block.{Block}
use Rattle.block.specs.declared.Memory.{Memory}
use Rattle.block.specs.Block.{bytes}
use Rattle.code.specs.Items.{b, b_cond}
use Rattle.code.specs.Tree.{Depth, under, inner, outer, Code, code, to, ◌then◌}
use Rattle.lowering.specs.declared.RegCache.{RegCache}
use Rattle.lowering.specs.Instrs.{CTX, DONE, RAM, HI, mov, mov_x, mov32, add_i, sub, cmp, indexed}
use Rattle.lowering.specs.Fragments.{align_test, map_test, stores, extended, call}

-- a load by the read helper
abbrev pub by_read : {n : Depth} → Block → RegCache → (f : ℕ) → Width → Bool → (i : ℕ) → Code n
by_read blk rc f w signed i = code (mov 1 0 ∷ mov_x 0 CTX ∷ add_i 2 DONE i ∷ mov32 3 (bytes w)) then call blk rc f then code (extended w signed)

-- a store to RAM, or a jump to the inner block's end
abbrev pub ram_store : {n : Depth} → Memory → Width → (alone : Bool) → Code (under (under n))
ram_store mem w alone =
    align_test (alone && mem.map) w
    then code (mov32 2 mem.ram_base ++ (sub 3 0 2 ∷ (mov32 2 (mem.ram_len - bytes w) ++ (cmp 3 2 ∷ []))))
    then to (b_cond HI) inner
    then map_test mem.map
    then code (indexed (stores w) 1 RAM 3 ∷ [])
    then to b (outer inner)

-- a store by the write helper
abbrev pub by_write : {n : Depth} → Block → RegCache → (f : ℕ) → Width → (i : ℕ) → Code n
by_write blk rc f w i = code (mov 2 1 ∷ mov 1 0 ∷ mov_x 0 CTX ∷ add_i 3 DONE i ∷ mov32 4 (bytes w)) then call blk rc f
