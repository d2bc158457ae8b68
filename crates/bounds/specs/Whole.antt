-- What holds of the code of a block, so that the assembler's tables hold it, every word carries its instruction, and every jump
-- reaches its label.
use Rattle.std.specs.Prelude.{◌≡◌, List, [], ◌++◌, map, ℕ, ◌+◌, ◌*◌, ◌^◌, ◌<◌, ◌≤◌, length, take}
use Rattle.arm.specs.declared.Instr.{Instr}
use Rattle.arm.specs.Instr.{encode}
use Rattle.arm.specs.Decode.{decode, valid}
use Rattle.block.specs.declared.Block.{Block}
use Rattle.code.specs.Items.{Item, Sound, Once, Met, Reach, Rise, places_of, resolve, pad_of, pool_of, halves, size}
use Rattle.code.specs.Tree.{nowhere, words, labels, jumps, whole_items, pool_in, Tests, Fine}
use Rattle.lowering.specs.Fragments.{closing}
use Rattle.lowering.specs.Steps.{block_steps}
use Rattle.lowering.specs.Compile.{block_code, block_lines, starts, targets}

-- the tables: how many words, labels, fix-ups and literals a block has at most
pub record Tables (blk : Block) : Type 0 where
  pub words : length (block_lines blk) ≤ 28155
  pub labels : labels (block_code blk) ≤ 1572
  pub jumps : jumps (block_code blk) ≤ 2634
  pub literals : length (pool_in [] (block_lines blk)) ≤ 5

-- its operands fit, and each test of a bit is near
pub record Carries (blk : Block) : Type 0 where
  pub fine : Fine (block_code blk)
  pub sound : Sound closing
  pub tests : Tests (block_code blk) nowhere 0
  pub short : length (block_lines blk) + 1 + 2 * length (pool_in [] (block_lines blk)) < 2 ^ 18

abbrev pub items_of : Block → List Item
items_of blk = whole_items (block_code blk) closing

-- the instructions, each jump with its label's true distance
abbrev pub meant : Block → List Instr
meant blk = resolve (places_of (items_of blk)) 0 (items_of blk)

-- the literal pool: each 64-bit value that the block loads
abbrev pub block_pool : Block → List ℕ
block_pool blk = pool_of [] (items_of blk)

-- DEMAND 2 by the Arm manual, of these words as a block's: "each word outside the literal pool is the encoding of the instruction meant,
-- with each label's true distance"
pub record Emitted (ws : List ℕ) (blk : Block) : Type 0 where
  -- "no label unbound": each label that is named is bound, none twice
  pub bound-once : Once (items_of blk)
  pub bound : Met (items_of blk) (items_of blk)
  -- "In a block no distance is out of reach"
  pub reach : Reach (places_of (items_of blk)) 0 (items_of blk)
  -- each instruction meant is one that its word carries
  pub carried : Sound (meant blk)
  -- the words of the instructions meant; behind them a nop where a pool follows an odd number of them, and the pool, low word first
  pub words : ws ≡ map encode (meant blk) ++ (pad_of (size (items_of blk)) (block_pool blk) ++ halves (block_pool blk))
  -- so that the manual's decoding of the words gives the instructions back
  pub decoded : map decode (take (length (meant blk)) ws) ≡ map valid (meant blk)

-- "Sites are listed by rising word position": each is listed once, and has its target. "A block has at most two sites."
pub record Sited (blk : Block) : Type 0 where
  pub rising : Rise 0 (words (block_code blk)) (starts (block_code blk) 0)
  pub all : length (starts (block_code blk) 0) ≡ length (targets (block_steps blk))
  pub two : length (targets (block_steps blk)) ≤ 2
