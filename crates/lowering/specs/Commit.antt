-- The commit's own lowering, and what 2026-04 adds to it: A STATEMENT A SENTENCE (`Departs`, proved in proofs/Commit.antt).
use Rattle.std.specs.Prelude.{◌≡◌, Bool, true, false, ◌&&◌, List, [], ◌∷◌, map, ℕ, ◌+◌, ◌*◌, length}
use Rattle.arm.specs.declared.Test.TheVariants.{Nonzero as nonzero}
use Rattle.block.specs.declared.Width.{Width}
use Rattle.block.specs.declared.Width.TheVariants.{Byte as B8, Half as B16, Word as B32}
use Rattle.block.specs.declared.Block.{Block}
use Rattle.block.specs.declared.Base.{Base}
use Rattle.block.specs.declared.Amount.{Amount}
use Rattle.block.specs.declared.Op.{Op}
use Rattle.block.specs.declared.Rk.{Rk}
use Rattle.block.specs.declared.RmwOp.{RmwOp}
use Rattle.block.specs.declared.Fast.{Fast}
use Rattle.block.specs.declared.Fast.TheVariants.{St, StIdx, StPost, Rmw, PushRet, BlockMove, PushRets, PopPc, LdPair, StPair}
use Rattle.block.specs.declared.Fast.TheVariants.{StPre, MemA4}
use Rattle.code.specs.Items.{pick, tb}
use Rattle.code.specs.Tree.{Depth, top, under, inner, Code, code, to, block, ◌then◌, words, labels, jumps, Line, whole_lines, pool_in}
use Rattle.code.specs.Tree.{lines_words}
use Rattle.lowering.specs.declared.RegCache.{RegCache}
use Rattle.lowering.specs.Cache.{empty_cache}
use Rattle.lowering.specs.Steps.{Step, lowered, block_steps}
use Rattle.lowering.specs.Fragments.{step_code, steps_code, opening, closing}
use Rattle.lowering.specs.declared.Site.{Site}
use Rattle.lowering.specs.Compile.{block_code, block_lines, block_words, starts, targets, zip_sites, sites}

-- a step as the commit has it: no word that is stored is tested
abbrev pub commit_step : Step → Step
commit_step (Step.ld_reg t r) = Step.ld_reg t r
commit_step (Step.st_reg t r) = Step.st_reg t r
commit_step (Step.ld_field f t) = Step.ld_field f t
commit_step (Step.st_field f t) = Step.st_field f t
commit_step (Step.mov32 t v) = Step.mov32 t v
commit_step (Step.add_imm d s v) = Step.add_imm d s v
commit_step (Step.ins i) = Step.ins i
commit_step (Step.load w signed i) = Step.load w signed i
commit_step (Step.store w alone i) = Step.store w false i
commit_step (Step.check_brk glue pc count) = Step.check_brk glue pc count
commit_step (Step.chain pc count) = Step.chain pc count
commit_step (Step.fork cond pc target count) = Step.fork cond pc target count
commit_step (Step.ind t count brk) = Step.ind t count brk
commit_step (Step.limit pc count) = Step.limit pc count
commit_step (Step.guard at helper pc) = Step.guard at helper pc

unfoldable pub commit_code : Block → Code top
commit_code blk = code opening then steps_code blk empty_cache (map commit_step (block_steps blk))

unfoldable pub commit_lines : Block → List Line
commit_lines blk = whole_lines (commit_code blk) closing

-- the words of the commit's `compile`
unfoldable pub commit_words : Block → List ℕ
commit_words blk = lines_words (commit_lines blk)

unfoldable pub commit_sites : Block → List Site
commit_sites blk = zip_sites (starts (commit_code blk) 0) (targets (map commit_step (block_steps blk)))

-- ---- what is added
-- d is c with two words more in each of k stores: "tests of address bit 0 and then bit 1, both to the slow path". They stand before all
-- else of a store, and f is its slow path, behind the inner block
pub data Adds : (n : Depth) → (k : ℕ) → (c d : Code n) → Type 0 where
  same : {n : Depth} (c : Code n) → Adds n 0 c c
  tests : {n : Depth} (e : Code (under (under n))) (f : Code (under n))
      → Adds n 1 (block (block (code [] then e) then f))
      (block (block ((to (tb nonzero 0 0) inner then to (tb nonzero 1 0) inner) then e) then f))
  both : {n : Depth} {j k : ℕ} {c₁ d₁ c₂ d₂ : Code n} → Adds n j c₁ d₁ → Adds n k c₂ d₂ → Adds n (j + k) (c₁ then c₂) (d₁ then d₂)

abbrev pub is_word : Width → Bool
is_word B8 = false
is_word B16 = false
is_word B32 = true

-- a word that is stored alone: "A group of 2026-01 is no word store here"
abbrev pub word_store : Step → Bool
word_store (Step.ld_reg t r) = false
word_store (Step.st_reg t r) = false
word_store (Step.ld_field f t) = false
word_store (Step.st_field f t) = false
word_store (Step.mov32 t v) = false
word_store (Step.add_imm d s v) = false
word_store (Step.ins i) = false
word_store (Step.load w signed i) = false
word_store (Step.store w alone i) = alone && is_word w
word_store (Step.check_brk glue pc count) = false
word_store (Step.chain pc count) = false
word_store (Step.fork cond pc target count) = false
word_store (Step.ind t count brk) = false
word_store (Step.limit pc count) = false
word_store (Step.guard at helper pc) = false

-- the places of a step's code at which the tests stand: one in a word store of a block "with map flag 1"
abbrev pub tested : Block → Step → ℕ
tested blk s = pick (word_store s && blk.memory.map) 1 0

-- those of steps
unfoldable pub all_tested : Block → List Step → ℕ
all_tested blk [] = 0
all_tested blk (s ∷ ss) = tested blk s + all_tested blk ss

-- those of an operation
abbrev pub tested_in : Block → Fast → (i next : ℕ) → ℕ
tested_in blk f i next = all_tested blk (lowered f i next)

-- ---- the sentences
pub record Counts (blk : Block) (i next : ℕ) : Type 0 where
  -- "With map flag 1 a word store .. Rmw's and PushRet's stores count too."
  pub stored : (s off : ℕ) (b : Base) (w : Width) → tested_in blk (St s b off w) i next ≡ pick (is_word w && blk.memory.map) 1 0
  pub indexed : (s b x sh : ℕ) (w : Width) → tested_in blk (StIdx s b x sh w) i next ≡ pick (is_word w && blk.memory.map) 1 0
  pub posted : (s b inc : ℕ) (w : Width) → tested_in blk (StPost s b w inc) i next ≡ pick (is_word w && blk.memory.map) 1 0
  pub modified : (b off v : ℕ) (w : Width) (op : RmwOp) → tested_in blk (Rmw b w op off v) i next ≡ pick (is_word w && blk.memory.map) 1 0
  pub ret-pushed : tested_in blk PushRet i next ≡ pick blk.memory.map 1 0
  -- so do those of 2026-09
  pub advanced : (s b : ℕ) (by : Amount) (w : Width) → tested_in blk (StPre s b by w) i next ≡ pick (is_word w && blk.memory.map) 1 0
  pub combined : (b off rv : ℕ) (op : Op) (rk : Rk) → tested_in blk (MemA4 b off op rk rv) i next ≡ pick blk.memory.map 1 0
  -- "A group of 2026-01 is no word store here: it keeps its words"
  pub moved : (b mask : ℕ) (store post down : Bool) → tested_in blk (BlockMove b mask store post down) i next ≡ 0
  pub rets-pushed : (n : ℕ) → tested_in blk (PushRets n) i next ≡ 0
  pub pc-popped : (n : ℕ) → tested_in blk (PopPc n) i next ≡ 0
  pub pair-loaded : (p off : ℕ) (b : Base) → tested_in blk (LdPair p b off) i next ≡ 0
  pub pair-stored : (p off : ℕ) (b : Base) → tested_in blk (StPair p b off) i next ≡ 0

-- words and chain sites are the commit's
pub record AsCommit (blk : Block) : Type 0 where
  pub words_same : block_words blk ≡ commit_words blk
  pub sites_same : sites blk ≡ commit_sites blk

-- "This departs from the commit; demand 2 leaves out these words and the distances and positions they move."
pub record Departs (blk : Block) : Type 0 where
  -- each step's code is the commit's but for these tests
  pub step : {n : Depth} (rc : RegCache) (s : Step) → Adds n (tested blk s) (step_code blk rc {n = n} (commit_step s)) (step_code blk rc s)
  -- so is the block's, one step behind another
  pub whole : Adds top (all_tested blk (block_steps blk)) (commit_code blk) (block_code blk)
  -- "Two more words stand where the odd halfword has its test": two words and two fix-ups each, no label, and no other target
  pub words_more : words (block_code blk) ≡ words (commit_code blk) + 2 * all_tested blk (block_steps blk)
  pub jumps_more : jumps (block_code blk) ≡ jumps (commit_code blk) + 2 * all_tested blk (block_steps blk)
  pub labels_same : labels (block_code blk) ≡ labels (commit_code blk)
  pub targets_same : targets (block_steps blk) ≡ targets (map commit_step (block_steps blk))
  -- the same pool, and a nop before it where the commit has one: the words are two more each in all
  pub pool_same : pool_in [] (block_lines blk) ≡ pool_in [] (commit_lines blk)
  pub length_more : length (block_words blk) ≡ length (commit_words blk) + 2 * all_tested blk (block_steps blk)
  pub untested : all_tested blk (block_steps blk) ≡ 0 → AsCommit blk
  -- "With flag 0 the words are unchanged."
  pub flag_0 : blk.memory.map ≡ false → AsCommit blk
  -- which operations count
  pub counts : (i next : ℕ) → Counts blk i next
