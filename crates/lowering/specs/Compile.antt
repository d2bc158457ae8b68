-- What `compile` makes of a checked block: its code, its words, where its body starts, and its chain sites.
use Rattle.std.specs.Prelude.{List, [], ◌∷◌, ◌++◌, ℕ, ◌+◌, ◌*◌, length}
use Rattle.block.specs.declared.Block.{Block}
use Rattle.code.specs.Tree.{Depth, top, Code, code, lit, to, exit, block, start, ◌then◌, words, Line, whole_lines, lines_words}
use Rattle.lowering.specs.declared.Site.{Site}
use Rattle.lowering.specs.Cache.{empty_cache}
use Rattle.lowering.specs.Steps.{Step, block_steps}
use Rattle.lowering.specs.Fragments.{steps_code, opening, closing}

unfoldable pub block_code : Block → Code top
block_code blk = code opening then steps_code blk empty_cache (block_steps blk)

-- the instructions meant, each jump with the number of words that it passes over
unfoldable pub block_lines : Block → List Line
block_lines blk = whole_lines (block_code blk) closing

-- THE WORDS of a block, the pool behind them
unfoldable pub block_words : Block → List ℕ
block_words blk = lines_words (block_lines blk)

-- chained blocks enter behind the opening words; in bytes
unfoldable pub body_offset : ℕ
unfolding opening
body_offset = 4 * length opening

-- ---- chain sites
-- the positions of words whose address is taken, from position p on
unfoldable pub starts : {n : Depth} → Code n → (p : ℕ) → List ℕ
starts (code is) p = []
starts (lit rt v) p = []
starts (to h v) p = []
starts (exit h) p = []
starts (block c) p = starts c p
starts (start rd c) p = p ∷ starts c p
starts (c then d) p = starts c p ++ starts d (p + words c)

abbrev pub targets : List Step → List ℕ
targets [] = []
targets (Step.ld_reg t r ∷ ss) = targets ss
targets (Step.st_reg t r ∷ ss) = targets ss
targets (Step.ld_field f t ∷ ss) = targets ss
targets (Step.st_field f t ∷ ss) = targets ss
targets (Step.mov32 t v ∷ ss) = targets ss
targets (Step.add_imm d s v ∷ ss) = targets ss
targets (Step.ins i ∷ ss) = targets ss
targets (Step.load w signed i ∷ ss) = targets ss
targets (Step.store w alone i ∷ ss) = targets ss
targets (Step.check_brk glue pc count ∷ ss) = targets ss
targets (Step.chain pc count ∷ ss) = pc ∷ targets ss
targets (Step.fork cond pc target count ∷ ss) = pc ∷ target ∷ targets ss
targets (Step.ind t count brk ∷ ss) = targets ss
targets (Step.limit pc count ∷ ss) = targets ss
targets (Step.guard at helper pc ∷ ss) = targets ss

abbrev pub zip_sites : List ℕ → List ℕ → List Site
zip_sites [] ts = []
zip_sites (p ∷ ps) [] = []
zip_sites (p ∷ ps) (t ∷ ts) = record { at = p; target = t } ∷ zip_sites ps ts

-- each site once, by rising word position, which is the order of emission
unfoldable pub sites : Block → List Site
sites blk = zip_sites (starts (block_code blk) 0) (targets (block_steps blk))
