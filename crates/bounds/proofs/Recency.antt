-- ALL BLOCKS HAVE THE SAME WORDS as by the Rust's stamps (2026-11): a checked block has fewer steps than the clock counts.
use Prim.Native.Nat.{◌^◌, ◌<◌}
use native.Mathlib.Omega.{arith}
use lib.ListN.{length}
use Rattle.block.specs.declared.Block.{Block}
use Rattle.block.specs.Checked.{Checked}
use Rattle.lowering.specs.Steps.{block_steps}
use Rattle.lowering.specs.Recency.{SameWords}
use Rattle.lowering.proofs.SameWords.{same_words as same-words-of}
use Rattle.bounds.proofs.Cost.{Measure, length-le}
use Rattle.bounds.proofs.Count.{block-few}

pub same_words : (blk : Block) → Checked blk → SameWords blk
same_words blk ck =
    let few : length (block_steps blk) < 2 ^ 32 = omega (arith, length-le (block_steps blk), (block-few blk ck).le Measure.words) in
    same-words-of blk few
