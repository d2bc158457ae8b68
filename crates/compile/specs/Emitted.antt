-- A whole block emitted: its words without distances, and its sites.
use Rattle.std.specs.Prelude.{◌≡◌, []}
use Rattle.block.specs.declared.Block.{Block}
use Rattle.code.specs.Items.{new, bind}
use Rattle.code.specs.Tree.{nowhere}
use Rattle.lowering.specs.Fragments.{closing}
use Rattle.lowering.specs.Steps.{block_steps}
use Rattle.lowering.specs.Compile.{block_code, targets}
use Rattle.asm.specs.declared.Asm.{Asm}
use Rattle.asm.specs.State.{State, state, put, Wrote}
use Rattle.emission.specs.declared.Sites.{Sites}
use Rattle.emission.specs.Total.{emitted, after_t, starts_t}
use Rattle.lower.specs.Lowers.{ats_of, targets_of, kept}

-- with the common exit's label given out
abbrev pub first : Asm → State
first a = put new (state a)

pub record Emits (blk : Block) (a b : Asm) (sites : Sites) : Type 0 where
  pub wrote : Wrote a (emitted closing (put (bind 0) (after_t (block_code blk) nowhere 0 (first a)))) b
  pub ats : ats_of sites ≡ kept [] (starts_t (block_code blk) nowhere 0 (first a))
  pub targets : targets_of sites ≡ kept [] (targets (block_steps blk))
