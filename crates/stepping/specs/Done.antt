-- What is generated, and what a step adds to it.
use Rattle.std.specs.Prelude.{List, [], ◌∷◌, ◌++◌, ℕ, take}
use Rattle.std.specs.Borrow.{GName}
use Rattle.block.specs.declared.Block.{Block}
use Rattle.code.specs.Tree.{nowhere}
use Rattle.lowering.specs.declared.RegCache.{RegCache}
use Rattle.lowering.specs.Steps.{Step}
use Rattle.lowering.specs.Fragments.{step_code, step_cache}
use Rattle.lowering.specs.Compile.{targets}
use Rattle.asm.specs.State.{State}
use Rattle.emission.specs.Total.{after_t, starts_t}

-- two are kept: no block has more (bounds, `Sited`)
unfoldable pub kept : List ℕ → List ℕ → List ℕ
kept xs [] = xs
kept xs (y ∷ ys) = take 2 (xs ++ (y ∷ ys))

-- the code so far in its lent rooms, the fields of the block that it reads, the register cache, the sites' positions and where they go on
pub record Generated : Type 0 where
  pub code : State
  pub words : GName
  pub table : GName
  pub given : Block
  pub cache : RegCache
  pub ats : List ℕ
  pub targets : List ℕ

-- ONE STEP
unfoldable pub step_done : Step → Generated → Generated
step_done x s =
    record {
      code = after_t (step_code s.given s.cache x) nowhere 0 s.code;
      words = s.words;
      table = s.table;
      given = s.given;
      cache = step_cache s.cache x;
      ats = kept s.ats (starts_t (step_code s.given s.cache x) nowhere 0 s.code);
      targets = kept s.targets (targets (x ∷ []));
    }

-- STEPS in order
unfoldable pub steps_done : List Step → Generated → Generated
steps_done [] s = s
steps_done (x ∷ xs) s = steps_done xs (step_done x s)
