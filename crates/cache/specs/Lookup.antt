-- The code's answers in the definition's terms.
use Rattle.std.specs.Prelude.{◌≡◌, Option, Some, None, List, [], ◌∷◌, ℕ, ◌<◌}
use Rattle.arm.specs.declared.Access.TheVariants.{StrW}
use Rattle.arm.specs.declared.Instr.{Instr}
use Rattle.arm.specs.declared.Instr.TheVariants.{MemoryImm}
use Rattle.block.specs.declared.Layout.{Layout}
use Rattle.code.specs.Items.{pick}
use Rattle.lowering.specs.declared.RegCache.{RegCache}
use Rattle.lowering.specs.Instrs.{CPU}
use Rattle.lowering.specs.Cache.{position, is_held, chosen, spill}
use Rattle.cache.specs.declared.Spill.{Spill}

-- a slot or nothing
abbrev pub lookup : RegCache → ℕ → Option ℕ
lookup rc r = pick (is_held rc r) (Some (position r rc.guest)) None

abbrev pub spilled : Option Spill → List Instr
spilled (Some s) = MemoryImm StrW s.at CPU s.h ∷ []
spilled None = []

-- the slot to take, and what is stored first
pub record Took (lay : Layout) (rc : RegCache) (t : ℕ × Option Spill) : Type 0 where
  pub chose : t.0 ≡ chosen rc
  pub small : t.0 < 8
  pub spills : spilled t.1 ≡ spill lay rc
