-- What an assembler a has become, behind a call, as b.
use Rattle.std.specs.Prelude.{List, ℕ}
use Rattle.arm.specs.declared.Instr.{Instr}
use Rattle.code.specs.Items.{Item}
use Rattle.code.specs.Tree.{Depth, Var, Code}
use Rattle.asm.specs.declared.Asm.{Asm}
use Rattle.asm.specs.State.{state, put, Wrote}
use Rattle.emission.specs.Total.{emitted, after_t}

-- behind instructions, behind an item, behind code with its labels' numbers and 0 for the common exit
abbrev pub Emits : Asm → List Instr → Asm → Type 0
Emits a is b = Wrote a (emitted is (state a)) b

abbrev pub Puts : Asm → Item → Asm → Type 0
Puts a i b = Wrote a (put i (state a)) b

abbrev pub Codes : {n : Depth} → (Var n → ℕ) → Asm → Code n → Asm → Type 0
Codes e a c b = Wrote a (after_t c e 0 (state a)) b
