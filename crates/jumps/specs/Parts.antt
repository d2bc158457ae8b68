-- Parts of the lowering's fragments, as far as one function emits.
use Rattle.std.specs.Prelude.{List, [], ◌∷◌, ◌++◌, ℕ}
use Rattle.arm.specs.declared.Instr.{Instr}
use Rattle.arm.specs.declared.Mode.TheVariants.{Offset, Pre}
use Rattle.arm.specs.declared.Pair.TheVariants.{Stp}
use Rattle.code.specs.Items.{b, b_cond}
use Rattle.code.specs.Tree.{Depth, under, inner, Code, code, lit, to, exit, block, ◌then◌}
use Rattle.lowering.specs.Instrs.{CPU, CTX, RAM, XIP, KEEP, KEEP2, FLAGS, DONE, LIMIT, NE, mov, mov_x, movz, mov32, add_xLsl, cmp, ubfx, ldr, str, ldr_x, frame, br}

-- a store, and out with the count of operations done
abbrev pub leave : {n : Depth} → Instr → Code n
leave i = code (i ∷ mov 0 DONE ∷ []) then exit b

-- a site's branch, to the word behind it, and pc to its field
abbrev pub back : {n : Depth} → (off pc : ℕ) → Code n
back off pc = block (to b inner) then code (mov32 9 pc ++ (str 9 CPU off ∷ []))

-- the table's body for pc w12, or behind the block
abbrev pub lookup : {n : Depth} → (table : ℕ) → Code (under n)
lookup t =
    code (ubfx 10 12 1 14 ∷ [])
    then lit 11 t
    then code (add_xLsl 11 11 10 4 ∷ ldr 13 11 0 ∷ cmp 13 12 ∷ [])
    then to (b_cond NE) inner
    then code (ldr_x 9 11 8 ∷ br 9 ∷ [])

-- the opening words: the caller's registers, then the arguments
abbrev pub saves : List Instr
saves =
    frame Pre Stp 116 29 30 ∷ frame Offset Stp 2 CPU CTX ∷ frame Offset Stp 4 RAM XIP ∷ frame Offset Stp 6 KEEP KEEP2 ∷ frame Offset Stp 8 25 DONE
    ∷ frame Offset Stp 10 LIMIT 28 ∷ []

abbrev pub arguments : List Instr
arguments = mov_x CPU 0 ∷ mov_x CTX 1 ∷ mov_x RAM 2 ∷ mov_x XIP 3 ∷ mov LIMIT 4 ∷ mov_x FLAGS 5 ∷ movz DONE 0 ∷ []
