-- The instructions of a constant, as jit_a64.rs and `Gen::add_imm` write them.
use Rattle.std.specs.Prelude.{ℕ, ◌-◌, ◌/◌, ◌%◌, ◌^◌, Bool, true, false, List, [], ◌∷◌, ◌++◌, ◌==◌, nat_lt}
use Rattle.arm.specs.declared.Size.TheVariants.{W, X}
use Rattle.arm.specs.declared.Move.TheVariants.{Movn, Movz, Movk}
use Rattle.arm.specs.declared.AddSub.TheVariants.{Add, Sub}
use Rattle.arm.specs.declared.Flags.TheVariants.{Keeps}
use Rattle.arm.specs.declared.Shift.TheVariants.{Lsl}
use Rattle.arm.specs.declared.Logic.TheVariants.{Orr}
use Rattle.arm.specs.declared.Second.TheVariants.{Plain}
use Rattle.arm.specs.declared.Instr.{Instr}
use Rattle.arm.specs.declared.Instr.TheVariants.{MoveWide, AddSubImm, AddSubShifted, LogicalShifted}
use Rattle.arm.specs.Instr.{encode}

abbrev pub when : Bool → List Instr → List Instr → List Instr
when true a b = a
when false a b = b

-- the low half alone, the high half alone (tried before movn), the low half of a number whose high half is all ones, or both halves
abbrev pub mov32_of : ℕ → ℕ → List Instr
mov32_of rd imm =
    when (imm / 65536 == 0) (MoveWide W Movz 0 (imm % 65536) rd ∷ [])
    (when (imm % 65536 == 0) (MoveWide W Movz 1 (imm / 65536) rd ∷ [])
    (when (imm / 65536 == 65535) (MoveWide W Movn 0 (65535 - imm % 65536) rd ∷ [])
    (MoveWide W Movz 0 (imm % 65536) rd ∷ MoveWide W Movk 1 (imm / 65536) rd ∷ [])))

-- a quarter that is not 0
abbrev pub quarter_of : ℕ → ℕ → ℕ → List Instr
quarter_of rd hw part = when (part == 0) [] (MoveWide X Movk hw part rd ∷ [])

abbrev pub mov64_of : ℕ → ℕ → List Instr
mov64_of rd imm =
    MoveWide X Movz 0 (imm % 65536) rd
    ∷ (quarter_of rd 1 (imm / 2 ^ 16 % 65536) ++ (quarter_of rd 2 (imm / 2 ^ 32 % 65536) ++ quarter_of rd 3 (imm / 2 ^ 48 % 65536)))

-- a small number, the negative of a small number, or any number by the scratch register
abbrev pub add_imm32_of : ℕ → ℕ → ℕ → ℕ → List Instr
add_imm32_of rd rn imm scratch =
    when (nat_lt imm 4096) (AddSubImm W Add Keeps imm rn rd ∷ [])
    (when (nat_lt (2 ^ 32 - imm) 4096) (AddSubImm W Sub Keeps (2 ^ 32 - imm) rn rd ∷ [])
    (mov32_of scratch imm ++ (AddSubShifted W Add Keeps Lsl scratch 0 rn rd ∷ [])))

-- `Gen::add_imm`: nothing to add is a move, or nothing at all
abbrev pub gen_add_imm_of : ℕ → ℕ → ℕ → List Instr
gen_add_imm_of dst src imm =
    when (imm == 0) (when (dst == src) [] (LogicalShifted W Orr Plain Lsl src 0 31 dst ∷ []))
    (add_imm32_of dst src imm 9)

abbrev pub words_of : List Instr → List ℕ
words_of [] = []
words_of (i ∷ is) = encode i ∷ words_of is
