-- Instructions on 32-bit registers and flags alone, as functions of the registers that they read. A proof's device: the values are the machine's own.
use Rattle.std.specs.Prelude.{Bool, true, false, cond, List, [], ◌∷◌, ℕ, ◌*◌}
use Rattle.std.proofs.Math.Option.{Option, none, some}
use Rattle.arm.specs.declared.Size.TheVariants.{W, X}
use Rattle.arm.specs.declared.Flags.{Flags}
use Rattle.arm.specs.declared.Flags.TheVariants.{Keeps, Sets}
use Rattle.arm.specs.declared.Move.{Move}
use Rattle.arm.specs.declared.Move.TheVariants.{Movn, Movz, Movk}
use Rattle.arm.specs.declared.Extract.TheVariants.{Sbfm, Bfm, Ubfm}
use Rattle.arm.specs.declared.Three.TheVariants.{Madd, Msub, Smaddl, Umaddl}
use Rattle.arm.specs.declared.Instr.{Instr}
use Rattle.arm.specs.declared.Instr.TheVariants.{MoveWide, AddSubImm, AddSubShifted, LogicalShifted, LogicalImm, Bitfield, OneSource, TwoSource, ThreeSource, CondSelect, MemoryImm, MemoryReg, MemoryPair, CompareBranch, TestBranch, CondBranch, Branch, BranchReg, Adr, LoadLiteral, Nop, FloatTwo, FloatCompare, FloatConvert}
use Rattle.machine.specs.Bits.{Nzcv, ConditionHolds}
use Rattle.machine.specs.Execute.{moved, add_sub, shifted, second, logic, logic_flags, test_flags, extracted, one, two, three, otherwise}

-- what it writes to the register rd, what flags it leaves, and what it reads
pub record Data : Type 0 where
  pub rd : ℕ
  pub reads : List ℕ
  pub asks : Bool  -- does it read the flags?
  pub value : (ℕ → ℕ) → Nzcv → ℕ
  pub flags : (ℕ → ℕ) → Option Nzcv  -- none: they stay

abbrev flags_if : Flags → Nzcv → Option Nzcv
flags_if Keeps f = none
flags_if Sets f = some f

-- movk alone keeps a part of the old value
abbrev old_of : Move → ℕ → List ℕ
old_of Movn rd = []
old_of Movz rd = []
old_of Movk rd = rd ∷ []

-- none: not an instruction of this group, or not on 32 bits
unfoldable pub data_of : Instr → Option Data
data_of (MoveWide W m hw imm rd) = some (record { rd = rd; reads = old_of m rd; asks = false; value = λ v f. moved W m (v rd) (16 * hw) imm; flags = λ v. none })
data_of (MoveWide X m hw imm rd) = none
data_of (AddSubImm W o k imm rn rd) =
    some (record { rd = rd; reads = rn ∷ []; asks = false; value = λ v f. (add_sub W o (v rn) imm).result; flags = λ v. flags_if k (add_sub W o (v rn) imm).nzcv })
data_of (AddSubImm X o k imm rn rd) = none
data_of (AddSubShifted W o k h rm n rn rd) =
    some (record {
      rd = rd;
      reads = rn ∷ rm ∷ [];
      asks = false;
      value = λ v f. (add_sub W o (v rn) (shifted W h (v rm) n)).result;
      flags = λ v. flags_if k (add_sub W o (v rn) (shifted W h (v rm) n)).nzcv;
    })
data_of (AddSubShifted X o k h rm n rn rd) = none
data_of (LogicalShifted W o i h rm n rn rd) =
    some (record {
      rd = rd;
      reads = rn ∷ rm ∷ [];
      asks = false;
      value = λ v f. logic o (v rn) (second W i (shifted W h (v rm) n));
      flags = λ v. flags_if (logic_flags o) (test_flags W (logic o (v rn) (second W i (shifted W h (v rm) n))));
    })
data_of (LogicalShifted X o i h rm n rn rd) = none
data_of (LogicalImm o immr imms rn rd) = none
data_of (Bitfield W Sbfm immr imms rn rd) =
    some (record { rd = rd; reads = rn ∷ []; asks = false; value = λ v f. extracted W Sbfm immr imms 0 (v rn); flags = λ v. none })
data_of (Bitfield W Bfm immr imms rn rd) = none
data_of (Bitfield W Ubfm immr imms rn rd) =
    some (record { rd = rd; reads = rn ∷ []; asks = false; value = λ v f. extracted W Ubfm immr imms 0 (v rn); flags = λ v. none })
data_of (Bitfield X o immr imms rn rd) = none
data_of (OneSource o rn rd) = some (record { rd = rd; reads = rn ∷ []; asks = false; value = λ v f. one o (v rn); flags = λ v. none })
data_of (TwoSource W o rm rn rd) = some (record { rd = rd; reads = rn ∷ rm ∷ []; asks = false; value = λ v f. two W o (v rn) (v rm); flags = λ v. none })
data_of (TwoSource X o rm rn rd) = none
data_of (ThreeSource Madd rm ra rn rd) =
    some (record { rd = rd; reads = rn ∷ rm ∷ ra ∷ []; asks = false; value = λ v f. three Madd (v ra) (v rn) (v rm); flags = λ v. none })
data_of (ThreeSource Msub rm ra rn rd) =
    some (record { rd = rd; reads = rn ∷ rm ∷ ra ∷ []; asks = false; value = λ v f. three Msub (v ra) (v rn) (v rm); flags = λ v. none })
data_of (ThreeSource Smaddl rm ra rn rd) = none
data_of (ThreeSource Umaddl rm ra rn rd) = none
data_of (CondSelect W o rm k rn rd) =
    some (record { rd = rd; reads = rn ∷ rm ∷ []; asks = true; value = λ v f. cond (ConditionHolds k f) (v rn) (otherwise W o (v rm)); flags = λ v. none })
data_of (CondSelect X o rm k rn rd) = none
data_of (MemoryImm a imm rn rt) = none
data_of (MemoryReg a c rm rn rt) = none
data_of (MemoryPair m p imm rt2 rn rt) = none
data_of (CompareBranch z t imm rt) = none
data_of (TestBranch t n imm rt) = none
data_of (CondBranch imm k) = none
data_of (Branch imm) = none
data_of (BranchReg j rn) = none
data_of (Adr imm rd) = none
data_of (LoadLiteral imm rt) = none
data_of Nop = none
data_of (FloatTwo o rm rn rd) = none
data_of (FloatCompare rm rn) = none
data_of (FloatConvert o rn rd) = none
