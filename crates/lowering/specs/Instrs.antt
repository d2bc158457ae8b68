-- The lowering's instructions, by the Rust's names (jit_a64.rs), as the manual's.
use Rattle.std.specs.Prelude.{Bool, true, false, List, [], ◌∷◌, ℕ, ◌+◌, ◌-◌, ◌/◌, ◌%◌, eqb, ltb}
use Rattle.code.specs.Items.{pick}
use Rattle.arm.specs.declared.Size.TheVariants.{W, X}
use Rattle.arm.specs.declared.AddSub.TheVariants.{Add, Sub}
use Rattle.arm.specs.declared.Flags.TheVariants.{Keeps, Sets}
use Rattle.arm.specs.declared.Shift.TheVariants.{Lsl}
use Rattle.arm.specs.declared.Move.TheVariants.{Movn, Movz, Movk}
use Rattle.arm.specs.declared.Logic.TheVariants.{And, Orr, Eor, Ands}
use Rattle.arm.specs.declared.Second.TheVariants.{Plain, Inverted}
use Rattle.arm.specs.declared.Extract.TheVariants.{Sbfm, Ubfm}
use Rattle.arm.specs.declared.One.TheVariants.{Rev, Clz}
use Rattle.arm.specs.declared.Two.TheVariants.{Udiv, Sdiv, Lslv, Lsrv, Asrv}
use Rattle.arm.specs.declared.Three.TheVariants.{Madd, Msub}
use Rattle.arm.specs.declared.Select.TheVariants.{Csel, Csneg}
use Rattle.arm.specs.declared.Access.{Access}
use Rattle.arm.specs.declared.Access.TheVariants.{Strb, Ldrb, Ldrsb, Strh, Ldrh, Ldrsh, StrW, LdrW, StrX, LdrX}
use Rattle.arm.specs.declared.Scale.TheVariants.{Unscaled}
use Rattle.arm.specs.declared.Mode.{Mode}
use Rattle.arm.specs.declared.Mode.TheVariants.{Post, Offset, Pre}
use Rattle.arm.specs.declared.Pair.{Pair}
use Rattle.arm.specs.declared.Pair.TheVariants.{Stp, Ldp}
use Rattle.arm.specs.declared.Jump.TheVariants.{Br, Blr, Ret}
use Rattle.arm.specs.declared.Instr.{Instr}
use Rattle.arm.specs.declared.Instr.TheVariants.{MoveWide, AddSubImm, AddSubShifted, LogicalShifted, Bitfield, OneSource, TwoSource, ThreeSource, CondSelect, MemoryImm, MemoryReg, MemoryPair, BranchReg}

-- ---- the register plan
abbrev pub CPU : ℕ
CPU = 19

abbrev pub CTX : ℕ
CTX = 20

abbrev pub RAM : ℕ
RAM = 21

abbrev pub XIP : ℕ
XIP = 22

abbrev pub KEEP : ℕ
KEEP = 23

abbrev pub KEEP2 : ℕ
KEEP2 = 24

abbrev pub FLAGS : ℕ
FLAGS = 25

abbrev pub DONE : ℕ
DONE = 26

abbrev pub LIMIT : ℕ
LIMIT = 27

abbrev pub ZR : ℕ
ZR = 31

abbrev pub SP : ℕ
SP = 31

-- conditions, by their numbers
abbrev pub EQ : ℕ
EQ = 0

abbrev pub NE : ℕ
NE = 1

abbrev pub HS : ℕ
HS = 2

abbrev pub LO : ℕ
LO = 3

abbrev pub HI : ℕ
HI = 8

abbrev pub LS : ℕ
LS = 9

abbrev pub GE : ℕ
GE = 10

abbrev pub LT : ℕ
LT = 11

abbrev pub GT : ℕ
GT = 12

abbrev pub LE : ℕ
LE = 13

-- ---- moves
abbrev pub mov : (rd rm : ℕ) → Instr
mov rd rm = LogicalShifted W Orr Plain Lsl rm 0 ZR rd

abbrev pub mov_x : (rd rm : ℕ) → Instr
mov_x rd rm = LogicalShifted X Orr Plain Lsl rm 0 ZR rd

abbrev pub movz : (rd imm : ℕ) → Instr
movz rd imm = MoveWide W Movz 0 imm rd

-- a 32-bit immediate in one or two instructions
unfoldable pub mov32 : (rd imm : ℕ) → List Instr
mov32 rd imm =
    pick (eqb (imm / 65536) 0) (MoveWide W Movz 0 imm rd ∷ [])
    (pick (eqb (imm % 65536) 0) (MoveWide W Movz 1 (imm / 65536) rd ∷ [])
    (pick (eqb (imm / 65536) 65535) (MoveWide W Movn 0 (65535 - imm % 65536) rd ∷ [])
    (MoveWide W Movz 0 (imm % 65536) rd ∷ MoveWide W Movk 1 (imm / 65536) rd ∷ [])))

-- ---- arithmetic
abbrev pub add_i : (rd rn imm : ℕ) → Instr
add_i rd rn imm = AddSubImm W Add Keeps imm rn rd

abbrev pub sub_i : (rd rn imm : ℕ) → Instr
sub_i rd rn imm = AddSubImm W Sub Keeps imm rn rd

abbrev pub cmp_i : (rn imm : ℕ) → Instr
cmp_i rn imm = AddSubImm W Sub Sets imm rn ZR

abbrev pub add : (rd rn rm : ℕ) → Instr
add rd rn rm = AddSubShifted W Add Keeps Lsl rm 0 rn rd

abbrev pub add_lsl : (rd rn rm sh : ℕ) → Instr
add_lsl rd rn rm sh = AddSubShifted W Add Keeps Lsl rm sh rn rd

abbrev pub add_xLsl : (rd rn rm sh : ℕ) → Instr
add_xLsl rd rn rm sh = AddSubShifted X Add Keeps Lsl rm sh rn rd

abbrev pub sub : (rd rn rm : ℕ) → Instr
sub rd rn rm = AddSubShifted W Sub Keeps Lsl rm 0 rn rd

abbrev pub cmp : (rn rm : ℕ) → Instr
cmp rn rm = AddSubShifted W Sub Sets Lsl rm 0 rn ZR

abbrev pub cmp_x : (rn rm : ℕ) → Instr
cmp_x rn rm = AddSubShifted X Sub Sets Lsl rm 0 rn ZR

abbrev pub neg : (rd rm : ℕ) → Instr
neg rd rm = sub rd ZR rm

abbrev pub and : (rd rn rm : ℕ) → Instr
and rd rn rm = LogicalShifted W And Plain Lsl rm 0 rn rd

abbrev pub bic : (rd rn rm : ℕ) → Instr
bic rd rn rm = LogicalShifted W And Inverted Lsl rm 0 rn rd

abbrev pub orr : (rd rn rm : ℕ) → Instr
orr rd rn rm = LogicalShifted W Orr Plain Lsl rm 0 rn rd

abbrev pub eor : (rd rn rm : ℕ) → Instr
eor rd rn rm = LogicalShifted W Eor Plain Lsl rm 0 rn rd

abbrev pub mvn : (rd rm : ℕ) → Instr
mvn rd rm = LogicalShifted W Orr Inverted Lsl rm 0 ZR rd

abbrev pub tst : (rn rm : ℕ) → Instr
tst rn rm = LogicalShifted W Ands Plain Lsl rm 0 rn ZR

abbrev pub rev : (rd rn : ℕ) → Instr
rev rd rn = OneSource Rev rn rd

abbrev pub clz : (rd rn : ℕ) → Instr
clz rd rn = OneSource Clz rn rd

abbrev pub sdiv : (rd rn rm : ℕ) → Instr
sdiv rd rn rm = TwoSource W Sdiv rm rn rd

abbrev pub udiv : (rd rn rm : ℕ) → Instr
udiv rd rn rm = TwoSource W Udiv rm rn rd

abbrev pub lslv : (rd rn rm : ℕ) → Instr
lslv rd rn rm = TwoSource W Lslv rm rn rd

abbrev pub lsrv : (rd rn rm : ℕ) → Instr
lsrv rd rn rm = TwoSource W Lsrv rm rn rd

abbrev pub asrv : (rd rn rm : ℕ) → Instr
asrv rd rn rm = TwoSource W Asrv rm rn rd

abbrev pub mul : (rd rn rm : ℕ) → Instr
mul rd rn rm = ThreeSource Madd rm ZR rn rd

-- rd = ra - rn * rm
abbrev pub msub : (rd rn rm ra : ℕ) → Instr
msub rd rn rm ra = ThreeSource Msub rm ra rn rd

abbrev pub csel : (rd rn rm c : ℕ) → Instr
csel rd rn rm c = CondSelect W Csel rm c rn rd

-- cneg of LT: the inverse condition stands in the word
abbrev pub cneg_lt : (rd rn : ℕ) → Instr
cneg_lt rd rn = CondSelect W Csneg rn GE rn rd

-- ---- bit fields
abbrev pub ubfx : (rd rn lsb width : ℕ) → Instr
ubfx rd rn lsb width = Bitfield W Ubfm lsb (lsb + width - 1) rn rd

abbrev pub sbfx : (rd rn lsb width : ℕ) → Instr
sbfx rd rn lsb width = Bitfield W Sbfm lsb (lsb + width - 1) rn rd

-- shifts by less than 32
abbrev pub lsl_i : (rd rn sh : ℕ) → Instr
lsl_i rd rn sh = Bitfield W Ubfm ((32 - sh) % 32) (31 - sh) rn rd

abbrev pub lsr_i : (rd rn sh : ℕ) → Instr
lsr_i rd rn sh = Bitfield W Ubfm sh 31 rn rd

abbrev pub asr_i : (rd rn sh : ℕ) → Instr
asr_i rd rn sh = Bitfield W Sbfm sh 31 rn rd

-- ---- memory
abbrev pub ldr : (rt rn off : ℕ) → Instr
ldr rt rn off = MemoryImm LdrW (off / 4) rn rt

abbrev pub str : (rt rn off : ℕ) → Instr
str rt rn off = MemoryImm StrW (off / 4) rn rt

abbrev pub ldr_x : (rt rn off : ℕ) → Instr
ldr_x rt rn off = MemoryImm LdrX (off / 8) rn rt

abbrev pub str_x : (rt rn off : ℕ) → Instr
str_x rt rn off = MemoryImm StrX (off / 8) rn rt

-- `[xn, wm, uxtw]`
abbrev pub indexed : Access → (rt rn wm : ℕ) → Instr
indexed a rt rn wm = MemoryReg a Unscaled wm rn rt

-- two registers at sp, in units of eight bytes
abbrev pub frame : Mode → Pair → (imm rt rt2 : ℕ) → Instr
frame m p imm rt rt2 = MemoryPair m p imm rt2 SP rt

-- ---- control
abbrev pub blr : ℕ → Instr
blr rn = BranchReg Blr rn

abbrev pub br : ℕ → Instr
br rn = BranchReg Br rn

abbrev pub ret : Instr
ret = BranchReg Ret 30
