-- The A64 instructions of the encoder, by the encoding classes of the Arm manual (C4.1), and their words.
-- A `format` is the manual's diagram of the class; `operands` are the values of its fields, from left to right.
use Rattle.std.specs.Prelude.{ℕ, ◌*◌, ◌/◌, ◌%◌, ◌<◌, List, [], ◌∷◌}
use Rattle.arm.specs.Fields.{Piece, fixed, field, pack, Fits}
pub use Rattle.arm.specs.declared.Size.{Size}
pub use Rattle.arm.specs.declared.Size.TheVariants.{W, X}
pub use Rattle.arm.specs.declared.AddSub.{AddSub}
pub use Rattle.arm.specs.declared.AddSub.TheVariants.{Add, Sub}
pub use Rattle.arm.specs.declared.Flags.{Flags}
pub use Rattle.arm.specs.declared.Flags.TheVariants.{Keeps, Sets}
pub use Rattle.arm.specs.declared.Shift.{Shift}
pub use Rattle.arm.specs.declared.Shift.TheVariants.{Lsl, Lsr, Asr, Ror}
pub use Rattle.arm.specs.declared.Move.{Move}
pub use Rattle.arm.specs.declared.Move.TheVariants.{Movn, Movz, Movk}
pub use Rattle.arm.specs.declared.Logic.{Logic}
pub use Rattle.arm.specs.declared.Logic.TheVariants.{And, Orr, Eor, Ands}
pub use Rattle.arm.specs.declared.Second.{Second}
pub use Rattle.arm.specs.declared.Second.TheVariants.{Plain, Inverted}
pub use Rattle.arm.specs.declared.Extract.{Extract}
pub use Rattle.arm.specs.declared.Extract.TheVariants.{Sbfm, Bfm, Ubfm}
pub use Rattle.arm.specs.declared.One.{One}
pub use Rattle.arm.specs.declared.One.TheVariants.{Rev16, Rev, Clz}
pub use Rattle.arm.specs.declared.Two.{Two}
pub use Rattle.arm.specs.declared.Two.TheVariants.{Udiv, Sdiv, Lslv, Lsrv, Asrv}
pub use Rattle.arm.specs.declared.Three.{Three}
pub use Rattle.arm.specs.declared.Three.TheVariants.{Madd, Msub, Smaddl, Umaddl}
pub use Rattle.arm.specs.declared.Select.{Select}
pub use Rattle.arm.specs.declared.Select.TheVariants.{Csel, Csinc, Csinv, Csneg}
pub use Rattle.arm.specs.declared.Access.{Access}
pub use Rattle.arm.specs.declared.Access.TheVariants.{Strb, Ldrb, Ldrsb, Strh, Ldrh, Ldrsh, StrW, LdrW, StrX, LdrX}
pub use Rattle.arm.specs.declared.Scale.{Scale}
pub use Rattle.arm.specs.declared.Scale.TheVariants.{Unscaled, Scaled}
pub use Rattle.arm.specs.declared.Mode.{Mode}
pub use Rattle.arm.specs.declared.Mode.TheVariants.{Post, Offset, Pre}
pub use Rattle.arm.specs.declared.Pair.{Pair}
pub use Rattle.arm.specs.declared.Pair.TheVariants.{Stp, Ldp}
pub use Rattle.arm.specs.declared.Test.{Test}
pub use Rattle.arm.specs.declared.Test.TheVariants.{Zero, Nonzero}
pub use Rattle.arm.specs.declared.Jump.{Jump}
pub use Rattle.arm.specs.declared.Jump.TheVariants.{Br, Blr, Ret}
pub use Rattle.arm.specs.declared.Float.{Float}
pub use Rattle.arm.specs.declared.Float.TheVariants.{Fmul, Fdiv, Fadd, Fsub, Fmaxnm, Fminnm}
pub use Rattle.arm.specs.declared.Convert.{Convert}
pub use Rattle.arm.specs.declared.Convert.TheVariants.{Scvtf, Ucvtf, FmovWS, FmovSW, Fcvtzs, Fcvtzu}
pub use Rattle.arm.specs.declared.Instr.{Instr}
pub use Rattle.arm.specs.declared.Instr.TheVariants.{MoveWide, AddSubImm, AddSubShifted, LogicalShifted, LogicalImm, Bitfield, OneSource, TwoSource, ThreeSource, CondSelect, MemoryImm, MemoryReg, MemoryPair, CompareBranch, TestBranch, CondBranch, Branch, BranchReg, Adr, LoadLiteral, Nop, FloatTwo, FloatCompare, FloatConvert}

-- a bound on an operand
infix 50 ◌below◌
pub data Limit : Type 0 where
  ◌below◌ : ℕ → ℕ → Limit

-- ---- the numbers of the named fields
abbrev pub sf : Size → ℕ
sf W = 0
sf X = 1

abbrev pub bits : Size → ℕ
bits W = 32
bits X = 64

abbrev pub add_sub_op : AddSub → ℕ
add_sub_op Add = 0
add_sub_op Sub = 1

abbrev pub flags_op : Flags → ℕ
flags_op Keeps = 0
flags_op Sets = 1

abbrev pub shift_op : Shift → ℕ
shift_op Lsl = 0
shift_op Lsr = 1
shift_op Asr = 2
shift_op Ror = 3

abbrev pub move_op : Move → ℕ
move_op Movn = 0
move_op Movz = 2
move_op Movk = 3

abbrev pub logic_op : Logic → ℕ
logic_op And = 0
logic_op Orr = 1
logic_op Eor = 2
logic_op Ands = 3

abbrev pub second_op : Second → ℕ
second_op Plain = 0
second_op Inverted = 1

abbrev pub extract_op : Extract → ℕ
extract_op Sbfm = 0
extract_op Bfm = 1
extract_op Ubfm = 2

abbrev pub one_op : One → ℕ
one_op Rev16 = 1
one_op Rev = 2
one_op Clz = 4

abbrev pub two_op : Two → ℕ
two_op Udiv = 2
two_op Sdiv = 3
two_op Lslv = 8
two_op Lsrv = 9
two_op Asrv = 10

abbrev pub three_sf : Three → ℕ
three_sf Madd = 0
three_sf Msub = 0
three_sf Smaddl = 1
three_sf Umaddl = 1

abbrev pub three_op31 : Three → ℕ
three_op31 Madd = 0
three_op31 Msub = 0
three_op31 Smaddl = 1
three_op31 Umaddl = 5

abbrev pub three_o0 : Three → ℕ
three_o0 Madd = 0
three_o0 Msub = 1
three_o0 Smaddl = 0
three_o0 Umaddl = 0

abbrev pub select_op : Select → ℕ
select_op Csel = 0
select_op Csinc = 0
select_op Csinv = 1
select_op Csneg = 1

abbrev pub select_op2 : Select → ℕ
select_op2 Csel = 0
select_op2 Csinc = 1
select_op2 Csinv = 0
select_op2 Csneg = 1

abbrev pub access_size : Access → ℕ
access_size Strb = 0
access_size Ldrb = 0
access_size Ldrsb = 0
access_size Strh = 1
access_size Ldrh = 1
access_size Ldrsh = 1
access_size StrW = 2
access_size LdrW = 2
access_size StrX = 3
access_size LdrX = 3

abbrev pub access_opc : Access → ℕ
access_opc Strb = 0
access_opc Ldrb = 1
access_opc Ldrsb = 3
access_opc Strh = 0
access_opc Ldrh = 1
access_opc Ldrsh = 3
access_opc StrW = 0
access_opc LdrW = 1
access_opc StrX = 0
access_opc LdrX = 1

abbrev pub scale_op : Scale → ℕ
scale_op Unscaled = 0
scale_op Scaled = 1

abbrev pub mode_op : Mode → ℕ
mode_op Post = 1
mode_op Offset = 2
mode_op Pre = 3

abbrev pub pair_op : Pair → ℕ
pair_op Stp = 0
pair_op Ldp = 1

abbrev pub test_op : Test → ℕ
test_op Zero = 0
test_op Nonzero = 1

abbrev pub jump_op : Jump → ℕ
jump_op Br = 0
jump_op Blr = 1
jump_op Ret = 2

abbrev pub float_op : Float → ℕ
float_op Fmul = 0
float_op Fdiv = 1
float_op Fadd = 2
float_op Fsub = 3
float_op Fmaxnm = 6
float_op Fminnm = 7

-- rmode and opcode, five bits
abbrev pub convert_op : Convert → ℕ
convert_op Scvtf = 2
convert_op Ucvtf = 3
convert_op FmovWS = 6
convert_op FmovSW = 7
convert_op Fcvtzs = 24
convert_op Fcvtzu = 25

-- ---- the diagrams
pub data Class : Type 0 where
  move_wide add_sub_imm add_sub_shifted logical_shifted logical_imm bitfield one_source two_source three_source cond_select : Class
  memory_imm memory_reg memory_pair compare_branch test_branch cond_branch branch branch_reg adr load_literal nop : Class
  float_two float_compare float_convert : Class
  deriving Discrete as Class-discrete

-- the fields, by the manual's names. `sf_bit` is sf; `opcode4` the opcode of four bits; `mode` the two bits that tell a pair's
-- post-index, offset and pre-index classes apart; `rmode_opcode` is rmode with opcode behind it
abbrev pub sf_bit : Piece
sf_bit = field 1

abbrev pub op : Piece
op = field 1

abbrev pub op2 : Piece
op2 = field 1

abbrev pub S : Piece
S = field 1

abbrev pub N : Piece
N = field 1

abbrev pub L : Piece
L = field 1

abbrev pub o0 : Piece
o0 = field 1

abbrev pub b5 : Piece
b5 = field 1

abbrev pub opc : Piece
opc = field 2

abbrev pub shift : Piece
shift = field 2

abbrev pub hw : Piece
hw = field 2

abbrev pub size : Piece
size = field 2

abbrev pub mode : Piece
mode = field 2

abbrev pub immlo : Piece
immlo = field 2

abbrev pub op31 : Piece
op31 = field 3

abbrev pub cond : Piece
cond = field 4

abbrev pub opcode4 : Piece
opcode4 = field 4

abbrev pub b40 : Piece
b40 = field 5

abbrev pub rmode_opcode : Piece
rmode_opcode = field 5

abbrev pub imm6 : Piece
imm6 = field 6

abbrev pub immr : Piece
immr = field 6

abbrev pub imms : Piece
imms = field 6

abbrev pub opcode : Piece
opcode = field 6

abbrev pub imm7 : Piece
imm7 = field 7

abbrev pub imm12 : Piece
imm12 = field 12

abbrev pub imm14 : Piece
imm14 = field 14

abbrev pub imm16 : Piece
imm16 = field 16

abbrev pub imm19 : Piece
imm19 = field 19

abbrev pub immhi : Piece
immhi = field 19

abbrev pub imm26 : Piece
imm26 = field 26

abbrev pub Rd : Piece
Rd = field 5

abbrev pub Rn : Piece
Rn = field 5

abbrev pub Rm : Piece
Rm = field 5

abbrev pub Ra : Piece
Ra = field 5

abbrev pub Rt : Piece
Rt = field 5

abbrev pub Rt2 : Piece
Rt2 = field 5

-- the classes in the manual's order of C4.1, each by its title there
abbrev pub format : Class → List Piece
-- Data Processing -- Immediate: PC-rel. addressing
format adr = fixed 1 0 ∷ immlo ∷ fixed 5 0b10000 ∷ immhi ∷ Rd ∷ []
-- Add/subtract (immediate), sh 0
format add_sub_imm = sf_bit ∷ op ∷ S ∷ fixed 6 0b100010 ∷ fixed 1 0 ∷ imm12 ∷ Rn ∷ Rd ∷ []
-- Logical (immediate), sf 0 and N 0
format logical_imm = fixed 1 0 ∷ opc ∷ fixed 6 0b100100 ∷ fixed 1 0 ∷ immr ∷ imms ∷ Rn ∷ Rd ∷ []
-- Move wide (immediate)
format move_wide = sf_bit ∷ opc ∷ fixed 6 0b100101 ∷ hw ∷ imm16 ∷ Rd ∷ []
-- Bitfield
format bitfield = sf_bit ∷ opc ∷ fixed 6 0b100110 ∷ N ∷ immr ∷ imms ∷ Rn ∷ Rd ∷ []
-- Branches, Exception Generating and System instructions: Conditional branch (immediate)
format cond_branch = fixed 8 0b01010100 ∷ imm19 ∷ fixed 1 0 ∷ cond ∷ []
-- Hints
format nop = fixed 32 0xd503201f ∷ []
-- Unconditional branch (register), opc 00oo
format branch_reg = fixed 9 0b110101100 ∷ opc ∷ fixed 11 0b11111000000 ∷ Rn ∷ fixed 5 0 ∷ []
-- Unconditional branch (immediate), op 0
format branch = fixed 6 0b000101 ∷ imm26 ∷ []
-- Compare and branch (immediate)
format compare_branch = sf_bit ∷ fixed 6 0b011010 ∷ op ∷ imm19 ∷ Rt ∷ []
-- Test and branch (immediate)
format test_branch = b5 ∷ fixed 6 0b011011 ∷ op ∷ b40 ∷ imm14 ∷ Rt ∷ []
-- Loads and Stores: Load register (literal), opc 01
format load_literal = fixed 8 0b01011000 ∷ imm19 ∷ Rt ∷ []
-- Load/store register pair (post-indexed, offset, pre-indexed), opc 10
format memory_pair = fixed 7 0b1010100 ∷ mode ∷ L ∷ imm7 ∷ Rt2 ∷ Rn ∷ Rt ∷ []
-- Load/store register (register offset), option 010, UXTW
format memory_reg = size ∷ fixed 6 0b111000 ∷ opc ∷ fixed 1 1 ∷ Rm ∷ fixed 3 0b010 ∷ S ∷ fixed 2 0b10 ∷ Rn ∷ Rt ∷ []
-- Load/store register (unsigned immediate)
format memory_imm = size ∷ fixed 6 0b111001 ∷ opc ∷ imm12 ∷ Rn ∷ Rt ∷ []
-- Data Processing -- Register: Data-processing (2 source)
format two_source = sf_bit ∷ fixed 10 0b0011010110 ∷ Rm ∷ opcode ∷ Rn ∷ Rd ∷ []
-- Data-processing (1 source), sf 0 and opcode2 00000
format one_source = fixed 16 0b0101101011000000 ∷ opcode ∷ Rn ∷ Rd ∷ []
-- Logical (shifted register)
format logical_shifted = sf_bit ∷ opc ∷ fixed 5 0b01010 ∷ shift ∷ N ∷ Rm ∷ imm6 ∷ Rn ∷ Rd ∷ []
-- Add/subtract (shifted register)
format add_sub_shifted = sf_bit ∷ op ∷ S ∷ fixed 5 0b01011 ∷ shift ∷ fixed 1 0 ∷ Rm ∷ imm6 ∷ Rn ∷ Rd ∷ []
-- Conditional select
format cond_select = sf_bit ∷ op ∷ fixed 9 0b011010100 ∷ Rm ∷ cond ∷ fixed 1 0 ∷ op2 ∷ Rn ∷ Rd ∷ []
-- Data-processing (3 source)
format three_source = sf_bit ∷ fixed 7 0b0011011 ∷ op31 ∷ Rm ∷ o0 ∷ Ra ∷ Rn ∷ Rd ∷ []
-- Data Processing -- Scalar Floating-Point and Advanced SIMD, ptype 00: Conversion between floating-point and integer
format float_convert = fixed 11 0b00011110001 ∷ rmode_opcode ∷ fixed 6 0 ∷ Rn ∷ Rd ∷ []
-- Floating-point compare
format float_compare = fixed 11 0b00011110001 ∷ Rm ∷ fixed 6 0b001000 ∷ Rn ∷ fixed 5 0 ∷ []
-- Floating-point data-processing (2 source)
format float_two = fixed 11 0b00011110001 ∷ Rm ∷ opcode4 ∷ fixed 2 0b10 ∷ Rn ∷ Rd ∷ []

abbrev pub class : Instr → Class
class (MoveWide z m hw imm rd) = move_wide
class (AddSubImm z o f imm rn rd) = add_sub_imm
class (AddSubShifted z o f h rm n rn rd) = add_sub_shifted
class (LogicalShifted z o v h rm n rn rd) = logical_shifted
class (LogicalImm o immr imms rn rd) = logical_imm
class (Bitfield z o immr imms rn rd) = bitfield
class (OneSource o rn rd) = one_source
class (TwoSource z o rm rn rd) = two_source
class (ThreeSource o rm ra rn rd) = three_source
class (CondSelect z o rm cond rn rd) = cond_select
class (MemoryImm a imm rn rt) = memory_imm
class (MemoryReg a c rm rn rt) = memory_reg
class (MemoryPair m p imm rt2 rn rt) = memory_pair
class (CompareBranch z t imm rt) = compare_branch
class (TestBranch t n imm rt) = test_branch
class (CondBranch imm cond) = cond_branch
class (Branch imm) = branch
class (BranchReg j rn) = branch_reg
class (Adr imm rd) = adr
class (LoadLiteral imm rt) = load_literal
class Nop = nop
class (FloatTwo o rm rn rd) = float_two
class (FloatCompare rm rn) = float_compare
class (FloatConvert o rn rd) = float_convert

abbrev pub operands : Instr → List ℕ
operands (MoveWide z m hw imm rd) = sf z ∷ move_op m ∷ hw ∷ imm ∷ rd ∷ []
operands (AddSubImm z o f imm rn rd) = sf z ∷ add_sub_op o ∷ flags_op f ∷ imm ∷ rn ∷ rd ∷ []
operands (AddSubShifted z o f h rm n rn rd) = sf z ∷ add_sub_op o ∷ flags_op f ∷ shift_op h ∷ rm ∷ n ∷ rn ∷ rd ∷ []
operands (LogicalShifted z o v h rm n rn rd) = sf z ∷ logic_op o ∷ shift_op h ∷ second_op v ∷ rm ∷ n ∷ rn ∷ rd ∷ []
operands (LogicalImm o immr imms rn rd) = logic_op o ∷ immr ∷ imms ∷ rn ∷ rd ∷ []
operands (Bitfield z o immr imms rn rd) = sf z ∷ extract_op o ∷ sf z ∷ immr ∷ imms ∷ rn ∷ rd ∷ []
operands (OneSource o rn rd) = one_op o ∷ rn ∷ rd ∷ []
operands (TwoSource z o rm rn rd) = sf z ∷ rm ∷ two_op o ∷ rn ∷ rd ∷ []
operands (ThreeSource o rm ra rn rd) = three_sf o ∷ three_op31 o ∷ rm ∷ three_o0 o ∷ ra ∷ rn ∷ rd ∷ []
operands (CondSelect z o rm cond rn rd) = sf z ∷ select_op o ∷ rm ∷ cond ∷ select_op2 o ∷ rn ∷ rd ∷ []
operands (MemoryImm a imm rn rt) = access_size a ∷ access_opc a ∷ imm ∷ rn ∷ rt ∷ []
operands (MemoryReg a c rm rn rt) = access_size a ∷ access_opc a ∷ rm ∷ scale_op c ∷ rn ∷ rt ∷ []
operands (MemoryPair m p imm rt2 rn rt) = mode_op m ∷ pair_op p ∷ imm ∷ rt2 ∷ rn ∷ rt ∷ []
operands (CompareBranch z t imm rt) = sf z ∷ test_op t ∷ imm ∷ rt ∷ []
operands (TestBranch t n imm rt) = n / 32 ∷ test_op t ∷ n % 32 ∷ imm ∷ rt ∷ []
operands (CondBranch imm cond) = imm ∷ cond ∷ []
operands (Branch imm) = imm ∷ []
operands (BranchReg j rn) = jump_op j ∷ rn ∷ []
operands (Adr imm rd) = imm % 4 ∷ imm / 4 ∷ rd ∷ []
operands (LoadLiteral imm rt) = imm ∷ rt ∷ []
operands Nop = []
operands (FloatTwo o rm rn rd) = rm ∷ float_op o ∷ rn ∷ rd ∷ []
operands (FloatCompare rm rn) = rm ∷ rn ∷ []
operands (FloatConvert o rn rd) = convert_op o ∷ rn ∷ rd ∷ []

-- limits that are narrower than the fields: in a 32-bit form a bit's number is below 32
abbrev pub limits : Instr → List Limit
limits (MoveWide z m hw imm rd) = (hw * 16 below bits z) ∷ []
limits (AddSubImm z o f imm rn rd) = []
limits (AddSubShifted z o f h rm n rn rd) = (shift_op h below 3) ∷ (n below bits z) ∷ []
limits (LogicalShifted z o v h rm n rn rd) = (n below bits z) ∷ []
limits (LogicalImm o immr imms rn rd) = (immr below 32) ∷ (imms below 31) ∷ []
limits (Bitfield z o immr imms rn rd) = (immr below bits z) ∷ (imms below bits z) ∷ []
limits (OneSource o rn rd) = []
limits (TwoSource z o rm rn rd) = []
limits (ThreeSource o rm ra rn rd) = []
limits (CondSelect z o rm cond rn rd) = []
limits (MemoryImm a imm rn rt) = []
limits (MemoryReg a c rm rn rt) = []
limits (MemoryPair m p imm rt2 rn rt) = []
limits (CompareBranch z t imm rt) = []
limits (TestBranch t n imm rt) = []
limits (CondBranch imm cond) = []
limits (Branch imm) = []
limits (BranchReg j rn) = []
limits (Adr imm rd) = []
limits (LoadLiteral imm rt) = []
limits Nop = []
limits (FloatTwo o rm rn rd) = []
limits (FloatCompare rm rn) = []
limits (FloatConvert o rn rd) = []

abbrev pub Within : List Limit → Type 0
Within [] = Unit {0}
Within ((x below n) ∷ ls) = (x < n) × Within ls

-- ---- the word, and what it can carry
abbrev pub encode : Instr → ℕ
encode i = pack (format (class i)) (operands i)

-- each operand fits its field and is within the class's limits
abbrev pub Carried : Instr → Type 0
Carried i = Fits (format (class i)) (operands i) × Within (limits i)
