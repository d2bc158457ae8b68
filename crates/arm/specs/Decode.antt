-- The instruction that a word encodes: the word is read in each class's format in turn, and the instruction read is the
-- answer where it carries its operands and its word is the one given.
use Rattle.std.specs.Prelude.{ℕ, ◌+◌, ◌*◌, ◌/◌, ◌%◌, ◌^◌, List, [], ◌∷◌, Bool, true, false, ltb, eqb, get_or}
use Rattle.arm.specs.Fields.{Piece, fixed, field, total}
use Rattle.arm.specs.Instr.{Size, W, X, AddSub, Add, Sub, Flags, Keeps, Sets, Shift, Lsl, Lsr, Asr, Ror}
use Rattle.arm.specs.Instr.{Move, Movn, Movz, Movk, Logic, And, Orr, Eor, Ands, Second, Plain, Inverted, Extract, Sbfm, Bfm, Ubfm}
use Rattle.arm.specs.Instr.{One, Rev16, Rev, Clz, Two, Udiv, Sdiv, Lslv, Lsrv, Asrv, Three, Madd, Msub, Smaddl, Umaddl}
use Rattle.arm.specs.Instr.{Select, Csel, Csinc, Csinv, Csneg, Access, Strb, Ldrb, Ldrsb, Strh, Ldrh, Ldrsh, StrW, LdrW, StrX, LdrX}
use Rattle.arm.specs.Instr.{Scale, Unscaled, Scaled, Mode, Post, Offset, Pre, Pair, Stp, Ldp, Test, Zero, Nonzero, Jump, Br, Blr, Ret}
use Rattle.arm.specs.Instr.{Float, Fmul, Fdiv, Fadd, Fsub, Fmaxnm, Fminnm, Convert, Scvtf, Ucvtf, FmovWS, FmovSW, Fcvtzs, Fcvtzu}
use Rattle.arm.specs.Instr.{Instr, MoveWide, AddSubImm, AddSubShifted, LogicalShifted, LogicalImm, Bitfield, OneSource, TwoSource, ThreeSource, CondSelect, MemoryImm, MemoryReg, MemoryPair, CompareBranch, TestBranch, CondBranch, Branch, BranchReg, Adr, LoadLiteral, Nop, FloatTwo, FloatCompare, FloatConvert}
use Rattle.arm.specs.Instr.{Class, move_wide, add_sub_imm, add_sub_shifted, logical_shifted, logical_imm, bitfield, one_source, two_source, three_source, cond_select, memory_imm, memory_reg, memory_pair, compare_branch, test_branch, cond_branch, branch, branch_reg, adr, load_literal, nop, float_two, float_compare, float_convert}
use Rattle.arm.specs.Instr.{Limit, ◌below◌, format, class, operands, limits, encode}

-- ---- the operands of a word
abbrev pub unpack : List Piece → ℕ → List ℕ
unpack [] w = []
unpack (fixed k v ∷ ps) w = unpack ps (w % 2 ^ total ps)
unpack (field k ∷ ps) w = w / 2 ^ total ps ∷ unpack ps (w % 2 ^ total ps)

-- ---- the named fields, by their numbers. A number that names nothing is read as some value, whose word then differs
unfoldable pub size_of : ℕ → Size
size_of n = get_or (W ∷ X ∷ []) n W

unfoldable pub add_sub_of : ℕ → AddSub
add_sub_of n = get_or (Add ∷ Sub ∷ []) n Add

unfoldable pub flags_of : ℕ → Flags
flags_of n = get_or (Keeps ∷ Sets ∷ []) n Keeps

unfoldable pub shift_of : ℕ → Shift
shift_of n = get_or (Lsl ∷ Lsr ∷ Asr ∷ Ror ∷ []) n Lsl

unfoldable pub move_of : ℕ → Move
move_of n = get_or (Movn ∷ Movn ∷ Movz ∷ Movk ∷ []) n Movn

unfoldable pub logic_of : ℕ → Logic
logic_of n = get_or (And ∷ Orr ∷ Eor ∷ Ands ∷ []) n And

unfoldable pub second_of : ℕ → Second
second_of n = get_or (Plain ∷ Inverted ∷ []) n Plain

unfoldable pub extract_of : ℕ → Extract
extract_of n = get_or (Sbfm ∷ Bfm ∷ Ubfm ∷ []) n Sbfm

unfoldable pub one_of : ℕ → One
one_of n = get_or (Clz ∷ Rev16 ∷ Rev ∷ []) n Clz

unfoldable pub two_of : ℕ → Two
two_of n = get_or (Udiv ∷ Udiv ∷ Udiv ∷ Sdiv ∷ Udiv ∷ Udiv ∷ Udiv ∷ Udiv ∷ Lslv ∷ Lsrv ∷ Asrv ∷ []) n Udiv

-- by op31 and o0
unfoldable pub three_of : ℕ → Three
three_of n = get_or (Madd ∷ Msub ∷ Smaddl ∷ []) n Umaddl

-- by op and op2
unfoldable pub select_of : ℕ → Select
select_of n = get_or (Csel ∷ Csinc ∷ Csinv ∷ Csneg ∷ []) n Csel

-- by size and opc
unfoldable pub access_of : ℕ → Access
access_of n = get_or (Strb ∷ Ldrb ∷ Strb ∷ Ldrsb ∷ Strh ∷ Ldrh ∷ Strh ∷ Ldrsh ∷ StrW ∷ LdrW ∷ StrW ∷ StrW ∷ StrX ∷ LdrX ∷ []) n StrX

unfoldable pub scale_of : ℕ → Scale
scale_of n = get_or (Unscaled ∷ Scaled ∷ []) n Unscaled

unfoldable pub mode_of : ℕ → Mode
mode_of n = get_or (Post ∷ Post ∷ Offset ∷ Pre ∷ []) n Post

unfoldable pub pair_of : ℕ → Pair
pair_of n = get_or (Stp ∷ Ldp ∷ []) n Stp

unfoldable pub test_of : ℕ → Test
test_of n = get_or (Zero ∷ Nonzero ∷ []) n Zero

unfoldable pub jump_of : ℕ → Jump
jump_of n = get_or (Br ∷ Blr ∷ Ret ∷ []) n Br

unfoldable pub float_of : ℕ → Float
float_of n = get_or (Fmul ∷ Fdiv ∷ Fadd ∷ Fsub ∷ Fmul ∷ Fmul ∷ Fmaxnm ∷ Fminnm ∷ []) n Fmul

-- by rmode and opcode: rounding to zero, 24 and 25, stands at 8 and 9
unfoldable pub convert_of : ℕ → Convert
convert_of n = get_or (Scvtf ∷ Scvtf ∷ Scvtf ∷ Ucvtf ∷ Scvtf ∷ Scvtf ∷ FmovWS ∷ FmovSW ∷ Fcvtzs ∷ Fcvtzu ∷ []) (n % 16) Scvtf

-- ---- the instruction of a class with these operands
infixl 90 ◌#◌
abbrev pub ◌#◌ : List ℕ → ℕ → ℕ
xs # n = get_or xs n 0

abbrev pub make : Class → List ℕ → Instr
make move_wide x = MoveWide (size_of (x # 0)) (move_of (x # 1)) (x # 2) (x # 3) (x # 4)
make add_sub_imm x = AddSubImm (size_of (x # 0)) (add_sub_of (x # 1)) (flags_of (x # 2)) (x # 3) (x # 4) (x # 5)
make add_sub_shifted x = AddSubShifted (size_of (x # 0)) (add_sub_of (x # 1)) (flags_of (x # 2)) (shift_of (x # 3)) (x # 4) (x # 5) (x # 6) (x # 7)
make logical_shifted x = LogicalShifted (size_of (x # 0)) (logic_of (x # 1)) (second_of (x # 3)) (shift_of (x # 2)) (x # 4) (x # 5) (x # 6) (x # 7)
make logical_imm x = LogicalImm (logic_of (x # 0)) (x # 1) (x # 2) (x # 3) (x # 4)
make bitfield x = Bitfield (size_of (x # 0)) (extract_of (x # 1)) (x # 3) (x # 4) (x # 5) (x # 6)
make one_source x = OneSource (one_of (x # 0)) (x # 1) (x # 2)
make two_source x = TwoSource (size_of (x # 0)) (two_of (x # 2)) (x # 1) (x # 3) (x # 4)
make three_source x = ThreeSource (three_of (x # 1 * 2 + x # 3)) (x # 2) (x # 4) (x # 5) (x # 6)
make cond_select x = CondSelect (size_of (x # 0)) (select_of (x # 1 * 2 + x # 4)) (x # 2) (x # 3) (x # 5) (x # 6)
make memory_imm x = MemoryImm (access_of (x # 0 * 4 + x # 1)) (x # 2) (x # 3) (x # 4)
make memory_reg x = MemoryReg (access_of (x # 0 * 4 + x # 1)) (scale_of (x # 3)) (x # 2) (x # 4) (x # 5)
make memory_pair x = MemoryPair (mode_of (x # 0)) (pair_of (x # 1)) (x # 2) (x # 3) (x # 4) (x # 5)
make compare_branch x = CompareBranch (size_of (x # 0)) (test_of (x # 1)) (x # 2) (x # 3)
make test_branch x = TestBranch (test_of (x # 1)) (x # 0 * 32 + x # 2) (x # 3) (x # 4)
make cond_branch x = CondBranch (x # 0) (x # 1)
make branch x = Branch (x # 0)
make branch_reg x = BranchReg (jump_of (x # 0)) (x # 1)
make adr x = Adr (x # 1 * 4 + x # 0) (x # 2)
make load_literal x = LoadLiteral (x # 0) (x # 1)
make nop x = Nop
make float_two x = FloatTwo (float_of (x # 1)) (x # 0) (x # 2) (x # 3)
make float_compare x = FloatCompare (x # 0) (x # 1)
make float_convert x = FloatConvert (convert_of (x # 0)) (x # 1) (x # 2)

-- ---- the tests of `Carried`
abbrev pub both : Bool → Bool → Bool
both true b = b
both false b = false

abbrev pub fits : List Piece → List ℕ → Bool
fits [] [] = true
fits [] (x ∷ xs) = false
fits (fixed k v ∷ ps) xs = fits ps xs
fits (field k ∷ ps) [] = false
fits (field k ∷ ps) (x ∷ xs) = both (ltb x (2 ^ k)) (fits ps xs)

abbrev pub within : List Limit → Bool
within [] = true
within ((x below n) ∷ ls) = both (ltb x n) (within ls)

abbrev pub carried : Instr → Bool
carried i = both (fits (format (class i)) (operands i)) (within (limits i))

-- ---- the answer
pub data Decoded : Type 0 where
  valid : Instr → Decoded
  invalid : Decoded

abbrev pub keep : Bool → Instr → Decoded
keep true i = valid i
keep false i = invalid

abbrev pub checked : ℕ → Instr → Decoded
checked w i = keep (both (carried i) (eqb (encode i) w)) i

abbrev pub attempt : Class → ℕ → Decoded
attempt c w = checked w (make c (unpack (format c) w))

abbrev pub first : Decoded → Decoded → Decoded
first (valid i) d = valid i
first invalid d = d

unfoldable pub find : List Class → ℕ → Decoded
find [] w = invalid
find (c ∷ cs) w = first (attempt c w) (find cs w)

abbrev pub classes : List Class
classes =
    move_wide ∷ add_sub_imm ∷ add_sub_shifted ∷ logical_shifted ∷ logical_imm ∷ bitfield ∷ one_source ∷ two_source ∷ three_source ∷ cond_select
    ∷ memory_imm ∷ memory_reg ∷ memory_pair ∷ compare_branch ∷ test_branch ∷ cond_branch ∷ branch ∷ branch_reg ∷ adr ∷ load_literal ∷ nop
    ∷ float_two ∷ float_compare ∷ float_convert ∷ []

unfoldable pub decode : ℕ → Decoded
decode w = find classes w
