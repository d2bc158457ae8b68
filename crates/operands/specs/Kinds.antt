-- The kinds of operations, as document 01's list of kinds has them, and behind it those of document 02: the operands of each in order, and
-- what it is made of them. A later kind is a row.
use Rattle.std.specs.Prelude.{Bool, true, false, not, ◌||◌, List, [], ◌∷◌, ℕ, ◌%◌, leb, ltb, eqb, get_or}
use Rattle.block.specs.declared.Op.{Op}
use Rattle.block.specs.declared.Op.TheVariants.{Add, Sub, RSub, And, AndNot, Or, Xor, Mul, Shl, Shr, Sar}
use Rattle.block.specs.declared.RmwOp.{RmwOp}
use Rattle.block.specs.declared.RmwOp.TheVariants.{Or as RmwOr, And as RmwAnd, Xor as RmwXor, Add as RmwAdd, Sub as RmwSub, Mov as RmwMov}
use Rattle.block.specs.declared.Cond.{Cond}
use Rattle.block.specs.declared.Cond.TheVariants.{Eq, Ne, LtU, GtU, LeU, GeU, LtS, GtS, LeS, GeS}
use Rattle.block.specs.declared.Base.{Base}
use Rattle.block.specs.declared.Base.TheVariants.{Reg, Sp}
use Rattle.block.specs.declared.Amount.{Amount}
use Rattle.block.specs.declared.Amount.TheVariants.{Reg as ByReg, Inc as ByInc}
use Rattle.block.specs.declared.Width.{Width}
use Rattle.block.specs.declared.Width.TheVariants.{Byte as B8, Half as B16, Word as B32}
use Rattle.block.specs.declared.Rk.{Rk}
use Rattle.block.specs.declared.Rk.TheVariants.{Reg as RkReg, Imm as RkImm, Bit as RkBit}
use Rattle.block.specs.declared.Part.{Part}
use Rattle.block.specs.declared.Part.TheVariants.{Byte as PartByte, Half as PartHalf, Upper as PartUpper}
use Rattle.block.specs.declared.Choice.{Choice}
use Rattle.block.specs.declared.Choice.TheVariants.{MinS, MaxS, MinU, MaxU}
use Rattle.block.specs.declared.UnKind.{UnKind}
use Rattle.block.specs.declared.UnKind.TheVariants.{Not, Neg, Abs, Rev, Clz, SatS, SatU}
use Rattle.block.specs.declared.DivKind.{DivKind}
use Rattle.block.specs.declared.DivKind.TheVariants.{QuoS, QuoU, RemS, RemU}
use Rattle.block.specs.declared.Fast.{Fast}
use Rattle.block.specs.declared.Fast.TheVariants.{Nop, MovI, Mov, AddRI, ShlI, SarI, Alu3, Alu3I, Alu2, Alu2I, A4, Ext, MinMax, Un, Div}
use Rattle.block.specs.declared.Fast.TheVariants.{Mov2, Mov2I, BitExt, BitIns, SpAdd, RFromSp, Ld, St, LdIdx, StIdx, LdPost, StPost, Rmw}
use Rattle.block.specs.declared.Fast.TheVariants.{PushRet, PopRets, BrI, BrR, DecBr, BitBr, Goto, Call, Rts, GotoR, CallR, PopRet}
use Rattle.block.specs.declared.Fast.TheVariants.{BlockMove, PushRets, PopPc, LdPair, StPair, LdPre, StPre, LdPostR, MemA4, Tb}

-- what an operand may be
pub data Class : Type 0 where
  reg base any32 byte flag width alu_op rmw_op cond mask nib : Class

-- "Registers are 0 to 15; in kinds 21 and 22, b may be 16 for sp. w is 1, 2 or 4. signed and ne are 0 or 1. op is 0 to 10 ..; in
-- Rmw 0 to 5 .. cond is 0 to 9 .. n, p, l, sh, part, kind, k, rk, mk are 0 to 255. v, off, inc, rv, mv, target are any 32 bits." Of the
-- groups: "The mask is 16 bits .. n is 0 to 15, p is 0 to 255 .., the three flags are 0 or 1, and b may be 16 in the pairs." Of the forms
-- of 2026-09: "In 45 and 46 an i of 16 to 255 means the increment is used; in 47 i is a register; half is 0 or 1."
abbrev pub fits : Class → ℕ → Bool
fits reg x = leb x 15
fits base x = leb x 16
fits any32 x = true
fits byte x = leb x 255
fits flag x = leb x 1
fits width x = eqb x 1 || (eqb x 2 || eqb x 4)
fits alu_op x = leb x 10
fits rmw_op x = leb x 5
fits cond x = leb x 9
fits mask x = leb x 65535
fits nib x = leb x 15

-- ---- numbers to operands: an operand of one byte, a mask, a flag, and the selectors, of which a number above the cases is the last

abbrev pub low : ℕ → ℕ
low x = x % 256

abbrev pub low16 : ℕ → ℕ
low16 x = x % 65536

abbrev pub flag_of : ℕ → Bool
flag_of x = not (eqb x 0)

abbrev pub ops : List Op
ops = Add ∷ Sub ∷ RSub ∷ And ∷ AndNot ∷ Or ∷ Xor ∷ Mul ∷ Shl ∷ Shr ∷ []

abbrev pub op_of : ℕ → Op
op_of x = get_or ops x Sar

abbrev pub rmw_ops : List RmwOp
rmw_ops = RmwOr ∷ RmwAnd ∷ RmwXor ∷ RmwAdd ∷ RmwSub ∷ []

abbrev pub rmw_op_of : ℕ → RmwOp
rmw_op_of x = get_or rmw_ops x RmwMov

abbrev pub conds : List Cond
conds = Eq ∷ Ne ∷ LtU ∷ GtU ∷ LeU ∷ GeU ∷ LtS ∷ GtS ∷ LeS ∷ []

abbrev pub cond_of : ℕ → Cond
cond_of x = get_or conds x GeS

abbrev pub pick_base : Bool → ℕ → Base
pick_base true x = Reg (low x)
pick_base false x = Sp

abbrev pub base_of : ℕ → Base
base_of x = pick_base (ltb x 16) x

abbrev pub pick_amount : Bool → (i inc : ℕ) → Amount
pick_amount true i inc = ByReg (low i)
pick_amount false i inc = ByInc inc

abbrev pub amount_of : (i inc : ℕ) → Amount
amount_of i inc = pick_amount (ltb i 16) i inc

abbrev pub widths : List Width
widths = B8 ∷ B8 ∷ B16 ∷ []

abbrev pub width_of : ℕ → Width
width_of x = get_or widths x B32

abbrev pub rks : List Rk
rks = RkReg ∷ RkImm ∷ []

abbrev pub rk_of : ℕ → Rk
rk_of x = get_or rks x RkBit

abbrev pub parts : List Part
parts = PartByte ∷ PartHalf ∷ []

abbrev pub part_of : ℕ → Part
part_of x = get_or parts x PartUpper

abbrev pub choices : List Choice
choices = MinS ∷ MaxS ∷ MinU ∷ []

abbrev pub choice_of : ℕ → Choice
choice_of x = get_or choices x MaxU

abbrev pub un_kinds : List UnKind
un_kinds = Not ∷ Neg ∷ Abs ∷ Rev ∷ Clz ∷ SatS ∷ []

abbrev pub un_kind_of : ℕ → UnKind
un_kind_of x = get_or un_kinds x SatU

abbrev pub div_kinds : List DivKind
div_kinds = QuoS ∷ QuoU ∷ RemS ∷ []

abbrev pub div_kind_of : ℕ → DivKind
div_kind_of x = get_or div_kinds x RemU

-- ---- the kinds

pub record Kind : Type 0 where
  pub operands : List Class
  pub fast : (ℕ → ℕ) → Fast

abbrev pub kind : List Class → ((ℕ → ℕ) → Fast) → Kind
kind cs f = record { operands = cs; fast = f }

-- x 0, x 1 .. are the operands in order
abbrev pub kinds : List Kind
kinds =
    kind [] (λ x. Nop)
    ∷ kind (reg ∷ any32 ∷ []) (λ x. MovI (low (x 0)) (x 1))
    ∷ kind (reg ∷ reg ∷ []) (λ x. Mov (low (x 0)) (low (x 1)))
    ∷ kind (reg ∷ reg ∷ any32 ∷ []) (λ x. AddRI (low (x 0)) (low (x 1)) (x 2))
    ∷ kind (reg ∷ reg ∷ byte ∷ []) (λ x. ShlI (low (x 0)) (low (x 1)) (low (x 2)))
    ∷ kind (reg ∷ reg ∷ byte ∷ []) (λ x. SarI (low (x 0)) (low (x 1)) (low (x 2)))
    ∷ kind (reg ∷ reg ∷ reg ∷ alu_op ∷ []) (λ x. Alu3 (low (x 0)) (low (x 1)) (low (x 2)) (op_of (x 3)))
    ∷ kind (reg ∷ reg ∷ any32 ∷ alu_op ∷ []) (λ x. Alu3I (low (x 0)) (low (x 1)) (x 2) (op_of (x 3)))
    ∷ kind (reg ∷ reg ∷ alu_op ∷ []) (λ x. Alu2 (low (x 0)) (low (x 1)) (op_of (x 2)))
    ∷ kind (reg ∷ any32 ∷ alu_op ∷ []) (λ x. Alu2I (low (x 0)) (x 1) (op_of (x 2)))
    ∷ kind (reg ∷ reg ∷ alu_op ∷ byte ∷ any32 ∷ []) (λ x. A4 (low (x 0)) (low (x 1)) (op_of (x 2)) (rk_of (x 3)) (x 4))
    ∷ kind (reg ∷ reg ∷ byte ∷ flag ∷ []) (λ x. Ext (low (x 0)) (low (x 1)) (part_of (x 2)) (flag_of (x 3)))
    ∷ kind (reg ∷ reg ∷ reg ∷ byte ∷ []) (λ x. MinMax (low (x 0)) (low (x 1)) (low (x 2)) (choice_of (x 3)))
    ∷ kind (reg ∷ reg ∷ byte ∷ []) (λ x. Un (low (x 0)) (low (x 1)) (un_kind_of (x 2)))
    ∷ kind (reg ∷ reg ∷ reg ∷ byte ∷ []) (λ x. Div (low (x 0)) (low (x 1)) (low (x 2)) (div_kind_of (x 3)))
    ∷ kind (reg ∷ reg ∷ reg ∷ reg ∷ []) (λ x. Mov2 (low (x 0)) (low (x 1)) (low (x 2)) (low (x 3)))
    ∷ kind (reg ∷ reg ∷ any32 ∷ []) (λ x. Mov2I (low (x 0)) (low (x 1)) (x 2))
    ∷ kind (reg ∷ reg ∷ byte ∷ byte ∷ flag ∷ []) (λ x. BitExt (low (x 0)) (low (x 1)) (low (x 2)) (low (x 3)) (flag_of (x 4)))
    ∷ kind (reg ∷ reg ∷ byte ∷ byte ∷ []) (λ x. BitIns (low (x 0)) (low (x 1)) (low (x 2)) (low (x 3)))
    ∷ kind (any32 ∷ []) (λ x. SpAdd (x 0))
    ∷ kind (reg ∷ any32 ∷ []) (λ x. RFromSp (low (x 0)) (x 1))
    ∷ kind (reg ∷ base ∷ any32 ∷ width ∷ flag ∷ []) (λ x. Ld (low (x 0)) (base_of (x 1)) (x 2) (width_of (x 3)) (flag_of (x 4)))
    ∷ kind (reg ∷ base ∷ any32 ∷ width ∷ []) (λ x. St (low (x 0)) (base_of (x 1)) (x 2) (width_of (x 3)))
    ∷ kind (reg ∷ reg ∷ reg ∷ byte ∷ width ∷ flag ∷ [])
    (λ x. LdIdx (low (x 0)) (low (x 1)) (low (x 2)) (low (x 3)) (width_of (x 4)) (flag_of (x 5)))
    ∷ kind (reg ∷ reg ∷ reg ∷ byte ∷ width ∷ []) (λ x. StIdx (low (x 0)) (low (x 1)) (low (x 2)) (low (x 3)) (width_of (x 4)))
    ∷ kind (reg ∷ reg ∷ width ∷ flag ∷ any32 ∷ []) (λ x. LdPost (low (x 0)) (low (x 1)) (width_of (x 2)) (flag_of (x 3)) (x 4))
    ∷ kind (reg ∷ reg ∷ width ∷ any32 ∷ []) (λ x. StPost (low (x 0)) (low (x 1)) (width_of (x 2)) (x 3))
    ∷ kind (reg ∷ width ∷ rmw_op ∷ any32 ∷ any32 ∷ []) (λ x. Rmw (low (x 0)) (width_of (x 1)) (rmw_op_of (x 2)) (x 3) (x 4))
    ∷ kind [] (λ x. PushRet)
    ∷ kind [] (λ x. PopRets)
    ∷ kind (reg ∷ any32 ∷ cond ∷ any32 ∷ []) (λ x. BrI (low (x 0)) (x 1) (cond_of (x 2)) (x 3))
    ∷ kind (reg ∷ reg ∷ cond ∷ any32 ∷ []) (λ x. BrR (low (x 0)) (low (x 1)) (cond_of (x 2)) (x 3))
    ∷ kind (reg ∷ cond ∷ any32 ∷ any32 ∷ []) (λ x. DecBr (low (x 0)) (cond_of (x 1)) (x 2) (x 3))
    ∷ kind (reg ∷ byte ∷ flag ∷ any32 ∷ any32 ∷ []) (λ x. BitBr (low (x 0)) (rk_of (x 1)) (flag_of (x 2)) (x 3) (x 4))
    ∷ kind (any32 ∷ []) (λ x. Goto (x 0))
    ∷ kind (any32 ∷ []) (λ x. Call (x 0))
    ∷ kind [] (λ x. Rts)
    ∷ kind (reg ∷ []) (λ x. GotoR (low (x 0)))
    ∷ kind (reg ∷ []) (λ x. CallR (low (x 0)))
    ∷ kind [] (λ x. PopRet)
    ∷ kind (reg ∷ mask ∷ flag ∷ flag ∷ flag ∷ []) (λ x. BlockMove (low (x 0)) (low16 (x 1)) (flag_of (x 2)) (flag_of (x 3)) (flag_of (x 4)))
    ∷ kind (nib ∷ []) (λ x. PushRets (low (x 0)))
    ∷ kind (nib ∷ []) (λ x. PopPc (low (x 0)))
    ∷ kind (byte ∷ base ∷ any32 ∷ []) (λ x. LdPair (low (x 0)) (base_of (x 1)) (x 2))
    ∷ kind (byte ∷ base ∷ any32 ∷ []) (λ x. StPair (low (x 0)) (base_of (x 1)) (x 2))
    ∷ kind (reg ∷ reg ∷ byte ∷ width ∷ flag ∷ any32 ∷ [])
    (λ x. LdPre (low (x 0)) (low (x 1)) (amount_of (x 2) (x 5)) (width_of (x 3)) (flag_of (x 4)))
    ∷ kind (reg ∷ reg ∷ byte ∷ width ∷ any32 ∷ []) (λ x. StPre (low (x 0)) (low (x 1)) (amount_of (x 2) (x 4)) (width_of (x 3)))
    ∷ kind (reg ∷ reg ∷ reg ∷ width ∷ flag ∷ []) (λ x. LdPostR (low (x 0)) (low (x 1)) (low (x 2)) (width_of (x 3)) (flag_of (x 4)))
    ∷ kind (reg ∷ any32 ∷ alu_op ∷ byte ∷ any32 ∷ []) (λ x. MemA4 (low (x 0)) (x 1) (op_of (x 2)) (rk_of (x 3)) (x 4))
    ∷ kind (reg ∷ flag ∷ []) (λ x. Tb (low (x 0)) (flag_of (x 1)))
    ∷ []

-- the row of a kind
abbrev pub kind_at : ℕ → Kind
kind_at k = get_or kinds k (kind [] (λ x. Nop))

-- the operation of a kind with these operands
abbrev pub fast_of : ℕ → List ℕ → Fast
fast_of k xs = (kind_at k).fast (λ i. get_or xs i 0)
