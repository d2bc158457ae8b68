-- An operation as a list of steps, each a call that the Rust's `emit_op` makes on `Gen`. A line a kind, to be held beside the Rust.
use Rattle.std.specs.Prelude.{Bool, true, false, List, [], ◌∷◌, ◌++◌, reverse, ℕ, suc, ◌+◌, ◌-◌, ◌*◌, ◌%◌, ◌^◌, eqb, ltb}
use Rattle.arm.specs.declared.Instr.{Instr}
use Rattle.block.specs.declared.Op.{Op}
use Rattle.block.specs.declared.Op.TheVariants.{Add, Sub, RSub, And, AndNot, Or, Xor, Mul, Shl, Shr, Sar}
use Rattle.block.specs.declared.RmwOp.{RmwOp}
use Rattle.block.specs.declared.RmwOp.TheVariants.{Or as RmwOr, And as RmwAnd, Xor as RmwXor, Add as RmwAdd, Sub as RmwSub, Mov as RmwMov}
use Rattle.block.specs.declared.Cond.{Cond}
use Rattle.block.specs.declared.Cond.TheVariants.{Eq, Ne, LtU, GtU, LeU, GeU, LtS, GtS, LeS, GeS}
use Rattle.block.specs.declared.Base.{Base}
use Rattle.block.specs.declared.Base.TheVariants.{Reg, Sp}
use Rattle.block.specs.declared.Amount.{Amount}
use Rattle.block.specs.declared.Amount.TheVariants.{Reg as ByReg, Inc as ByInc}
use Rattle.block.specs.declared.Width.{Width}
use Rattle.block.specs.declared.Width.TheVariants.{Byte as B8, Half as B16, Word as B32}
use Rattle.block.specs.declared.Rk.{Rk}
use Rattle.block.specs.declared.Rk.TheVariants.{Reg as RkReg, Imm as RkImm, Bit as RkBit}
use Rattle.block.specs.declared.Part.{Part}
use Rattle.block.specs.declared.Part.TheVariants.{Byte as PartByte, Half as PartHalf, Upper as PartUpper}
use Rattle.block.specs.declared.Choice.{Choice}
use Rattle.block.specs.declared.Choice.TheVariants.{MinS, MaxS, MinU, MaxU}
use Rattle.block.specs.declared.UnKind.{UnKind}
use Rattle.block.specs.declared.UnKind.TheVariants.{Not, Neg, Abs, Rev, Clz, SatS, SatU}
use Rattle.block.specs.declared.DivKind.{DivKind}
use Rattle.block.specs.declared.DivKind.TheVariants.{QuoS, QuoU, RemS, RemU}
use Rattle.block.specs.declared.Fast.{Fast}
use Rattle.block.specs.declared.Fast.TheVariants.{Nop, MovI, Mov, AddRI, ShlI, SarI, Alu3, Alu3I, Alu2, Alu2I, A4, Ext, MinMax, Un, Div}
use Rattle.block.specs.declared.Fast.TheVariants.{Mov2, Mov2I, BitExt, BitIns, SpAdd, RFromSp, Ld, St, LdIdx, StIdx, LdPost, StPost, Rmw}
use Rattle.block.specs.declared.Fast.TheVariants.{PushRet, PopRets, BrI, BrR, DecBr, BitBr, Goto, Call, Rts, GotoR, CallR, PopRet}
use Rattle.block.specs.declared.Fast.TheVariants.{BlockMove, PushRets, PopPc, LdPair, StPair, LdPre, StPre, LdPostR, MemA4, Tb}
use Rattle.block.specs.declared.BOp.{BOp}
use Rattle.block.specs.declared.Block.{Block}
use Rattle.block.specs.Block.{ops_of, may_jump, uses_bus, in_flash, members, span, saved, pair_of}
use Rattle.code.specs.Items.{pick}
use Rattle.lowering.specs.Instrs.{KEEP, KEEP2, ZR, EQ, NE, HS, LO, HI, LS, GE, LT, GT, LE, mov, movz, add_i, sub_i, cmp_i, add}
use Rattle.lowering.specs.Instrs.{add_lsl, sub, cmp, neg, and, bic, orr, eor, mvn, tst, rev, clz, sdiv, udiv, lslv, lsrv, asrv, mul}
use Rattle.lowering.specs.Instrs.{msub, csel, cneg_lt, ubfx, sbfx, lsl_i, lsr_i, asr_i}

-- the processor record's numbers that are no registers
pub data Field : Type 0 where
  sp rets : Field

-- t, d, s: host registers; r: a guest register; i: the operation's position; count: the operations done with it
pub data Step : Type 0 where
  ld_reg st_reg : (t r : ℕ) → Step  -- w(t) = guest register r, and back
  ld_field st_field : Field → (t : ℕ) → Step  -- w(t) = the field, and back
  mov32 : (t v : ℕ) → Step
  add_imm : (d s v : ℕ) → Step
  ins : Instr → Step  -- an instruction on w0 to w4, KEEP and KEEP2, and the flags
  load : Width → (signed : Bool) → (i : ℕ) → Step  -- w0 = what is at guest address w0
  store : Width → (alone : Bool) → (i : ℕ) → Step  -- w1 to guest address w0: a store of its own, or a word of a group
  check_brk : (glue : Bool) → (pc count : ℕ) → Step  -- leave for pc if the break word is set
  chain : (pc count : ℕ) → Step  -- go on at a fixed pc
  fork : (cond pc target count : ℕ) → Step  -- go on at target if the condition holds, else at pc
  ind : (t count : ℕ) → (brk : Bool) → Step  -- go on at pc w(t), the break word asked first or not
  limit : (pc count : ℕ) → Step  -- leave for pc unless so many operations fit
  guard : (at helper pc : ℕ) → Step  -- leave for pc if the versions differ and the helper answers 0

-- ---- the choices inside an operation
-- w0 = op(w0, w1)
abbrev pub alu : Op → Instr
alu Add = add 0 0 1
alu Sub = sub 0 0 1
alu RSub = sub 0 1 0
alu And = and 0 0 1
alu AndNot = bic 0 0 1
alu Or = orr 0 0 1
alu Xor = eor 0 0 1
alu Mul = mul 0 0 1
alu Shl = lslv 0 0 1
alu Shr = lsrv 0 0 1
alu Sar = asrv 0 0 1

abbrev pub acond : Cond → ℕ
acond Eq = EQ
acond Ne = NE
acond LtU = LO
acond GtU = HI
acond LeU = LS
acond GeU = HS
acond LtS = LT
acond GtS = GT
acond LeS = LE
acond GeS = GE

-- w1 = a right-hand side: a register, a number, or `1 << register`
abbrev pub rhs : Rk → ℕ → List Step
rhs RkReg rv = ld_reg 1 (rv % 16) ∷ []
rhs RkImm rv = mov32 1 rv ∷ []
rhs RkBit rv = ld_reg 2 (rv % 16) ∷ ins (movz 1 1) ∷ ins (lslv 1 1 2) ∷ []

-- w0 = a base
abbrev pub base : Base → Step
base (Reg r) = ld_reg 0 r
base Sp = ld_field sp 0

-- w0 = w0 and an amount
abbrev pub advance : Amount → List Step
advance (ByReg r) = ld_reg 1 r ∷ ins (add 0 0 1) ∷ []
advance (ByInc v) = add_imm 0 0 v ∷ []

abbrev pub ext : Part → Bool → Instr
ext PartByte false = ubfx 0 0 0 8
ext PartByte true = sbfx 0 0 0 8
ext PartHalf false = ubfx 0 0 0 16
ext PartHalf true = sbfx 0 0 0 16
ext PartUpper false = ubfx 0 0 16 16
ext PartUpper true = sbfx 0 0 16 16

abbrev pub choice : Choice → ℕ
choice MinS = LT
choice MaxS = GT
choice MinU = LO
choice MaxU = HI

-- w0 = k(w0)
abbrev pub un : UnKind → List Step
un Not = ins (mvn 0 0) ∷ []
un Neg = ins (neg 0 0) ∷ []
un Abs = ins (cmp_i 0 0) ∷ ins (cneg_lt 0 0) ∷ []
un Rev = ins (rev 0 0) ∷ []
un Clz = ins (clz 0 0) ∷ []
un SatS = mov32 1 32767 ∷ ins (cmp 0 1) ∷ ins (csel 0 1 0 GT) ∷ mov32 1 0xffff8000 ∷ ins (cmp 0 1) ∷ ins (csel 0 1 0 LT) ∷ []
un SatU = ins (cmp_i 0 0) ∷ ins (csel 0 ZR 0 LT) ∷ mov32 1 65535 ∷ ins (cmp 0 1) ∷ ins (csel 0 1 0 GT) ∷ []

-- a remainder is a - q * b, and 0 for a divisor of 0
abbrev pub remainder : List Step
remainder = ins (msub 2 2 1 0) ∷ ins (cmp_i 1 0) ∷ ins (csel 2 ZR 2 EQ) ∷ []

-- w2 = k(w0, w1)
abbrev pub div : DivKind → List Step
div QuoS = ins (sdiv 2 0 1) ∷ []
div QuoU = ins (udiv 2 0 1) ∷ []
div RemS = ins (sdiv 2 0 1) ∷ remainder
div RemU = ins (udiv 2 0 1) ∷ remainder

-- the l lowest bits, or with length 0 every bit
abbrev pub low : (l : ℕ) → Bool → List Step
low l signed = pick (eqb l 0) [] (ins (pick signed (sbfx 0 0 0 l) (ubfx 0 0 0 l)) ∷ [])

abbrev pub ones : (l : ℕ) → ℕ
ones l = pick (eqb l 0) (2 ^ 32 - 1) (2 ^ l - 1)

-- !(mask << p), in 32 bits
abbrev pub hole : (p l : ℕ) → ℕ
hole p l = 2 ^ 32 - 1 - ones l * 2 ^ p % 2 ^ 32

-- the sign of v in every bit
abbrev pub sign : ℕ → ℕ
sign v = pick (ltb v (2 ^ 31)) 0 (2 ^ 32 - 1)

-- w1 = the value read at KEEP, changed by an instruction on w0 and w2
abbrev pub changed : Instr → Width → (v i : ℕ) → List Step
changed f w v i = ins (mov 0 KEEP) ∷ load w false i ∷ mov32 2 v ∷ ins f ∷ []

-- w1 = what Rmw stores
abbrev pub rmw_value : RmwOp → Width → (v i : ℕ) → List Step
rmw_value RmwOr w v i = changed (orr 1 0 2) w v i
rmw_value RmwAnd w v i = changed (and 1 0 2) w v i
rmw_value RmwXor w v i = changed (eor 1 0 2) w v i
rmw_value RmwAdd w v i = changed (add 1 0 2) w v i
rmw_value RmwSub w v i = changed (sub 1 0 2) w v i
rmw_value RmwMov w v i = mov32 1 v ∷ []

-- the word at KEEP becomes op of it and KEEP2
abbrev pub combined : Op → (i : ℕ) → List Step
combined op i =
    ins (mov 0 KEEP) ∷ load B32 false i ∷ ins (mov 1 KEEP2) ∷ ins (alu op) ∷ ins (mov 1 0) ∷ ins (mov 0 KEEP) ∷ store B32 true i ∷ []

-- ---- groups
-- minus v, in 32 bits
abbrev pub minus : ℕ → ℕ
minus v = (2 ^ 32 - v) % 2 ^ 32

-- register r is the k-th word from KEEP on
abbrev pub move_word : (store : Bool) → (i k r : ℕ) → List Step
move_word true i k r = add_imm 0 KEEP (4 * k) ∷ ld_reg 1 r ∷ store B32 false i ∷ []
move_word false i k r = add_imm 0 KEEP (4 * k) ∷ load B32 false i ∷ st_reg 0 r ∷ []

-- these registers, in ascending words
unfoldable pub move_words : (store : Bool) → (i k : ℕ) → List ℕ → List Step
move_words u i k [] = []
move_words u i k (r ∷ rs) = move_word u i k r ++ move_words u i (suc k) rs

-- the base behind: at the start where it went down, else behind the last word
abbrev pub move_base : (post down : Bool) → (bytes base : ℕ) → List Step
move_base false down n r = []
move_base true true n r = add_imm 0 KEEP 0 ∷ st_reg 0 r ∷ []
move_base true false n r = add_imm 0 KEEP n ∷ st_reg 0 r ∷ []

-- where the words start, from the base on
abbrev pub move_offset : (down : Bool) → (bytes : ℕ) → ℕ
move_offset true n = minus n
move_offset false n = 0

-- w1, as a step sets it, to the stack
abbrev pub push : (alone : Bool) → (i : ℕ) → Step → List Step
push alone i s = ld_field sp 0 ∷ ins (sub_i 0 0 4) ∷ st_field sp 0 ∷ s ∷ store B32 alone i ∷ []

-- the top of the stack to w0 and where a step puts it
abbrev pub pop : (i : ℕ) → Step → List Step
pop i s = ld_field sp 0 ∷ load B32 false i ∷ s ∷ ld_field sp 0 ∷ ins (add_i 0 0 4) ∷ st_field sp 0 ∷ []

unfoldable pub push_all : (i : ℕ) → List ℕ → List Step
push_all i [] = []
push_all i (r ∷ rs) = push false i (ld_reg 1 r) ++ push_all i rs

unfoldable pub pop_all : (i : ℕ) → List ℕ → List Step
pop_all i [] = []
pop_all i (r ∷ rs) = pop i (st_reg 0 r) ++ pop_all i rs

-- ---- emit_op: the operation at position i, `next` the guest address behind it
unfoldable pub lowered : Fast → (i next : ℕ) → List Step
lowered Nop i next = []
lowered (MovI d v) i next = mov32 0 v ∷ st_reg 0 d ∷ []
lowered (Mov d s) i next = ld_reg 0 s ∷ st_reg 0 d ∷ []
lowered (AddRI d s v) i next = ld_reg 0 s ∷ add_imm 0 0 v ∷ st_reg 0 d ∷ []
lowered (ShlI d s n) i next = ld_reg 0 s ∷ ins (lsl_i 0 0 (n % 32)) ∷ st_reg 0 d ∷ []
lowered (SarI d s n) i next = ld_reg 0 s ∷ ins (asr_i 0 0 (n % 32)) ∷ st_reg 0 d ∷ []
lowered (Alu3 d a b op) i next = ld_reg 0 a ∷ ld_reg 1 b ∷ ins (alu op) ∷ st_reg 0 d ∷ []
lowered (Alu3I d a v op) i next = ld_reg 0 a ∷ mov32 1 v ∷ ins (alu op) ∷ st_reg 0 d ∷ []
lowered (Alu2 d b op) i next = ld_reg 0 d ∷ ld_reg 1 b ∷ ins (alu op) ∷ st_reg 0 d ∷ []
lowered (Alu2I d v op) i next = ld_reg 0 d ∷ mov32 1 v ∷ ins (alu op) ∷ st_reg 0 d ∷ []
lowered (A4 d s op rk rv) i next = rhs rk rv ++ (ld_reg 0 s ∷ ins (alu op) ∷ st_reg 0 d ∷ [])
lowered (Ext d s part signed) i next = ld_reg 0 s ∷ ins (ext part signed) ∷ st_reg 0 d ∷ []
lowered (MinMax d a b kind) i next = ld_reg 0 a ∷ ld_reg 1 b ∷ ins (cmp 0 1) ∷ ins (csel 0 0 1 (choice kind)) ∷ st_reg 0 d ∷ []
lowered (Un d s k) i next = ld_reg 0 s ∷ (un k ++ (st_reg 0 d ∷ []))
lowered (Div d a b k) i next = ld_reg 0 a ∷ ld_reg 1 b ∷ (div k ++ (st_reg 2 d ∷ []))
lowered (Mov2 dh dl sh sl) i next = ld_reg 0 sh ∷ ld_reg 1 sl ∷ st_reg 0 dh ∷ st_reg 1 dl ∷ []
lowered (Mov2I dh dl v) i next = mov32 0 v ∷ st_reg 0 dl ∷ mov32 0 (sign v) ∷ st_reg 0 dh ∷ []
lowered (BitExt d s p l signed) i next = ld_reg 0 s ∷ ins (lsr_i 0 0 (p % 32)) ∷ (low (l % 32) signed ++ (st_reg 0 d ∷ []))
lowered (BitIns d s p l) i next =
    ld_reg 0 s ∷ ld_reg 1 d ∷ mov32 2 (ones (l % 32)) ∷ ins (and 0 0 2) ∷ ins (lsl_i 0 0 (p % 32)) ∷ mov32 2 (hole (p % 32) (l % 32)) ∷ ins (and 1 1 2)
    ∷ ins (orr 0 0 1) ∷ st_reg 0 d ∷ []
lowered (SpAdd v) i next = ld_field sp 0 ∷ add_imm 0 0 v ∷ st_field sp 0 ∷ []
lowered (RFromSp d v) i next = ld_field sp 0 ∷ add_imm 0 0 v ∷ st_reg 0 d ∷ []
lowered (Ld d b off w signed) i next = base b ∷ add_imm 0 0 off ∷ load w signed i ∷ st_reg 0 d ∷ []
lowered (St s b off w) i next = base b ∷ add_imm 0 0 off ∷ ld_reg 1 s ∷ store w true i ∷ []
lowered (LdIdx d b x sh w signed) i next = ld_reg 0 b ∷ ld_reg 1 x ∷ ins (add_lsl 0 0 1 (sh % 32)) ∷ load w signed i ∷ st_reg 0 d ∷ []
lowered (StIdx s b x sh w) i next = ld_reg 0 b ∷ ld_reg 1 x ∷ ins (add_lsl 0 0 1 (sh % 32)) ∷ ld_reg 1 s ∷ store w true i ∷ []
lowered (LdPost d b w signed inc) i next = ld_reg 0 b ∷ load w signed i ∷ st_reg 0 d ∷ ld_reg 0 b ∷ add_imm 0 0 inc ∷ st_reg 0 b ∷ []
lowered (StPost s b w inc) i next = ld_reg 0 b ∷ ld_reg 1 s ∷ store w true i ∷ ld_reg 0 b ∷ add_imm 0 0 inc ∷ st_reg 0 b ∷ []
lowered (Rmw b w op off v) i next = ld_reg 0 b ∷ add_imm KEEP 0 off ∷ (rmw_value op w v i ++ (ins (mov 0 KEEP) ∷ store w true i ∷ []))
lowered PushRet i next = push true i (ld_field rets 1)
lowered PopRets i next = pop i (st_field rets 0)
lowered (BrI a v cond target) i next = ld_reg 0 a ∷ mov32 1 v ∷ ins (cmp 0 1) ∷ fork (acond cond) next target (i + 1) ∷ []
lowered (BrR a b cond target) i next = ld_reg 0 a ∷ ld_reg 1 b ∷ ins (cmp 0 1) ∷ fork (acond cond) next target (i + 1) ∷ []
lowered (DecBr r cond v target) i next =
    ld_reg 0 r ∷ ins (sub_i 0 0 1) ∷ st_reg 0 r ∷ mov32 1 v ∷ ins (cmp 0 1) ∷ fork (acond cond) next target (i + 1) ∷ []
lowered (BitBr r mk ne mv target) i next = rhs mk mv ++ (ld_reg 0 r ∷ ins (tst 0 1) ∷ fork (pick ne NE EQ) next target (i + 1) ∷ [])
lowered (Goto target) i next = chain target (i + 1) ∷ []
lowered (Call target) i next = mov32 0 next ∷ st_field rets 0 ∷ chain target (i + 1) ∷ []
lowered Rts i next = ld_field rets 9 ∷ ind 9 (i + 1) false ∷ []
lowered (GotoR r) i next = ld_reg 9 r ∷ ind 9 (i + 1) false ∷ []
lowered (CallR r) i next = mov32 0 next ∷ st_field rets 0 ∷ ld_reg 9 r ∷ ind 9 (i + 1) false ∷ []
lowered PopRet i next = pop i (ins (mov KEEP 0)) ++ (ind KEEP (i + 1) true ∷ [])
lowered (BlockMove r mask u post down) i next =
    ld_reg 0 r ∷ add_imm KEEP 0 (move_offset down (span mask)) ∷ (move_words u i 0 (members mask) ++ move_base post down (span mask) r)
lowered (PushRets n) i next = push false i (ld_field rets 1) ++ push_all i (reverse (saved n))
lowered (PopPc n) i next = pop_all i (saved n) ++ (pop i (ins (mov KEEP 0)) ++ (ind KEEP (i + 1) true ∷ []))
-- a pair is a group of two: `mov` of KEEP is `add_imm` of 0
lowered (LdPair p b o) i next = base b ∷ add_imm KEEP 0 o ∷ move_words false i 0 (pair_of p)
lowered (StPair p b o) i next = base b ∷ add_imm KEEP 0 o ∷ move_words true i 0 (pair_of p)
lowered (LdPre d b by w signed) i next = ld_reg 0 b ∷ (advance by ++ (st_reg 0 b ∷ load w signed i ∷ st_reg 0 d ∷ []))
lowered (StPre s b by w) i next = ld_reg 0 b ∷ (advance by ++ (st_reg 0 b ∷ ld_reg 1 s ∷ store w true i ∷ []))
lowered (LdPostR d b x w signed) i next =
    ld_reg KEEP x ∷ ld_reg 0 b ∷ load w signed i ∷ st_reg 0 d ∷ ld_reg 0 b ∷ ins (add 0 0 KEEP) ∷ st_reg 0 b ∷ []
lowered (MemA4 b off op rk rv) i next = rhs rk rv ++ (ins (mov KEEP2 1) ∷ ld_reg 0 b ∷ add_imm KEEP 0 off ∷ combined op i)
lowered (Tb r half) i next =
    ld_reg 0 r ∷ add_imm 0 0 next ∷ load (pick half B16 B8) false i ∷ ins (lsl_i 0 0 1) ∷ add_imm 0 0 next ∷ ind 0 (i + 1) true ∷ []

-- ---- emit_ops
-- guest sums wrap
abbrev pub behind : (pc : ℕ) → BOp → ℕ
behind pc o = (pc + o.len) % 2 ^ 32

-- kinds that use the bus are followed by a break check
unfoldable pub op_steps : BOp → (i next : ℕ) → List Step
op_steps o i next = lowered o.fast i next ++ pick (uses_bus o.fast) (check_brk o.glue next (i + 1) ∷ []) []

-- the operations from position i on; off the end of the block goes a chain, behind a jump nothing
unfoldable pub ops_steps : (i pc : ℕ) → List BOp → List Step
ops_steps i pc [] = chain pc i ∷ []
ops_steps i pc (o ∷ os) = op_steps o i (behind pc o) ++ pick (may_jump o.fast) [] (ops_steps (i + 1) (behind pc o) os)

-- "`compile` for a RAM block": outside flash's range there is a guard
abbrev pub guard_steps : Block → List Step
guard_steps b = pick (in_flash b.pc0) [] (guard b.guard.at b.guard.h_ram_ok b.pc0 ∷ [])

-- the whole block must fit the limit, else it leaves before running any of it
unfoldable pub block_steps : Block → List Step
block_steps b = limit b.pc0 b.n ∷ (guard_steps b ++ ops_steps 0 b.pc0 (ops_of b))
