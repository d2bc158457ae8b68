-- The checked block's types, by one name each, and what is read off them.
use Rattle.std.specs.Prelude.{Bool, true, false, cond, not, ◌&&◌, ◌||◌, List, [], ◌∷◌, ℕ, zero, suc, ◌+◌, ◌-◌, ◌*◌, ◌/◌, ◌%◌, leb, ltb, eqb, length, take}
pub use Rattle.block.specs.declared.Op.{Op}
pub use Rattle.block.specs.declared.Op.TheVariants.{Add, Sub, RSub, And, AndNot, Or, Xor, Mul, Shl, Shr, Sar}
pub use Rattle.block.specs.declared.RmwOp.{RmwOp}
pub use Rattle.block.specs.declared.RmwOp.TheVariants.{Or as RmwOr, And as RmwAnd, Xor as RmwXor, Add as RmwAdd, Sub as RmwSub}
pub use Rattle.block.specs.declared.RmwOp.TheVariants.{Mov as RmwMov}
pub use Rattle.block.specs.declared.Cond.{Cond}
pub use Rattle.block.specs.declared.Cond.TheVariants.{Eq, Ne, LtU, GtU, LeU, GeU, LtS, GtS, LeS, GeS}
pub use Rattle.block.specs.declared.Base.{Base}
pub use Rattle.block.specs.declared.Base.TheVariants.{Reg, Sp}
pub use Rattle.block.specs.declared.Amount.{Amount}
pub use Rattle.block.specs.declared.Amount.TheVariants.{Reg as ByReg, Inc as ByInc}
pub use Rattle.block.specs.declared.Width.{Width}
pub use Rattle.block.specs.declared.Width.TheVariants.{Byte as B8, Half as B16, Word as B32}
pub use Rattle.block.specs.declared.Rk.{Rk}
pub use Rattle.block.specs.declared.Rk.TheVariants.{Reg as RkReg, Imm as RkImm, Bit as RkBit}
pub use Rattle.block.specs.declared.Part.{Part}
pub use Rattle.block.specs.declared.Part.TheVariants.{Byte as PartByte, Half as PartHalf, Upper as PartUpper}
pub use Rattle.block.specs.declared.Choice.{Choice}
pub use Rattle.block.specs.declared.Choice.TheVariants.{MinS, MaxS, MinU, MaxU}
pub use Rattle.block.specs.declared.UnKind.{UnKind}
pub use Rattle.block.specs.declared.UnKind.TheVariants.{Not, Neg, Abs, Rev, Clz, SatS, SatU}
pub use Rattle.block.specs.declared.DivKind.{DivKind}
pub use Rattle.block.specs.declared.DivKind.TheVariants.{QuoS, QuoU, RemS, RemU}
pub use Rattle.block.specs.declared.Fast.{Fast}
pub use Rattle.block.specs.declared.Fast.TheVariants.{Nop, MovI, Mov, AddRI, ShlI, SarI, Alu3, Alu3I, Alu2, Alu2I, A4, Ext, MinMax}
pub use Rattle.block.specs.declared.Fast.TheVariants.{Un, Div, Mov2, Mov2I, BitExt, BitIns, SpAdd, RFromSp, Ld, St, LdIdx, StIdx}
pub use Rattle.block.specs.declared.Fast.TheVariants.{LdPost, StPost, Rmw, PushRet, PopRets, BrI, BrR, DecBr, BitBr, Goto, Call}
pub use Rattle.block.specs.declared.Fast.TheVariants.{Rts, GotoR, CallR, PopRet, BlockMove, PushRets, PopPc, LdPair, StPair}
pub use Rattle.block.specs.declared.Fast.TheVariants.{LdPre, StPre, LdPostR, MemA4, Tb}
pub use Rattle.block.specs.declared.BOp.{BOp}
pub use Rattle.block.specs.declared.Layout.{Layout}
pub use Rattle.block.specs.declared.Memory.{Memory}
pub use Rattle.block.specs.declared.Addresses.{Addresses}
pub use Rattle.block.specs.declared.Guard.{Guard}
pub use Rattle.block.specs.declared.Block.{Block}

-- the operations of a block
abbrev pub ops_of : Block → List BOp
ops_of b = take b.n b.ops

-- what a flash block has in place of a guard
abbrev pub no_guard : Guard
no_guard = record { at = 0; h_ram_ok = 0 }

-- the guest lengths of operations, in whole numbers
abbrev pub lengths : List BOp → ℕ
lengths [] = 0
lengths (o ∷ os) = o.len + lengths os

-- flash's range, "02000000 to 03ffffff as before, whatever field 02 says". "A start in flash's range is a flash start even if it is inside
-- RAM too; a RAM start is any other inside RAM."
abbrev pub in_flash : ℕ → Bool
in_flash a = leb 0x02000000 a && ltb a 0x04000000

-- bytes of a width
abbrev pub bytes : Width → ℕ
bytes B8 = 1
bytes B16 = 2
bytes B32 = 4

-- the number of a kind
abbrev pub kind_of : Fast → ℕ
kind_of Nop = 0
kind_of (MovI d v) = 1
kind_of (Mov d s) = 2
kind_of (AddRI d s v) = 3
kind_of (ShlI d s n) = 4
kind_of (SarI d s n) = 5
kind_of (Alu3 d a b op) = 6
kind_of (Alu3I d a v op) = 7
kind_of (Alu2 d b op) = 8
kind_of (Alu2I d v op) = 9
kind_of (A4 d s op rk rv) = 10
kind_of (Ext d s part signed) = 11
kind_of (MinMax d a b kind) = 12
kind_of (Un d s k) = 13
kind_of (Div d a b k) = 14
kind_of (Mov2 dh dl sh sl) = 15
kind_of (Mov2I dh dl v) = 16
kind_of (BitExt d s p l signed) = 17
kind_of (BitIns d s p l) = 18
kind_of (SpAdd v) = 19
kind_of (RFromSp d v) = 20
kind_of (Ld d b off w signed) = 21
kind_of (St s b off w) = 22
kind_of (LdIdx d b i sh w signed) = 23
kind_of (StIdx s b i sh w) = 24
kind_of (LdPost d b w signed inc) = 25
kind_of (StPost s b w inc) = 26
kind_of (Rmw b w op off v) = 27
kind_of PushRet = 28
kind_of PopRets = 29
kind_of (BrI a v cond target) = 30
kind_of (BrR a b cond target) = 31
kind_of (DecBr r cond v target) = 32
kind_of (BitBr r mk ne mv target) = 33
kind_of (Goto target) = 34
kind_of (Call target) = 35
kind_of Rts = 36
kind_of (GotoR r) = 37
kind_of (CallR r) = 38
kind_of PopRet = 39
kind_of (BlockMove base mask store post down) = 40
kind_of (PushRets n) = 41
kind_of (PopPc n) = 42
kind_of (LdPair p b off) = 43
kind_of (StPair p b off) = 44
kind_of (LdPre d b by w signed) = 45
kind_of (StPre s b by w) = 46
kind_of (LdPostR d b i w signed) = 47
kind_of (MemA4 b off op rk rv) = 48
kind_of (Tb r half) = 49

-- kinds 30 to 39 jump, and 42 and 49
abbrev pub jumping : ℕ → Bool
jumping k = (leb 30 k && ltb k 40) || (eqb k 42 || eqb k 49)

-- kinds 21 to 29, 40, 41 and 43 to 48 use the bus, and each is followed by a break check
abbrev pub on_bus : ℕ → Bool
on_bus k = (leb 21 k && ltb k 30) || (leb 40 k && (ltb k 49 && not (eqb k 42)))

abbrev pub may_jump : Fast → Bool
may_jump f = jumping (kind_of f)

abbrev pub uses_bus : Fast → Bool
uses_bus f = on_bus (kind_of f)

-- ---- the registers of a group
-- a register before others, if it is wanted
abbrev pub leading : Bool → ℕ → List ℕ → List ℕ
leading true r rs = r ∷ rs
leading false r rs = rs

-- of so many digits, the places of those that are set, from place r on
unfoldable pub places : (digits r mask : ℕ) → List ℕ
places zero r mask = []
places (suc d) r mask = leading (eqb (mask % 2) 1) r (places d (suc r) (mask / 2))

-- the registers of a mask of 16 bits, lowest first
abbrev pub members : ℕ → List ℕ
members mask = places 16 0 mask

-- "its number of ones sets the span": four bytes for each
abbrev pub span : ℕ → ℕ
span mask = 4 * length (members mask)

-- so many registers from r on
unfoldable pub up_from : (r count : ℕ) → List ℕ
up_from r zero = []
up_from r (suc k) = r ∷ up_from (suc r) k

-- the registers of PushRets and PopPc: from the lesser of n and 4 to the greater of n and 3
abbrev pub saved : ℕ → List ℕ
saved n = cond (ltb n 4) (up_from n (4 - n)) (up_from 4 (n - 3))

-- the registers of a pair: p counts mod 8
abbrev pub pair_of : ℕ → List ℕ
pair_of p = (2 * (p % 8)) ∷ (2 * (p % 8) + 1) ∷ []

-- the words that a group moves, rets and pc included; any other kind moves none
abbrev pub moved : Fast → ℕ
moved Nop = 0
moved (MovI d v) = 0
moved (Mov d s) = 0
moved (AddRI d s v) = 0
moved (ShlI d s n) = 0
moved (SarI d s n) = 0
moved (Alu3 d a b op) = 0
moved (Alu3I d a v op) = 0
moved (Alu2 d b op) = 0
moved (Alu2I d v op) = 0
moved (A4 d s op rk rv) = 0
moved (Ext d s part signed) = 0
moved (MinMax d a b kind) = 0
moved (Un d s k) = 0
moved (Div d a b k) = 0
moved (Mov2 dh dl sh sl) = 0
moved (Mov2I dh dl v) = 0
moved (BitExt d s p l signed) = 0
moved (BitIns d s p l) = 0
moved (SpAdd v) = 0
moved (RFromSp d v) = 0
moved (Ld d b off w signed) = 0
moved (St s b off w) = 0
moved (LdIdx d b i sh w signed) = 0
moved (StIdx s b i sh w) = 0
moved (LdPost d b w signed inc) = 0
moved (StPost s b w inc) = 0
moved (Rmw b w op off v) = 0
moved PushRet = 0
moved PopRets = 0
moved (BrI a v cond target) = 0
moved (BrR a b cond target) = 0
moved (DecBr r cond v target) = 0
moved (BitBr r mk ne mv target) = 0
moved (Goto target) = 0
moved (Call target) = 0
moved Rts = 0
moved (GotoR r) = 0
moved (CallR r) = 0
moved PopRet = 0
moved (BlockMove base mask store post down) = length (members mask)
moved (PushRets n) = suc (length (saved n))
moved (PopPc n) = suc (length (saved n))
moved (LdPair p b off) = length (pair_of p)
moved (StPair p b off) = length (pair_of p)
moved (LdPre d b by w signed) = 0
moved (StPre s b by w) = 0
moved (LdPostR d b i w signed) = 0
moved (MemA4 b off op rk rv) = 0
moved (Tb r half) = 0
