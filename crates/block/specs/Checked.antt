-- What holds of every block that reading accepts: document 01's "The block record" and its faults 4 to 9, with those that
-- 2026-03 and 2026-06 add, as facts.
use Rattle.std.specs.Prelude.{◌≡◌, false, List, [], ◌∷◌, ◌⊎◌, ℕ, ◌+◌, ◌*◌, ◌%◌, ◌<◌, ◌≤◌, length}
use Rattle.block.specs.Block.{Base, Reg, Sp, Amount, ByReg, ByInc, Fast, BOp, Layout, Memory, Addresses, Guard, Block, ops_of, may_jump}
use Rattle.block.specs.Block.{moved, lengths, in_flash}
use Rattle.block.specs.Block.{Nop, MovI, Mov, AddRI, ShlI, SarI, Alu3, Alu3I, Alu2, Alu2I, A4, Ext, MinMax, Un, Div, Mov2, Mov2I}
use Rattle.block.specs.Block.{BitExt, BitIns, SpAdd, RFromSp}
use Rattle.block.specs.Block.{Ld, St, LdIdx, StIdx, LdPost, StPost, Rmw, PushRet, PopRets, BrI, BrR, DecBr, BitBr, Goto, Call, Rts}
use Rattle.block.specs.Block.{GotoR, CallR, PopRet, BlockMove, PushRets, PopPc, LdPair, StPair, LdPre, StPre, LdPostR, MemA4, Tb}

-- ---- operands

-- "Registers are 0 to 15"
abbrev pub Register : ℕ → Type 0
Register r = r < 16

-- n, p, l, sh: 0 to 255
abbrev pub Byte : ℕ → Type 0
Byte n = n < 256

-- a mask of registers: 16 bits
abbrev pub Mask : ℕ → Type 0
Mask m = m < 65536

-- v, off, inc, rv, mv, target: any 32 bits
abbrev pub Bits32 : ℕ → Type 0
Bits32 v = v < 4294967296

-- a register, or sp
abbrev pub BaseFits : Base → Type 0
BaseFits (Reg r) = Register r
BaseFits Sp = Unit {0}

-- a register, or an increment
abbrev pub AmountFits : Amount → Type 0
AmountFits (ByReg r) = Register r
AmountFits (ByInc v) = Bits32 v

-- the operands of a kind that are numbers; selectors and flags are in range by their types
abbrev pub FastFits : Fast → Type 0
FastFits Nop = Unit {0}
FastFits (MovI d v) = Register d × Bits32 v
FastFits (Mov d s) = Register d × Register s
FastFits (AddRI d s v) = Register d × Register s × Bits32 v
FastFits (ShlI d s n) = Register d × Register s × Byte n
FastFits (SarI d s n) = Register d × Register s × Byte n
FastFits (Alu3 d a b op) = Register d × Register a × Register b
FastFits (Alu3I d a v op) = Register d × Register a × Bits32 v
FastFits (Alu2 d b op) = Register d × Register b
FastFits (Alu2I d v op) = Register d × Bits32 v
FastFits (A4 d s op rk rv) = Register d × Register s × Bits32 rv
FastFits (Ext d s part signed) = Register d × Register s
FastFits (MinMax d a b kind) = Register d × Register a × Register b
FastFits (Un d s k) = Register d × Register s
FastFits (Div d a b k) = Register d × Register a × Register b
FastFits (Mov2 dh dl sh sl) = Register dh × Register dl × Register sh × Register sl
FastFits (Mov2I dh dl v) = Register dh × Register dl × Bits32 v
FastFits (BitExt d s p l signed) = Register d × Register s × Byte p × Byte l
FastFits (BitIns d s p l) = Register d × Register s × Byte p × Byte l
FastFits (SpAdd v) = Bits32 v
FastFits (RFromSp d v) = Register d × Bits32 v
FastFits (Ld d b off w signed) = Register d × BaseFits b × Bits32 off
FastFits (St s b off w) = Register s × BaseFits b × Bits32 off
FastFits (LdIdx d b i sh w signed) = Register d × Register b × Register i × Byte sh
FastFits (StIdx s b i sh w) = Register s × Register b × Register i × Byte sh
FastFits (LdPost d b w signed inc) = Register d × Register b × Bits32 inc
FastFits (StPost s b w inc) = Register s × Register b × Bits32 inc
FastFits (Rmw b w op off v) = Register b × Bits32 off × Bits32 v
FastFits PushRet = Unit {0}
FastFits PopRets = Unit {0}
FastFits (BrI a v cond target) = Register a × Bits32 v × Bits32 target
FastFits (BrR a b cond target) = Register a × Register b × Bits32 target
FastFits (DecBr r cond v target) = Register r × Bits32 v × Bits32 target
FastFits (BitBr r mk ne mv target) = Register r × Bits32 mv × Bits32 target
FastFits (Goto target) = Bits32 target
FastFits (Call target) = Bits32 target
FastFits Rts = Unit {0}
FastFits (GotoR r) = Register r
FastFits (CallR r) = Register r
FastFits PopRet = Unit {0}
FastFits (BlockMove base mask store post down) = Register base × Mask mask
FastFits (PushRets n) = n < 16
FastFits (PopPc n) = n < 16
FastFits (LdPair p b off) = Byte p × BaseFits b × Bits32 off
FastFits (StPair p b off) = Byte p × BaseFits b × Bits32 off
FastFits (LdPre d b by w signed) = Register d × Register b × AmountFits by
FastFits (StPre s b by w) = Register s × Register b × AmountFits by
FastFits (LdPostR d b i w signed) = Register d × Register b × Register i
FastFits (MemA4 b off op rk rv) = Register b × Bits32 off × Bits32 rv
FastFits (Tb r half) = Register r

-- an operation: its operands, and a guest length of 0 to 255 bytes
pub record BOpFits (o : BOp) : Type 0 where
  pub fast : FastFits o.fast
  pub len : Byte o.len

abbrev pub OpsFit : List BOp → Type 0
OpsFit [] = Unit {0}
OpsFit (o ∷ os) = BOpFits o × OpsFit os

-- nothing stands behind a jump: of an operation with another behind it, the kind does not jump
abbrev pub NoneAfterJump : List BOp → Type 0
NoneAfterJump [] = Unit {0}
NoneAfterJump (o ∷ []) = Unit {0}
NoneAfterJump (o ∷ (q ∷ os)) = (may_jump o.fast ≡ false) × NoneAfterJump (q ∷ os)

-- ---- fields 01 to 04 and 06

-- an offset, its last word `more` bytes on: below 16384 and a multiple of 4
pub record Place (at more : ℕ) : Type 0 where
  pub inside : at + more < 16384
  pub aligned : at % 4 ≡ 0

-- two places of these sizes share no byte
abbrev pub Apart : ℕ → ℕ → ℕ → ℕ → Type 0
Apart at size at' size' = (at + size ≤ at') ⊎ (at' + size' ≤ at)

-- "regs is 64 bytes and each other place 4"
pub record LayoutFits (o : Layout) : Type 0 where
  pub regs : Place o.regs 60
  pub sp : Place o.sp 0
  pub rets : Place o.rets 0
  pub pc : Place o.pc 0
  pub hold : Place o.hold 0
  pub regs-sp : Apart o.regs 64 o.sp 4
  pub regs-rets : Apart o.regs 64 o.rets 4
  pub regs-pc : Apart o.regs 64 o.pc 4
  pub regs-hold : Apart o.regs 64 o.hold 4
  pub sp-rets : Apart o.sp 4 o.rets 4
  pub sp-pc : Apart o.sp 4 o.pc 4
  pub sp-hold : Apart o.sp 4 o.hold 4
  pub rets-pc : Apart o.rets 4 o.pc 4
  pub rets-hold : Apart o.rets 4 o.hold 4
  pub pc-hold : Apart o.pc 4 o.hold 4

-- a region: at least 4 long, its base a multiple of 4, its end at most 2^32
pub record RegionFits (base len : ℕ) : Type 0 where
  pub long : 4 ≤ len
  pub aligned : base % 4 ≡ 0
  pub inside : base + len ≤ 4294967296

pub record MemoryFits (m : Memory) : Type 0 where
  pub ram : RegionFits m.ram_base m.ram_len
  pub xip : RegionFits m.xip_base m.xip_len

-- host addresses are 64-bit numbers
pub record AddressesFit (a : Addresses) : Type 0 where
  pub h-read : a.h_read < 18446744073709551616
  pub h-write : a.h_write < 18446744073709551616
  pub table : a.table < 18446744073709551616

pub record GuardFits (g : Guard) : Type 0 where
  pub at : g.at < 18446744073709551616
  pub h-ram-ok : g.h_ram_ok < 18446744073709551616

-- ---- groups

-- a group's bytes are at most those of RAM, and at most those of XIP
abbrev pub GroupFits : Memory → Fast → Type 0
GroupFits m f = (4 * moved f ≤ m.ram_len) × (4 * moved f ≤ m.xip_len)

abbrev pub GroupsFit : Memory → List BOp → Type 0
GroupsFit m [] = Unit {0}
GroupsFit m (o ∷ os) = GroupFits m o.fast × GroupsFit m os

-- ---- a RAM block

-- it starts inside RAM, and no operation of it reaches past RAM's end
pub record InRam (m : Memory) (start bytes : ℕ) : Type 0 where
  pub from : m.ram_base ≤ start
  pub before : start < m.ram_base + m.ram_len
  pub to : start + bytes ≤ m.ram_base + m.ram_len

-- ---- the block

pub record Checked (b : Block) : Type 0 where
  pub layout : LayoutFits b.layout
  pub memory : MemoryFits b.memory
  pub addresses : AddressesFit b.addresses
  pub pc0 : Bits32 b.pc0
  pub in-ram : in_flash b.pc0 ≡ false → InRam b.memory b.pc0 (lengths (ops_of b))
  pub guard : GuardFits b.guard
  pub count : b.n ≤ 32
  pub size : length b.ops ≡ 32
  pub ops : OpsFit (ops_of b)
  pub last-jumps : NoneAfterJump (ops_of b)
  pub groups : GroupsFit b.memory (ops_of b)
