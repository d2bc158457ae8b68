-- The checked block's types, as the card's files name them.
pub use Rattle.block.specs.declared.Op.{Op}
pub use Rattle.block.specs.declared.Op.TheVariants.{Add, Sub, RSub, And, AndNot, Or, Xor, Mul, Shl, Shr, Sar}
pub use Rattle.block.specs.declared.RmwOp.{RmwOp}
pub use Rattle.block.specs.declared.RmwOp.TheVariants.{Or as RmwOr, And as RmwAnd, Xor as RmwXor, Add as RmwAdd, Sub as RmwSub}
pub use Rattle.block.specs.declared.RmwOp.TheVariants.{Mov as RmwMov}
pub use Rattle.block.specs.declared.Cond.{Cond}
pub use Rattle.block.specs.declared.Cond.TheVariants.{Eq, Ne, LtU, GtU, LeU, GeU, LtS, GtS, LeS, GeS}
pub use Rattle.block.specs.declared.Base.{Base}
pub use Rattle.block.specs.declared.Base.TheVariants.{Reg, Sp}
pub use Rattle.block.specs.declared.Amount.{Amount}
pub use Rattle.block.specs.declared.Amount.TheVariants.{Reg as ByReg, Inc as ByInc}
pub use Rattle.block.specs.declared.Width.{Width}
pub use Rattle.block.specs.declared.Width.TheVariants.{Byte as B8, Half as B16, Word as B32}
pub use Rattle.block.specs.declared.Rk.{Rk}
pub use Rattle.block.specs.declared.Rk.TheVariants.{Reg as RkReg, Imm as RkImm, Bit as RkBit}
pub use Rattle.block.specs.declared.Part.{Part}
pub use Rattle.block.specs.declared.Part.TheVariants.{Byte as PartByte, Half as PartHalf, Upper as PartUpper}
pub use Rattle.block.specs.declared.Choice.{Choice}
pub use Rattle.block.specs.declared.Choice.TheVariants.{MinS, MaxS, MinU, MaxU}
pub use Rattle.block.specs.declared.UnKind.{UnKind}
pub use Rattle.block.specs.declared.UnKind.TheVariants.{Not, Neg, Abs, Rev, Clz, SatS, SatU}
pub use Rattle.block.specs.declared.DivKind.{DivKind}
pub use Rattle.block.specs.declared.DivKind.TheVariants.{QuoS, QuoU, RemS, RemU}
pub use Rattle.block.specs.declared.Fast.{Fast}
pub use Rattle.block.specs.declared.Fast.TheVariants.{Nop, MovI, Mov, AddRI, ShlI, SarI, Alu3, Alu3I, Alu2, Alu2I, A4, Ext, MinMax, Un}
pub use Rattle.block.specs.declared.Fast.TheVariants.{Div, Mov2, Mov2I, BitExt, BitIns, SpAdd, RFromSp, Ld, St, LdIdx, StIdx, LdPost}
pub use Rattle.block.specs.declared.Fast.TheVariants.{StPost, Rmw, PushRet, PopRets, BrI, BrR, DecBr, BitBr, Goto, Call, Rts, GotoR}
pub use Rattle.block.specs.declared.Fast.TheVariants.{CallR, PopRet, BlockMove, PushRets, PopPc, LdPair, StPair, LdPre}
pub use Rattle.block.specs.declared.Fast.TheVariants.{StPre, LdPostR, MemA4, Tb}
pub use Rattle.block.specs.declared.BOp.{BOp}
pub use Rattle.block.specs.declared.Layout.{Layout}
pub use Rattle.block.specs.declared.Memory.{Memory}
pub use Rattle.block.specs.declared.Addresses.{Addresses}
pub use Rattle.block.specs.declared.Block.{Block}
pub use Rattle.block.specs.Block.{ops_of, bytes, uses_bus, in_flash}
