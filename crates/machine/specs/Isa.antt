-- The types of the instruction set, passed on under one name.
pub use Rattle.arm.specs.declared.Size.{Size}
pub use Rattle.arm.specs.declared.Size.TheVariants.{W, X}
pub use Rattle.arm.specs.declared.AddSub.{AddSub}
pub use Rattle.arm.specs.declared.AddSub.TheVariants.{Add, Sub}
pub use Rattle.arm.specs.declared.Flags.{Flags}
pub use Rattle.arm.specs.declared.Flags.TheVariants.{Keeps, Sets}
pub use Rattle.arm.specs.declared.Shift.{Shift}
pub use Rattle.arm.specs.declared.Shift.TheVariants.{Lsl, Lsr, Asr, Ror}
pub use Rattle.arm.specs.declared.Move.{Move}
pub use Rattle.arm.specs.declared.Move.TheVariants.{Movn, Movz, Movk}
pub use Rattle.arm.specs.declared.Logic.{Logic}
pub use Rattle.arm.specs.declared.Logic.TheVariants.{And, Orr, Eor, Ands}
pub use Rattle.arm.specs.declared.Second.{Second}
pub use Rattle.arm.specs.declared.Second.TheVariants.{Plain, Inverted}
pub use Rattle.arm.specs.declared.Extract.{Extract}
pub use Rattle.arm.specs.declared.Extract.TheVariants.{Sbfm, Bfm, Ubfm}
pub use Rattle.arm.specs.declared.One.{One}
pub use Rattle.arm.specs.declared.One.TheVariants.{Rev16, Rev, Clz}
pub use Rattle.arm.specs.declared.Two.{Two}
pub use Rattle.arm.specs.declared.Two.TheVariants.{Udiv, Sdiv, Lslv, Lsrv, Asrv}
pub use Rattle.arm.specs.declared.Three.{Three}
pub use Rattle.arm.specs.declared.Three.TheVariants.{Madd, Msub, Smaddl, Umaddl}
pub use Rattle.arm.specs.declared.Select.{Select}
pub use Rattle.arm.specs.declared.Select.TheVariants.{Csel, Csinc, Csinv, Csneg}
pub use Rattle.arm.specs.declared.Access.{Access}
pub use Rattle.arm.specs.declared.Access.TheVariants.{Strb, Ldrb, Ldrsb, Strh, Ldrh, Ldrsh, StrW, LdrW, StrX, LdrX}
pub use Rattle.arm.specs.declared.Scale.{Scale}
pub use Rattle.arm.specs.declared.Scale.TheVariants.{Unscaled, Scaled}
pub use Rattle.arm.specs.declared.Mode.{Mode}
pub use Rattle.arm.specs.declared.Mode.TheVariants.{Post, Offset, Pre}
pub use Rattle.arm.specs.declared.Pair.{Pair}
pub use Rattle.arm.specs.declared.Pair.TheVariants.{Stp, Ldp}
pub use Rattle.arm.specs.declared.Test.{Test}
pub use Rattle.arm.specs.declared.Test.TheVariants.{Zero, Nonzero}
pub use Rattle.arm.specs.declared.Jump.{Jump}
pub use Rattle.arm.specs.declared.Jump.TheVariants.{Br, Blr, Ret}
pub use Rattle.arm.specs.declared.Instr.{Instr}
pub use Rattle.arm.specs.declared.Instr.TheVariants.{MoveWide, AddSubImm, AddSubShifted, LogicalShifted, LogicalImm, Bitfield, OneSource, TwoSource, ThreeSource, CondSelect, MemoryImm, MemoryReg, MemoryPair, CompareBranch, TestBranch, CondBranch, Branch, BranchReg, Adr, LoadLiteral, Nop, FloatTwo, FloatCompare, FloatConvert}
