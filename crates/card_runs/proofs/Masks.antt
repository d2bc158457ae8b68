-- Kind 40: its flags, empty and full masks, a base in the mask: each run reaches its end.
use mathlib.Core.Bool.{true, false}
use mathlib.Core.List.{List, [], ◌∷◌, ◌++◌}
use mathlib.Core.Path.{◌≡◌, refl}
use Rattle.block.specs.declared.Op.TheVariants.{Sub, AndNot, Or, Xor, Mul, Shl}
use Rattle.block.specs.declared.Rk.TheVariants.{Bit as RkBit}
use Rattle.block.specs.declared.Part.TheVariants.{Upper as PartUpper}
use Rattle.block.specs.declared.Choice.TheVariants.{MaxU}
use Rattle.block.specs.declared.UnKind.TheVariants.{Rev}
use Rattle.block.specs.declared.DivKind.TheVariants.{RemU}
use Rattle.block.specs.declared.Fast.TheVariants.{Nop, MovI, Mov, AddRI, ShlI, SarI, Alu3, Alu3I}
use Rattle.block.specs.declared.Fast.TheVariants.{Alu2I, A4, Ext, MinMax, Un, Div, Mov2, Mov2I}
use Rattle.block.specs.declared.Fast.TheVariants.{BitExt, BitIns, SpAdd, RFromSp, BitBr, Goto, Call, CallR}
use Rattle.block.specs.declared.Fast.TheVariants.{BlockMove}
use Rattle.block.specs.Block.{places}
use Rattle.card.specs.Card.{read, write}
use Rattle.card.specs.Word.{signed_of, sign_extend, leading_zeros}
use Rattle.card.specs.Memory.{read_le, write_le, load, direct, store}
use Rattle.card.specs.Step.{op_step, load_all, store_all}
use Rattle.card.specs.Run.{ops_from, run}
use Rattle.card_runs.specs.Case.{Case, runs, reached, expected, block, memory, op, hex, regs, card}
use Rattle.card_runs.specs.Case.{outcome, entry, by_return, by_chain, reg, sp, rets, hold, pc, done, ram, map, ◌&◌}

abbrev cases : List Case
cases =
    -- 40-BlockMove/empty-s0p0d1/0
    runs (block (memory 0x1000 0xc 0xfffffff4 0xc false) 0x2000000 (op (Alu3I 0xc 1 0x17 Or) 0x60 false
    ∷ op (RFromSp 0xf 0x9bcb5251) 4 true ∷ op (BlockMove 7 0 false false true) 4 false ∷ [])) (hex 12 0xb7749f800da09789cd9067ab)
    0xffffffff
    (card (regs 0x388511c8841d7b70529dcdb1000000047fffffff0000ffffbd9102bc0fad78b7
    0xfffffffea1fb71a8000000258000000000000008ffffffe100000003b355ec60) 0x19 0x8000 0xe988fffe 0 0x2c48f896 0xfff
    (hex 12 0x30da44b12cd3559f04fa089f) [] (outcome 0x1a 0 (hex 12 0x1af59786165129a3b52045fc) [] ∷ []))
    [] (by_chain 0) (reg 12 0x841d7b77 & reg 15 0x9bcb526a & pc 0x2000068 & done 0x1002) []
    -- 40-BlockMove/empty-s0p1d1/0
    ∷ runs (block (memory 0x1000000 0xc 0x2000000 6 false) 0x2000000 (op (BlockMove 7 0 false true true) 6 false ∷ []))
    (hex 6 0xc2f59470281d) 0xffffffff
    (card (regs 0x000123450000007f00000001170e32e7000000270000000301f5f64201000000
    0x0000000800007fff00007ffffffff0000000008000000004944b608700001000) 2 0x99248364 0 0 0x20151ff7 0 (hex 12 0x679d4a24312bf2de5d07815a)
    [] (outcome 4 0xffffffff (hex 12 0xf9df8a36fe55b1ba03a74ec2) [] ∷ outcome 0x67 0xffffffff (hex 12 0xc57255534dca43e16a0947cc) []
    ∷ []))
    [] (by_chain 0) (pc 0x2000006 & done 1) []
    -- 40-BlockMove/empty-s1p1d0/0
    ∷ runs (block (memory 0x1000000 0x10 0x2000000 0x10 true) 0x3ffffff (op (BlockMove 1 0 true true false) 4 true ∷ []))
    (hex 16 0x21c107b0662fe09723025dfbf52e36e9) 0xffffffff
    (card (regs 0x000000030100000c3a4615820000007f000010003d18ba81fffffff100000020
    0xfffff0008cb4f23f000000030000010000000000ffffffe9abbb08228f010574) 0xfff000 0xffffffe1 1 0 0xd8911a34 0xfffffffe
    (hex 16 0x908eab6dae0c212a0ea6fc537c331933) (hex 4 0x00008001) [])
    [] (by_chain 0) (pc 0x4000003 & done 0xffffffff) []
    -- 40-BlockMove/empty-break-start-glue-0/0
    ∷ runs (block (memory 0x1000000 7 0x2000000 0xc true) 0x3ffffff (op (MovI 5 0x1000003) 2 false
    ∷ op (BlockMove 5 0 false true false) 0 false ∷ op (Ext 4 5 PartUpper false) 2 false ∷ op (SarI 1 0xb 0x3f) 2 true ∷ []))
    (hex 12 0x45aae050aa827bb5ce86f7ff) 0xffffffff
    (card (regs 0x0000000790a597e76af117ea9f469e6d0000001ffffffffe00000100fffffffe
    0x754dc6c600007fff00fff00000000008ffff0000486fcd76ed70552bffff8000) 0xba8b4b79 0x10000 0xe4695550 0xffffffff 0xa4b0aad8 0x1000
    (hex 7 0x14968eaaba0d98) (hex 2 0x8001) (outcome 0x5d 0xffffffff (hex 7 0x4df1e081f156de) (hex 2 0x7eed) ∷ []))
    [] by_return (reg 5 0x1000003 & pc 0x4000001 & done 0x1002) []
    -- 40-BlockMove/empty-break-start-glue-1/0
    ∷ runs (block (memory 0x1000000 0x10 0 7 true) 0x3ffffff (op (BlockMove 0xc 0 true true false) 4 true ∷ op (Alu3 7 9 8 Xor) 0x7e true
    ∷ op (Mov2I 0xb 6 0xffff8000) 0x33 true ∷ [])) (hex 7 0x84a9f670529d22) 0xffffffff
    (card (regs 0x00000fff0000001f000000040000000200000000cac0248dc3ac94a900fff000
    0xc6909d313668f453000000ff7fffffff01000000ffff80000000000439d4ab91) 0x4d4e5f25 0x80000000 0 0x100 0xb45a6211 5
    (hex 16 0xe19a38c3433abc2184bac991ac0caad9) (hex 4 0x00000101)
    (outcome 0xfa 1 (hex 16 0x4df0578d05932bdb8c2802dd3e48e379) (hex 4 0x121c9ea6) ∷ []))
    (entry 1 0x4000003 ∷ []) by_return (hold 1 & pc 0x4000003 & done 6) []
    -- 40-BlockMove/full-s0p1d0/0
    ∷ runs (block (memory 0x10000 0x4c 0x1004c 0x48 true) 0x2000000 (op (BlockMove 6 0xffff false true false) 6 true ∷ [])) (hex 60
    0x22cfa48115826f95d39bb1164d13d226c9cb9cca0ea32ac153eab64d832c7c12a0d8b523c04d8d87cca37e5b35aca0b4c8fcfe92fdf6c3293da80a16 ++ hex 12
    0xfaee9e609ed108056e7e6182) 0xffffffff
    (card (regs 0x000000ff0000001f9d90182a00fff000a5d7b3d40000000200010038251b6a3f
    0xe321e9840000000800000fff00fff0002cd6f8bb00000fff9226950600012345) 0xfffffffe 3 0 0 0xfd834d08 0 (hex 60
    0x71f2015baf1d38a762b58809448ede8d0ad56a71214062683e046ac3bbde0526a4919f293b8f7bc5bebff395511c41a6f911041bef4bc43077e02dbb ++ hex 16
    0x4abdff997f3059c8c1d33c04b2db63f1) (hex 19 0x0001ff8080010000ff00800080000080008000) (outcome 0x97 0 (hex 60
    0xa77c8be857fbf775e2c04b7eb2efed0d83506f238e1c39dc91ee6aa7bf9f8a8b2dc165f62436789f62b2cfe49976b835c5785fc917248359e84a76b3 ++ hex 16
    0xe9b831577a6c6bfccbf37d726ba6a49b) (hex 19 0x7d6da1d44b6c28f7ed7629032ab9337267b5ff) ∷ outcome 0x6f 0xffffffff (hex 60
    0xee3c7a5deeccb9e9463918e8fe112baa3eda4967f8071bc8ffe9f310eec845352772e3ccd5378caa9e450f629236f3942bdf445d3a4751c53e50a7e0 ++ hex 16
    0xf6ea3b067fe2df9ee506138ba32a554a) (hex 19 0x3e18caec9e38f4abac8f6897dcf840187fec98) ∷ []))
    [] (by_chain 0) (reg 0 0xbb2de077 & reg 1 0x99ffbd4a & reg 2 0xc859307f & reg 3 0x43cd3c1 & reg 4 0xf163dbb2 & reg 5 0x81a4cf22
    & reg 6 0x10078 & reg 7 0x16b19bd3 & reg 8 0x26d2134d & reg 9 0xca9ccbc9 & reg 10 0xc12aa30e & reg 11 0x4db6ea53 & reg 12 0x127c2c83
    & reg 13 0x23b5d8a0 & reg 14 0x878d4dc0 & reg 15 0x5b7ea3cc & pc 0x2000006 & done 1) []
    -- 40-BlockMove/full-s0p0d1/0
    ∷ runs (block (memory 0xffffffc0 0x40 0x1000 0x40 true) 0x3862aa4 (op (MinMax 9 0xc 0xe MaxU) 0xff false
    ∷ op (BlockMove 8 0xffff false false true) 4 false ∷ [])) (hex 60
    0x1b03b68a60ef93060066c5f7a44563b658fe32825ab105fba03d666f2874aeb1c9600465e1083f35d0f11c9d4fbc346267a4794b101c061ba502a721 ++ hex 4
    0xe868f2de) 7
    (card (regs 0xffffffef75e4f726ffffffe2a4ea183c000001000000ffff0000010000000016
    0x000000006d884bc85295c9a7fffff000464dfe3600008000034e3c69fffffffe) 0x7fff 8 0 0 0xa879f84f 5 (hex 60
    0xc2d7a495702d583b0e6982d95aac85f3087b3e6c89ee01a4f2fce93c13353ae345bfeabe77cfc619f5301aced1095d565fa064c65783ca6de4d1ee7d ++ hex 4
    0x705ab7ec) (hex 16 0x8000000000ff00ff0100808080ffffff) [])
    (entry 0x15d3 0x3862ba7 ∷ []) (by_chain 0) (reg 0 0x95a4d7c2 & reg 1 0x3b582d70 & reg 2 0xd982690e & reg 3 0xf385ac5a
    & reg 4 0x6c3e7b08 & reg 5 0xa401ee89 & reg 6 0x3ce9fcf2 & reg 7 0xe33a3513 & reg 8 0xbeeabf45 & reg 9 0x19c6cf77 & reg 10 0xce1a30f5
    & reg 11 0x565d09d1 & reg 12 0xc664a05f & reg 13 0x6dca8357 & reg 14 0x7deed1e4 & reg 15 0xecb75a70 & pc 0x3862ba7 & done 7) []
    -- 40-BlockMove/full-s1p1d1/0
    ∷ runs (block (memory 0x10000 0x40 0x10040 0x44 true) 0x2000000 (op (SpAdd 3) 0xff false ∷ op (MovI 5 0x678f9c8e) 4 false
    ∷ op (MovI 6 0x8bc6a749) 4 false ∷ op (MovI 0xa 0x86c38501) 2 false ∷ op (BlockMove 3 0xffff true true true) 0xff false ∷ [])) (hex 60
    0x046a439d565c12d565c2d4f5cce5fd3e650919a9b1152260248c288eaefbe02858577f129bf2e0910483fc697e411259f379208149aec96b3a49a983 ++ hex 8
    0xaa102b471fcbb48c) 0xffffffff
    (card (regs 0x41345fa940cd23eeca9935bc00010068945793f01c3c418f000100003ab92a76
    0x29358e7d233824bcecd4c93897fcc8a961f18be78d371d4b42184e8d6fbc515b) 0xfe6438b 0x4c0f0ffb 0 0 0xf1dc1f1a 5 (hex 60
    0x6a5910c766a7b89c832546e48b7292d111c1898db5cadad2b166a27798da6918017f61baf245d1a0ffa2b0bd8ab1f4ff2d3398206c31350ff8c5c5eb ++ hex 4
    0xe766dc7e) (hex 16 0x80008001800180018000000000000000) (outcome 0 0 (hex 60
    0xa05910c766a7b89c832546e48b7292d111c1898db5cadad2b166a27798da6918017f61baf245d1a0a95f3441ee23cd39bc3599ca68000100f0935794 ++ hex 4
    0x8e9c8f67) (hex 16 0x80008001800180018000000100000040) ∷ outcome 0 0 (hex 60
    0xa05910c766a7b89c832546e48b7292d111c1898db5cadad2b166a27798da6918017f61baf245d1a0a95f3441ee23cd39bc3599ca68000100f0935794 ++ hex 4
    0x8e9c8f67) (hex 16 0x80008001800180018000000100000040) ∷ outcome 0xffffffff 0 (hex 60
    0xa05910c766a7b89c832546e48b7292d111c1898db5cadad2b166a27798da6918017f61baf245d1a0a95f3441ee23cd39bc3599ca68000100f0935794 ++ hex 4
    0x8e9c8f67) (hex 16 0x80008001800180018000000100000040) ∷ outcome 0x7a23747f 0 (hex 60
    0xa05910c766a7b89c832546e48b7292d111c1898db5cadad2b166a27798da6918017f37baf245d1a0a95f3441ee23cd39bc3599ca68000100f0935794 ++ hex 4
    0x8ec98f67) (hex 16 0x80008001010180018000000100010040) ∷ outcome 0x26cd4a93 0 (hex 60
    0xa05910c766a7b89c832546e48b7292d111c1898db5cadad2b166a27798da6918017f37baf245d1a0a95f34f2ee23cd39bc3599ca68000100f0935794 ++ hex 4
    0x8ec98f67) (hex 16 0x80008001010180014000000100010040) ∷ outcome 0x80000000 0 (hex 60
    0xa05910c766a7b89c832546e48b7292d111c1898db5cadad2b166a27798da6918017f37baf245d1a0a95f34f2ee23cd39bc3599ca68000100f0935794 ++ hex 4
    0x8ec98f67) (hex 16 0x80008001010180014000000100010040) ∷ outcome 0x60bb1500 0 (hex 60
    0xa05910c766a7b89c832546e48bf692d111c1898db5cadad2b166a27798da6918017f37baf245d1a0a95f34f2ee23cd39bc5799ca68000100f0935794 ++ hex 4
    0x8ec98f67) (hex 16 0x80000001010180004000000100010040) ∷ outcome 0xffffffff 0 (hex 60
    0xa05910c766a7b89c83a846e48bf692d111c1898db5cadad2b166a27798da6918277f37baf245d1a0a95f34f2ee23cd39bc5799ca68000100f0935794 ++ hex 4
    0x8ec98f67) (hex 16 0x80000001010180004000000100010040) ∷ outcome 0xdbff3c43 0 (hex 60
    0xa05910c766a7b89c83a846e48bf692d111c1898db5cadad2b166a27798da6918277f37baf245d1a0a95f34f2ee23cd39bc5799ca68000100f0935794 ++ hex 4
    0x8ec98f67) (hex 16 0x80000001010180004000000100010040) ∷ outcome 0x80000000 0 (hex 60
    0xa05910c766a7b89c83a846e48bf692d111c1898db5cadad2b166a27798da6918277f37baf245d1a0a95f34f2ee23cd39bc5799ca68000100f0935794 ++ hex 4
    0x8ec98f67) (hex 16 0x80000001010180004000000100010040) ∷ outcome 0xde 0 (hex 60
    0x499ce5ced4b69910e36e243b16639d5375cd03bbd9f81392b2d7eee6207c689d30fcdf728ce26fabae3f9dacc1aedbcfde94c3daf014eb4d81f46a31 ++ hex 4
    0xc2ec3543) (hex 16 0x89ba39e780973a08fdd1eb4442b09b49) ∷ []))
    [] (by_chain 0) (reg 3 0x10028 & reg 5 0x678f9c8e & reg 6 0x8bc6a749 & reg 10 0x86c38501 & sp 0xfe6438e & pc 0x2000208 & done 0xa & ram
    (hex 60 0xa05910c766a7b89c83a846e48bf692d111c1898db5cadad2b166a27798da6918277f37baf245d1a0a95f34f2ee23cd39bc5799ca68000100f0935794 ++
    hex 4 0x8ec98f67) & map (hex 16 0x80000001010180004000000100010040)) (write 0x10040 4 9 0x8bc6a749 ∷ write 0x10044 4 9 0x3ab92a76
    ∷ write 0x10048 4 9 0x29358e7d ∷ write 0x1004c 4 9 0x233824bc ∷ write 0x10050 4 9 0x86c38501 ∷ write 0x10054 4 9 0x97fcc8a9
    ∷ write 0x10058 4 9 0x61f18be7 ∷ write 0x1005c 4 9 0x8d371d4b ∷ write 0x10060 4 9 0x42184e8d ∷ write 0x10064 4 9 0x6fbc515b ∷ [])
    -- 40-BlockMove/full-load-outside/0
    ∷ runs (block (memory 0x3000040 0x40 0x3000000 0x40 true) 0x2000000 (op (Mov 7 2) 2 false
    ∷ op (BlockMove 0xa 0xffff false true true) 2 false ∷ op (A4 6 3 Shl RkBit 5) 0xff false ∷ op (ShlI 9 7 0x3f) 2 false ∷ [])) (hex 60
    0x65f8215ca1f81955203eaddd84744efb3c86b022b45233b9c033c1dff281534422eeb853a48ce0e4f72d13bb84c27b3023164bba8ff1465a4956a880 ++ hex 4
    0xf42d2eb3) 0xffffffff
    (card (regs 0xffffffff7dc2e0b800fff0000001000000000007ffff000000008000f3bb57d1
    0xce2584ce00000003b433634c00000fff00000002ffffffe7fffff00100000000) 0x20 0xa 0xc9ebb019 0 0x8518d9d9 0x93e66857 (hex 60
    0x50172914101624f84056370976a00d0eed8860e45518966290b94f442acbc0fde7ebc28b9bc08481dd44b86a417ab081aabf386761f17c8511615ccc ++ hex 4
    0xb790ce54) (hex 16 0x8001000101ff800000000000ff018000) (outcome 1 0 (hex 60
    0x50172914101624f84056370976a00d0eed8860e45518966290b94f442acbc0fde7c9c28b9bc08481dd44b86a417ab081aae2386761f17c8511615ccc ++ hex 4
    0xb790ce54) (hex 16 0x8001000101ff800000000040ff018000) ∷ outcome 0xffffffff 0 (hex 60
    0x50172914101624f84056370976a00d0eed8860e45518966290b94f442acbc0fde7c9c28b9bc08481dd44b86a417ab04baae2386761f17c8511615ccc ++ hex 4
    0xb790ce54) (hex 16 0x8001000101ff800000000000ff018000) ∷ outcome 1 0 (hex 60
    0x50172914101624f84056370976a00d0eed8860e45518966290b94f442acbc0fde7c9c28b9bc08481dd44b86a41e2b04baae2386761f17c8511615ccc ++ hex 4
    0xb790ce54) (hex 16 0x8001000101ff804000000000ff018000) ∷ outcome 0x4cecac3b 0 (hex 60
    0x50172914101624f84056370976a00d0eed8860e45518966290b94f442acbc0fde7c9c28b9bc08481dd44b86a41e2b04baae2386761f17c8511615ccc ++ hex 4
    0xb790ce54) (hex 16 0x8001000101ff804000000000ff018000) ∷ outcome 0 0 (hex 60
    0x50172914101624f84056370976a00d0eed8860e45518966290b94f442acbc0fde7c9c28b9bc08481dd44b86a41e2b04baac0386761f17c8511615ccc ++ hex 4
    0xb790ce54) (hex 16 0x8001000101ff804000000000ff018000) ∷ outcome 0x71d5da08 0 (hex 60
    0x50172914101624f84056370976a00d0eed8860e45518966290b94f442acbc0fde7c9c28b9bc08481dd44b86a41e2b04baac0386761f17c8511615ccc ++ hex 4
    0xb790ce54) (hex 16 0x8001000101ff804000000000ff018000) ∷ outcome 0x7fffffff 0 (hex 60
    0x50172914101624f84056370976a00d0eed8860e45518966290b94f442acbc0fde7c9c28b9bc08481dd44b86a41e2b04baac0386761f17c8511615ccc ++ hex 4
    0xb790ce54) (hex 16 0x8001000101ff804000000000ff018000) ∷ outcome 0x49e03d4a 0 (hex 60
    0x50172914101624f84056370976a00d0eed8860e45518966290b94f442acbc0fde7c9c28b9bc08481dd44b86a41e2b04baac0386761f17c8511615ccc ++ hex 4
    0xb790ce54) (hex 16 0x8001000101ff804000000000ff018000) ∷ outcome 0xffffffff 0 (hex 60
    0x50172914101624f84056370976a00d0eed8860e45518966295b94f442acbc0fde7c9c28b9bc08481dd44b86a41e2b04baac0386761717c8511615ccc ++ hex 4
    0xb790ce54) (hex 16 0x8000000101ff004000000000ff018000) ∷ outcome 1 0 (hex 60
    0x50172914101624f84056370976a00d0eed8860e455187b6295b94f442acbc0fde7c9c28b9bc08481dd44b86a41e2b04baac0386761717c8511615ccc ++ hex 4
    0xb790ce54) (hex 16 0x8000000101ff004000000000ff014000) ∷ outcome 0x80000000 0 (hex 60
    0x50172914101624f84056a90976a00d0eed8860e455187b6295b94f442acbc0fde7c9c28b9bc08481dd44b86a41e2b04baac0386761717c8511615ccc ++ hex 4
    0xb790ce1e) (hex 16 0x0100000101ff004000000000ff014000) ∷ outcome 0x673ad53 0 (hex 60
    0x50172914101624f84056a90976a00d0eed8860e455187b6295b94f442acbc0fde7c9c28b9bef8481dd44b86a41e2b04baac0386761717c8511615ccc ++ hex 4
    0xb790ce1e) (hex 16 0x0100000101ff004000000000ff014000) ∷ outcome 0x4864279c 0 (hex 60
    0x50172914101624f84056a90976a00d0eed8860e4554a7b6295b94f442acbc0fde7c9c28b9bef8481dd44b86a41e2b04baac0386761717c8511615ccc ++ hex 4
    0xb790ce1e) (hex 16 0x0000000101ff004000000000ff014000) ∷ outcome 0 0 (hex 60
    0x50172914101624f84056a90976a00d0eed8860e4554a7b6295b94f442acbc0fde7c9c28b9bef8481dd44b86a41e2b04baac0386761717c8511615ccc ++ hex 4
    0xb790ce1e) (hex 16 0x0000000101ff004000000000ff014000) ∷ outcome 0x7fffffff 0 (hex 60
    0x50172914101624f84056a90976a00d0eed8860e4554a7b6295b94f442acbc0fde7c9c28b9bef8481dd44b86a41e2b04baac0386761717c8511615ccc ++ hex 4
    0xb790ce1e) (hex 16 0x0000000101ff004000000000ff014000) ∷ outcome 0 0 (hex 60
    0x50172914101624f84056a90976a00d0eed8860e4554a7b4995b94f442acbc0fde7c9c28b9bef8481b144b86a41e2b04baac0386761717c8511615ccc ++ hex 4
    0xb790ce1e) (hex 16 0x0000010101ff004000000000ff014000) ∷ []))
    [] (by_chain 0) (reg 0 1 & reg 1 0xffffffff & reg 2 1 & reg 3 0x4cecac3b & reg 4 0 & reg 5 0x71d5da08 & reg 6 0x4cecac3b
    & reg 7 0x49e03d4a & reg 8 0xffffffff & reg 9 0 & reg 10 0xb433630c & reg 11 0x673ad53 & reg 12 0x4864279c & reg 13 0
    & reg 14 0x7fffffff & pc 0x2000105 & done 0x93e6685b & ram (hex 60
    0x50172914101624f84056a90976a00d0eed8860e4554a7b4995b94f442acbc0fde7c9c28b9bef8481b144b86a41e2b04baac0386761717c8511615ccc ++ hex 4
    0xb790ce1e) & map (hex 16 0x0000010101ff004000000000ff014000)) (read 0xb433630c 4 0x93e66858 ∷ read 0xb4336310 4 0x93e66858
    ∷ read 0xb4336314 4 0x93e66858 ∷ read 0xb4336318 4 0x93e66858 ∷ read 0xb433631c 4 0x93e66858 ∷ read 0xb4336320 4 0x93e66858
    ∷ read 0xb4336324 4 0x93e66858 ∷ read 0xb4336328 4 0x93e66858 ∷ read 0xb433632c 4 0x93e66858 ∷ read 0xb4336330 4 0x93e66858
    ∷ read 0xb4336334 4 0x93e66858 ∷ read 0xb4336338 4 0x93e66858 ∷ read 0xb433633c 4 0x93e66858 ∷ read 0xb4336340 4 0x93e66858
    ∷ read 0xb4336344 4 0x93e66858 ∷ read 0xb4336348 4 0x93e66858 ∷ [])
    -- 40-BlockMove/some-s0p1d1/0
    ∷ runs (block (memory 0x1000 0x20 0xffffffe8 0x18 false) 0x31cd919 (op Nop 2 true ∷ op (BlockMove 5 0x1103 false true true) 4 true
    ∷ op (AddRI 0xe 0 0x80000000) 0x4d false ∷ op (BitExt 6 0xe 0x21 0xff true) 0 false
    ∷ op (BitBr 0xa RkBit true 0xfffffffe 0xfff000) 4 true ∷ [])) (hex 24 0x0ed4277a375d7081f9fe629a92e5839d49f20f15ee9eee37) 0x1004
    (card (regs 0x7fffffff000000207dd1c62b0000000380000000000010144beb6906a5aad678
    0xdf87d24fe11fa5ce000100009340101f000000028f3ce931886543d00000007f) 0xffff 0xbbebfe7 0 0 0x5e7c7e41 0xfff
    (hex 32 0xe51dbae8a6b8f21f87be011c0b688d199093b56f7dcf6e62bf49fa8e8a3b93a5) []
    (outcome 0x61 0xffffffff (hex 32 0x1e5ac1341941a10ec111740170dd9e130eef56ffa35c5d73a4a0ecd9509d6e9e) [] ∷ []))
    [] (by_chain 0) (reg 0 0x1ff2b8a6 & reg 1 0x1c01be87 & reg 5 0x1004 & reg 6 0xcff95c53 & reg 8 0x198d680b & reg 12 0x6fb59390
    & reg 14 0x9ff2b8a6 & pc 0x31cd970 & done 0x1004) []
    -- 40-BlockMove/some-s1p0d1/0
    ∷ runs (block (memory 0x20000000 0x11 0x8000000 0x14 true) 0x316d458 (op Nop 0x95 false ∷ op (Alu3 6 0 2 Shl) 0x8e false
    ∷ op (MovI 4 0x2000000c) 4 false ∷ op (BlockMove 4 0x4002 true false true) 4 true ∷ op (CallR 0xf) 0 false ∷ []))
    (hex 20 0xb042196ff1d746743d80cc3b4d2cb86f8def3862) 0xffffffff
    (card (regs 0xf47e62bb5caa3c27000000ff00000020fffff0004618dfceebd3494000012345
    0x00000024f3a865445dd125cfffff8000ffffffe45151b66a4d7f30430000001f) 8 1 0xdd5741d9 0 0x94bca2f 0
    (hex 17 0xf38246a9f2b63446442cbdc30a3bf20283) (hex 5 0x0000000000)
    (outcome 0x2f 0xffffffff (hex 17 0x3f147684942c90bfb36fd774cad554167a) (hex 5 0x182d371480) ∷ []))
    (entry 0xf 0x801f ∷ []) by_return (reg 4 0x2000000c & reg 6 0x80000000 & rets 0x316d583 & pc 0x1f & done 5
    & ram (hex 17 0xf38246a9273caa5c43307f4d0a3bf20283)) []
    -- 40-BlockMove/some-s1p1d0/0
    ∷ runs (block (memory 0 0x1b 0x2000000 0x13 true) 0x3ffffff (op (AddRI 4 0xe 0x8000) 4 false ∷ op (Mov 8 2) 0x71 true
    ∷ op (AddRI 5 9 2) 6 false ∷ op (A4 6 1 AndNot RkBit 2) 0xff true ∷ op (RFromSp 5 0x80000000) 0xff true
    ∷ op (AddRI 5 3 0x12345) 2 true ∷ op (Un 5 5 Rev) 0 false ∷ op (MovI 4 0x22) 0 false ∷ op (MovI 0 0x8f46a2d5) 4 false
    ∷ op (BlockMove 0xd 0x289 true true false) 6 true ∷ [])) (hex 19 0x54ad9472177d279f11cace51876f277f75c74c) 0xffffffff
    (card (regs 0xe6418cbf523a1169b28c76b9a3e6faf500008000fffffffe000123457c0ea605
    0x00000002fb9a4674ffff0000a3d6091797b0305200000004610de1e98dbb1d3b) 0x1f 0xe643d239 0 0 0x207c29b8 0
    (hex 27 0xd5b90a4f048c7b865e764114bf37e2817228b00b5daad18132eac1) (hex 7 0x00000000008000)
    (outcome 0x5f 1 (hex 27 0xab29de6ed4990c27fa21491881410484379fa253e28490ff891198) (hex 7 0xf60bd7ab8e85b0) ∷ []))
    [] (by_chain 0) (reg 0 0x8f46a2d5 & reg 4 0x22 & reg 5 0x3a1ee8a3 & reg 6 0x503a1169 & reg 8 0xb28c76b9 & reg 13 0x14 & pc 0x4000284
    & done 0xa & ram (hex 27 0xd5b90a4fd5a2468ff5fae6a305a60e7c74469afb5daad18132eac1)) []
    -- 40-BlockMove/mask-1/0
    ∷ runs (block (memory 0x1000 4 0xfffffff8 8 false) 0x39fae7f (op (MovI 0 0xa3eae1a9) 4 false
    ∷ op (BlockMove 3 1 true false true) 4 false ∷ [])) (hex 8 0x8c10f224fabc6d17) 0xffffffff
    (card (regs 0x9ad8f423dfa085550000000400001004cec17aea0a9087cafffffffe6e17e5c9
    0x00000003800000003b6dad3a0000001f0000001ffffffff9000000227fffffff) 0xfffff001 0xffffffff 2 0 0xeebc8cc9 0xfffffffd (hex 4 0xe92c4993)
    [] (outcome 0x95 0 (hex 4 0x89544b6d) [] ∷ outcome 0x5a 0xffffffff (hex 4 0x66563da3) [] ∷ []))
    (entry 0x1743 0x39fae87 ∷ []) (by_chain 0) (reg 0 0xa3eae1a9 & pc 0x39fae87 & done 0xffffffff & ram (hex 4 0xa9e1eaa3)) []
    -- 40-BlockMove/mask-80/0
    ∷ runs (block (memory 0x10000 5 0x10008 0x10 true) 0x2000000 (op (BlockMove 0xa 0x80 false false false) 0 false ∷ []))
    (hex 16 0xa66edfee72b69cfaba0764db728b6cec) 2
    (card (regs 0x7fffffffffffffff0000ffffffffffdffe3ec4c200000001ffff000067432de5
    0x8fa0a9ba00fff00000010000f5805c48000000077db07a6f2a8581c600000004) 7 6 0 0 0x8bde894b 1 (hex 5 0x9715b86ba2) (hex 2 0x0001) [])
    [] (by_chain 0) (reg 7 0x6bb81597 & pc 0x2000000 & done 2) []
    -- 40-BlockMove/mask-8000/0
    ∷ runs (block (memory 0x1000000 5 0 8 false) 0x2fa6693 (op (Div 0xf 1 3 RemU) 4 true ∷ op (Mov2 0xf 0xe 3 5) 0x94 true
    ∷ op (A4 0 0xf Sub RkBit 0xffffffff) 0x90 true ∷ op (BlockMove 2 0x8000 false true true) 6 true ∷ [])) (hex 8 0x66835a8465c4b530) 4
    (card (regs 0x0000000725496f9e0100000400000007000000111988261cffff0000ffffffde
    0x000000040000002064dd0e42000000ff80000000ffffffe80000100000000020) 0x50101d78 2 2 0 0x2f94153d 0 (hex 5 0x5794036664) []
    (outcome 0x6b 1 (hex 5 0x4c60c21c2e) [] ∷ outcome 0x22 1 (hex 5 0xcd7f186cef) [] ∷ []))
    [] (by_chain 0) (reg 0 0xffffff87 & reg 2 0x1000000 & reg 14 0x1988261c & reg 15 0x66039457 & pc 0x2fa67c1 & done 4) []
    -- 40-BlockMove/base-low-s0p0d0/0
    ∷ runs (block (memory 0 0x18 0x2000000 0xf false) 0x2000000 (op (MovI 7 0x2000000) 4 false
    ∷ op (BlockMove 7 0x8280 false false false) 2 true ∷ op (Goto 0x35a06f92) 0 true ∷ [])) (hex 15 0x6c5484430eff18c50af215041dbd20)
    0xffffffff
    (card (regs 0x0000100000000003ffff000000000020b20850bc00fff000ffffffff00000020
    0x47f7cbc6fb7cc5a000000020000000803e0f233b000000fffffff0010944ccc8) 0xfff 0xfffff001 0 0 0x58bf76c7 0
    (hex 24 0xff8a0f44434f4eab2cb37281ec04154b5112709a1500143e) []
    (outcome 0x9b 0 (hex 24 0xedfed855b5f2658846b5e8c22193601703e2f62f088b2a04) []
    ∷ outcome 0x85 1 (hex 24 0xe271ad411b9e20c05c029e3450e51080310edd9921eb1081) [] ∷ []))
    (entry 0x37c9 0x35a06f92 ∷ []) (by_chain 0) (reg 7 0x4384546c & reg 9 0xc518ff0e & reg 15 0x415f20a & pc 0x35a06f92 & done 3) []
    -- 40-BlockMove/base-low-s0p1d0/0
    ∷ runs (block (memory 0x3000014 0x24 0x3000000 0x12 false) 0x3ffffff (op (BlockMove 1 0xc12 false true false) 6 true ∷ []))
    (hex 18 0xcfad0aa089b0057a0779ba8bb9d233a9f703) 2
    (card (regs 0x0000000003000018000000ff0000000017d25c9effff800092872078ffff0000
    0x7562b32e000123458000000000012345000000ff343c4bd700000020ffff0000) 0x2fb8bb35 0x8000 0 0 0x34116980 1
    (hex 36 0xf07cb9bc4b0af19d18c6968ac5785408468372c1ca1fe9b472c1b0c20bddc5ba8a73a3b0) []
    (outcome 0x47 1 (hex 36 0x202dcfb77e9327ced78c8539189f4e7c7ede55c446ac1bf13610e10f85a3e1ecff8cc026) []
    ∷ outcome 0x34 0xffffffff (hex 36 0x7a3a598fbf0a299a272781eeb40f24c7e91e7393c4e022747b05f56d00cff25b2719a1de) [] ∷ []))
    [] (by_chain 0) (reg 1 0x3000028 & reg 4 0x8a96c618 & reg 10 0x85478c5 & reg 11 0xc1728346 & pc 0x4000005 & done 2) []
    -- 40-BlockMove/base-low-s1p1d1/0
    ∷ runs (block (memory 0x1000000 0x14 0x2000000 0x10 false) 0x22fc9ee (op (BlockMove 2 0x1084 true true true) 4 false
    ∷ op (BitIns 0xa 4 4 0x17) 2 true ∷ [])) (hex 16 0xd9e4cf56aaaa43f6fea7fea62d3f8f60) 2
    (card (regs 0xab3bc4ebc72716ca01000010000010007406dbb50000001674ac31ce77de8283
    0x7e109cf1889cd41448a0d5fb00000000a0fd3dc500000000aaf3fa48cd19234e) 0x20 0x7f 0 0 0xba7232b1 0
    (hex 20 0xf791a81831180c8fcff3a1d8614280d313d9c395) [] (outcome 0xcc 0 (hex 20 0x597891abf4a4706c51879e9901d9040b93e244c1) [] ∷ []))
    (entry 0x24fa 0x22fc9f4 ∷ []) (by_chain 0) (reg 2 0x1000004 & reg 10 0x486dbb5b & pc 0x22fc9f4 & done 2
    & ram (hex 20 0xf791a818100000018382de77c53dfda013d9c395)) []
    -- 40-BlockMove/base-high-s0p0d1/0
    ∷ runs (block (memory 0x1000 0x14 0xffffffec 0x12 false) 0x30aa2be (op Nop 6 true ∷ op (BlockMove 9 0x252 false false true) 2 true
    ∷ [])) (hex 18 0xdf695f0f1081a333132b174220275f73d8af) 0xffffffff
    (card (regs 0x7fffffff00000026ffffffebffff0000956978c10000007f0000100000001000
    0x0000002240000074fffffffffffffffe7fffffffbbfb4006a84c80d5fffff000) 0x9f0b6501 4 1 0 0x9c9590e0 0x1000
    (hex 20 0x0fd6d8121ababcddd2eeeafdca07a3d06ade021d) [] (outcome 0x7fffffff 0 (hex 20 0x0fd6d8121ababcddd289eafdca0756d06ade021d) []
    ∷ outcome 0x11ba9e85 0 (hex 20 0x0fd6d8121ababcddd289eafdca9756d06ade021d) []
    ∷ outcome 0x7fffffff 0 (hex 20 0x0fd6d8121abae0ddd289eafdcaa356d06ade021d) []
    ∷ outcome 0x80000000 0 (hex 20 0x0fd6d8121abae0ddd289eafdcaa356d06ade021d) []
    ∷ outcome 0xc8 1 (hex 20 0x9411f2f10becda6d71e27cf039d4d73c1567fbfe) []
    ∷ outcome 0x9b 0xffffffff (hex 20 0xe62d319b8acb2c9f52cb58ea6e18b05bb3939777) [] ∷ []))
    [] (by_chain 0) (reg 1 0x7fffffff & reg 4 0x11ba9e85 & reg 6 0x7fffffff & reg 9 0x80000000 & pc 0x30aa2c6 & done 0x1002
    & ram (hex 20 0x0fd6d8121abae0ddd289eafdcaa356d06ade021d)) (read 0x40000064 4 0x1001 ∷ read 0x40000068 4 0x1001
    ∷ read 0x4000006c 4 0x1001 ∷ read 0x40000070 4 0x1001 ∷ [])
    -- 40-BlockMove/base-high-s0p1d1/0
    ∷ runs (block (memory 0x20000000 0x1c 0x8000000 0x10 false) 0x2a38624 (op (BlockMove 0xf 0xa000 false true true) 2 false ∷ []))
    (hex 16 0xb84624da62b4747612e0641c0dab6fd1) 0xb38e9670
    (card (regs 0xbe141d5cfffffffefffff001ffffffe0c38f49ac000001006a96a5a20000000a
    0x574fde22000000200000001f000000ffffffffe594310d09ffffffe42000000c) 0xffffffff 0xffff8000 1 0 0x1756a5ec 0x22acae8d
    (hex 28 0x0ef064bf805a4b1ba0a954f339f8956d9a22cfc87725d36ba985dae7) []
    (outcome 0xa7 1 (hex 28 0x521055aa6832ded85694e238b84ba6ee7ac13cf3e16aa6aa1526a5d1) []
    ∷ outcome 0x3e 0 (hex 28 0x733d35ea5c94cbeb5981d9fa2151f4aa8fbc09e438a2a3f62d9365c1) [] ∷ []))
    [] (by_chain 0) (reg 13 0x1b4b5a80 & reg 15 0x20000004 & pc 0x2a38626 & done 0x22acae8e) []
    -- 40-BlockMove/base-high-s1p1d0/0
    ∷ runs (block (memory 0x3000008 0x13 0x3000000 8 false) 0x3ffffff (op (BlockMove 0xd 0x2002 true true false) 2 false ∷ []))
    (hex 8 0xeea2e5b397eaa231) 0xffffffff
    (card (regs 0x00010000f2d2c712f6d3387c00012345c7f2108da5636d249c299d92d4f306a1
    0xffffffedffff800000000008fffff000000000050300000cffff0000000000ff) 0xfff 0x7f3c0b3c 0 0 0x85a7242b 0xf5ab0557
    (hex 19 0x1e1300e400043cbcf3fe856b88a97ade04de96) [] (outcome 0x4b 0 (hex 19 0xc2894282e5918e42843f7b51fe4ab541d970f3) [] ∷ []))
    [] (by_chain 0) (reg 13 0x3000014 & pc 0x4000001 & done 0xf5ab0558 & ram (hex 19 0x1e1300e412c7d2f20c00000388a97ade04de96)) []
    -- 40-BlockMove/base-only-s0p0d0/0
    ∷ runs (block (memory 0x10000 0xc 0x1000c 8 true) 0x3cdbd81 (op (BitIns 0xd 3 0x1f 0xff) 0xbe false
    ∷ op (BlockMove 3 8 false false false) 6 true ∷ op (Alu2I 0xf 0xfffffffe Mul) 0xc5 false ∷ [])) (hex 8 0x1db87a0d349ee699) 0xffffffff
    (card (regs 0x0000008000000004ffffffdc00010004bdf37e47281e5acd00000100b2764db6
    0xca7b5e4effffffe07fffffff1041747cee21c37600007fff0000000300012345) 0xc17e88a1 0x9c347502 0x63f9c51b 0 0xada74166 0xfffffffc
    (hex 12 0x4a72ccc23eb507915cef1e30) (hex 3 0xff8001) (outcome 0x88 0xffffffff (hex 12 0x63170ae5995b39d921b2ead2) (hex 3 0x95c801)
    ∷ outcome 0x38 0xffffffff (hex 12 0x3adc29917c06febef0aed0c2) (hex 3 0x3e54da) ∷ []))
    [] (by_chain 0) (reg 3 0x9107b53e & reg 15 0xfffdb976 & pc 0x3cdbf0a & done 0xffffffff) []
    -- 40-BlockMove/base-only-s0p1d1/0
    ∷ runs (block (memory 0x3000008 0xc 0x3000000 5 false) 0x3ffffff (op (BlockMove 1 2 false true true) 0xff true ∷ []))
    (hex 5 0x58aaa79783) 1
    (card (regs 0x7fffffff97fcda90993503a1000000ffbe932e73fffff001e5aa6afdfffff001
    0x7e438f0400001000000000ff00010000ffffffeb00fff0000000001f25b0def2) 0xffff 0x49fcd5af 1 0 0xe6b30369 0
    (hex 12 0x406bc196c6a8ed439c962cf4) [] (outcome 1 0 (hex 12 0x406bc196c6a8ed439c962cf4) []
    ∷ outcome 0x6f 0 (hex 12 0xb673e6dda5aa9073e2851706) [] ∷ []))
    (entry 0x7f 0x40000fe ∷ []) (by_chain 0) (reg 1 0x97fcda8c & pc 0x40000fe & done 1) (read 0x97fcda8c 4 0 ∷ [])
    -- 40-BlockMove/base-only-s1p1d1/0
    ∷ runs (block (memory 0x20000000 4 0x8000000 7 true) 0x3638bd8 (op (BlockMove 3 8 true true true) 2 false ∷ op (Call 0x12345) 0x4c false
    ∷ [])) (hex 7 0x214ae528e12d7b) 0x10da3f0d
    (card (regs 0x93cf460500000fff000000ff080000044fa23d6cffff0000ffff8000ffff0000
    0x000000020000008000000007fffff000c2e5da9b00000100a1a17bb400000003) 0x1f 2 0 0 0x12c2e08 0 (hex 4 0xac79bb9b) (hex 1 0x00)
    (outcome 0x705c6946 0 (hex 4 0xac79bb9b) (hex 1 0x00) ∷ []))
    [] (by_chain 0) (reg 3 0x8000000 & rets 0x3638c26 & pc 0x12345 & done 2) (write 0x8000000 4 0 0x8000004 ∷ [])
    ∷ []

pub all_reach : reached cases ≡ expected cases
unfolding run ops_from op_step load direct store read_le write_le signed_of sign_extend leading_zeros load_all store_all places
all_reach = refl
