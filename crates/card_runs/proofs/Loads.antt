-- Kinds 21, 23, 25 and 29: region ends, halfwords, signs, breaks: each run reaches its end.
use mathlib.Core.Bool.{true, false}
use mathlib.Core.List.{List, [], ◌∷◌, ◌++◌}
use mathlib.Core.Path.{◌≡◌, refl}
use Rattle.block.specs.declared.Op.TheVariants.{Add, Sub, RSub, And, AndNot, Mul, Sar}
use Rattle.block.specs.declared.Base.TheVariants.{Reg, Sp}
use Rattle.block.specs.declared.Width.TheVariants.{Byte as B8, Half as B16, Word as B32}
use Rattle.block.specs.declared.Rk.TheVariants.{Reg as RkReg, Imm as RkImm, Bit as RkBit}
use Rattle.block.specs.declared.Part.TheVariants.{Upper as PartUpper}
use Rattle.block.specs.declared.Choice.TheVariants.{MaxU}
use Rattle.block.specs.declared.UnKind.TheVariants.{Abs}
use Rattle.block.specs.declared.DivKind.TheVariants.{RemS}
use Rattle.block.specs.declared.Fast.TheVariants.{Nop, MovI, Mov, AddRI, ShlI, SarI, Alu3, Alu3I}
use Rattle.block.specs.declared.Fast.TheVariants.{Alu2, Alu2I, A4, Ext, MinMax, Un, Div, Mov2}
use Rattle.block.specs.declared.Fast.TheVariants.{Mov2I, BitExt, SpAdd, RFromSp, Ld, LdIdx, LdPost, PopRets}
use Rattle.block.specs.declared.Fast.TheVariants.{BitBr}
use Rattle.card.specs.Card.{read}
use Rattle.card.specs.Word.{signed_of, sign_extend, leading_zeros}
use Rattle.card.specs.Memory.{read_le, write_le, load, direct, store}
use Rattle.card.specs.Step.{op_step}
use Rattle.card.specs.Run.{ops_from, run}
use Rattle.card_runs.specs.Case.{Case, runs, reached, expected, block, memory, op, hex, regs, card}
use Rattle.card_runs.specs.Case.{outcome, entry, by_return, by_chain, reg, sp, rets, hold, brk, pc, done, ram, map, ◌&◌}

abbrev cases : List Case
cases =
    -- 21-Ld/ram-last/0
    runs (block (memory 0x7ffffffc 9 0x100 9 false) 0x2b7eae8 (op (Ld 0xb (Reg 1) 0xfffffff7 B8 true) 0xff false ∷ []))
    (hex 9 0x7c2022d3e223ee8d2f) 0xffffffff
    (card (regs 0x000000028000000d0000800000008000ffffffd887bd06e80000001f00000003
    0x000000080000007f9efcaf280040bb640001000032730d353537f5c100000007) 0x89a94eea 0 2 0 0xd6a0b0a6 0 (hex 9 0xc88897224d7002bf00) [] [])
    [] (by_chain 0) (reg 11 0 & pc 0x2b7ebe7 & done 1) []
    -- 21-Ld/ram-over/0
    ∷ runs (block (memory 0xfffffff8 8 0x1000 0xc true) 0x2c60f74 (op (Un 3 0xa Abs) 0xc0 false ∷ op (Mov2I 5 0 0x7f) 6 true
    ∷ op (Ld 8 (Reg 13) 0xfffffffd B8 true) 2 false ∷ op (Mov2 1 8 0xe 0) 0x56 true ∷ op (ShlI 2 0xf 0xff) 6 false ∷ []))
    (hex 12 0xb0e23edcc8b530340b5b4c2e) 0xffffffff
    (card (regs 0x0000000000000ffffffffffe11a80b08ffffffffc2c7067fffff800000000007
    0xe1a32ee5ffffffdbabcafc3a000000042949a6ce0000000300000004ca4c9c3e) 2 0x45ecc068 2 0 0x40fdbec3 0 (hex 8 0x267d0b9927a9ae06)
    (hex 2 0x0001) (outcome 0x80 0 (hex 8 0x267d0b9927a9ae06) (hex 2 0x0001) ∷ outcome 0xa4 1 (hex 8 0x1cbe6afd604440e1) (hex 2 0x2e80)
    ∷ outcome 0xd6 1 (hex 8 0x597b209d78a5b0ef) (hex 2 0xd9ab) ∷ []))
    [] (by_chain 0) (reg 0 0x7f & reg 1 4 & reg 2 0 & reg 3 0x543503c6 & reg 5 0 & reg 8 0x7f & pc 0x2c61098 & done 5) (read 0 1 2 ∷ [])
    -- 21-Ld/ram-before/0
    ∷ runs (block (memory 0x3000004 8 0x3000000 4 true) 0x31dc610 (op (Ld 0xa (Reg 1) 3 B8 true) 4 true
    ∷ op (A4 3 0xc Add RkBit 0x20) 4 false ∷ [])) (hex 4 0xfa2400ff) 0xffffffff
    (card (regs 0x0000100003000000525170e90000007f0000001f00000007fd9605957018ff2f
    0x2da4a9c9000000071f21e07fffffffda5fdf24ccf4d229a686cc3c5afffff000) 0x55d91534 0x981dc789 0 0 0x37d6472c 0 (hex 8 0x7e38d05dfcf8f9fb)
    (hex 2 0x0101) [])
    [] (by_chain 0) (reg 3 0x5fdf24cd & reg 10 0xffffffff & pc 0x31dc618 & done 2) []
    -- 21-Ld/ram-odd/0
    ∷ runs (block (memory 0x20000000 0x10 0x8000000 8 true) 0x3f36930 (op (Ld 0xf (Reg 0) 0 B16 false) 4 true
    ∷ op (BitBr 1 RkBit true 0x7f 0x3f36930) 0xa4 true ∷ [])) (hex 8 0x150f2db034f5492c) 0xffffffff
    (card (regs 0x20000001000000ff00012345794517b8caff0011ffffffea000000070000ffff
    0xfffffff4000000074c4d72e600000000b66292f600000020ffff00004d6b850e) 0x7fff 0x53864edf 0xe4483582 0 0xe1c3078c 0
    (hex 16 0xffff9fb9e04d7cc57f40e315bd4cc2a8) (hex 4 0x80ff0000)
    (outcome 0xd5 0 (hex 16 0xe7d06d5ab9017129f6bc7bc659fce610) (hex 4 0x721bef24) ∷ []))
    [] (by_chain 0) (reg 15 0xffff & pc 0x3f369d8 & done 2) []
    -- 21-Ld/xip-last/0
    ∷ runs (block (memory 0 7 0x2000000 0xc false) 0x3ffffff (op (Ld 4 (Reg 4) 0 B8 true) 4 true ∷ op (BitExt 5 0xd 0x10 0xff false) 2 false
    ∷ [])) (hex 12 0x249381ad2bee72a544a8ffff) 0xffffffff
    (card (regs 0x80000000000000800000001f0000001c0200000b000000260000ffffffffffed
    0x21d585f4000001000000800050551e7263d9d4970000000435af51e5fffff000) 0xfffffffc 0x12345 1 0 0xe158d639 0xfffffffd
    (hex 7 0x797abc7ee151c2) [] (outcome 0x51 1 (hex 7 0x58233dbc64725f) [] ∷ []))
    (entry 2 0x4000005 ∷ []) (by_chain 0) (reg 4 0xffffffff & reg 5 0 & pc 0x4000005 & done 0xffffffff) []
    -- 21-Ld/xip-over/0
    ∷ runs (block (memory 0x1000 9 0xffffffcc 0x32 false) 0x3ffffff (op (Ld 0 (Reg 11) 2 B32 true) 2 false ∷ op (ShlI 0xf 7 4) 4 true
    ∷ op (BitBr 7 RkImm false 0xffffffed 0x4000001) 0xff true ∷ []))
    (hex 50 0xfab4a3624d776c7f78bb7929e6cc14c7c6e7be4aa16bc9b8b8f64b32f0d020a1f2a63cef7a6132726521885ec07e479a57c8) 0xffffffff
    (card (regs 0x5341fd496f245fd439abefb80e4b7725beef0da7000000fffffffffe00012345
    0x25bbbf615ba8da677b3bb469fffffff9cd2724360001234500000002fae080f3) 0xffff0000 0xd456370 2 0 0x88696f46 0 (hex 9 0x0c9525f24c65d9e4e9)
    [] (outcome 0 0 (hex 9 0x0c9525f24c65d9e4e9) [] ∷ outcome 0xac 0 (hex 9 0xe9c9ddd755052b161e) []
    ∷ outcome 0x82 0 (hex 9 0x0dd81a143a17d41e40) [] ∷ []))
    [] (by_chain 0) (reg 0 0 & reg 15 0x123450 & pc 0x4000104 & done 3) (read 0xfffffffb 4 0 ∷ [])
    -- 21-Ld/both/0
    ∷ runs (block (memory 0x1008 6 0x1000 0x15 true) 0x3ffffff (op (MovI 6 0xf5535123) 2 false ∷ op (Ld 6 (Reg 5) 0 B8 false) 0 false
    ∷ op (MovI 0 0xfff) 0xff false ∷ [])) (hex 21 0x650da3c0694b6f9a661a9b4fabc5bace9d3617e3d8) 0xffffffff
    (card (regs 0x5e2a6b1fc152b42900fff0000000001ded8d5f990000100800001000f0d7b4dd
    0x0000100000000080324383b17fffffff1709acd03e479691b4917fe400fff000) 0xffffffff 0xfffffffe 0 0 0x3640232e 0 (hex 6 0x00f3490c94f3)
    (hex 2 0x8000) [])
    (entry 0x80 0x4000100 ∷ []) (by_chain 0) (reg 0 0xfff & reg 6 0 & pc 0x4000100 & done 3) []
    -- 21-Ld/ram-end-in-xip/0
    ∷ runs (block (memory 0x1000 8 0x1000 0x18 true) 0x2000000 (op (Ld 0 (Reg 12) 0xffffffff B16 false) 0xff false ∷ []))
    (hex 24 0x6a99907836eae4438fe456df0827e31ec4635ac1fb7de505) 1
    (card (regs 0xa15053555d1e5ad600000000000000018000000094079bf100fff000c8447e97
    0x00001000e2ba4b8c0000007f31bf4da900001009a198124e000123450000001f) 0xfff000 4 2 0 0x9c48f2bd 0 (hex 8 0xb90ef6ae1d442ad4)
    (hex 2 0xff01) (outcome 0x8c 1 (hex 8 0x4a27197c29b13e51) (hex 2 0x293a) ∷ []))
    [] (by_chain 0) (reg 0 0xe48f & pc 0x20000ff & done 1) []
    -- 21-Ld/top-ram-over/0
    ∷ runs (block (memory 0xfffffff8 8 0 0x3f true) 0x3f6921d (op (MovI 0xd 0xa4e4f137) 2 false ∷ op (SpAdd 0x12345) 2 false
    ∷ op (Ld 0xd Sp 0 B32 false) 2 true ∷ [])) (hex 60
    0x66936d2b444c9ed3002e33b1ffbecc5e95b22aba51c7705c517366e322b81ac0fe80c31b733d526e79b7fe15d204c37cdca970eff36d5594a3c67269 ++ hex 3
    0x51e221) 0xffffffff
    (card (regs 0x0000001fdea120740000001f0000000200000000a7df94b100000007c08623e1
    0xffff8000338eab27fffffff1000000150000007f00fff00017ed80ff17273ed1) 0xfffedcb8 0x1c 0 0 0xe8420d1e 0 (hex 8 0x96d56979461d9d1e)
    (hex 2 0xff01) (outcome 0x7fffffff 0 (hex 8 0x96d56979fa1d9d1e) (hex 2 0xff00)
    ∷ outcome 0xab 0xffffffff (hex 8 0x145c1f3a22b4f511) (hex 2 0x0f30) ∷ outcome 0x84 0 (hex 8 0x59692c6f69f5a68f) (hex 2 0x1e5a) ∷ []))
    [] (by_chain 0) (reg 13 0x7fffffff & sp 0xfffffffd & pc 0x3f69223 & done 3 & ram (hex 8 0x96d56979fa1d9d1e) & map (hex 2 0xff00))
    (read 0xfffffffd 4 2 ∷ [])
    -- 21-Ld/sign-ram-1/0
    ∷ runs (block (memory 0x1000000 7 0x2000000 4 true) 0x3ffffff (op (Ld 0xa (Reg 11) 1 B8 true) 4 false ∷ [])) (hex 4 0x98ad6bad) 6
    (card (regs 0xf27ffe2cdf488e6af96833e100000004000000070000001750a3420700000003
    0xfffff000000010002826b3e400ffffff000000070000001f0000000114e877e4) 0x6c6c33d9 0xfffffff7 1 0 0x79186d90 5 (hex 7 0xe3b28ef86fe9d6)
    (hex 2 0x8080) [])
    [] (by_chain 0) (reg 10 0xffffffe3 & pc 0x4000003 & done 6) []
    -- 21-Ld/sign-xip-2/0
    ∷ runs (block (memory 0xffffffd0 0x30 0x1000 9 true) 0x2000000 (op (SarI 2 9 1) 2 false ∷ op (MovI 7 0x80000000) 6 true
    ∷ op (MovI 0xa 0x11656780) 2 false ∷ op (Ld 0xa (Reg 8) 0 B16 true) 2 true ∷ [])) (hex 9 0xc2d0a663ece04ac0be) 4
    (card (regs 0x090e6eca843f4b4000008000ffff80000001000021990db0ffff000000007fff
    0x0000100077bcc96f8e046d9e0000fffffffff000fffffff4f03d1e384a7c439b) 0x7b55be30 0xfb8befd9 0 0 0xd8ae3a38 0
    (hex 48 0xcddf0e773eea38d51a0d3c6276974c13c8ad0636e0116bb05cfcb01f2f1ca198801627c64f3f09463e0817b52c0a7b08)
    (hex 12 0x018001000000808000000000) [])
    [] (by_chain 0) (reg 2 0x3bde64b7 & reg 7 0x80000000 & reg 10 0xffffd0c2 & pc 0x200000c & done 4) []
    -- 21-Ld/sign-request-2/0
    ∷ runs (block (memory 0x20000000 6 0x8000000 9 true) 0x2000000 (op (Ld 0xa (Reg 0) 0xfffffffb B16 true) 4 true
    ∷ op (AddRI 0xc 0 0x1000) 6 true ∷ [])) (hex 9 0x0bba4ebeefe26c6ba8) 0x1001
    (card (regs 0x07ffff85487254a00000002400000007000001000000000412a0e553b46147e4
    0xcfcf054100010000926e48f754904b8548612c1cb4e9f9188d8f6678817a4b92) 0x3efca4f4 0xfffffffe 0xcb1067ea 0 0x630bd386 0xfff
    (hex 6 0x5a002ac8d1da) (hex 2 0xff00) (outcome 0xc0f4 0 (hex 6 0x5a002ac8d1da) (hex 2 0xff00)
    ∷ outcome 0x80 1 (hex 6 0x44244fdcb7e1) (hex 2 0xe49f) ∷ outcome 0xe 0xffffffff (hex 6 0x3d1d5f922052) (hex 2 0x9186) ∷ []))
    [] (by_chain 0) (reg 10 0xffffc0f4 & reg 12 0x8000f85 & pc 0x200000a & done 0x1001) (read 0x7ffff80 2 0xfff ∷ [])
    -- 21-Ld/unsigned-request-1/0
    ∷ runs (block (memory 0x1000000 9 0x2000000 0x11 false) 0x207d618 (op (MovI 8 0x67968f1d) 2 false
    ∷ op (Ld 8 (Reg 9) 0x3cbf0c30 B8 false) 0xff true ∷ [])) (hex 17 0x7049e1bbd520429c88f1496d3cc646b34b) 0xffffffff
    (card (regs 0x5a44cc2d0000001400001000cb3b08ee00007fffb727a3bafffffffd3aa240ba
    0xea1d0799ce70d7a80000000800000014c7b11a020000010000000004ffff8000) 0xcc7d2f28 0xffffffff 2 0 0x39ef5237 0xe8c0d339
    (hex 9 0x548fdd9bcb9d5dc3b0) [] (outcome 0x89 0 (hex 9 0x548fdd9bcb9d5dc3b0) []
    ∷ outcome 0xfd 0xffffffff (hex 9 0xc523b8e7c97f626666) [] ∷ outcome 0x86 0xffffffff (hex 9 0x439a1ed1d63145865c) [] ∷ []))
    [] (by_chain 0) (reg 8 0x89 & pc 0x207d719 & done 0xe8c0d33b) (read 0xb2fe3d8 1 0xe8c0d33a ∷ [])
    -- 21-Ld/break-start-glue-0/0
    ∷ runs (block (memory 0x1000000 0xc 0x2000000 7 false) 0x2000000 (op (MovI 0xe 0xed2ac4a1) 2 false
    ∷ op (Ld 0xe (Reg 7) 2 B16 false) 2 false ∷ op (Alu3 0xf 7 0xd Add) 0 true ∷ op (MovI 2 0x1000) 2 false ∷ []))
    (hex 7 0x4312e7eab4aef2) 0x149fca8b
    (card (regs 0xffff00007f243a4300000008ec435458000000040000007f2b6997a501000002
    0x0000800088963a00ffffffec8211c4b539c24c92bb649cc069ffe2100139b569) 0xfffff001 8 0 0xffff0000 0xad56b42 0
    (hex 12 0x0aa08212ffffa49867e64e0c) [] [])
    [] by_return (reg 14 0xffff & pc 0x2000004 & done 2) []
    -- 21-Ld/break-outcome-glue-0/0
    ∷ runs (block (memory 0 7 0x2000000 8 false) 0x3ebc57c (op (MovI 7 0x2b7909df) 2 false ∷ op (Ld 7 (Reg 2) 0 B32 true) 4 false
    ∷ op (Mov2 2 0 1 0) 0xff false ∷ op (AddRI 0 0xb 0x80000000) 2 true ∷ [])) (hex 8 0xd629a199582d9b66) 0xffffffff
    (card (regs 0x59869108061610e20000006afffffffe837aa918e3f7591e00001000360f8b48
    0xfffffff3000000ff7fffffffffffffff6d5f56370000000700012345a1c2c148) 0x8000 0x979af6c0 0x244f2130 0 0x421c056f 0
    (hex 7 0x3ab34c2bb668eb) [] (outcome 0x80000000 0x100 (hex 7 0x3ab34c2bb63deb) []
    ∷ outcome 0x44 0xffffffff (hex 7 0xad49a1825dbc02) [] ∷ outcome 0x78 1 (hex 7 0xcf70fb0b37cbac) [] ∷ []))
    [] by_return (reg 7 0x80000000 & brk 0x100 & pc 0x3ebc582 & done 2 & ram (hex 7 0x3ab34c2bb63deb)) (read 0x6a 4 1 ∷ [])
    -- 21-Ld/break-outcome-glue-1/0
    ∷ runs (block (memory 0x10000 4 0x10004 6 true) 0x3ffffff (op (Ld 6 (Reg 4) 0 B8 false) 4 true ∷ op (Alu2 6 0xf And) 2 true
    ∷ op (Alu2I 6 0xfffffff5 RSub) 4 false ∷ op (Mov 0xd 5) 0 false ∷ [])) (hex 6 0xd66918024a23) 0x1004
    (card (regs 0x8000000000000002000000040000001340000034000000015884db2c00008000
    0xffffffe3fd352b63e11bd4c6000123459bf8a8715102f6073aeda823e2c2f0c5) 0x422d274b 0x592e2bb0 0 0 0x88ca82f6 0x1000 (hex 4 0x7a5575f2)
    (hex 1 0x00) (outcome 1 0xffffffff (hex 4 0x7a5575f2) (hex 1 0x00) ∷ []))
    (entry 1 0x4000003 ∷ []) by_return (reg 6 1 & hold 1 & brk 0xffffffff & pc 0x4000003 & done 0x1001) (read 0x40000034 1 0x1000 ∷ [])
    -- 21-Ld/break-cleared/0
    ∷ runs (block (memory 0x300000c 0x28 0x3000000 0xc true) 0x2000000 (op (Ld 0 (Reg 15) 0xffff8000 B8 false) 2 true
    ∷ op (MinMax 7 0xa 0xd MaxU) 6 true ∷ op (AddRI 9 0xf 9) 2 true ∷ op (Alu3 3 1 7 AndNot) 0xf0 true ∷ []))
    (hex 12 0xd20c677b135752ba8a62b996) 4
    (card (regs 0xbae7a98cced77620000123454f4bd9690000007fffff8000d0a143bf4550645f
    0x000000206a9f639da7aa818fbd9f70722ca4743dc62b48ca0000000840008092) 0x316ea5ff 0xfff000 2 1 0x30f00957 0
    (hex 40 0x97411c51583664f4e511cc84e50dbf9c050e5245a847b8213e46136004b957d6ba421de7db1e1026) (hex 10 0x01ff00ff00000080ff00) (outcome
    0x7f 0 (hex 40 0x97411c51583664f4e511cc84e50dbf9c050e5245a847b8213e46136004b957d6ba421de7db1e1026) (hex 10 0x01ff00ff00000080ff00)
    ∷ []))
    [] (by_chain 0) (reg 0 0x7f & reg 3 0x8d43620 & reg 7 0xc62b48ca & reg 9 0x4000809b & brk 0 & pc 0x20000fa & done 4)
    (read 0x40000092 1 0 ∷ [])
    -- 23-LdIdx/d=i/0
    ∷ runs (block (memory 0x7ffffffc 8 0x100 0x10 false) 0x3c5e73a (op (LdIdx 0xf 0 0xf 0x21 B16 false) 4 false ∷ op (AddRI 4 4 7) 0xff true
    ∷ op (A4 0xa 9 Sar RkBit 0x9edab402) 4 true ∷ [])) (hex 16 0x28d69c66023ced5ec5fce9b9ad9d71a5) 0xffffffff
    (card (regs 0x84d55d88000000030000007f0000000400000007525f3d94f94781cab38aeb61
    0x00010000cd3a143a000000026a8cf13fffffffda0000001200000100bd95517c) 0x8ba77d04 0xfff000 0xea212bbe 0 0xca2d2d6e 0xfffffffc
    (hex 8 0x33beb5d8bc44b32f) [] (outcome 0xb91c 0 (hex 8 0x33beb5d8bc44b394) [] ∷ outcome 0x9c 0 (hex 8 0xea4010a73162977b) []
    ∷ outcome 2 0 (hex 8 0x65889b20aa57cd62) [] ∷ []))
    [] (by_chain 0) (reg 4 0xe & reg 10 0xcd3a143a & reg 15 0xb91c & pc 0x3c5e841 & done 0xffffffff & ram (hex 8 0x33beb5d8bc44b394))
    (read 0x80 2 0xfffffffc ∷ [])
    -- 23-LdIdx/xip-over/0
    ∷ runs (block (memory 0x10000 0x25 0x10028 8 true) 0x3ffffff (op (MovI 1 0x169f376) 4 false ∷ op (LdIdx 1 0xb 0xe 0x82 B16 false) 4 true
    ∷ [])) (hex 8 0xfccc6007687dff7f) 0xffffffff
    (card (regs 0x000080006898e7940431b30257d538f373be28472462646d00000000ebc5de1f
    0xe0be26a500000003000001000001002f00000000ffff8000000000009b8e6251) 0xffffffff 0xffff8000 1 0 0xc675b9ea 0xfffffffd
    (hex 37 0x66aeecad11a0cebbe686920379bbf70e98747e879954b77913455eee5462c2bc212c23dbd1) (hex 10 0x8000018080ff01018080)
    (outcome 1 1 (hex 37 0x4179ea3c0d657d01d5d4325d0a1a0378c0239f296d7cef70a114358fd667d300c9b01ca66f) (hex 10 0x3b725f4ce27ba955a48e)
    ∷ outcome 0xea 0 (hex 37 0xb18871dfc77ab3c60ae3fe99fdb4eeff3f8b5d0b58ea2f961804c9d2f9cf6d653b26943bff) (hex 10 0xeecd61be9542c3b2920f)
    ∷ []))
    (entry 3 0x4000007 ∷ []) (by_chain 0) (reg 1 0x7fff & pc 0x4000007 & done 0xffffffff) []
    -- 25-LdPost/d=b-ram-mid/0
    ∷ runs (block (memory 0x10000 0xc 0x1000c 8 true) 0x3792155 (op (LdPost 8 8 B32 true 0xffffffff) 0xff true ∷ []))
    (hex 8 0x04f373bbd2e259bc) 0x92e51aad
    (card (regs 0xafb5c1700357937500000001000000042584feb35de3deda0000007f00000100
    0x00010008000080000001000000000fff4d8825cdfffff001369e8e1700000007) 0xffffffff 0xa 1 0 0xc27e5950 0x92e51aac
    (hex 12 0xd1717ee23e3fd933ffffffff) (hex 3 0x00ff00) [])
    [] (by_chain 0) (reg 8 0xfffffffe & pc 0x3792254 & done 0x92e51aad) []
    -- 25-LdPost/d=b-outside/0
    ∷ runs (block (memory 0x20000000 6 0x8000000 0x10 true) 0x3007de4 (op (A4 2 6 AndNot RkBit 0xffffffff) 0 true
    ∷ op (A4 3 6 Sub RkBit 0xffffffff) 0xff false ∷ op (MovI 0xd 0x7ffff80) 2 false ∷ op (LdPost 0xd 0xd B8 false 0x8a1e0fcb) 4 false
    ∷ op (BitBr 0xc RkReg true 0x6cdb16a2 0xffff) 6 true ∷ [])) (hex 16 0xe20377df2224acffa8f391f03eb93ad9) 0x6c0fd211
    (card (regs 0xe2bb15aa000000ff000123453ee7c3570000000000007fff0000007f53eb04de
    0x000000084f992e1419f4b6b200000007000100005706f191fffff0010000007f) 0x1000 0xf84ba682 1 0 0x6a43f8f1 0x6c0fd20c (hex 6 0xaf4e40da0f6f)
    (hex 2 0xff00) (outcome 0xff 0 (hex 6 0xaf4e40da0f6f) (hex 2 0xff00) ∷ outcome 0x4d 1 (hex 6 0xdda0f01786fb) (hex 2 0xd27f)
    ∷ outcome 0xf2 1 (hex 6 0xda6242e9be90) (hex 2 0xe231) ∷ []))
    [] (by_chain 0) (reg 2 0x7f & reg 3 0x8000007f & reg 13 0x8a1e10ca & pc 0x3007eef & done 0x6c0fd211) (read 0x7ffff80 1 0x6c0fd20f ∷ [])
    -- 25-LdPost/outside-odd/0
    ∷ runs (block (memory 0x20000000 0x10 0x8000000 0x10 false) 0x36ae682 (op (LdPost 0xf 9 B16 false 2) 0xff true ∷ []))
    (hex 16 0x5912c43676b56f75312465504d8689d9) 1
    (card (regs 0x0001234559dfa11c2e2cf709540f816900000003a762537900010000000000ff
    0xffff800007ffff8190c834504558a8b4000000000001000000012345bb6a7cf6) 0x52272550 0x1a 0x5725eb51 0 0xcdbb1ae5 0
    (hex 16 0x8a8f6ea508a74d5011db25bf6a8e6d70) [] (outcome 0x8000 0 (hex 16 0x8a8f6ea508a74d5011db25bf6a8e6d70) [] ∷ []))
    [] (by_chain 0) (reg 9 0x7ffff83 & reg 15 0x8000 & pc 0x36ae781 & done 1) (read 0x7ffff81 2 0 ∷ [])
    -- 25-LdPost/break-outcome-glue-0/0
    ∷ runs (block (memory 0x7ffffffc 0xc 0x100 6 false) 0x3ffffff (op (LdPost 3 3 B32 true 0x7f) 6 false
    ∷ op (AddRI 4 0xc 0xffffffff) 0 false ∷ op (Alu3 0 1 5 AndNot) 4 false ∷ [])) (hex 6 0x4ca5e728ae7d) 0xffffffff
    (card (regs 0x8000000095835d90000001000000008000fff0002bd7520bc779281c865f4843
    0xa60f53c500000008000000020000000128b159f50000000100000005bc5afb27) 0xb9b0b6ba 7 1 0 0xf1b00be2 0xfffffffc
    (hex 12 0xe26d290ab6e9891546daeb8a) [] (outcome 0xffffffff 0xffff0000 (hex 12 0x306d290ab6e91f1546daeb8a) []
    ∷ outcome 0xba 0 (hex 12 0xa36f647f3a7d9a5a1a65157a) [] ∷ outcome 0x61 0 (hex 12 0x022cca4e09477a891a765a78) [] ∷ []))
    [] by_return (reg 3 0x7e & brk 0xffff0000 & pc 0x4000005 & done 0xfffffffd & ram (hex 12 0x306d290ab6e91f1546daeb8a))
    (read 0x80 4 0xfffffffc ∷ [])
    -- 29-PopRets/ram-last/0
    ∷ runs (block (memory 0x1000 9 0xfffffff8 6 false) 0x2982ed4 (op (RFromSp 0xf 0xfffffff1) 2 true
    ∷ op (Alu3I 0xb 0xd 0xffffffe4 Mul) 6 true ∷ op (BitExt 8 1 0x20 0xf true) 2 false ∷ op (A4 0 0xd Mul RkBit 4) 4 false
    ∷ op PopRets 4 true ∷ [])) (hex 6 0xb507eed91833) 0xffffffff
    (card (regs 0x1e631f97000000fffffff0010920422a4ce843e1652a2710eb7f639600010000
    0x00000002a69d83dcffffffdb1805a4d0dab81da500000fff0000000900000003) 0x1005 1 0 0 0x4d1341ba 0 (hex 9 0x113d63b98500000000) []
    (outcome 0xee 0 (hex 9 0xea7c2a944eb3b0450c) [] ∷ outcome 0x68 0 (hex 9 0xd3f0991467ad48059a) [] ∷ []))
    (entry 0x1773 0x2982ee6 ∷ []) (by_chain 0) (reg 0 0x1ffe & reg 8 0xff & reg 11 0xfffe401c & reg 15 0xff6 & sp 0x1009 & rets 0
    & pc 0x2982ee6 & done 5) []
    -- 29-PopRets/outside/0
    ∷ runs (block (memory 0 8 0x2000000 6 true) 0x2039f56 (op (Mov 1 0xf) 0xff true ∷ op (Mov 7 0xe) 4 true ∷ op (Div 7 0xa 6 RemS) 4 false
    ∷ op PopRets 4 true ∷ [])) (hex 6 0x8002e582c0b7) 4
    (card (regs 0xffff0000ffff000000000080000000020000fffffa54370e00000019b488727b
    0x00000001cc435a9aeb39ef4d0001234500007fffffffffff0dabfa7b00007fff) 0x1ffff80 1 0x2f3f3180 0 0x774132c5 0 (hex 8 0x5540432ad11a5b72)
    (hex 2 0x0001) (outcome 0xffffffff 0 (hex 8 0x854043bfd11a5b72) (hex 2 0x0000)
    ∷ outcome 0xec 0xffffffff (hex 8 0x5c7b747b8219c6ab) (hex 2 0x4f7b) ∷ outcome 0xf0 1 (hex 8 0xae1006c0b22a8eca) (hex 2 0xdf5e) ∷ []))
    (entry 0x1030 0x203a061 ∷ []) (by_chain 0) (reg 1 0x7fff & reg 7 0xffffffe9 & sp 0x1ffff84 & rets 0xffffffff & pc 0x203a061 & done 4
    & ram (hex 8 0x854043bfd11a5b72) & map (hex 2 0x0000)) (read 0x1ffff80 4 3 ∷ [])
    -- 29-PopRets/break-outcome-glue-1/0
    ∷ runs (block (memory 0x7ffffffc 0xc 0x100 8 false) 0x3ffffff (op (Ext 9 4 PartUpper false) 2 false ∷ op (RFromSp 0xd 0xffff) 0xff false
    ∷ op Nop 6 false ∷ op PopRets 2 true ∷ op (SpAdd 0xffffffdc) 4 true ∷ [])) (hex 8 0x438a511de222d742) 0xffffffff
    (card (regs 0x1815d6447ffffffffffffffd59ea76716074eec4f6ebcf9cfffff000fee0a5d8
    0x14bbfb9100000004cd88c72af81faa0b000000000000000700000003e6cbc630) 0x40000012 3 2 0 0xf0464973 0xfffffffa
    (hex 12 0xef3dcdcc24924c1728d7659d) [] (outcome 0x12fafd9a 0xffff0000 (hex 12 0xef3dcdcc24924c17f6d7019d) []
    ∷ outcome 0x51 0 (hex 12 0x7f9b47e26a1efe9847578b80) [] ∷ outcome 0xe2 0 (hex 12 0xd77b5f2ea056f63277c487d5) [] ∷ []))
    [] by_return (reg 9 0x6074 & reg 13 0x40010011 & sp 0x40000016 & rets 0x12fafd9a & hold 1 & brk 0xffff0000 & pc 0x4000108
    & done 0xfffffffe & ram (hex 12 0xef3dcdcc24924c17f6d7019d)) (read 0x40000012 4 0xfffffffd ∷ [])
    ∷ []

pub all_reach : reached cases ≡ expected cases
unfolding run ops_from op_step load direct store read_le write_le signed_of sign_extend leading_zeros
all_reach = refl
