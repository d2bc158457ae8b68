-- Kind 45: region ends, a base that is loaded or the index, widths and signs, increments, breaks: each run reaches its end.
use mathlib.Core.Bool.{true, false}
use mathlib.Core.List.{List, [], ◌∷◌}
use mathlib.Core.Path.{◌≡◌, refl}
use Rattle.block.specs.declared.Op.TheVariants.{Add, Sub, RSub, AndNot, Or, Xor, Mul, Shl}
use Rattle.block.specs.declared.Op.TheVariants.{Shr, Sar}
use Rattle.block.specs.declared.Cond.TheVariants.{Ne, LtU, GeU}
use Rattle.block.specs.declared.Amount.TheVariants.{Reg as ByReg, Inc as ByInc}
use Rattle.block.specs.declared.Width.TheVariants.{Byte as B8, Half as B16, Word as B32}
use Rattle.block.specs.declared.Rk.TheVariants.{Bit as RkBit}
use Rattle.block.specs.declared.Part.TheVariants.{Upper as PartUpper}
use Rattle.block.specs.declared.Choice.TheVariants.{MaxS, MaxU}
use Rattle.block.specs.declared.UnKind.TheVariants.{Abs, SatS, SatU}
use Rattle.block.specs.declared.DivKind.TheVariants.{QuoS, QuoU, RemU}
use Rattle.block.specs.declared.Fast.TheVariants.{Nop, MovI, Mov, AddRI, ShlI, SarI, Alu3, Alu3I}
use Rattle.block.specs.declared.Fast.TheVariants.{Alu2, Alu2I, A4, Ext, MinMax, Un, Div, Mov2}
use Rattle.block.specs.declared.Fast.TheVariants.{Mov2I, BitExt, BitIns, SpAdd, RFromSp, DecBr, Rts, LdPre}
use Rattle.card.specs.Card.{read}
use Rattle.card.specs.Word.{signed_of, sign_extend, leading_zeros}
use Rattle.card.specs.Memory.{read_le, write_le, load, direct, store}
use Rattle.card.specs.Step.{op_step}
use Rattle.card.specs.Run.{ops_from, run}
use Rattle.card_runs.specs.Case.{Case, runs, reached, expected, block, memory, op, hex, regs, card}
use Rattle.card_runs.specs.Case.{outcome, entry, by_return, by_table, by_chain, reg, sp, hold, brk, pc, done, ram, map, ◌&◌}

abbrev cases : List Case
cases =
    -- 45-LdPre/ram-last/0
    runs (block (memory 0x1000000 0x10 0x2000000 8 false) 0x3ffffff (op (LdPre 5 2 (ByReg 9) B32 true) 0xff true
    ∷ op (DecBr 0 GeU 0x7fffffff 0x7f) 0 true ∷ [])) (hex 8 0xeb3e33aaaf5614d8) 0xffffffff
    (card (regs 0x4bcaa20ffffffff50100000b0000010000001000d843ff2d6efd2f5d2a040a73
    0x0000ffff0000000100000080fffff001d2dbfb0f7c86f069d35591d700000080) 0x877df5b8 0x359fdd 2 0 0x8f5ae704 0
    (hex 16 0x891fad75e3a6b9d78c7d22c9ffffffff) [] (outcome 0x52 1 (hex 16 0xc3def4bc0a192e4f582e475078a8f2f3) [] ∷ []))
    (entry 0x7f 0x40000fe ∷ []) (by_chain 0) (reg 0 0x4bcaa20e & reg 2 0x100000c & reg 5 0xffffffff & pc 0x40000fe & done 2) []
    -- 45-LdPre/ram-over/0
    ∷ runs (block (memory 0x1000000 9 0 0x10 false) 0x3ad0173 (op (ShlI 0xc 9 0x20) 0 true ∷ op (MovI 4 0x5195190d) 2 false
    ∷ op (LdPre 5 3 (ByReg 4) B16 true) 2 true ∷ op Rts 6 true ∷ [])) (hex 16 0x59050c1f3bf9b2da6be923812fda827b) 0xffffffff
    (card (regs 0xffff000069fed968bd925a39af6ae6fb42685586327b504a0000007fffffffe8
    0xfffff000ffff8000b7e84dca000000010000000700007fffffffffff6f7f5ac9) 4 0x12345 2 0 0x936bd0e1 0xfffffffb (hex 9 0x13ba43d33f56d1af06)
    [] (outcome 0x8000 0 (hex 9 0x13ba43d33f56d1af06) [] ∷ outcome 0x74 0 (hex 9 0xfd566a46728a37f9cf) []
    ∷ outcome 0x24 1 (hex 9 0x9ac852c7ee760513b7) [] ∷ []))
    (entry 0x11a2 0x12345 ∷ []) by_table (reg 3 0x1000008 & reg 4 0x5195190d & reg 5 0xffff8000 & reg 12 0xffff8000 & pc 0x12345
    & done 0xffffffff) (read 0x1000008 2 0xfffffffd ∷ [])
    -- 45-LdPre/ram-odd/0
    ∷ runs (block (memory 0xfffffff8 8 0x1000 0x10 true) 0x2000000 (op (MovI 0xe 0x576653c0) 4 false
    ∷ op (LdPre 0xe 8 (ByReg 0xc) B32 false) 0 false ∷ op (Mov 6 6) 2 false ∷ op (SpAdd 0xfffffffe) 2 true
    ∷ op (DecBr 0xe Ne 0xffffffe6 0xffffffd8) 2 true ∷ [])) (hex 16 0xa0aac372cffa8fed0411cff6ec48ea10) 0xffffffff
    (card (regs 0x0000001e341ffc550000008000000005a1611dfa00010000fffffffe0000001f
    0xfffffffb4ba8770d000010005f3e0e2200000000000000ff249be566ffff8000) 0x6a7b5386 0xfff 0 0 0x489f7039 0xfffffffa
    (hex 8 0x3fb80b631e262ad9) (hex 2 0x0080) (outcome 0xc4 1 (hex 8 0x48d9c916ca7676f0) (hex 2 0x9660)
    ∷ outcome 0x4c 0xffffffff (hex 8 0xf6b8709eacef3ffa) (hex 2 0xc987) ∷ []))
    (entry 0x3fec 0xffffffd8 ∷ []) (by_chain 1) (reg 14 0x2a261e62 & sp 0x6a7b5384 & pc 0xffffffd8 & done 0xffffffff) []
    -- 45-LdPre/xip-first/0
    ∷ runs (block (memory 0x3000008 5 0x3000000 8 false) 0x31b16af (op (MovI 4 0x6b5d7cef) 2 false ∷ op (MovI 6 0x97a28311) 4 false
    ∷ op (MovI 0xa 0x78d59151) 4 false ∷ op (LdPre 0xa 4 (ByReg 6) B8 true) 4 true ∷ op (RFromSp 8 0x23) 2 true
    ∷ op (Mov2I 1 8 0xfffffff2) 2 true ∷ op (DecBr 1 LtU 0xcadb9bd 0xffff8000) 4 false ∷ [])) (hex 8 0x7f925c03eda1cd31) 0xffffffff
    (card (regs 0x00fff000290ad9e01e7a51e9ddbda996803a6cf8cf9b23717fffffff8a05350e
    0x0000001b000000127fffffffffffffeafd9dad4a000123450000001f00000fff) 0x100 0xfffffffe 0 0 0x22d6890a 0xfffffff8 (hex 5 0xb9f655ddce) []
    (outcome 0x62 0xffffffff (hex 5 0x8e24c501b2) [] ∷ []))
    [] (by_chain 0) (reg 1 0xfffffffe & reg 4 0x3000000 & reg 6 0x97a28311 & reg 8 0xfffffff2 & reg 10 0x7f & pc 0x31b16c5
    & done 0xffffffff) []
    -- 45-LdPre/xip-last/0
    ∷ runs (block (memory 0x10000 5 0x10008 0xc true) 0x2c604c6 (op (LdPre 3 0xb (ByReg 0xc) B32 true) 2 false ∷ []))
    (hex 12 0xe7f6943dc508bd7000000080) 0x1000
    (card (regs 0x58937d08000000030000000736206822000001007c6f6e1da28c402f00000027
    0x00001000de2a61e64514ee1500010014fffffffc21e64dfd0000100000008000) 0x6057084c 0x7f 0x7afa64ec 0 0x34b43a8a 0xfff (hex 5 0x02e7de67e7)
    (hex 2 0x0100) (outcome 0x94 0 (hex 5 0x32ec232ca8) (hex 2 0x8064) ∷ []))
    (entry 0x264 0x2c604c8 ∷ []) (by_chain 0) (reg 3 0x80000000 & reg 11 0x10010 & pc 0x2c604c8 & done 0x1000) []
    -- 45-LdPre/top-ram-over/0
    ∷ runs (block (memory 0xfffffff4 0xc 0x1000 7 true) 0x339e014 (op (AddRI 3 0 0x2b7b8c04) 2 true ∷ op (Alu3 1 3 2 Sub) 0xff false
    ∷ op (Alu2I 0xc 0x8000 Shr) 0 false ∷ op (MinMax 6 3 9 MaxU) 0x2c false ∷ op (Alu2 0xc 0xb Shl) 0xff true
    ∷ op (Alu3 0xe 1 0xa Sub) 6 true ∷ op (SarI 0xe 7 0xd) 2 true ∷ op (Mov2 0xf 0xd 0xb 0xb) 0xff false ∷ op (A4 7 4 Xor RkBit 0) 2 false
    ∷ op (Alu2 7 9 Add) 0 false ∷ op (AddRI 1 0xf 0x7fff) 0xe0 true ∷ op (MovI 4 0xe7c3299f) 4 false
    ∷ op (LdPre 4 0 (ByReg 8) B8 false) 4 false ∷ [])) (hex 7 0x88168323839d46) 0xffffffff
    (card (regs 0x00000004cdc02e310000000800000fff00008000fffff000000000043bcf5f71
    0xfffffffcfffff0010000000400000fffdba158e623f49015ffffffd900fff000) 0x8865f760 3 0 0 0x7ddc044 5 (hex 12 0x43e692418b0fa2c61505e038)
    (hex 3 0x800000) (outcome 0xff 0 (hex 12 0x43e692418b0fa2c61505e038) (hex 3 0x800000) ∷ []))
    (entry 0x3218 0x339e431 ∷ []) (by_chain 0) (reg 0 0 & reg 1 0x8ffe & reg 3 0x2b7b8c08 & reg 4 0xff & reg 6 0xfffff001 & reg 7 0x7011
    & reg 12 0 & reg 13 0xfff & reg 14 0x1de7a & reg 15 0xfff & pc 0x339e431 & done 0x12) (read 0 1 0x11 ∷ [])
    -- 45-LdPre/d=b-ram/0
    ∷ runs (block (memory 0xffffffe0 0x1f 0x1000 0x10 true) 0x206fae7 (op (Div 5 0xb 7 RemU) 4 false ∷ op (SarI 0xc 0 0x10) 0 false
    ∷ op Nop 6 true ∷ op (LdPre 0 0 (ByReg 4) B16 false) 2 false ∷ op (Ext 6 2 PartUpper true) 6 true ∷ op (Alu3I 0 8 0x1f Xor) 0xff false
    ∷ [])) (hex 16 0x3d2fe36e717c5e548fa52151e9c2f8f0) 0x1005
    (card (regs 0xffffffebd68825c000010000c230799b00000001f7a0ddec00000000fffffffe
    0x0000000400001000ffff000000000100d58d3a6e0000000769cb71c60000ffff) 0xffffffef 2 2 0 0xb22c4e88 0xfff
    (hex 31 0x177a92af3bb0f9a2b92585c6282daabe1d0373daca75e97ef45677cb234f05) (hex 8 0x00018000008001ff)
    (outcome 0x1a 1 (hex 31 0xd58bb834e02c7f37080a5ce59c8cb53fe8227210377f8a93ea7c4801863192) (hex 8 0x5aad0dd2cabd9cf7) ∷ []))
    [] (by_chain 0) (reg 0 0x1b & reg 5 0x100 & reg 6 1 & reg 12 0xffffffff & pc 0x206fbf8 & done 0x1005) []
    -- 45-LdPre/d=b-outside/0
    ∷ runs (block (memory 0x1000000 6 0x2000000 9 false) 0x3ffffff (op (LdPre 0xb 0xb (ByInc 0xfffffffc) B8 true) 2 true
    ∷ op (BitExt 6 0xb 0x20 0x10 false) 4 false ∷ [])) (hex 9 0xaf47e9cd55412401a9) 2
    (card (regs 0x0001234500000008ac8467d55799ea100000008000000fff0000000800010000
    0x00000007000000207fffffff01ffff8436c630104e6ce76e0000000700000002) 0x25f150a9 0x80 2 0 0xab67df09 0 (hex 6 0xc05e6da2bb22) []
    (outcome 0x7f 0 (hex 6 0xc05e6da2bb22) [] ∷ outcome 0x6e 0xffffffff (hex 6 0x80c6b568ae6b) []
    ∷ outcome 0x4b 1 (hex 6 0x387a67c481e1) [] ∷ []))
    (entry 2 0x4000005 ∷ []) (by_chain 0) (reg 6 0x7f & reg 11 0x7f & pc 0x4000005 & done 2) (read 0x1ffff80 1 0 ∷ [])
    -- 45-LdPre/d=i-ram/0
    ∷ runs (block (memory 0x1000000 0x32 0x2000000 9 false) 0x2000000 (op (LdPre 6 0 (ByReg 6) B16 true) 6 false
    ∷ op (AddRI 9 0 0xffffffda) 4 true ∷ [])) (hex 9 0xeafabeb315153a614a) 0xa1c39745
    (card (regs 0x0cb8e1bf0000000445490d9500000002a645a40300000004f4471e4564dc952d
    0x0000ffff076d4113fffff00000000001f4467920000001000000001f00000007) 0x355e1f09 0xa83541fb 0 0 0x93b27c15 0xa1c39743
    (hex 50 0x5db6594700005556f22ad8eef29d673e4bf48d63d6cd96fe96db5bc40bc4c60672122fa12723dfcc2a1b5b9a793ee7700cac) [] [])
    [] (by_chain 0) (reg 0 0x1000004 & reg 6 0 & reg 9 0xffffde & pc 0x200000a & done 0xa1c39745) []
    -- 45-LdPre/d=i-outside/0
    ∷ runs (block (memory 0x1000000 5 0 0xc false) 0x2000000 (op (MinMax 0xe 8 3 MaxU) 0xa3 false
    ∷ op (LdPre 0xa 0xc (ByReg 0xa) B16 false) 4 false ∷ [])) (hex 12 0x1c5b518da82564a218f3fc83) 0xffffffff
    (card (regs 0x00000100ac374f5e332e20af000000ff0000100088c3e315d1ebd7e700000004
    0x00000080000000803daa2bc77fffffff446959d9eb532faf000000015a269264) 0xafa3f8eb 4 1 0 0xfd6925ee 0 (hex 5 0xe6e4287e12) []
    (outcome 0x7fff 0 (hex 5 0xe6e4287ef5) [] ∷ outcome 0xab 0 (hex 5 0x56653b582b) [] ∷ []))
    (entry 0x53 0x20000a7 ∷ []) (by_chain 0) (reg 10 0x7fff & reg 12 0x821385a0 & reg 14 0xff & pc 0x20000a7 & done 2
    & ram (hex 5 0xe6e4287ef5)) (read 0x821385a0 2 1 ∷ [])
    -- 45-LdPre/b=i-ram/0
    ∷ runs (block (memory 0x1000000 0xc 0x2000000 5 true) 0x32dee2b (op (RFromSp 7 0x100) 4 false ∷ op (RFromSp 2 0xfffffffe) 2 false
    ∷ op (Un 1 0xd SatS) 0xff true ∷ op (SpAdd 0x7f) 2 true ∷ op (MovI 4 0xd0895791) 2 false ∷ op (LdPre 4 9 (ByReg 9) B8 true) 6 false
    ∷ op (Mov2 6 1 6 0xb) 2 true ∷ [])) (hex 5 0x928582967b) 0xffffffff
    (card (regs 0x00000008000000010000ffff882b1399e7d30977000001000000000300008000
    0xd0d7cb7b8080000200007fff0000ffff3cd41d72e5db7219fffffffe701df898) 4 0x100 2 0 0x9bac2a6c 5 (hex 12 0xfd274950998fddac1b361ab9)
    (hex 3 0x008000) (outcome 0x70 1 (hex 12 0x195006d33d856a319ed7b9e0) (hex 3 0x15b005) ∷ []))
    (entry 0x379e 0x32def3c ∷ []) (by_chain 0) (reg 1 0xffff & reg 2 2 & reg 4 0xffffff99 & reg 7 0x104 & reg 9 0x1000004 & sp 0x83
    & pc 0x32def3c & done 0xc) []
    -- 45-LdPre/all-ram/0
    ∷ runs (block (memory 0x3000008 0xc 0x3000000 7 true) 0x3ffffff (op (Alu3 7 3 5 Add) 2 false ∷ op (AddRI 0xb 2 0x7fff) 0 true
    ∷ op (LdPre 1 1 (ByReg 1) B16 false) 0 false ∷ [])) (hex 7 0x204b29015580eb) 0xb6512519
    (card (regs 0x435746c9818000088000000000000001fffff000c5cdf0f50000ffff00000003
    0x0000001f000000020000000efffffff4ffff8000000000140001234500000008) 8 0xdce41b66 0 0 0x7f4c6881 0 (hex 12 0xba8af9d6d5cc6aa9ff7f9550)
    (hex 3 0x008000) (outcome 0xb0 1 (hex 12 0xb41572db505bd2a430cce62e) (hex 3 0x641a93)
    ∷ outcome 0xbb 0 (hex 12 0xf7a4738dc903a97f5915c5df) (hex 3 0xc918ef) ∷ []))
    [] (by_chain 0) (reg 1 0x7fff & reg 7 0xc5cdf0f6 & reg 11 0x80007fff & pc 0x4000001 & done 3) []
    -- 45-LdPre/all-outside/0
    ∷ runs (block (memory 0x1000000 0xc 0x2000000 0xc false) 0x310dbd7 (op (RFromSp 0 0x41106437) 2 false ∷ op (MovI 2 0x80000000) 0xff true
    ∷ op (Div 0 0xd 0 QuoU) 4 true ∷ op (Un 0 1 Abs) 2 false ∷ op (LdPre 0xe 0xe (ByReg 0xe) B32 true) 2 false ∷ []))
    (hex 12 0xd0946182217499e2b8d557bb) 0xffffffff
    (card (regs 0xe7b85ca700000100f78bce3400000001000000ff00007ffffffffffe00000100
    0x7fffffffffffffde8000000055917b1d00007fff165719f820000046ffff8000) 1 0x67dd92d1 2 0 0x20cd02db 0 (hex 12 0xa2ef75c7927923703d299730)
    [] (outcome 0xffffffff 0 (hex 12 0xa2ef75c7927923703d299730) [] ∷ outcome 0x3f 0 (hex 12 0x6691c67a5826744ebf88ac5d) []
    ∷ outcome 0x14 0 (hex 12 0xb1dd7ecef00de5006b91ce7f) [] ∷ []))
    (entry 0x2e70 0x310dce0 ∷ []) (by_chain 0) (reg 0 0x100 & reg 2 0x80000000 & reg 14 0xffffffff & pc 0x310dce0 & done 5)
    (read 0x4000008c 4 4 ∷ [])
    -- 45-LdPre/sign-ram-1/0
    ∷ runs (block (memory 0x10000 6 0x10008 0xc false) 0x2e2fc2a (op (Alu3 3 7 0 Xor) 6 false ∷ op (AddRI 8 0xc 0xffffffe3) 4 true
    ∷ op (LdPre 5 0xd (ByInc 0) B8 true) 0 false ∷ [])) (hex 12 0x4ec6f5849ab6e2781da68edf) 0xffffffff
    (card (regs 0x00007fff3a3a189e000000025a7bb52835b74c70cb6595bf9218170400000004
    0xa1e29f5c000000ff00000fff000080000000001f000100000000ffffeb064bad) 0x46904e90 0xfffffff0 1 0 0xc956af2d 0 (hex 6 0xecde3b7bd0a6) []
    [])
    (entry 0x3e1a 0x2e2fc34 ∷ []) (by_chain 0) (reg 3 0x7ffb & reg 5 0xffffffec & reg 8 2 & pc 0x2e2fc34 & done 3) []
    -- 45-LdPre/sign-xip-2/0
    ∷ runs (block (memory 0x10000 0x10 0x10010 8 false) 0x2fc2b38 (op (MovI 0xa 0xf18a4426) 4 false
    ∷ op (LdPre 0xa 6 (ByInc 0xfffffffc) B16 true) 2 false ∷ op (Mov 0 0xe) 4 false ∷ [])) (hex 8 0xeae8f53a96035236) 0xa1fba022
    (card (regs 0x000123457a6d05ef0000000298721128bf5d49a486e294a500010014ffff0000
    0xa28552340000000300012345fffff000fffff00100000008000000012e72096e) 1 0x7f 2 0 0x5e52b646 0xa1fba01f
    (hex 16 0xa1698f81392feea3b0d5104fda0889bd) [] (outcome 0x57 0xffffffff (hex 16 0x2ff8aae299bb8f6eafb821cf843f9774) []
    ∷ outcome 0xc5 0xffffffff (hex 16 0x403423797708f17526a7dfb132e93e51) [] ∷ []))
    (entry 0x15a1 0x2fc2b42 ∷ []) (by_chain 0) (reg 0 1 & reg 6 0x10010 & reg 10 0xffffe8ea & pc 0x2fc2b42 & done 0xa1fba022) []
    -- 45-LdPre/sign-request-2/0
    ∷ runs (block (memory 0x1000000 0xc 0x2000000 9 true) 0x3ffffff (op (MinMax 0xc 0xd 8 MaxU) 0xff false
    ∷ op (Alu3I 0xa 2 0xff Xor) 0 true ∷ op (LdPre 0xd 9 (ByInc 0xffff8001) B16 true) 4 false ∷ [])) (hex 9 0x311284565e6b87dd25) 3
    (card (regs 0x00010000fffffffe6bf705f03f17b8df000000ff8125f5460000000000000010
    0xfffffffe0100806f81029b307fffffffd44c6ed4062b2dc70000000400010000) 0xffff0000 0xdd03b318 0 0 0xf7ed7ca7 0
    (hex 12 0xeb1e785f4eef1c03215d3339) (hex 3 0x800000) (outcome 0x8eee 0 (hex 12 0xeb1e7e5f4eef1c03215d3339) (hex 3 0x804000) ∷ []))
    [] (by_chain 0) (reg 9 0x1000070 & reg 10 0x6bf7050f & reg 12 0xfffffffe & reg 13 0xffff8eee & pc 0x4000102 & done 3
    & ram (hex 12 0xeb1e7e5f4eef1c03215d3339) & map (hex 3 0x804000)) (read 0x1000070 2 2 ∷ [])
    -- 45-LdPre/unsigned-request-1/0
    ∷ runs (block (memory 0x20000000 9 0x8000000 0x10 false) 0x2d91b41 (op (MovI 7 0xc62edfd6) 4 false
    ∷ op (LdPre 7 8 (ByInc 4) B8 false) 4 false ∷ [])) (hex 16 0x28cbe7ae332d8119f6fd0ea542606220) 0xffffffff
    (card (regs 0x3c1e90cba9bddcd2ffff8000e8030b1400000100000000806f3df24ffffff000
    0x200000685b86bf4c00000008fffff000b9c6da1d00007fff0000010000000008) 0x7fff 0xfffffffe 0 0 0x981140ad 0xfffffffd
    (hex 9 0xbd057eaf6217f42a93) [] (outcome 0xf3 0 (hex 9 0xbd057e566217f42a93) [] ∷ []))
    [] (by_chain 0) (reg 7 0xf3 & reg 8 0x2000006c & pc 0x2d91b49 & done 0xffffffff & ram (hex 9 0xbd057e566217f42a93))
    (read 0x2000006c 1 0xfffffffe ∷ [])
    -- 45-LdPre/i-16/0
    ∷ runs (block (memory 0xfffffff4 9 0x1000 8 true) 0x3ffffff (op (LdPre 7 0xa (ByInc 0) B8 false) 4 true ∷ []))
    (hex 8 0x5aa4ba740e821202) 1
    (card (regs 0x7fffffff0000001b272370cafffffffc0000001ffffffffe14dd54912ff88259
    0xa302664b00000003000010000000000e9bdd9ec5cc30de2f75e106a8fffffff7) 0 0x80000000 2 0 0xba30a016 0 (hex 9 0xe40a523cde1fde056c)
    (hex 3 0xffff01) (outcome 0x24 0 (hex 9 0x3c8308e0b1803e9542) (hex 3 0x41b566)
    ∷ outcome 0x19 0xffffffff (hex 9 0xe7a52221fd9a1e4e84) (hex 3 0xc01b72) ∷ []))
    (entry 1 0x4000003 ∷ []) (by_chain 0) (reg 7 0x5a & pc 0x4000003 & done 1) []
    -- 45-LdPre/i-255/0
    ∷ runs (block (memory 0x1000 6 0xfffffff8 6 false) 0x3ffffff (op (Alu3I 0xc 1 0x5c83cb87 Xor) 0xff false
    ∷ op (BitIns 2 0xd 0x74 1) 0 true ∷ op (MovI 9 0xde86d9e3) 4 false ∷ op (LdPre 9 0xd (ByInc 0xffffffff) B16 true) 2 true ∷ []))
    (hex 6 0x241b478b8997) 9
    (card (regs 0x00000020000000000000010000000008bfda784300000004ffffffebb37adedb
    0x9e002f10e10e91a0a42ae5ee0000008046d96a8c43cf6c9786a620ac93b23532) 0x1d482690 0x5ff93081 1 0 0x9b19a83d 5 (hex 6 0xb08bf08ef8c5) []
    (outcome 0x8000 0 (hex 6 0xb08bf08ef8c5) [] ∷ []))
    [] (by_chain 0) (reg 2 0x100100 & reg 9 0xffff8000 & reg 12 0x5c83cb87 & reg 13 0x43cf6c96 & pc 0x4000104 & done 9)
    (read 0x43cf6c96 2 8 ∷ [])
    -- 45-LdPre/inc-0/0
    ∷ runs (block (memory 0x1000000 7 0 8 true) 0x3ffffff (op (Mov 0 0) 0 true ∷ op (AddRI 0xc 0xa 0x7f) 0xff true
    ∷ op (LdPre 4 9 (ByInc 0) B8 true) 2 false ∷ op (RFromSp 5 0xbd350f6d) 6 false ∷ op (Mov2I 2 7 0xffff) 2 false ∷ []))
    (hex 8 0xbf2ef24d42ca2a3f) 0xffffffff
    (card (regs 0x4a6282e60000000900000000ffffffff8dd77592fffff001ffff800000008000
    0xfffff00001000000ffffffffffffffff00000080b0729a25fcb14d180000007f) 0x7fffffff 0xe04ad12a 1 0 0xb5dbdc55 0xfffffffa
    (hex 7 0x7f204e4e4c3217) (hex 2 0xff01) (outcome 0x46 1 (hex 7 0xde9cf853740c79) (hex 2 0xf315)
    ∷ outcome 0x93 0 (hex 7 0xc60dc2f9ed2068) (hex 2 0x0bb2) ∷ []))
    (entry 0x84 0x4000108 ∷ []) (by_chain 0) (reg 4 0x7f & reg 5 0x3d350f6c & reg 7 0xffff & reg 12 0x7e & pc 0x4000108 & done 0xffffffff)
    []
    -- 45-LdPre/inc-fff/0
    ∷ runs (block (memory 0x3000008 0xc 0x3000000 5 false) 0x2000000 (op (LdPre 0xb 4 (ByInc 0xfff) B16 true) 0 false
    ∷ op (Div 0xc 7 0xd QuoU) 2 false ∷ [])) (hex 5 0x9d08fc4989) 0xffffffff
    (card (regs 0x000080000000007f7a533ea30000001d02fff011fffff000a02a16418f7b8d29
    0x000000ff00010000db3c512a17e30487ffff00000000007f4d8f00fb00012345) 0x36c12963 0x7fff 1 0 0xad399e27 0
    (hex 12 0x69c24534a7f81d2682726b66) [] (outcome 0x40 1 (hex 12 0x7ff6ae9faa6ff559faecfac4) []
    ∷ outcome 0x2f 0xffffffff (hex 12 0xa71385630f051d299706bed7) [] ∷ []))
    [] (by_chain 0) (reg 4 0x3000010 & reg 11 0x7282 & reg 12 0x121398d & pc 0x2000002 & done 2) []
    -- 45-LdPre/inc-fffff001/0
    ∷ runs (block (memory 0x20000000 5 0x8000000 7 true) 0x2000000 (op (Alu2I 9 0xfffff001 Sub) 2 false ∷ op (Mov2 0xe 8 6 3) 0xa4 true
    ∷ op (MovI 4 0x91b64ba1) 0 false ∷ op (ShlI 9 9 8) 2 true ∷ op (Alu3 0xb 6 0xa Sar) 0 true ∷ op (Mov 0 5) 4 true
    ∷ op (Alu3 0xe 5 0xe Mul) 0xff true ∷ op (RFromSp 0xb 0x21) 4 true ∷ op (Alu2 0xe 4 Sub) 0xff false ∷ op (Un 9 9 SatS) 6 false
    ∷ op (BitIns 0xa 0xf 1 1) 0xff false ∷ op (Un 1 1 SatU) 2 false ∷ op (Div 7 5 1 QuoS) 0xff true ∷ op (ShlI 0xd 3 0x21) 2 false
    ∷ op (MinMax 0xe 0xb 7 MaxS) 6 true ∷ op (MovI 0 0x100) 4 false ∷ op (LdPre 6 0xf (ByInc 0xfffff001) B8 true) 4 false ∷ op Nop 2 false
    ∷ op (Alu2 0xc 0 RSub) 0 true ∷ [])) (hex 7 0x51d38206e48c91) 0x13
    (card (regs 0x00000001fffffff3f2f25de500000008be6577f50000002132c81bb00000001f
    0x67a1aa8c00007fff4c92a8940cf8211f00000000ffffffed89172c6120000fff) 0x3989b687 0xc623420a 1 0 0x54e1662d 0 (hex 5 0x59fe851df8)
    (hex 2 0x00ff) (outcome 0xda 1 (hex 5 0xb3498d3601) (hex 2 0x0761) ∷ []))
    (entry 0x263 0x20004c6 ∷ []) (by_chain 0) (reg 0 0x100 & reg 1 0 & reg 4 0x91b64ba1 & reg 6 0x59 & reg 7 0 & reg 8 8
    & reg 10 0x4c92a896 & reg 11 0x3989b6a8 & reg 12 0x100 & reg 13 0x10 & reg 14 0x3989b6a8 & reg 15 0x20000000 & pc 0x20004c6
    & done 0x13) []
    -- 45-LdPre/odd-word/0
    ∷ runs (block (memory 0x7ffffffc 0x35 0x100 6 true) 0x2000000 (op (RFromSp 9 0xd6d2e3aa) 2 true ∷ op (Mov 9 7) 0 false
    ∷ op (LdPre 8 5 (ByInc 4) B32 true) 6 true ∷ [])) (hex 6 0xa076227fd381) 3
    (card (regs 0x0000008000000002394bd9b900000007ffffffff7ffffff9000080000000007f
    0x6381a90300000004fffffffec9e430be00000008000000000000000200000024) 0x5cb3d7d5 0x879e33c 0 0 0xd14d497a 0
    (hex 53 0x6f00000000af4a30f3d98f12c5bb1d53842690e214539842083a0ccdc30ee57fe50269377d6b3e1b7eaa4459df97687f2a59d5c5b9)
    (hex 14 0x00000100ffff0180800100000000) (outcome 0x66 0xffffffff (hex 53
    0xdd328f3ffd269aac224e68823dc7fcd5b67735a6f5afcbb26c8061bc1d7662ac78446ffcaf660d3d435bdcf6a6c6fb9878caf22dd7) (hex 14
    0xbebdd1d84c90a772721edf415f6f) ∷ outcome 0x2a 0xffffffff (hex 53
    0x271682e741e5f48a1f668ec6a181a5d45fca57a06dad3c1164db4e281d3379cff4dc4dece6a4082929163f3cd2e1572a56bddc8a21) (hex 14
    0x18a9071a64f68f59a25015bcef33) ∷ []))
    (entry 4 0x2000008 ∷ []) (by_chain 0) (reg 5 0x7ffffffd & reg 8 0 & reg 9 0x7f & pc 0x2000008 & done 3) []
    -- 45-LdPre/odd-half/0
    ∷ runs (block (memory 0x1000000 8 0x2000000 6 true) 0x2000000 (op (LdPre 0xf 0xc (ByReg 4) B16 true) 0 true ∷ []))
    (hex 6 0x4c2e6981ef93) 0xffffffff
    (card (regs 0xfffff0000000ffff00000020000000070000000400000004b73101646777ee67
    0xffffffffffffffd900007fffffff000001000003a453d9eb0000002054eb9ad8) 3 4 0 0 0xf90d44b 0 (hex 8 0x7156f5a923a393b3) (hex 2 0xff01)
    (outcome 0x69 0xffffffff (hex 8 0xb763ac7221d81399) (hex 2 0x2d07) ∷ outcome 0xd0 0xffffffff (hex 8 0x5295c77f94737a98) (hex 2 0x7b6b)
    ∷ []))
    [] (by_chain 0) (reg 12 0x1000007 & reg 15 0xffffb393 & pc 0x2000000 & done 1) []
    -- 45-LdPre/outside-odd/0
    ∷ runs (block (memory 0xfffffff8 7 0x1000 7 true) 0x3931485 (op (LdPre 3 0 (ByInc 2) B16 false) 0 true ∷ [])) (hex 7 0x76b252051f6b77)
    0xffffffff
    (card (regs 0xb2d9992f0000000800000007d6e0c021305831b9fffff000ccdc06c131105085
    0x0000002200000020fffff0010000010000000080000000095f847071000000ff) 2 0xf9642141 2 0 0x57094268 0 (hex 7 0x8d8de97eaafb0c)
    (hex 2 0xff00) (outcome 0xffff 0 (hex 7 0xf18de97eaafb0c) (hex 2 0x4000)
    ∷ outcome 0xd0 0xffffffff (hex 7 0x919b932db0f1ec) (hex 2 0xaf1a) ∷ outcome 0x10 0xffffffff (hex 7 0xa296b83b2e374f) (hex 2 0x266d)
    ∷ []))
    [] (by_chain 0) (reg 0 0xb2d99931 & reg 3 0xffff & pc 0x3931485 & done 1 & ram (hex 7 0xf18de97eaafb0c) & map (hex 2 0x4000))
    (read 0xb2d99931 2 0 ∷ [])
    -- 45-LdPre/break-start-glue-1/0
    ∷ runs (block (memory 0x20000000 0xc 0x8000000 7 false) 0x27cec3b (op (MovI 0xd 0x20000003) 2 false
    ∷ op (LdPre 8 0xd (ByReg 0xf) B8 false) 2 true ∷ op (RFromSp 0xa 0x7838dc5c) 0x6c false ∷ [])) (hex 7 0xf15e064733e32e) 0xffffffff
    (card (regs 0x23ae8539ffff0000591208c9637caef9000000020000800049352f5b00000003
    0x0af1c0cd000000200c2ecc10000000040000007fffffffedf5110dd300000001) 0x80 0x7c24b61 1 0x80000000 0xf04ec89d 0x51764bcc
    (hex 12 0x6875071f7feb13976ce062cd) [] (outcome 0x66 0xffffffff (hex 12 0x8e72893bd4de8735b0525e3e) [] ∷ []))
    [] by_return (reg 8 0x7f & reg 13 0x20000004 & pc 0x27cec3f & done 0x51764bce) []
    -- 45-LdPre/break-outcome-glue-0/0
    ∷ runs (block (memory 0x3000008 0x10 0x3000000 7 false) 0x24aea7c (op (ShlI 0xa 7 0) 0xff true ∷ op (Alu2 0xa 0xd Sub) 0 false
    ∷ op (LdPre 0xb 0xd (ByInc 4) B32 true) 2 false ∷ op (Mov 3 9) 4 false ∷ [])) (hex 7 0xfdcdd87c41d0f9) 0xffffffff
    (card (regs 0x000000250000000000000004f4ae397f000100000000001f0000008000000018
    0x8f30876fffffffdeffffffe8a632269156554acd03000078a1d3ab40ffff8000) 3 0x10000 2 0 0xdcede799 0
    (hex 16 0x3d3adfcee84efcee2e651169bcc442ea) [] (outcome 0x7fffffff 0xffffffff (hex 16 0x3d3adfcee84efcee2e653f69bcc4425c) [] ∷ []))
    [] by_return (reg 10 0xfcffffa0 & reg 11 0x7fffffff & reg 13 0x300007c & brk 0xffffffff & pc 0x24aeb7d & done 3
    & ram (hex 16 0x3d3adfcee84efcee2e653f69bcc4425c)) (read 0x300007c 4 2 ∷ [])
    -- 45-LdPre/break-outcome-glue-1/0
    ∷ runs (block (memory 0 0x10 0x2000000 8 true) 0x3d7e1c4 (op (MovI 9 0x680e4ec8) 4 false ∷ op (LdPre 9 0xc (ByInc 2) B32 true) 0xff true
    ∷ op (ShlI 4 0xd 0x10) 2 false ∷ op (Alu3I 7 5 3 Add) 4 false ∷ [])) (hex 8 0xbbf509863d8705ce) 4
    (card (regs 0x00000004000000020000002761268d4af277b011000010007fffffffbc953228
    0x10f1c6eb7fffffff00fff0000001234540000044000000ff00000001029f85e4) 0x906ca676 0x5460e736 0x40e67926 0 0xc5efdfbb 0
    (hex 16 0xbc24b6b7a195eb538f350e7e128c57cf) (hex 4 0x80ff8080)
    (outcome 0xd44040e4 0xffff0000 (hex 16 0xbc24bdb7a195eb538f350eb9128c57cf) (hex 4 0x80010180)
    ∷ outcome 0x68 0xffffffff (hex 16 0xfd505913e07254b5c481a70c676af574) (hex 4 0xc8ad4400)
    ∷ outcome 0x65 0 (hex 16 0x40c3f17604db97283d15b5c39a48d431) (hex 4 0x9c498f94) ∷ []))
    [] by_return (reg 9 0xd44040e4 & reg 12 0x40000046 & hold 1 & brk 0xffff0000 & pc 0x3d7e2c7 & done 2
    & ram (hex 16 0xbc24bdb7a195eb538f350eb9128c57cf) & map (hex 4 0x80010180)) (read 0x40000046 4 1 ∷ [])
    -- 45-LdPre/break-cleared/0
    ∷ runs (block (memory 0xfffffff4 9 0x1000 8 true) 0x208da1d (op (LdPre 6 0xc (ByReg 0xd) B8 false) 2 false
    ∷ op (Mov2I 3 8 0x90e6de79) 2 true ∷ op (Alu3 9 1 4 Or) 4 true ∷ op (A4 0xf 1 AndNot RkBit 0xffff0000) 4 false ∷ []))
    (hex 8 0x0050e263292d6e47) 0xffffffff
    (card (regs 0xfffffff94319bb9fa79fa6e8000100007fffffff00000000adf440d1b2207693
    0x0000000842a9e2de188323d8732bc2b400000f80000000005184aa36fffffffe) 0x1f 0xbe2aa4dc 0xd5e9013d 0x100 0x6d34b907 0
    (hex 9 0xd3c82cc4b1fb20bbbc) (hex 3 0xffff80) (outcome 0xbd 0 (hex 9 0xd3c82cc4b1fb20bbbc) (hex 3 0xffff80)
    ∷ outcome 0x71 1 (hex 9 0x8ecabd49a59bd9a8fd) (hex 3 0x894a79) ∷ []))
    (entry 0x2d14 0x208da29 ∷ []) (by_chain 0) (reg 3 0xffffffff & reg 6 0xbd & reg 8 0x90e6de79 & reg 9 0x7fffffff & reg 15 0x4119bb9f
    & brk 0 & pc 0x208da29 & done 4) (read 0xf80 1 0 ∷ [])
    ∷ []

pub all_reach : reached cases ≡ expected cases
unfolding run ops_from op_step load direct store read_le write_le signed_of sign_extend leading_zeros
all_reach = refl
