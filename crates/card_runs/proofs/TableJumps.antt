-- Kind 49: bytes and halfwords, odd ones, region ends, sums that wrap, the jump table, breaks: each run reaches its end.
use mathlib.Core.Bool.{true, false}
use mathlib.Core.List.{List, [], ◌∷◌, ◌++◌}
use mathlib.Core.Path.{◌≡◌, refl}
use Rattle.block.specs.declared.Op.TheVariants.{Add, Mul, Shl, Sar}
use Rattle.block.specs.declared.Rk.TheVariants.{Reg as RkReg}
use Rattle.block.specs.declared.Part.TheVariants.{Upper as PartUpper}
use Rattle.block.specs.declared.UnKind.TheVariants.{SatU}
use Rattle.block.specs.declared.Fast.TheVariants.{Nop, MovI, Mov, AddRI, Alu3, Alu2, Alu2I, A4}
use Rattle.block.specs.declared.Fast.TheVariants.{Ext, Un, Mov2, Mov2I, SpAdd, RFromSp, Tb}
use Rattle.card.specs.Card.{read}
use Rattle.card.specs.Word.{signed_of, sign_extend, leading_zeros}
use Rattle.card.specs.Memory.{read_le, write_le, load, direct, store}
use Rattle.card.specs.Step.{op_step}
use Rattle.card.specs.Run.{ops_from, run}
use Rattle.card_runs.specs.Case.{Case, runs, reached, expected, block, memory, op, hex, regs, card}
use Rattle.card_runs.specs.Case.{guarded, outcome, leaving, versions, entry, by_return, by_table, reg, sp, brk, pc, done}
use Rattle.card_runs.specs.Case.{ram, ◌&◌}

abbrev cases : List Case
cases =
    -- 49-Tb/byte-ram-first/0
    runs (block (memory 0xfffffff8 6 0x1000 0xc true) 0x3ffff00 (op (Tb 3 false) 4 false ∷ [])) (hex 12 0xad73ba9afba3fc83cb9e23d1)
    0xffffffff
    (card (regs 0xd2df19bcf4b6f6f000000000fc0000f4d791bc0c25abb8f400001000ffffffdd
    0xfffff00000000007f1c25aa80000000300000000fffffffcffff0000022e3ec6) 0x41384c86 0xe22422be 0 0 0x935fdf53 0x1000 (hex 6 0xa5dc771a640c)
    (hex 2 0x8080) (outcome 0xc1 1 (hex 6 0x8a353d511ffd) (hex 2 0xdd06) ∷ outcome 0x79 0xffffffff (hex 6 0x5dbcdf461d96) (hex 2 0x567e)
    ∷ []))
    (entry 0x27 0x400004e ∷ []) by_table (pc 0x400004e & done 0x1001) []
    -- 49-Tb/byte-ram-last/0
    ∷ runs (block (memory 0x1000 9 0xfffffff8 6 true) 0x3ffff00 (op (Mov 0xf 0xc) 6 false ∷ op Nop 4 true
    ∷ op (Mov2I 0xa 0xa 0x1000) 4 false ∷ op (Tb 7 false) 4 true ∷ [])) (hex 6 0x644aa6854ad9) 0xffffffff
    (card (regs 0x0000002055afaa2b000000084d8e9d250000000880000000e88e18affc0010f6
    0x0000007f000000030000000777b773300b38126d00000007f865b38000000007) 0xffffffda 0xfffff000 1 0 0xe2e4c0f8 0xfff
    (hex 9 0x71bb81357f2d346e00) (hex 3 0x000001) [])
    (entry 0x3f89 0xe242b09b ∷ []) by_return (reg 10 0 & reg 15 0xb38126d & pc 0x3ffff12 & done 0x1003) []
    -- 49-Tb/byte-ram-over/0
    ∷ runs (block (memory 0x20000000 0xc 0x8000000 0x30 false) 0x3ffff00 (op (Mov 0 0xa) 0x39 false ∷ op (Mov 0xb 7) 6 true
    ∷ op (Ext 0xb 0xe PartUpper false) 0 false ∷ op (Tb 9 false) 0 false ∷ []))
    (hex 48 0x6d543bc1e32523f5a247aeab78f8d9e001e913e13499d6d2188c7a1b0a1edf8c156ce4ec1e9e468672c0f6597d4e2937) 0xffffffff
    (card (regs 0x7fffffffc0e9ab8e000000012197b01e0000008097c55c320000000726e2a432
    0x000000201c0000cdfffffffe00012345fffff00111959d80fffff001f6237e3f) 0xfff000 0xffffffee 0x93c93a6d 0 0x10e1de4f 1
    (hex 12 0x492a2aba5e3ec1f74112950a) [] (outcome 0 0 (hex 12 0x492a2a015e3ec1f74112950a) []
    ∷ outcome 0x31 0xffffffff (hex 12 0x737c43137495d1b3c7aa50f4) [] ∷ outcome 0xc9 0 (hex 12 0x81b5edc2e1075402b47c81ed) [] ∷ []))
    (entry 0x3f9f 0x3ffff3e ∷ []) by_return (reg 0 0xfffffffe & reg 11 0xffff & pc 0x3ffff3f & done 5
    & ram (hex 12 0x492a2a015e3ec1f74112950a)) (read 0x2000000c 1 4 ∷ [])
    -- 49-Tb/byte-xip-first/0
    ∷ runs (block (memory 0x1000 0xc 0xfffffff8 8 true) 0x2000000 (op (Mov2I 1 2 0xfffff000) 4 false ∷ op (Tb 0xd false) 2 false ∷ []))
    (hex 8 0xadbeeecd2a8a0b51) 0xffffffff
    (card (regs 0x00000080136560c3ffff8000e66103c300000100ffffffed77bcd239fffff001
    0x000123450000000000012345fffff000fffffffffdfffff20fddada2baf39a8f) 4 0x97ed95bc 0 0 0xdd89be4e 0 (hex 12 0xa17dc0bcb2c6b201d493d6f8)
    (hex 3 0x000100) (outcome 0x26 0xffffffff (hex 12 0xae893a7c2a311630690cbae5) (hex 3 0xf8d104)
    ∷ outcome 0xa8 0xffffffff (hex 12 0x00e91578fc5041ecf2ccf725) (hex 3 0xbf9063) ∷ []))
    (entry 0xb0 0x2008160 ∷ []) by_return (reg 1 0xffffffff & reg 2 0xfffff000 & pc 0x2000160 & done 2) []
    -- 49-Tb/byte-outside/0
    ∷ runs (block (memory 0x7ffffffc 9 0x100 9 true) 0x2000000 (op (Tb 2 false) 0xff true ∷ [])) (hex 9 0x5f28929a2805d6bc6b) 0xffffffff
    (card (regs 0xfffffffe0000001d9b5e6b574cda8bef74083c5e69784d084ef8cfaebf40d216
    0x19fcc034b4cbdfd5d1ba3d354aed08e8ffff0000ffff0000aca7d7980000001f) 0xa3a091d6 0xfffffff5 0 0 0x10e9e56b 0xfffffffe
    (hex 9 0xd2b44696fdd812b3ee) (hex 3 0x800100) (outcome 1 0 (hex 9 0xd2b44696fdd812b3ee) (hex 3 0x800100)
    ∷ outcome 0x15 1 (hex 9 0xe1f0e7a933e71fa5ab) (hex 3 0xd828d3) ∷ outcome 0x6d 0xffffffff (hex 9 0x727bfb2b1d2564b609) (hex 3 0xde0e54)
    ∷ []))
    (entry 0x80 0x2000101 ∷ []) by_table (pc 0x2000101 & done 0xffffffff) (read 0x9d5e6c56 1 0xfffffffe ∷ [])
    -- 49-Tb/byte-hit/0
    ∷ runs (block (memory 0 7 0x2000000 9 true) 0x2000000 (op (SpAdd 0x1000) 0xff true ∷ op (Tb 3 false) 0xff true ∷ []))
    (hex 9 0xffb28037d4b44af337) 0xffffffff
    (card (regs 0x9fcfad53ffffffee0000001ffffffe02a69e8b6c000000020001234500001000
    0x0000001f00fff000bcf44e61ffffffff00000003837afcd4000000ff00000080) 0xd7e54a8d 4 1 0 0x8c840d 0xfffffffd (hex 7 0x65b86e1c2de4c5)
    (hex 2 0x80ff) [])
    (entry 0x1fe 0x20003fc ∷ []) by_table (sp 0xd7e55a8d & pc 0x20003fc & done 0xffffffff) []
    -- 49-Tb/byte-high/0
    ∷ runs (block (memory 0x1000000 4 0x2000000 9 true) 0x26e73be (op (Tb 6 false) 0 false ∷ [])) (hex 9 0x0098f40e844b0dc691) 6
    (card (regs 0x0000000042e8cf05a27c95cb561728bda0223a02ffff0000ff918c42753fdb4e
    0x0000100000000004ffff8000db9b312d52e31d7e000000ffee6d0d4b00d78160) 0x7f 0x7fffffff 0xf8641847 0 0x6b9794ba 5 (hex 4 0x1228c12b)
    (hex 1 0xff) (outcome 0xe7 1 (hex 4 0xd77c3aa7) (hex 1 0x1a) ∷ []))
    (entry 0x39df 0x26ef3be ∷ []) by_return (pc 0x26e73be & done 6) []
    -- 49-Tb/byte-answer-miss/0
    ∷ runs (block (memory 0xfffffff8 8 0x1000 7 true) 0x2000000 (op (Alu2 4 4 Mul) 4 true ∷ op (Tb 5 false) 4 true ∷ []))
    (hex 7 0xdb3d8bb30d6f50) 0x87dc52fb
    (card (regs 0x5856164afffff00166f30d2d00000003795aab143e0000260000000100000008
    0x00001000ffffffffffffffff00000007000000156d782bb3ffffffed0000000c) 7 3 0 0 0xf3efae39 0x439985be (hex 8 0x65dc54514f771cbe)
    (hex 2 0x0001) (outcome 1 0 (hex 8 0x65dc54514f771cbe) (hex 2 0x0001) ∷ outcome 0xf3 1 (hex 8 0x2b5d545c15bf061c) (hex 2 0x86a1)
    ∷ outcome 0x46 0xffffffff (hex 8 0xfcf2b3d298e23c9d) (hex 2 0xe51a) ∷ []))
    (entry 5 0x8200000a ∷ []) by_return (reg 4 0xa463b990 & pc 0x200000a & done 0x439985c0) (read 0x4000002e 1 0x439985bf ∷ [])
    -- 49-Tb/byte-value-top/0
    ∷ runs (block (memory 0 7 0x2000000 8 false) 0x2000000 (op (RFromSp 0xf 0) 2 false ∷ op (Alu3 0xd 7 0xc Add) 2 true
    ∷ op (MovI 5 0x24) 0 false ∷ op (Tb 0xc false) 0xff true ∷ [])) (hex 8 0xff9a0d2eea748013) 0xffffffff
    (card (regs 0xffbea3fd00fff00059500c047e420cd600000004ffffffed0000000400000fff
    0xa2a0f631ff1d2c5ae8c15c7700000020fffffefd7fffffff000000002e61209f) 0xfac78c1e 0x875adf6a 0x48925a62 0 0xe1f075c5 1
    (hex 7 0x4d8d2e84c740e5) [] (outcome 0x26 1 (hex 7 0x1bf785ba517632) [] ∷ []))
    (entry 0x180 0x2000301 ∷ []) by_table (reg 5 0x24 & reg 13 0xefc & reg 15 0xfac78c1e & pc 0x2000301 & done 5) []
    -- 49-Tb/byte-break-start-hit/0
    ∷ runs (block (memory 0xfffffff0 0x10 0x1000 8 false) 0x3ffff00 (op (Tb 0 false) 2 true ∷ [])) (hex 8 0xd4a82036dad5c8e3) 6
    (card (regs 0xfc0010fedaf46349eff744ab7fffffff0000001b7fffffff00000002ffff8000
    0x00000007e2acd9508000000000000fff00000100fffff0000000007fffffffff) 7 0 0 1 0x8f9ddb64 5 (hex 16 0xbaa7fca0448aa50fd66d7235cdbf396c)
    [] (outcome 0xda 1 (hex 16 0xaec4b48e19dc8000e9b8bc4911e6ffd9) [] ∷ outcome 0x2f 1 (hex 16 0xd6d41d5795502b0b85900ad4a0880050) []
    ∷ []))
    (entry 0x55 0x40000aa ∷ []) by_return (pc 0x40000aa & done 6) []
    -- 49-Tb/byte-break-outcome-hit/0
    ∷ runs (block (memory 0x3000004 8 0x3000000 4 false) 0x2000000 (op (Tb 0xb false) 0xff true ∷ [])) (hex 4 0x69eb748a) 0xffffffff
    (card (regs 0x7fffffff34f5beb4b12e55324705baa3000000ff00001000b0d47a240000007f
    0xffffffff690cc0cf0000000000ffff71000000089e3cd59c00000ffff43166ff) 0x433bdba4 0xef66bee1 1 0 0x1b8144be 0xfffffffe
    (hex 8 0xe30e109fb246bf12) [] (outcome 0x48 0x100 (hex 8 0xe30e109fb246bf12) [] ∷ outcome 0x6d 0 (hex 8 0xd0174c3c0c1ddabc) [] ∷ []))
    (entry 0xc7 0x200018f ∷ []) by_return (brk 0x100 & pc 0x200018f & done 0xffffffff) (read 0x3000070 1 0xfffffffe ∷ [])
    -- 49-Tb/byte-length-0/0
    ∷ runs (block (memory 0 5 0x2000000 9 true) 0x2000000 (op (Tb 0xc false) 0 true ∷ [])) (hex 9 0x66cabfe499631564a1) 0x17205ae2
    (card (regs 0x639537f60000000847e7ffdd0000000000000012a7afea5bfffff00100000001
    0x425fcb2727d1516686475e8adb02318100000000000000ff0d3c9685436d3907) 0xff 0x100 0 0 0xd62d59a8 1 (hex 5 0x64c6cf09d6) (hex 2 0x0080)
    (outcome 0x64 0 (hex 5 0x7c2e36288f) (hex 2 0x3a19) ∷ outcome 0x88 1 (hex 5 0x39fa98c014) (hex 2 0x7d12) ∷ []))
    (entry 0x66 0x3c14c0af ∷ []) by_return (pc 0x20000cc & done 2) []
    -- 49-Tb/byte-in-ram-low/0
    ∷ runs (guarded 0xa000000123 (block (memory 0x1000000 8 0x1000800 0xc true) 0x1000000 (op (Tb 4 false) 1 false ∷ [])))
    (hex 12 0x38adbc9a7a47f4a89ed9b5c0) 1
    (versions 6 0xa000000123 6 (card (regs 0x00000005fffff000ffffffff3e0d462a000000067eda8fbe1b6510ee90f071e8
    0x00000fff00000000000000ffbf6e040900000000ffffffe0ffffffef00000007) 3 0xffff8000 0 0 0x66610449 0 (hex 8 0x7c2a78b34c28e101)
    (hex 2 0x8080) (leaving 3 3 (outcome 0xb0 0xffffffff (hex 8 0x36cb8f8170834de7) (hex 2 0x0d8c)) ∷ [])))
    (entry 1 0x1000003 ∷ []) by_table (pc 0x1000003 & done 1) []
    -- 49-Tb/byte-in-ram-top/0
    ∷ runs (guarded 0xa000000ece (block (memory 0xfffffff0 0x10 0x2000000 0xc false) 0xfffffff0 (op (Tb 0xa false) 2 false ∷ [])))
    (hex 12 0x6982b5f6db5ed1fe07b82d00) 0xffffffff
    (versions 6 0xa000000ece 6 (card (regs 0x48cd6cee0000002026e9e0b1caff6361afecdfbd000000030000000100000fff
    0x80000000000080000000000db95e11b6ffffffff0381be6e000000fffffff000) 0xb2cca18e 0x46b09c10 0x18df6790 0 0x85d9f6d9 0xfff
    (hex 16 0x8675a6d6c15c55abf1f7591bf46390ff) [] (leaving 5 3 (outcome 0x9f 0 (hex 16 0x765e20bfc1cb3b670148ddc4e9ad803f) [])
    ∷ leaving 0 3 (outcome 0x9e 0 (hex 16 0xc7b430dd6b309157d51c684b0d540646) []) ∷ [])))
    (entry 0xf8 0x1f1 ∷ []) by_return (pc 0x1f0 & done 0x1000) []
    -- 49-Tb/byte-table-behind/0
    ∷ runs (guarded 0xa000000bd4 (block (memory 0x20000000 0x10 0x8000000 0xc false) 0x20000000 (op (Tb 5 false) 1 true ∷ [])))
    (hex 12 0xfc551c0ad4461ca3b7ad7ba9) 0xffffffff
    (versions 6 0xa000000bd4 6 (card (regs 0x927e13c686aadd050000100013aee56ddec412300000000000008000fffffffe
    0x0000001f4e953df8ca9e3ad90000000800000001fffff0009bb8dd9c00000012) 0x100 0x1579ef44 2 0 0x217dfc2d 0
    (hex 16 0x4b8a372a872738d621347c42fc07f25d) [] (leaving 4 3 (outcome 0x30 0 (hex 16 0x33edfcaf23d239da484253bb4a6a25a0) [])
    ∷ leaving 3 3 (outcome 0xe9 0 (hex 16 0xd6bd9f90e2310d58ae9388a1861d1898) []) ∷ [])))
    (entry 0x8a 0x20000114 ∷ []) by_return (pc 0x20000115 & done 1) []
    -- 49-Tb/half-ram-last/0
    ∷ runs (block (memory 0 0xc 0x2000000 0x10 true) 0x3ffff00 (op (Alu3 0xd 5 6 Sar) 6 true ∷ op (Mov2I 0xe 8 0x80) 0 false
    ∷ op (Tb 9 true) 0 false ∷ [])) (hex 16 0x024ef6828f5af9ec1ab83ca50a2eacab) 0x3053d838
    (card (regs 0xfffffffe0000fffff9d266ba00012345000000019d801def000000206369d386
    0xf29814e6fc000104000000ff000000ff000000110000000800001000ae6e47c1) 0x8defe3ed 0xfcd52f64 1 0 0x87d67b9d 0
    (hex 12 0xe147b4fa45d0e4c9985effff) (hex 3 0x000000) (outcome 0x65 0xffffffff (hex 12 0x6f0f893c9df6db917ddc7d54) (hex 3 0x452c32)
    ∷ outcome 0x86 1 (hex 12 0x21b17e004eb03f665568637f) (hex 3 0xb1c93a) ∷ []))
    (entry 0x3f82 0x877926cb ∷ []) by_return (reg 8 0x80 & reg 13 0x9d801def & reg 14 0 & pc 0x401ff04 & done 3) []
    -- 49-Tb/half-ram-over/0
    ∷ runs (block (memory 0x3000008 8 0x3000000 6 false) 0x2000000 (op (AddRI 5 6 0x20) 4 true ∷ op (Tb 1 true) 0xff false ∷ []))
    (hex 6 0x444ba621890a) 0xffffffff
    (card (regs 0x5f059ba800ffff0d00008000ffff800000000003000000088ed6c3362e416d79
    0x31f6dad6520f950d2f7122390000001300001000bcb227a980c9516100000020) 0xabbf2242 0x5ca2c0e9 0 0 0x3064b07 0xfffffffd
    (hex 8 0x2a1b82e23b7c8ec6) [] (outcome 0xffff 0 (hex 8 0x2a1b82e23b7c8ec6) [] ∷ outcome 0 0 (hex 8 0xbc12ea91f54c1840) [] ∷ []))
    (entry 0x80 0xc76a572 ∷ []) by_return (reg 5 0x8ed6c356 & pc 0x2020101 & done 0xffffffff) (read 0x3000010 2 0xfffffffe ∷ [])
    -- 49-Tb/half-xip-over/0
    ∷ runs (block (memory 0x3000040 9 0x3000000 0x40 false) 0x2000000 (op (Tb 0xf true) 0xff true ∷ [])) (hex 60
    0xabb977f1aebe839ac6acbcec0741214b2520092c407da5a7b85dba855a318842710492d1a302e1a89c03ac964ecd98882eeac2b94e4f52814f1cc3e3 ++ hex 4
    0x3134a5fa) 0xffffffff
    (card (regs 0xffffffecc8c79e64000000077fffffff6679a3ed80000000fffffff700000002
    0xfffff0014dadba38fffff0013bfe15251ef1ffa9ffff80000001000000ffff40) 0xfff000 0x117bf5fb 1 0 0x507df00e 5 (hex 9 0xa79b729fdd13c48cda)
    [] (outcome 0x32 1 (hex 9 0x925c8368265a1449f0) [] ∷ outcome 0x30 0xffffffff (hex 9 0x4b5c49d34e44463b47) [] ∷ []))
    (entry 0x3b24 0x2017649 ∷ []) by_return (pc 0x201f649 & done 6) []
    -- 49-Tb/half-zero-before/0
    ∷ runs (block (memory 0x2000 7 0 0x32 false) 0x2ad51be (op (RFromSp 2 0x7f) 4 false ∷ op (Ext 0xb 1 PartUpper false) 0xff false
    ∷ op (Tb 0xc true) 4 true ∷ []))
    (hex 50 0x40cef99505174b09345eb581b1548ed846c2994aa6c384c620cb3dc79a6cc6a81c367ee2dbb4962b7fea0659db23307976a9) 0xffffffff
    (card (regs 0x0000007fe38af730000000074359b5c500000004000000013f5b24901efce32b
    0x0000ffff460c0555ffff800000007ffffd52ad3a1575e28d739ed6039339dc1a) 0xfffffffe 0xfff000 2 0 0xb004c59b 0 (hex 7 0x0720f84ae0e1ce) []
    (outcome 0xffff 0 (hex 7 0x0720294a54e1ce) [] ∷ outcome 9 0xffffffff (hex 7 0x7b9a34fba0345a) [] ∷ []))
    (entry 0x2961 0x2af52c2 ∷ []) by_return (reg 2 0x7d & reg 11 0xe38a & pc 0x2af52c3 & done 3 & ram (hex 7 0x0720294a54e1ce))
    (read 0xffffffff 2 2 ∷ [])
    -- 49-Tb/half-top-ram/0
    ∷ runs (block (memory 0xfffffff4 0xc 0 4 false) 0x2000000 (op (Tb 0xe true) 2 false ∷ [])) (hex 4 0x4e32dd0f) 0xa3ead3de
    (card (regs 0x00000007000000800000008069cc6937000010007ffffffffffffffe00001000
    0xfffffff5665cd8c1fffff001000000000000007f0000fffffdfffffcfa4b40e5) 0xe2526499 0x51b063a0 2 0 0x72b00b9c 0
    (hex 12 0x1f8946f4c9fcffd9ab600000) [] (outcome 0x6b 0 (hex 12 0x983178a97756550cec969549) []
    ∷ outcome 0x53 1 (hex 12 0x116e2855f690c30576ee6e8f) [] ∷ []))
    (entry 1 0x2000003 ∷ []) by_return (pc 0x2000002 & done 1) []
    -- 49-Tb/half-ram-odd/0
    ∷ runs (block (memory 0 0xc 0x2000000 0x10 false) 0x25c7a16 (op (A4 2 3 Sar RkReg 0x8d6a3c32) 0 true ∷ op (Tb 1 true) 0xff true ∷ []))
    (hex 16 0xebcbcf9a454c04ce994349cbb0a34cbf) 3
    (card (regs 0x541b7a12fda384f6fcd878e5000080008000000000000007ffffffda0000001f
    0x0000000100000fff31566fea00008000ffff80008030886e7d870ea2000000ff) 0x10000 0xd1e4e778 2 0 0xd0b61261 1
    (hex 12 0x792efd5ceab5e58f68760100) [] (outcome 0x81 0 (hex 12 0x43e0a79331b1e126a301e2bf) []
    ∷ outcome 0xe3 1 (hex 12 0xa39a2ce08c21427191cb0eea) [] ∷ []))
    (entry 0x3d8b 0x25c7b17 ∷ []) by_table (reg 2 0x400 & pc 0x25c7b17 & done 3) []
    -- 49-Tb/half-xip-odd/0
    ∷ runs (block (memory 0x1000000 8 0x2000000 0x10 false) 0x3ffff00 (op Nop 0xff false ∷ op (Mov2I 7 0 4) 0x49 true
    ∷ op (Tb 3 true) 2 true ∷ [])) (hex 16 0x72a067c5cb546a21aba7ec2ac9d99823) 3
    (card (regs 0xffffffec000123450000fffffdffffb7000000ff0a9678020000010081d6e908
    0x4f86538100012345fffffffe000000ff5adefaff08a45282a4a6b68780000000) 0x85eb42b 0xff 2 0 0x163b4f74 0 (hex 8 0xcec994021ddad546) [] [])
    (entry 0x2097 0x7c9cf315 ∷ []) by_return (reg 0 4 & reg 7 0 & pc 0x401412e & done 3) []
    -- 49-Tb/half-outside/0
    ∷ runs (block (memory 0x20000000 5 0x8000000 7 true) 0x3ffff00 (op (Tb 0 true) 0 false ∷ [])) (hex 7 0x13c74cc17f10dc) 1
    (card (regs 0x1c00016800000020ffffffff0c3007d4fffffff6fffff0004cb6f2d566b0597c
    0x00fff00000000003000000080000008000fff000ffff80006e672eb70000007f) 8 0x10000 2 0 0x69b74065 0 (hex 5 0xe7a4ecc234) (hex 2 0x0000)
    (outcome 0x1800 0 (hex 5 0xe9a4ecc2c2) (hex 2 0x0000) ∷ outcome 0x5f 1 (hex 5 0xd5db0a682d) (hex 2 0x413f)
    ∷ outcome 0xfe 1 (hex 5 0xc3378708d7) (hex 2 0x78b3) ∷ []))
    (entry 0x1780 0x84002f00 ∷ []) by_return (pc 0x4002f00 & done 1 & ram (hex 5 0xe9a4ecc2c2)) (read 0x20000068 2 0 ∷ [])
    -- 49-Tb/half-outside-odd/0
    ∷ runs (block (memory 0 8 0x2000000 5 false) 0x2000000 (op (Tb 5 true) 2 true ∷ [])) (hex 5 0x3f3b437630) 1
    (card (regs 0xbcd3504a00007ffffffff000ffff00008033c7d8ffffff7f03fb3472fffffff3
    0xceced4bf00000fff000000808f04ae5d0000002000001000ffffffff7fffffff) 0x92941760 0xdbee7a64 2 0 0xb382c057 0 (hex 8 0x02fb739f27fced1d)
    [] (outcome 0x1f90 0 (hex 8 0x74fb739f27dfed1d) [] ∷ outcome 0x45 0xffffffff (hex 8 0x0d4c9718a5c5e9dc) []
    ∷ outcome 0x78 0 (hex 8 0x1964c6283dc5bc5f) [] ∷ []))
    (entry 0x1f91 0x200bf22 ∷ []) by_return (pc 0x2003f22 & done 1 & ram (hex 8 0x74fb739f27dfed1d)) (read 0x1ffff81 2 0 ∷ [])
    -- 49-Tb/half-hit/0
    ∷ runs (block (memory 0x300000c 0x10 0x3000000 0xc false) 0x206d658 (op (Mov2 0xf 0xd 0xf 3) 0 false
    ∷ op (Alu2I 0xa 0xfffffff1 Shl) 2 true ∷ op (Tb 0 true) 2 false ∷ [])) (hex 12 0x01003b2b705e09d7abc2eba8) 3
    (card (regs 0x00f929a400000016ffff00000000000700000080eef8aacc000000200000001f
    0x0000007f29183c27fffffff6c656619d0000010000008000fffffff56fd334df) 0xa728cd89 0xffff 1 0 0x67d7c54d 0
    (hex 16 0x53342db7b5a6dff3b8c6dcc553adf7fc) [] (outcome 0x39 0xffffffff (hex 16 0x7985aa1b738bad86fa48b0bcaa58b529) []
    ∷ outcome 0x3c 0 (hex 16 0xcbcca2d7af6f02dd7bd82289c519e70d) [] ∷ []))
    (entry 0x2b2f 0x206d65e ∷ []) by_table (reg 10 0xffec0000 & reg 13 7 & pc 0x206d65e & done 3) []
    -- 49-Tb/half-bit0/0
    ∷ runs (block (memory 0x1000000 5 0x2000000 0xc true) 0x2000000 (op (Mov2 0xd 0xb 0 4) 6 false ∷ op (Tb 7 true) 2 false ∷ []))
    (hex 12 0x010019e31715db1a9c3e62a6) 0xea8bbaaf
    (card (regs 0x00010000fffff0010000002000fff000000001000000000300000027fffffff8
    0x000000070000007fffffffec638973ba0001000056a9fdfd6ec449c773e1afdb) 0xaa015705 0x860c189 1 0 0x67bb7645 0xd962a81 (hex 5 0xf7b1120f42)
    (hex 2 0x0101) (outcome 0x59 1 (hex 5 0x91f8ed48ed) (hex 2 0x1695) ∷ outcome 0xcd 0 (hex 5 0xc7204285fe) (hex 2 0xb57c) ∷ []))
    (entry 5 0x200000b ∷ []) by_return (reg 11 0x100 & reg 13 0x10000 & pc 0x200000a & done 0xd962a83) []
    -- 49-Tb/half-answer-hit/0
    ∷ runs (block (memory 0x1000000 5 0x2000000 7 true) 0x2000000 (op (Tb 6 true) 4 true ∷ [])) (hex 7 0xf91c42155ea41c) 0x677abcf0
    (card (regs 0xfffffffe8000000000007fff8000000000000000d1a87cdd3e000040ffff0000
    0x0000000c00000fff0000000afffffffe0000ffff407dca4d0001234522487648) 0xfffffffd 0xdee5bb95 0 0 0x3196a27c 0 (hex 5 0x899def1c71)
    (hex 2 0x0001) (outcome 0x27bb 0 (hex 5 0x899def1c71) (hex 2 0x0001) ∷ outcome 0x33 0 (hex 5 0xf8ddfd003f) (hex 2 0xc022) ∷ []))
    (entry 0x27bd 0x2004f7a ∷ []) by_table (pc 0x2004f7a & done 1) (read 0x40000044 2 0 ∷ [])
    -- 49-Tb/half-value-0/0
    ∷ runs (block (memory 0x1000000 0x10 0x2000000 0x10 false) 0x3ffff00 (op (Tb 2 true) 2 false ∷ []))
    (hex 16 0x0000551a7cfa1e682736f5e61d42a6bc) 0xffffffff
    (card (regs 0x00000100ffff8000fe0000fe000000ff11f435704b95e747fe8d4b0200fff000
    0xfffffff10000000200000002000000010000000313114af88ff7571371b1ad01) 0x690730f8 7 0x1015ba90 0 0x21f48e9d 0
    (hex 16 0x867fa876ad27ad339cd008d6180baf6d) [] (outcome 0x43 1 (hex 16 0xe43961506d057752c623ec169a015062) []
    ∷ outcome 0x7e 0xffffffff (hex 16 0xe13d6e8d619243f2fa6b4980a1ff3359) [] ∷ []))
    (entry 0x3f81 0x3ffff02 ∷ []) by_table (pc 0x3ffff02 & done 1) []
    -- 49-Tb/half-value-top/0
    ∷ runs (block (memory 0x3000008 0x3c 0x3000000 8 false) 0x241cc9d (op (Tb 2 true) 0xff false ∷ [])) (hex 8 0xfffff694db1ba058)
    0xffffffff
    (card (regs 0x0000001c0000000700be326400000080ffff00000000000200010000e6cd6e9d
    0x0001000000000080abc414f6ffffffff00012345ff27818f0000100000000001) 1 0x56de73b8 0 0 0x188b79b7 0
    (hex 60 0x54c8c3a6dd0d934770afb03735042aa0ff604a165697e7e630910cde0a6375bb3500e0bc008bd25e998171c533125c26deb7bb4e135700e80d6f1dfe) []
    (outcome 0x74 1 (hex 60
    0x68187f63e1c7cd81d208ed970e8e8c0895c19023a3b0e3a9cd8b155d22e78093cfe726a6c1e1a7e8e7f228a7c32efd9033bf8c080e48a5778aeff2da) [] ∷ []))
    (entry 0x26cd 0x2434d9a ∷ []) by_return (pc 0x243cd9a & done 1) []
    -- 49-Tb/half-break-start-miss/0
    ∷ runs (block (memory 0x300000c 8 0x3000000 0xc true) 0x3ffff00 (op (Ext 5 9 PartUpper false) 2 true ∷ op (Tb 6 true) 0xff true ∷ []))
    (hex 12 0xa9c7424903ba713d743f1bc5) 0xffffffff
    (card (regs 0x3517d5ccf3399128d1a760767fffffff6180aac00000007fff00000b00000004
    0xfffff000800000008f716bcf0001000000000008c313cd640000000900000000) 0x1000 0xdbd2c40e 1 0xffffffff 0xd2cefb5 0
    (hex 8 0x2a6134734f24b0aa) (hex 2 0x00ff) (outcome 0x52 0xffffffff (hex 8 0xf1be5a9789dfddfc) (hex 2 0x4f0e) ∷ []))
    (entry 0x212a 0x400c255 ∷ []) by_return (reg 5 0x8000 & pc 0x400c255 & done 2) []
    -- 49-Tb/half-break-outcome-hit/0
    ∷ runs (block (memory 0x20000000 9 0x8000000 5 false) 0x2b875ac (op (MovI 9 7) 0 false ∷ op (Mov 6 0xc) 2 true
    ∷ op (RFromSp 0xe 0x100) 6 true ∷ op (Tb 0 true) 0xff true ∷ [])) (hex 5 0x8661cbebba) 9
    (card (regs 0x3d478a0100000001ffffffff000000ff29714c3a000000030000007f4ef8099e
    0x000000081911cd5bffffffde000001000000007fb7f83fb7fa938bfb58e87c08) 3 0xc59e91d8 2 0 0x7f2e9e35 5 (hex 9 0x77832ec993ecf3899d) []
    (outcome 0x83d1 0x100 (hex 9 0x77832ec993ecf389c9) [] ∷ outcome 0x20 0 (hex 9 0x3782701bf9ece6bccc) [] ∷ []))
    (entry 0x3f2a 0x2b97e55 ∷ []) by_return (reg 9 7 & reg 14 0x103 & brk 0x100 & pc 0x2b97e55 & done 9 & ram (hex 9 0x77832ec993ecf389c9))
    (read 0x400000b4 2 8 ∷ [])
    -- 49-Tb/half-break-cleared-hit/0
    ∷ runs (block (memory 0xfffffff8 8 0x1000 6 false) 0x2000000 (op (Tb 8 true) 2 false ∷ [])) (hex 6 0xdf39a0805b75) 0xffffffff
    (card (regs 0x00000ffffffffffcffff8000fffffffde17f3a59000000025962093487e5c24b
    0xfe00006200007fff000010004e1ac9e6e0a7fdb361cf7ae8fffff0012d82612e) 0xae88d711 0x57b95eb7 1 1 0x6d391e3 5 (hex 8 0xe7cad5b2eb552b1e)
    [] (outcome 0xb3a9 0 (hex 8 0xe7cad5b2eb552b1e) [] ∷ outcome 0x6e 0 (hex 8 0x046d316b59bcd831) [] ∷ []))
    (entry 0x33aa 0x2016754 ∷ []) by_table (brk 0 & pc 0x2016754 & done 6) (read 0x64 2 5 ∷ [])
    -- 49-Tb/half-length-255/0
    ∷ runs (block (memory 0x300001c 4 0x3000000 0x1b true) 0x2000000 (op (Tb 0xc true) 0xff false ∷ []))
    (hex 27 0x00008f8bed5b8b0007749141450bf01f1159b0992f99ae03676232) 1
    (card (regs 0xfaa62595000010000000000477531e1a000000040000ffff93cb37560000007f
    0x0000000400fff00000000008ec7e7d8400ffff0100000006ffffffe60000007f) 0x1000 0xfff 0x86356842 0 0xd114451c 0 (hex 4 0xa2b4a314)
    (hex 1 0x80) (outcome 0xc8 0 (hex 4 0xfd8e34d6) (hex 1 0xea) ∷ outcome 0x10 0 (hex 4 0x7a7aa748) (hex 1 0x99) ∷ []))
    (entry 0x7f 0x20000ff ∷ []) by_table (pc 0x20000ff & done 1) []
    -- 49-Tb/half-in-ram-zero/0
    ∷ runs (guarded 0xa000000be0 (block (memory 0 8 0x8000000 0xc false) 0 (op (Un 4 8 SatU) 1 false ∷ op (AddRI 0xd 7 0xffffffdd) 1 true
    ∷ op (Tb 0 true) 2 true ∷ []))) (hex 12 0xd0bf34d336255228f275e7f3) 0xffffffff
    (versions 6 0xa000000be0 6 (card (regs 0x000000027f0903a100000100b4d9857aab232c5b772061974600066c7324b1cb
    0xb424b2591376085cd17bde308454d4733217bcd7f798a5cff5a5ca59ce8b6a2a) 0x21 0xe6df1721 1 0 0x6456e799 5 (hex 8 0x532d71c5aa31ffff) []
    (leaving 6 3 (outcome 0x78 1 (hex 8 0xa9e03c0d615bb699) []) ∷ [])))
    (entry 1 0xb4c981bd ∷ []) by_return (reg 4 0 & reg 13 0x7324b1a8 & pc 0x20002 & done 8) []
    -- 49-Tb/half-table-behind/0
    ∷ runs (guarded 0xa000000a36 (block (memory 0x20000000 8 0x8000000 0x10 true) 0x20000000 (op (MovI 5 0xb7057144) 1 true
    ∷ op (MovI 2 0x80) 1 false ∷ op (Alu3 3 0xd 0xe Mul) 1 false ∷ op (Tb 0xf true) 2 true ∷ [])))
    (hex 16 0xd9e72421e4c899862f289f4552614451) 0xffffffff
    (versions 6 0xa000000a36 6 (card (regs 0x0e49d7360000000700000008c49e1f27000000800000008010d6306c6050434a
    0xfffff001000000080000000765bf0d2600008000531c91d30000000800000000) 0x34b83414 0xbdacf0c3 2 0 0x93c5963a 0 (hex 8 0x30199a2b000026ec)
    (hex 2 0x8080) (leaving 2 3 (outcome 0x75 0xffffffff (hex 8 0x7442a87b7d8ea129) (hex 2 0x34ac)) ∷ [])))
    (entry 2 0x20000005 ∷ []) by_table (reg 2 0x80 & reg 3 0x98e48e98 & reg 5 0xb7057144 & pc 0x20000005 & done 4) []
    ∷ []

pub all_reach : reached cases ≡ expected cases
unfolding run ops_from op_step load direct store read_le write_le signed_of sign_extend leading_zeros
all_reach = refl
