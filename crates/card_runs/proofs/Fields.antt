-- Kinds 11 to 20: each run reaches its end.
use mathlib.Core.Bool.{true, false}
use mathlib.Core.List.{List, [], ◌∷◌}
use mathlib.Core.Path.{◌≡◌, refl}
use Rattle.block.specs.declared.Op.TheVariants.{Add, Or, Mul, Shr, Sar}
use Rattle.block.specs.declared.Part.TheVariants.{Byte as PartByte, Half as PartHalf, Upper as PartUpper}
use Rattle.block.specs.declared.Choice.TheVariants.{MinS, MaxS, MinU, MaxU}
use Rattle.block.specs.declared.UnKind.TheVariants.{Neg, Abs, Rev, Clz, SatS, SatU}
use Rattle.block.specs.declared.DivKind.TheVariants.{QuoS, QuoU, RemS, RemU}
use Rattle.block.specs.declared.Fast.TheVariants.{Nop, MovI, Mov, ShlI, SarI, Alu3, Alu3I, Alu2}
use Rattle.block.specs.declared.Fast.TheVariants.{Ext, MinMax, Un, Div, Mov2, Mov2I, BitExt, BitIns}
use Rattle.block.specs.declared.Fast.TheVariants.{SpAdd, RFromSp, Call, Rts}
use Rattle.card.specs.Word.{signed_of, sign_extend, leading_zeros}
use Rattle.card.specs.Memory.{read_le, write_le, load, direct, store}
use Rattle.card.specs.Step.{op_step}
use Rattle.card.specs.Run.{ops_from, run}
use Rattle.card_runs.specs.Case.{Case, runs, reached, expected, block, memory, op, hex, regs, card}
use Rattle.card_runs.specs.Case.{outcome, entry, by_table, by_chain, reg, sp, rets, pc, done, ◌&◌}

abbrev cases : List Case
cases =
    -- 11-Ext/part-1-signed-1/0
    runs (block (memory 0x1000000 4 0x2000000 0x19 true) 0x27916f0 (op (Ext 6 0xf PartHalf true) 0xff true ∷ []))
    (hex 25 0xa333f8875346b967da0a1c0a6aaae5523e7a0b62ea71ba0dcc) 0xffffffff
    (card (regs 0x4e4c5443f8cad32fffffffe50110d2b09225f871000000027752b98100000020
    0x412b6f82fffffff6ffffffeefffffffe0001000000007fff4cb5ac5c00008000) 0x1e9a5ef9 0xd8b4601d 0xa123651d 0x80000000 0x7e655f28 0xfff
    (hex 4 0xc1eb2a12) (hex 1 0x01) [])
    [] (by_chain 0) (reg 6 0xffff8000 & pc 0x27917ef & done 0x1000) []
    -- 11-Ext/part-255-signed-1/0
    ∷ runs (block (memory 0x10000 9 0x1000c 5 true) 0x3ffffff (op (Ext 6 0xd PartUpper true) 4 true ∷ [])) (hex 5 0x7f96020891) 0xffffffff
    (card (regs 0x00000003c7b5a2f0000000260000000294bec68b0000ffff775d22707d3cd756
    0x000000104e083ed7692f171500000011d478080600008000800000007d2bbdd1) 0x5deab838 2 0 0xffffffff 0xb7a88830 0xfffffffe
    (hex 9 0x29037cf645e6f4a097) (hex 3 0x000000) [])
    [] (by_chain 0) (reg 6 0 & pc 0x4000003 & done 0xffffffff) []
    -- 11-Ext/bit-7/0
    ∷ runs (block (memory 0x1000000 5 0x2000000 7 false) 0x2000000 (op (MovI 8 0x12345680) 4 false ∷ op (MovI 0xd 0x1d874655) 2 false
    ∷ op (Ext 0xd 8 PartByte true) 0 true ∷ op (BitIns 3 1 2 0x12) 0 false ∷ op (Call 0xd713ab81) 0xff false ∷ []))
    (hex 7 0x0147f0733fa623) 0xffffffff
    (card (regs 0xfffffffe7fffffffffffffff0000001dbd6ba3d3ffff000000000080a4e0a403
    0xd1620183ffff8000000000137ac9fc93eb2cb600000000000000001780000000) 1 4 0 0 0xfc6b424f 5 (hex 5 0x960da3ff57) []
    (outcome 0x39 1 (hex 5 0xce75248eb5) [] ∷ []))
    (entry 0x15c0 0xd713ab81 ∷ []) (by_chain 0) (reg 3 0xffffd & reg 8 0x12345680 & reg 13 0xffffff80 & rets 0x2000105 & pc 0xd713ab81
    & done 0xa) []
    -- 12-MinMax/kind-0-signs/0
    ∷ runs (block (memory 0x10000 5 0x10008 0x10 true) 0x3ffffff (op (Ext 6 0xa PartUpper true) 0xd0 true ∷ op (ShlI 8 2 0x13) 0xff true
    ∷ op (Alu3I 0 9 0x80000000 Or) 0 true ∷ op (SpAdd 0x10000) 0xff false ∷ op (MinMax 0xe 0xc 5 MinS) 0xff false ∷ op Rts 4 false ∷ []))
    (hex 16 0xa36898ea1c884fb7fe7c976c57f0913d) 0xffffffff
    (card (regs 0xb4aa1be3ffffffffffffffdb1ffc30f0000000077fffffff0000000000008000
    0x26a3ca096e44891d000000800000007f80000000000010002ecaeee900000001) 0x7fff 0xdceb629a 0 0 0x1135aed7 0x1000 (hex 5 0x003345c5f0)
    (hex 2 0x8000) (outcome 0xdb 1 (hex 5 0x8b38c0961b) (hex 2 0xf709) ∷ []))
    (entry 0x314d 0xdceb629a ∷ []) by_table (reg 0 0xee44891d & reg 8 0xfed80000 & reg 14 0x80000000 & sp 0x17fff & pc 0xdceb629a
    & done 0x1006) []
    -- 12-MinMax/kind-2-signs/0
    ∷ runs (block (memory 0x10000 0x25 0x10028 6 false) 0x2000000 (op (MinMax 0xc 0xd 7 MinU) 4 true ∷ [])) (hex 6 0x6fefc7c93df4) 1
    (card (regs 0x00fff000000000070001000008def00d000010000f14fa810000002600000001
    0xd7eadb71fffffff2bf011b9f92125933f96573dbffffffff03b85d6600001000) 0xa26156 0xd6536259 0 0 0xa5cf18db 0
    (hex 37 0xfaeed2b45dc95ced521a4db6a39131e92e5b90a06fa29fa136efc96c66337370874a99a5f9) []
    (outcome 0xcc 0 (hex 37 0xec1fde34ffbc4cfaf24a48d70e18195665d5669d6335b46524c9eaa6b47ad16415923a9b34) [] ∷ []))
    [] (by_chain 0) (reg 12 1 & pc 0x2000004 & done 1) []
    -- 12-MinMax/kind-3-signs/0
    ∷ runs (block (memory 0 0x10 0x2000000 0xc true) 0x3ffffff (op (Ext 7 6 PartByte true) 4 false ∷ op (Ext 0xd 0xf PartByte true) 2 true
    ∷ op (MinMax 0xa 1 3 MaxU) 4 true ∷ [])) (hex 12 0x3c7fcc27c913149d108af523) 0xcda887ce
    (card (regs 0x00000100ffffffff3e84d49b0000000117fff6c6d271faf1813d3b68ffffffe7
    0x00010000cfc083d9ffff0000ffffffe600000100000100000000007f00000002) 0xffffffff 0xc368aac9 0 0x100 0x91f50f5d 0xcda887cb
    (hex 16 0xea65d49a959a7cc6d4b38a1e58d0f68b) (hex 4 0x01000100) [])
    (entry 4 0x4000009 ∷ []) (by_chain 0) (reg 7 0x68 & reg 10 0xffffffff & reg 13 2 & pc 0x4000009 & done 0xcda887ce) []
    -- 13-Un/abs-80000000/0
    ∷ runs (block (memory 0x20000000 0x10 0x8000000 6 false) 0x2000000 (op (Un 0 0xc Abs) 2 false ∷ [])) (hex 6 0xa875deca785a) 1
    (card (regs 0x8ef70763000000047d2ee9b7000000020000000400000020e07590a259ef8f15
    0x0000007f00000080000080000000ffff80000000ffffffee0000000100001000) 0x3690cdcb 0xfffff000 1 1 0x7f42425f 0
    (hex 16 0x361c959f3078f0080e660037908e66ba) [] [])
    [] (by_chain 0) (reg 0 0x80000000 & pc 0x2000002 & done 1) []
    -- 13-Un/clz-0/0
    ∷ runs (block (memory 0x1000 5 0xfffffffc 4 false) 0x3ffffff (op (Un 7 0xa Neg) 2 true ∷ op (Mov 7 7) 0 true
    ∷ op (Alu3I 0xf 1 2 Add) 2 false ∷ op (MinMax 0xd 4 0xf MaxU) 2 false ∷ op (MovI 9 0xc81d07a7) 2 false ∷ op (Un 9 5 Clz) 0xff true
    ∷ [])) (hex 4 0x8220e752) 0xffffffff
    (card (regs 0xbc4a2f7bffffffde00fff000991441b900fff00000000000fc005eef00000100
    0x0001234500000001fffffffefffffff700000000c2dd375cfffff0012f2d233e) 0x10000 0x70a4b3cd 2 0xffff0000 0xc0a705be 0 (hex 5 0xb63321a686)
    [] [])
    [] (by_chain 0) (reg 7 2 & reg 9 0x20 & reg 13 0xffffffe0 & reg 15 0xffffffe0 & pc 0x4000106 & done 6) []
    -- 13-Un/sat-s-low/0
    ∷ runs (block (memory 0xfffffff8 8 0x1000 0x10 true) 0x2000000 (op (Un 0 5 SatS) 6 true ∷ op (Call 0xa5f154ab) 0xff false ∷ []))
    (hex 16 0x93951e6ff9c1473c4c7dfd8b86c1b9f6) 0xffffffff
    (card (regs 0xdeadbeef31c65ed6c21541408000000090d0b30dffff80000000100000000001
    0xfffff00100000008000100007fffffff380671c400000020f3a0679ae022d62d) 0x430d3d66 0xff 0 0x80000000 0x5ff378ee 0
    (hex 8 0xe217524f75a82051) (hex 2 0xff00) [])
    [] (by_chain 0) (reg 0 0xffff8000 & rets 0x2000105 & pc 0xa5f154ab & done 2) []
    -- 13-Un/k-7/0
    ∷ runs (block (memory 0x10000 0x10 0x10010 0x10 true) 0x27d3848 (op (Un 0xa 0xf SatU) 0xff true ∷ []))
    (hex 16 0x618e41645b031cbe2ab80e0c4e3bac67) 0xffffffff
    (card (regs 0x0000ffff00000007341be86bffffffff00008000ffff80000000007f00007fff
    0x00000004a7e0b5ae12345678000000ff00000002000001000000008080000000) 0x1f 0xfe3cc7bf 2 0xffff0000 0x522a8e2b 5
    (hex 16 0x62bc5a3d8e0e27c61a4139c67d4033f4) (hex 4 0x00ffff00) [])
    [] (by_chain 0) (reg 10 0 & pc 0x27d3947 & done 6) []
    -- 13-Un/sat-u-high/0
    ∷ runs (block (memory 0x20000000 8 0x8000000 9 false) 0x263a1f4 (op (Un 5 3 SatU) 6 false ∷ [])) (hex 9 0x1cd9a1a726730f7969) 0xffffffff
    (card (regs 0xf2bf7312a6c5035e927a773c0001000061fdf20a80000000dda5d0bb00000008
    0x000000ff00000008ac02a17b00008000458833b40000ffff00000001eaaa46ce) 0xa 0xe77663a9 0 0xffff0000 0x85316d50 5
    (hex 8 0xbda39bca4ad7f877) [] [])
    [] (by_chain 0) (reg 5 0xffff & pc 0x263a1fa & done 6) []
    -- 14-Div/signs-np-k-2/0
    ∷ runs (block (memory 0x10000 0xc 0x1000c 0x10 true) 0x3ffffff (op (Mov 0xd 0xa) 0 false ∷ op (MovI 0xc 0x8000) 4 false
    ∷ op (Div 0xc 0xe 2 RemS) 4 true ∷ [])) (hex 16 0xb638348b0fb69c4ee1a0d67324fea13f) 0xffffffff
    (card (regs 0x00fff00000fff00000000002589949a1fffffffe000123458a93ad50c9db59cd
    0xe3dd4484000000ffffff80007ffffffffffffffe7df4bae3fffffff900000080) 0xfff000 0x53058072 1 1 0x2cb12b90 1
    (hex 12 0x93281eb171b3b601076e83ae) (hex 3 0x800080) [])
    [] (by_chain 0) (reg 12 0xffffffff & reg 13 0xffff8000 & pc 0x4000007 & done 4) []
    -- 14-Div/by-0-k-0/0
    ∷ runs (block (memory 0x7ffffffc 6 0x100 0xc false) 0x318a36c (op (MovI 6 8) 6 false ∷ op (RFromSp 0 0xffff) 4 false
    ∷ op (Un 2 0xe Rev) 0xff true ∷ op (Div 0xb 0xf 4 RemU) 2 false ∷ op (MovI 7 0x25a7ecce) 2 false ∷ op (Div 7 0xf 9 QuoS) 0 false
    ∷ op (SarI 0xd 0xc 8) 6 true ∷ [])) (hex 12 0xeb5433349a3162639c2f776a) 0xffffffff
    (card (regs 0xf30f6a6100000000cda5f134b6254521f46ca5f400000080de091672ffffffdb
    0x8053573a0000000031d44314460c53910000000706390d5080b254c800000000) 0 0x13 2 0 0xd750ffd2 0xfff (hex 6 0xf286b3819504) [] [])
    (entry 0x123f 0x318a47f ∷ []) (by_chain 0) (reg 0 0xffff & reg 2 0xc854b280 & reg 6 8 & reg 7 0 & reg 11 0 & reg 13 0 & pc 0x318a47f
    & done 0x1006) []
    -- 14-Div/by-0-k-2/0
    ∷ runs (block (memory 0x10000 0x29 0x1002c 6 true) 0x3928737 (op (BitIns 8 2 1 4) 0xff true ∷ op (MovI 0xc 0xff) 2 true
    ∷ op (Div 0xa 1 3 RemS) 6 true ∷ [])) (hex 6 0x3c368a9c692d) 3
    (card (regs 0x464c6147ffffffff00000100000000000000001e7fffffff8000000000000100
    0x80000000000100007fffffff8984776f0000001ffffffffe7fffffff00000002) 0x6ead228a 0xffffffff 0 0x80000000 0xe7312875 0
    (hex 41 0xf5213a311cd5938b074a8960e20fd5cc0281e58ae60dfd8de3b83ff497250850b5d91953bf1642bf49) (hex 11 0x008000000180ffffffff00)
    (outcome 0x2c 1 (hex 41 0x1c9368218011345002518afc2223bde1e8b9f8330ae3841459fe4b979045e4e6f60a57ed1785253742) (hex 11
    0x266d838a8de1c5f7326145) ∷ []))
    (entry 0x41f 0x392883e ∷ []) (by_chain 0) (reg 10 0 & reg 12 0xff & pc 0x392883e & done 3) []
    -- 14-Div/80000000-by-ffffffff-k-0/0
    ∷ runs (block (memory 0x1000 7 0xfffffff4 9 false) 0x2000000 (op (MovI 3 0xffffffff) 4 false ∷ op (MovI 9 0xd02b303c) 2 false
    ∷ op (Div 9 0xc 3 QuoS) 6 true ∷ op (Alu3 0 6 8 Mul) 0x6a true ∷ [])) (hex 9 0x02d3538c1625fa3691) 0x1003
    (card (regs 0x47e393410000001f0000001f000000ff859601110000007fba4e4a7f00007fff
    0xfffffff6fffff0007b6b895d0000000080000000fffffffffffff0003944c83c) 0x1000 0xbcf2abe9 2 0xffff0000 0xdbdadc57 0xfff
    (hex 7 0xceac4a32c19222) [] (outcome 0xcb 0xffffffff (hex 7 0x44cabd02fefc54) [] ∷ []))
    [] (by_chain 0) (reg 0 0xb8f1170a & reg 3 0xffffffff & reg 9 0x80000000 & pc 0x2000076 & done 0x1003) []
    -- 14-Div/80000000-by-ffffffff-k-1/0
    ∷ runs (block (memory 0x1000 0xc 0xfffffff8 5 false) 0x200ddf2 (op (MovI 4 0xffffffff) 4 false ∷ op (Div 0xd 7 4 QuoU) 4 true
    ∷ op (MovI 0xa 0x7b8faee6) 6 false ∷ [])) (hex 5 0x91f83f6f9f) 0xffffffff
    (card (regs 0x000000030000000838837c610000010000000008000000ff0000100080000000
    0x000080008ad6e6d8ebc4d00b0000001800000080072e776cdfebd8cbffffffd9) 0xb74747ee 0x3fbc492b 2 0xffff0000 0xa5b55d05 0
    (hex 12 0x65dd61f243b3408ec564f41e) [] [])
    (entry 0x2f00 0x200de00 ∷ []) (by_chain 0) (reg 4 0xffffffff & reg 10 0x7b8faee6 & reg 13 0 & pc 0x200de00 & done 3) []
    -- 14-Div/80000000-by-ffffffff-k-2/0
    ∷ runs (block (memory 0x10000 0x10 0x10010 0x10 true) 0x2000000 (op (Mov2 8 0xc 5 0xd) 2 false ∷ op (MovI 0xf 0xffffffff) 2 false
    ∷ op (Div 5 0xd 0xf RemS) 2 true ∷ [])) (hex 16 0x6397d83b0e596661f7d440d38c53eb58) 0xffffffff
    (card (regs 0x0001234500000008000000120c8e848878b8af3076bb36ca155dd985182981ea
    0x8e57b60c00000020a4005b650000000091808da8800000000000000f00000fff) 0x17 0x41bb6e52 0 0 0xe2992aa5 0
    (hex 16 0xf534ab27fe98c941fc6fe88120565acc) (hex 4 0x00800001)
    (outcome 0x30 1 (hex 16 0x4395cfda1dc940fcd8dfb8f7bcdef479) (hex 4 0x0e2609c1) ∷ []))
    (entry 3 0x2000006 ∷ []) (by_chain 0) (reg 5 0 & reg 8 0x76bb36ca & reg 12 0x80000000 & reg 15 0xffffffff & pc 0x2000006 & done 3) []
    -- 14-Div/80000000-by-ffffffff-k-3/0
    ∷ runs (block (memory 0x300000c 9 0x3000000 0xc true) 0x2000000 (op (Ext 0xb 1 PartUpper true) 0xc4 true
    ∷ op (MovI 4 0xffffffff) 4 false ∷ op (Div 0xe 5 4 RemU) 4 true ∷ [])) (hex 12 0x11a9afa864922fc74ebc46b6) 3
    (card (regs 0xb7d32cd10000000824d488b800000020ff8e85af8000000000000020c3329ab5
    0xfffff0014d19c472b4090be24013c93c0000ffff4f8c4d4158b51dc80d7496b5) 0x84909325 0x1a 2 0xffff0000 0x41a5446e 0
    (hex 9 0x9f135d125be83be4f7) (hex 3 0x010180) [])
    (entry 0x66 0x20000cc ∷ []) (by_chain 0) (reg 4 0xffffffff & reg 11 0 & reg 14 0x80000000 & pc 0x20000cc & done 3) []
    -- 15-Mov2/dh=dl/0
    ∷ runs (block (memory 0x7ffffffc 0x10 0x100 7 true) 0x3d5f15e (op (Mov2 0xe 0xe 2 6) 2 true ∷ [])) (hex 7 0xe38f6ef9243a8a) 0x2a86554f
    (card (regs 0xc54708000000000400000000000123450000000000001000ad8c1cae00000008
    0x000080000dbec25f000000800000000700010000ffff00006475cae0fffff001) 0xfffffffe 3 0xcdb0380a 0x80000000 0x738ed7ba 0xfff
    (hex 16 0x14e3841c52c9acf96bc851321f8562de) (hex 4 0x00800100) [])
    [] (by_chain 0) (reg 14 0xad8c1cae & pc 0x3d5f160 & done 0x1000) []
    -- 15-Mov2/dl=sh/0
    ∷ runs (block (memory 0x1000 4 0xfffffff0 0x10 false) 0x3ffffff (op (Mov2 1 0xc 0xc 0xb) 0xff true ∷ op Nop 2 true
    ∷ op (ShlI 3 0xb 0x21) 0xe false ∷ [])) (hex 16 0x84e5e428f294f17a12b812be2f6eec0f) 0xffffffff
    (card (regs 0xfffffff500000001aca007e20000ffff43780369a75bc36ac76c4186fd54149d
    0x0000ffff0000001f0000000312345678fffffffe00000004ffffffdffffffff0) 0xfff000 0x7f4cf1d7 1 0 0xbbe45f1b 0 (hex 4 0xe987842f) [] [])
    [] (by_chain 0) (reg 1 0xfffffffe & reg 3 0x2468acf0 & reg 12 0x12345678 & pc 0x400010e & done 3) []
    -- 15-Mov2/dh=sl,dl=sh/0
    ∷ runs (block (memory 0x3000008 0xd 0x3000000 8 true) 0x2000000 (op (Mov2 0 4 4 0) 0xff true ∷ [])) (hex 8 0xebf272d1ec7efad7) 1
    (card (regs 0xf48619fd00000001ffffffe10000002000000001edd2d7731c8d2bd100000003
    0x00008000ac13753baa98d3d00000001f21b8ea3583007ad9009e598fffffffe4) 8 0xbd236edd 0 0 0xb3a82ccf 0
    (hex 13 0x1f4425b95089b25da0f7051468) (hex 4 0x00018000) (outcome 0xed 0 (hex 13 0x27ce90f72af30df0afd82ae953) (hex 4 0x1918525a)
    ∷ []))
    [] (by_chain 0) (reg 0 1 & reg 4 0xf48619fd & pc 0x20000ff & done 1) []
    -- 16-Mov2I/v-80000000/0
    ∷ runs (block (memory 0x1000000 9 0x2000000 5 false) 0x3c8958c (op (Alu2 0xb 3 Shr) 0 true ∷ op Nop 4 true
    ∷ op (Mov2I 5 0 0x80000000) 0xff true ∷ [])) (hex 5 0xa6dee6383d) 0xffffffff
    (card (regs 0xb8877ddc0000800000007fff000000220eecb6eb788fbec300fff00080000000
    0x00000002fffffffe000080006a8498cd47fa4c33000080001cf84dcefffff000) 0x6d4a1ff1 0x36c6f17b 2 0x80000000 0xd5263f46 0xfff
    (hex 9 0x9f0f02553f410892b9) [] [])
    (entry 0xb47 0x3c8968f ∷ []) (by_chain 0) (reg 0 0x80000000 & reg 5 0xffffffff & reg 11 0x1aa12633 & pc 0x3c8968f & done 0x1002) []
    -- 16-Mov2I/dh=dl-80000000/0
    ∷ runs (block (memory 0x10000 7 0x10008 7 true) 0x3ffffff (op (SpAdd 3) 0xff false ∷ op (Mov2I 4 4 0x80000000) 6 true ∷ []))
    (hex 7 0x8de0d663294d8f) 3
    (card (regs 0xffff8000000000074d812406000000ff7fffffff800000007fffffff3b3f5d20
    0x00000000fffff00100000008c44367a5dd371f70091b2489000000021cf7f216) 0x78024416 0xc8d40e1e 0 0x100 0x1f68fb45 1
    (hex 7 0x73a802b9ba2f6c) (hex 2 0xff01) [])
    [] (by_chain 0) (reg 4 0xffffffff & sp 0x78024419 & pc 0x4000104 & done 3) []
    -- 17-BitExt/p-4-l-0/0
    ∷ runs (block (memory 0x300000c 8 0x3000000 9 false) 0x2000000 (op (ShlI 6 0xc 0x20) 2 true ∷ op (Mov 1 3) 2 false
    ∷ op (BitExt 2 0xf 4 0 false) 6 false ∷ [])) (hex 9 0xcbe4f3c87238c19135) 0xffffffff
    (card (regs 0xffffffdeffff8000ffffffff16105e3effffffff14d4c3d700012345fffffff5
    0xf4f32b1d27cd506634aec4728b59183d00000100312c598effff800080000000) 0xf8d7f2ab 7 2 0 0xdeef0234 5 (hex 8 0xe610a116dff57a41) [] [])
    (entry 5 0x200000a ∷ []) (by_chain 0) (reg 1 0x16105e3e & reg 2 0x8000000 & reg 6 0x100 & pc 0x200000a & done 8) []
    -- 17-BitExt/sign-bit-set/0
    ∷ runs (block (memory 0x300000c 5 0x3000000 0xc true) 0x2000000 (op (Mov2 1 5 2 6) 4 true ∷ op (MovI 4 0x12345687) 4 false
    ∷ op (MovI 0xf 0x80) 4 false ∷ op (BitExt 0xf 4 4 4 true) 2 true ∷ [])) (hex 12 0xb2d87b6a5494c01f53d76dea) 0x2c60b12a
    (card (regs 0x3a38dd6fffffffff0000000ce56a5d59ffff8000a193d46000000000ffffffe2
    0x00000003555017e000008000373bd9ac0000008021351c33ffffffe9ffffffe6) 0xff 0x3e06ab26 0 0x100 0x3970d8aa 0 (hex 5 0x017e120baa)
    (hex 2 0x0100) [])
    (entry 7 0x200000e ∷ []) (by_chain 0) (reg 1 0xc & reg 4 0x12345687 & reg 5 0 & reg 15 0xfffffff8 & pc 0x200000e & done 4) []
    -- 18-BitIns/document-01/0
    ∷ runs (block (memory 0x1000 9 0xfffffff0 0x10 true) 0x3ffffff (op (BitIns 0xd 4 4 0) 4 false ∷ []))
    (hex 16 0x9c100cd0986ae9b4dc1eda6c1f560f91) 0x630f7f6
    (card (regs 0x00007fff0000007ffffff00100000100123456780000ffff800000003c6622dd
    0x0000000389ebca02be2c57ae0000ffff46de3fccabcdef0100000fff00007fff) 7 0x96d73f8d 0xc2367451 1 0x96692e06 5
    (hex 9 0x1c60e860e527c5d4be) (hex 3 0x000101) [])
    [] (by_chain 0) (reg 13 0x23456781 & pc 0x4000003 & done 6) []
    -- 18-BitIns/p-28-l-8/0
    ∷ runs (block (memory 0x1000 5 0xfffffff8 6 false) 0x3692c8a (op (Div 0xb 0xc 3 QuoU) 2 true ∷ op (MinMax 2 5 0 MaxS) 6 true
    ∷ op (BitIns 7 3 0x1c 8) 4 true ∷ [])) (hex 6 0xc8239affe14d) 0xffffffff
    (card (regs 0x00000100000000020000010080000000ffff800000007fff000000041457840d
    0x0000007f7ffffffffffff000fd61a5920000000dcce3340d1f0fd131446f1dd9) 0xffff0000 0x607148e6 2 0 0xf96a8746 1 (hex 5 0xbd58c26477) [] [])
    [] (by_chain 0) (reg 2 0x7fff & reg 7 0x457840d & reg 11 0 & pc 0x3692c96 & done 4) []
    -- 19-SpAdd/wraps/0
    ∷ runs (block (memory 0x10000 8 0x10008 0x10 true) 0x2ced119 (op (ShlI 1 6 0x1f) 0xff false ∷ op (SpAdd 1) 4 true
    ∷ op (Mov2I 1 7 0x20) 2 true ∷ op (Alu2 5 7 Sar) 0xff false ∷ [])) (hex 16 0x07f9ac19f951c26412cc1c572b68d970) 0xffffffff
    (card (regs 0xafbb92dd000000801954f73ee4c1e0e90000010034b8c2109deafc5fe3ea54d6
    0xfffff001ffffffff76e0212a76c2d50b86c0bed5000000080000000800008000) 0xffffffff 0x80000000 0x708fa13c 0x80000000 0xb17146ec 0
    (hex 8 0x0f5fcc268e092c2d) (hex 2 0x0101) [])
    (entry 0x298e 0x2ced31d ∷ []) (by_chain 0) (reg 1 0 & reg 7 0x20 & sp 0 & pc 0x2ced31d & done 4) []
    -- 20-RFromSp/after-SpAdd/0
    ∷ runs (block (memory 0 6 0x2000000 5 false) 0x2000000 (op (SpAdd 0xe02dd5f5) 2 false ∷ op (RFromSp 4 0x37947771) 2 false ∷ []))
    (hex 5 0x349a74fd4f) 0xffffffff
    (card (regs 0xfffffff2aa28838a0000008000000100320a11959b7ca6a80000001f00000008
    0x3f663e3d000000800000007f080a2df70000000b0f03054400000080194cd36e) 0x70595eb3 0xfff 2 0x80000000 0xd16c9b55 0x500c3ffe
    (hex 6 0x5e5d7e290635) [] (outcome 0x1d 1 (hex 6 0xc02ec9a798c0) [] ∷ []))
    [] (by_chain 0) (reg 4 0x881bac19 & sp 0x508734a8 & pc 0x2000004 & done 0x500c4000) []
    ∷ []

pub all_reach : reached cases ≡ expected cases
unfolding run ops_from op_step load direct store read_le write_le signed_of sign_extend leading_zeros
all_reach = refl
