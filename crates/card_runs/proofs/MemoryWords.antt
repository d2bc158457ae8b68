-- Kind 48: operations and right sides, region ends, unaligned words, two requests, the one break check: each run reaches its end.
use mathlib.Core.Bool.{true, false}
use mathlib.Core.List.{List, [], ◌∷◌, ◌++◌}
use mathlib.Core.Path.{◌≡◌, refl}
use Rattle.block.specs.declared.Op.TheVariants.{Add, Sub, RSub, And, AndNot, Or, Xor, Mul}
use Rattle.block.specs.declared.Op.TheVariants.{Shl, Shr, Sar}
use Rattle.block.specs.declared.Rk.TheVariants.{Reg as RkReg, Imm as RkImm, Bit as RkBit}
use Rattle.block.specs.declared.Part.TheVariants.{Upper as PartUpper}
use Rattle.block.specs.declared.Choice.TheVariants.{MinS}
use Rattle.block.specs.declared.UnKind.TheVariants.{Rev, SatS}
use Rattle.block.specs.declared.DivKind.TheVariants.{RemU}
use Rattle.block.specs.declared.Fast.TheVariants.{Nop, MovI, Mov, AddRI, ShlI, SarI, Alu3, Alu3I}
use Rattle.block.specs.declared.Fast.TheVariants.{Alu2, Alu2I, A4, Ext, MinMax, Un, Div, BitExt}
use Rattle.block.specs.declared.Fast.TheVariants.{BitIns, SpAdd, RFromSp, Goto, Call, CallR, MemA4}
use Rattle.card.specs.Card.{read, write}
use Rattle.card.specs.Word.{signed_of, sign_extend, leading_zeros}
use Rattle.card.specs.Memory.{read_le, write_le, load, direct, store}
use Rattle.card.specs.Step.{op_step}
use Rattle.card.specs.Run.{ops_from, run}
use Rattle.card_runs.specs.Case.{Case, runs, reached, expected, block, memory, op, hex, regs, card}
use Rattle.card_runs.specs.Case.{outcome, entry, by_return, by_table, by_chain, reg, sp, rets, hold, brk, pc, done, ram, map, ◌&◌}

abbrev cases : List Case
cases =
    -- 48-MemA4/ram-first/0
    runs (block (memory 0x1000 9 0xfffffff8 6 true) 0x3ffffff (op (MovI 6 0x1000) 2 false ∷ op (MemA4 6 0 And RkBit 0x43b2bdbf) 2 true
    ∷ op (Alu3 3 0 2 Or) 2 false ∷ op (Alu2I 8 0x17755336 Or) 4 false ∷ [])) (hex 6 0x5cdd555ffb49) 0xffffffff
    (card (regs 0xc492194d0000000000000001a11988bcf4fcae4fffff00000000002100000003
    0xffffffff9ba48e426608597b9efc664ef25055460000001600fff00000000000) 4 0x12345 0 0 0x67770543 0 (hex 9 0x78f4bca3147ce7d6e4)
    (hex 3 0x000000) (outcome 0x23 1 (hex 9 0xe45e12f96dacc3bcc2) (hex 3 0x84f044)
    ∷ outcome 0x20 0xffffffff (hex 9 0x15829e82116b53a786) (hex 3 0xb6f038) ∷ []))
    (entry 4 0x4000009 ∷ []) (by_chain 0) (reg 3 0xc492194d & reg 6 0x1000 & pc 0x4000009 & done 4 & ram (hex 9 0x00000000147ce7d6e4)) []
    -- 48-MemA4/ram-last/0
    ∷ runs (block (memory 0x1000 9 0xfffffff8 7 true) 0x2be0b9f (op (MemA4 8 0 Sar RkBit 0x90e84756) 4 true ∷ [])) (hex 7 0x6c81717a706b32)
    1
    (card (regs 0x00000002be487aca0000000400007ffff64665ce0000007f00000000c6326d0d
    0x0000100568b4bb7a0000001f0000000100000001d0bd3a6b00000fff94c4994f) 0x8000 0xffff8000 0 0 0x4f07c24 0 (hex 9 0xf1099c06fd00000080)
    (hex 3 0x800001) (outcome 0 0 (hex 9 0xf17a9c06fd00000080) (hex 3 0x010001)
    ∷ outcome 0xf7 0 (hex 9 0x2105962c98b4b56d0f) (hex 3 0xff731e) ∷ outcome 0xe0 0xffffffff (hex 9 0x7d1b0f12e36ec4741a) (hex 3 0xa90c9e)
    ∷ []))
    (entry 0x5d1 0x2be0ba3 ∷ []) (by_chain 0) (pc 0x2be0ba3 & done 1 & ram (hex 9 0xf17a9c06fd00000080) & map (hex 3 0x010001))
    (write 0x1005 4 0 0xc0000000 ∷ [])
    -- 48-MemA4/ram-over/0
    ∷ runs (block (memory 0x10000 0x30 0x10030 7 true) 0x2000000 (op (A4 0xf 3 Mul RkBit 0xffffffff) 4 true ∷ op (MovI 4 7) 2 true
    ∷ op (MemA4 9 0 Sub RkReg 0x4830cf8b) 6 true ∷ [])) (hex 7 0x9d92b70400df4e) 3
    (card (regs 0x0000000ffffffff10000000de95a47039d1e7c0169a5a09b00000004534bde3b
    0x0056acd30001002d00000fffedfbe5960000002400000003f07e75596778f263) 4 0xfffff000 0 0 0xab713488 0
    (hex 48 0xdca6bf40b1f5207d1835cb81bb72362e3bbfa8498e94a7d61cad1a765a4590c37a1a4a6b83170ae3d1c47d261ae79568)
    (hex 12 0x010101008080800001800100) (outcome 0xa2610588 0 (hex 48
    0xdca6bf40b1f5207d1835cb81bb72362e3bbfa8498e94a7d61cad1a765a4590c37a1a4a6b83170ae3d1c47d261ae79568) (hex 12
    0x010101008080800001800100) ∷ outcome 0x30a1ba0b 0 (hex 48
    0xdca6bf40b1f5207d1835cb810072362e3bbfa8498e94a7d61cad1a765a4590c3981a4a6b83170ae3d1c47d261ae79568) (hex 12
    0x010101008080800001010140) ∷ []))
    [] (by_chain 0) (reg 4 7 & reg 15 0x4ad23818 & pc 0x200000c & done 3
    & ram (hex 48 0xdca6bf40b1f5207d1835cb810072362e3bbfa8498e94a7d61cad1a765a4590c3981a4a6b83170ae3d1c47d261ae79568)
    & map (hex 12 0x010101008080800001010140)) (read 0x1002d 4 2 ∷ write 0x1002d 4 2 0xb4651ff2 ∷ [])
    -- 48-MemA4/xip-last/0
    ∷ runs (block (memory 0x1000000 8 0x2000000 0x10 true) 0x3851c90 (op (MemA4 0xc 0 Shr RkReg 0) 4 true
    ∷ op (Alu3 0xa 3 0xc And) 0xff true ∷ [])) (hex 16 0xe419c3aa2155a6eba8decccfffffff7f) 2
    (card (regs 0x00000001000000079110c96dfffff00180000000843c03010000ffff3d218eb2
    0x000001008b1a72c200000008f7b259840200000c000001006c9a95586d6dbf03) 0xff7371c 0x1f 0 0 0x4b3a9fa7 0 (hex 8 0x121fbefd607769be)
    (hex 2 0x0001) (outcome 0x2eea253e 0 (hex 8 0x1228befd607769be) (hex 2 0x4001)
    ∷ outcome 0xee 0xffffffff (hex 8 0x3f8c932aecfd6a20) (hex 2 0x52ce) ∷ outcome 0x76 0 (hex 8 0x9117af2c97511083) (hex 2 0x92af) ∷ []))
    (entry 0xec9 0x3851d93 ∷ []) (by_chain 0) (reg 10 0x2000000 & pc 0x3851d93 & done 2 & ram (hex 8 0x1228befd607769be)
    & map (hex 2 0x4001)) (write 0x200000c 4 0 0x3fffffff ∷ [])
    -- 48-MemA4/both/0
    ∷ runs (block (memory 0x1000 0x10 0x1000 0x1e false) 0x2284716 (op (RFromSp 2 0x12345) 6 true ∷ op (Mov 2 0xa) 2 true
    ∷ op (Alu3 0xa 4 6 Add) 4 false ∷ op (MovI 4 0x10000) 0 true ∷ op (MemA4 8 0 Shl RkBit 0xe) 4 true ∷ []))
    (hex 30 0xe83907902e81a604a9d36508a8f829292af10463d79ffeb7a9c727556d92) 5
    (card (regs 0xf010bab4fccaae190000001fffffffd9c4269fcb160e6903940fb6b800012345
    0x0000100c00007fff00000000ffff8000e0af4a31d37a477100000021db55a952) 0x7fffffff 0xffffffea 1 0 0x9d00ff95 0
    (hex 16 0xa42262573079ab6cd28fbc24c99bbf63) [] [])
    (entry 0x2393 0x2284726 ∷ []) (by_chain 0) (reg 2 0 & reg 4 0x10000 & reg 10 0x58365683 & pc 0x2284726 & done 5
    & ram (hex 16 0xa42262573079ab6cd28fbc24246ffe8e)) []
    -- 48-MemA4/ram-end-in-xip/0
    ∷ runs (block (memory 0x7ffffff0 0x10 0x7ffffff8 0x10 false) 0x2000000 (op (AddRI 2 0 0x7350d060) 2 true
    ∷ op (MemA4 0xf 0xfffffff7 Or RkImm 0) 6 false ∷ op (SarI 0xe 5 0x1f) 0 false ∷ [])) (hex 16 0x49791cac82292489e6cf244cd34a96b8)
    0xffffffff
    (card (regs 0x00000001d867171602a001fb43d731b4fffff001e2242216000001009121af05
    0x8c32bd49ffffffff4451fa57fffff001d181fc2c73fda343fffffff580000009) 0xfff000 0 0xd0e3b448 0 0x72fbdd57 0xfffffffc
    (hex 16 0x9e874a6111883ea284dbaacbfdae4605) [] (outcome 1 0 (hex 16 0x9e874a6111883ea284dbaacbfdae4605) []
    ∷ outcome 0x3b 1 (hex 16 0x94fc8213f70c9b99f1357558638f34f9) []
    ∷ outcome 0x5a 0xffffffff (hex 16 0x5c73ece4b5813c19239cd6b1edf6538e) [] ∷ []))
    (entry 4 0x2000008 ∷ []) (by_chain 0) (reg 2 0x7350d061 & reg 14 0xffffffff & pc 0x2000008 & done 0xffffffff)
    (write 0x80000000 4 0xfffffffd 0x4c24cfe6 ∷ [])
    -- 48-MemA4/outside-odd/0
    ∷ runs (block (memory 0x1000000 5 0x2000000 0x2f true) 0x2000000 (op (MemA4 2 0x10 RSub RkImm 0) 4 false ∷ []))
    (hex 47 0x81d07c254ed40e28d62abca10e7310c2f3c85745dcd941072f21456db3dc96866150595b7c3dbd39a7fac056974dff) 1
    (card (regs 0xfffffff1ffff8000b2e3868300008000aa0af560ffff8000a84cbb8d00000004
    0x00001000a80894d5fffff001fffffffffffffffe1d2d15a70000010000010000) 4 0 2 0 0x3dda0c85 0 (hex 5 0xddad43b087) (hex 2 0x0000)
    (outcome 0x80000000 0 (hex 5 0xddad43b087) (hex 2 0x0000) ∷ outcome 0x80000000 0 (hex 5 0xddad43b087) (hex 2 0x0000)
    ∷ outcome 0xa0 0xffffffff (hex 5 0xc5349aba65) (hex 2 0x0a05) ∷ []))
    [] (by_chain 0) (pc 0x2000004 & done 1) (read 0xb2e38693 4 0 ∷ write 0xb2e38693 4 0 0x80000000 ∷ [])
    -- 48-MemA4/r=b-ram/0
    ∷ runs (block (memory 0x1000000 0xc 0x2000000 4 false) 0x29528e6 (op (MemA4 9 0x11 And RkReg 0x556490f9) 0xff false ∷ []))
    (hex 4 0xc9fa2774) 0xffffffff
    (card (regs 0xc08d476600000080dcf5d627ffff0000000100000000008000000001ffffffff
    0x0000000400fffff3000001006c7f961e0000000a0000ffff0000000300000100) 0x4d3f391 0xafcfaa8e 2 0 0x88b943e0 0xfffffffe
    (hex 12 0xa2946691ffffffff65ba9377) [] (outcome 0xaa 1 (hex 12 0x841fc50194aa5ad3ef036349) [] ∷ []))
    [] (by_chain 0) (pc 0x29529e5 & done 0xffffffff & ram (hex 12 0xa2946691f3ffff0065ba9377)) []
    -- 48-MemA4/r=b-outside/0
    ∷ runs (block (memory 0x20000000 0x13 0x8000000 6 true) 0x3ffffff (op (AddRI 0xc 0xc 0x23) 4 false ∷ op (AddRI 0 8 0xff) 4 false
    ∷ op (SpAdd 0xa72e0a32) 2 false ∷ op (MemA4 4 0xe Shl RkBit 4) 2 true ∷ [])) (hex 6 0xeeaf87b97c3a) 0xc117ff5a
    (card (regs 0x0000001fc6d5315964e873290000010020000068ffff0000000000ffacecd01e
    0xffffffe207096f843ad1fb73e73e51dff2fea53e91822ea7fffffffe00000007) 0x80715ce0 0xffffffff 2 0 0x87193856 0xfff
    (hex 19 0x5268ffdc0ed73a7302f532b517a48a23a0b8ca) (hex 5 0x8001018001)
    (outcome 0x76aeced 0 (hex 19 0x5268ffdc0ed73a7302f532b517be8ab0a0b8ca) (hex 5 0x8040010001)
    ∷ outcome 0x7653c7d0 0 (hex 19 0x5268ffdc0ed73a7302f532b517be8ab0a0b8ca) (hex 5 0x8040010001)
    ∷ outcome 0xf3 0xffffffff (hex 19 0x382961218bb3717153aac3ec3fa89aaa1626ec) (hex 5 0x18f51abcd2) ∷ []))
    [] (by_chain 0) (reg 0 0xe1 & reg 12 0xf2fea561 & sp 0x279f6712 & pc 0x400000b & done 0x1003
    & ram (hex 19 0x5268ffdc0ed73a7302f532b517be8ab0a0b8ca) & map (hex 5 0x8040010001)) (read 0x20000076 4 0x1002
    ∷ write 0x20000076 4 0x1002 0x76aeced ∷ [])
    -- 48-MemA4/flag-0-at-1-clear/0
    ∷ runs (block (memory 0 0xd 0x2000000 4 false) 0x3ffffff (op Nop 6 false ∷ op Nop 0 true ∷ op (ShlI 0xd 9 0x20) 0xff true
    ∷ op (Alu3 0xd 0xd 5 Sar) 0xff true ∷ op (MemA4 6 0x12345 Xor RkBit 0xe) 4 false ∷ op (MovI 8 0xfffff001) 0x23 true ∷ []))
    (hex 4 0xc595e588) 6
    (card (regs 0x000001000000000a1a8f98ec7fffffff00000000a6946b24fffedcbc186ce666
    0x0000000cffffffe600000007d539ef634cfcd40100007fff0000001f7fffffff) 0 0x217f6865 0x71e78bd2 0 0xb648c1c5 0
    (hex 13 0x82ffffff7f1988e7d6712094b8) [] (outcome 0x24 0xffffffff (hex 13 0x2657e7b83d9e0b564b97ed88d3) []
    ∷ outcome 5 0 (hex 13 0x51dcef8d9c5afdd92632ef163a) [] ∷ []))
    [] (by_chain 0) (reg 8 0xfffff001 & reg 13 0xfffffffe & pc 0x400022a & done 6 & ram (hex 13 0x82ffffffff1988e7d6712094b8)) []
    -- 48-MemA4/flag-1-at-0-clear/0
    ∷ runs (block (memory 0x10000 0xc 0x1000c 0x10 true) 0x3a8ea08 (op (Alu2 9 6 Shr) 0 true ∷ op (MemA4 5 0xffff0000 Shl RkImm 0x21) 2 true
    ∷ [])) (hex 16 0x83b3c1d60dd0aa2321f7cfb8cd4c8446) 0xffffffff
    (card (regs 0x000123451152bb9c000080001e94b38035825c820002000400000000c504e4af
    0x5279f91dceab654244da90570000000653f4d87aee6bfa75adcc30150000007f) 0x54d85790 0xfffffff8 2 0 0x13a43d3e 0
    (hex 12 0x314d7e366362a2912a65d74f) (hex 3 0x000000) [])
    (entry 0x3505 0x3a8ea0a ∷ []) (by_chain 0) (pc 0x3a8ea0a & done 2 & ram (hex 12 0x314d7e36c6c444232a65d74f)) []
    -- 48-MemA4/flag-1-at-0-own/0
    ∷ runs (block (memory 0x7ffffffc 0xd 0x100 8 true) 0x3ffffff (op (MemA4 0xa 0 Shl RkImm 4) 2 false ∷ [])) (hex 8 0x3c1f01316242419c)
    0xffffffff
    (card (regs 0xffff80006976bf1ab1548d2a6547d2c6000010007fffffffeea4251bfffff001
    0x2bf1fc80000000077ffffffc0000001ffffff000000000080000001f00010000) 0x22eb8f39 0x100 1 0 0x77881ef9 5
    (hex 13 0x0c3ed9e2323aab38b9eb25ee5c) (hex 4 0x01000000) (outcome 0 0 (hex 13 0x0c3ed9e2323aab38b9eb25ee5c) (hex 4 0x01000000) ∷ []))
    [] (by_chain 0) (pc 0x4000001 & done 6) (write 0x7ffffffc 4 5 0x2d93e0c0 ∷ [])
    -- 48-MemA4/flag-1-at-0-next/0
    ∷ runs (block (memory 0 0x10 0x2000000 5 true) 0x3ffffff (op (Div 0xe 4 4 RemU) 2 false ∷ op (Alu3 8 0 5 Shl) 0 true ∷ op Nop 2 false
    ∷ op (MemA4 0xc 0 Or RkBit 0xfffffff7) 4 true ∷ [])) (hex 5 0x75d35f30e3) 0x1004
    (card (regs 0x6b2594430000800000000003ffffffff218c677dffff80000000ffff52aa5c6c
    0x7ffffffffffffffe0000002066c74771000000080000001080000000ffffffdf) 0x12345 0xfffffffb 0 0 0x3ab44c4e 0x1000
    (hex 16 0x963e9eb9a97a4cee7ad21583d7d1086f) (hex 4 0x00000001)
    (outcome 0xf8 1 (hex 16 0x52ba19bf73495211c5989d7d9fa0937f) (hex 4 0xcff75e1b) ∷ []))
    (entry 3 0x4000007 ∷ []) (by_chain 0) (reg 8 0x6b259443 & reg 14 0 & pc 0x4000007 & done 0x1004) []
    -- 48-MemA4/flag-1-at-1-clear/0
    ∷ runs (block (memory 0x1000 0xc 0xfffffff8 7 true) 0x3ffffff (op (MemA4 0xc 1 Sar RkBit 4) 4 true
    ∷ op (Ext 0xd 1 PartUpper false) 0 false ∷ op (SarI 2 8 0xff) 0 false ∷ [])) (hex 7 0xca8b3aa37ef85e) 0xd67530e5
    (card (regs 0x8c87181443afca0c00000002ce176ec1000000100645e2ac0000007fb43d34b7
    0x00000024fffffff653edc6f30000000700001000fffffff30000000300000080) 0xb6669ec1 0xfff000 2 0 0x8e207498 0xfff
    (hex 12 0x96ffffff7f1c9d68747499af) (hex 3 0x000000) (outcome 0xf5373bd2 0 (hex 12 0x96ffffffff1c9d68747499af) (hex 3 0x010000) ∷ []))
    [] (by_chain 0) (reg 2 0 & reg 13 0x43af & pc 0x4000003 & done 0x1002 & ram (hex 12 0x96ffffffff1c9d68747499af) & map (hex 3 0x010000))
    (write 0x1001 4 0xfff 0x7fffffff ∷ [])
    -- 48-MemA4/flag-1-at-2-next/0
    ∷ runs (block (memory 0xfffffff0 0x10 0x1000 0xc true) 0x29492b5 (op (MemA4 0xb 2 Shl RkImm 0x3f) 2 true ∷ []))
    (hex 12 0xc1de46d81800b1911d9f5766) 0x1dd9e120
    (card (regs 0x000000ffa2adcbf200001000000000000000008000008000ffff80000000001f
    0x000000ff3f520c890000007ffffffff0ffff80000000001d00007fff00000003) 0xdd5dd69a 0x2c698bed 0 0 0x513ec3d9 0
    (hex 16 0xdb6bffffffff243d51eb73039eab378c) (hex 4 0x00010000)
    (outcome 1 0 (hex 16 0xdb6bffcaffff243d517173039eab378c) (hex 4 0x00000000)
    ∷ outcome 0xeb 1 (hex 16 0xc1c9f0926121905d3163fc018bce3892) (hex 4 0x0ca58c9f) ∷ []))
    (entry 0x95b 0x29492b7 ∷ []) (by_chain 0) (pc 0x29492b7 & done 1 & ram (hex 16 0xdb6bffcaffff243d517173039eab378c)
    & map (hex 4 0x00000000)) (write 0xfffffff2 4 0 0x80000000 ∷ [])
    -- 48-MemA4/flag-1-at-3-clear/0
    ∷ runs (block (memory 0xfffffff0 0xd 0x1000 9 true) 0x3451968 (op (MemA4 3 0 RSub RkImm 0xfffffffe) 4 true ∷ []))
    (hex 9 0xdd5da7f70134f29a46) 1
    (card (regs 0x00001000ffffffff00000008fffffff30000ffff0000000400000020940f8367
    0x657b835f8917ac3015272e2a1cf0061c00012345000123450000008000008000) 0x10000 2 0 0 0x31d2a438 0 (hex 13 0xcc4abcffffff7f7c00ef81a33a)
    (hex 4 0x00000000) (outcome 1 0 (hex 13 0xcc4abcffffffa77c88ef81a33a) (hex 4 0x00000001)
    ∷ outcome 0xd3 0xffffffff (hex 13 0xed31d48739701c638a6ff67170) (hex 4 0xa8cce573) ∷ []))
    (entry 0xcb6 0x345196c ∷ []) (by_chain 0) (pc 0x345196c & done 1 & ram (hex 13 0xcc4abcffffffa77c88ef81a33a) & map (hex 4 0x00000001))
    (write 0xfffffff3 4 0 0x7fffffff ∷ [])
    -- 48-MemA4/op-0-rk-2/0
    ∷ runs (block (memory 0x1000000 0xc 0x2000000 7 true) 0x3974bc8 (op (MemA4 0xe 0xfffffff6 Add RkBit 0xff015244) 2 false ∷ []))
    (hex 7 0x09afa5d7ac3294) 0xffffffff
    (card (regs 0xfffffff7fffff000000000012911772a0000003f699e9a7d07975dfaffffffdb
    0x000000ff0000007f00000001143568fbfffff000483e4d520100000e00000003) 0xf38a1bb8 0x13f9cd4f 0 0 0x7150fc6c 0xfffffffe
    (hex 12 0xcfb2588dffffffffa7c9738a) (hex 3 0x000001) (outcome 0xb 0xffffffff (hex 12 0x23c14264bb6be59ad9ee32b5) (hex 3 0x1bd96b)
    ∷ outcome 0x41 0 (hex 12 0x44dc9c2b37b3856ac54240eb) (hex 3 0x31ace2) ∷ []))
    [] (by_chain 0) (pc 0x3974bca & done 0xffffffff & ram (hex 12 0xcfb2588dffffff7fa7c9738a)) []
    -- 48-MemA4/op-1-rk-0/0
    ∷ runs (block (memory 0xfffffff4 0xc 0x1000 8 true) 0x33fa48e (op (MovI 0xa 0x8000) 6 false ∷ op (MovI 0xf 0xfffffffb) 4 false
    ∷ op (MemA4 0xf 1 Sub RkReg 0xfffffff6) 2 true ∷ [])) (hex 8 0x96cd67e761074c57) 3
    (card (regs 0x0000000400000fffffff8000fffff000000000087fffffff39f83a90c81e90c7
    0x00fff000fffffffffffff000000010001ac4f271000000010000000200010000) 0xdee22657 7 0x254debef 0 0x819864cf 0
    (hex 12 0xa40dea780361b364ffffffff) (hex 3 0x000000) [])
    (entry 0x124d 0x33fa49a ∷ []) (by_chain 0) (reg 10 0x8000 & reg 15 0xfffffffb & pc 0x33fa49a & done 3
    & ram (hex 12 0xa40dea780361b3646fc507c6)) []
    -- 48-MemA4/op-1-rk-1/0
    ∷ runs (block (memory 0x1000000 0xc 0 0x10 false) 0x2000000 (op (MemA4 0xa 0xfffffff4 Sub RkImm 0xdeadbeef) 2 false ∷ []))
    (hex 16 0x5f58a2517f30dc4a445be7661e7f9210) 0x5d3a8998
    (card (regs 0x0000ffff00000008d81f66760000000800000000d9d47b9c047bb16f8151a332
    0xb6b02f41ffff000001000010ffffffff52d726e74b6489c9f9d4892400000015) 3 0xb18be042 0xfea77a5b 0 0x86e0db32 0
    (hex 12 0x9eee6109ffffff7f14ee2b41) [] [])
    [] (by_chain 0) (pc 0x2000002 & done 1 & ram (hex 12 0x9eee6109104152a114ee2b41)) []
    -- 48-MemA4/op-2-rk-0/0
    ∷ runs (block (memory 0x1000 0xc 0xfffffff8 5 true) 0x20278e1 (op (Alu3I 0xe 2 0x7fffffff Add) 4 false ∷ op (Alu3 0xb 0xa 5 Or) 6 false
    ∷ op (MemA4 1 0 RSub RkReg 0xd) 2 false ∷ [])) (hex 5 0x9ebb501099) 0x6158df68
    (card (regs 0x0000007f0000100409af2c5a800000000000000e3cd8ed0b0000ffff00000011
    0xfffff001fffffffe00000002ffffffff00000100000000011ada220500000000) 7 1 0 0 0xe2e56d85 0 (hex 12 0x15a44f5a0000008075237ad8)
    (hex 3 0x010080) (outcome 0xc 0xffffffff (hex 12 0x4677d382e7656c49ef2e7ea3) (hex 3 0x6b8b0f) ∷ []))
    [] (by_chain 0) (reg 11 0x3cd8ed0b & reg 14 0x89af2c59 & pc 0x20278ed & done 3 & ram (hex 12 0x15a44f5a0100008075237ad8)) []
    -- 48-MemA4/op-2-rk-2/0
    ∷ runs (block (memory 0x7ffffffc 0xc 0x100 4 false) 0x2000000 (op (A4 0xb 9 Mul RkBit 0x10000) 0xff false ∷ op (Alu2 6 5 Shr) 4 false
    ∷ op (MemA4 5 0x12 RSub RkBit 0xc) 0xff true ∷ [])) (hex 4 0x358c01ec) 0xffffffff
    (card (regs 0x00fff00028a9f28069645c105089e269800000007ffffff20000000000000000
    0x00012345ffff8000f21bfd13000000ff00000010c7d20b4ad6f4f6870000001f) 1 0 0 0 0x1c4ad09b 0 (hex 12 0xd2ad4c098390c2c4a0aa6da3) []
    (outcome 0xdc 0xffffffff (hex 12 0x4935b9acc3cda3e485a2fe7d) [] ∷ outcome 0x15 1 (hex 12 0x22b46d2b6231a88c53b91e81) [] ∷ []))
    [] (by_chain 0) (reg 11 0xffff8000 & pc 0x2000202 & done 3 & ram (hex 12 0xd2ad4c098390c2c46055935c)) []
    -- 48-MemA4/op-3-rk-0/0
    ∷ runs (block (memory 0x1000000 0x39 0x2000000 6 true) 0x2000000 (op (Un 2 0xc SatS) 0x70 true ∷ op (Alu3 9 0xe 9 And) 0x4d true
    ∷ op (MemA4 0xc 0xffffffff And RkReg 0x7e28d2e5) 4 false ∷ [])) (hex 6 0x758274fecc9b) 0xffffffff
    (card (regs 0x7fffffff00000000fa8a758f000000103629adcdffff0000ef607ebef4d4bcb0
    0x9e5123c364f63d2700007fff0000002001000011992cb146000000020000007f) 0x1000 0xa68197bd 0x586df734 0 0x63d5be2e 0
    (hex 57 0xa45b1518868166fb3ec29818e297c660ffffff7f30aa00c7be5e9fa25d47c1d0712083d7d42a10e6712744496aee9c00f9ba796caed018fb4a)
    (hex 15 0x008080000000000101000000008000) (outcome 0xb5 1 (hex 57
    0xb1c75011d570475aa32a96bdf78801def00657d8e79b166f8020e314f05732663627152f0503dee9ac5c493fcffce713641dbae8d145a22f85) (hex 15
    0x9cf187ff7c8147c07fd812f4cf1d9d) ∷ outcome 0xe0 0 (hex 57
    0x31baaf8fd25d34d9557e8dc7dcc14e93c972e9cb89cac7ea36159bf032ad95abe8849aa55ade33e67e3b7958c49387c1cfe73157e59f6d399b) (hex 15
    0xd8663c8a7381ca55cf0982992acef4) ∷ []))
    [] (by_chain 0) (reg 2 0x7fff & reg 9 2 & pc 0x20000c1 & done 3
    & ram (hex 57 0xa45b1518868166fb3ec29818e297c6600000ff7f30aa00c7be5e9fa25d47c1d0712083d7d42a10e6712744496aee9c00f9ba796caed018fb4a))
    []
    -- 48-MemA4/op-4-rk-1/0
    ∷ runs (block (memory 0xfffffff4 0xc 0x1000 8 true) 0x3ffffff (op (A4 5 7 Shr RkBit 0xffff8000) 6 false ∷ op (Alu2 0xa 2 Shr) 2 false
    ∷ op (MemA4 4 8 AndNot RkImm 0xdeadbeef) 2 true ∷ [])) (hex 8 0x851d92fe18b618c8) 0x84c50e42
    (card (regs 0x00008000a08de39196d1595dffff0000fffffff0fffffffd0000000200008000
    0x00007fff70bb62d54e673df6fffffff1fffffffe000000040000000300001000) 0xd771e501 0x12345 0xe1a25f42 0 0x67249257 0x84c50e3f
    (hex 12 0xcda653ba00000080ed201f6e) (hex 3 0x800080) (outcome 0xa4 0xffffffff (hex 12 0xaf4950f5ea1fd292b11cad5b) (hex 3 0x80794b)
    ∷ []))
    [] (by_chain 0) (reg 5 0x4000 & reg 10 2 & pc 0x4000009 & done 0x84c50e42 & ram (hex 12 0xcda653ba00000000ed201f6e)) []
    -- 48-MemA4/op-5-rk-2/0
    ∷ runs (block (memory 0x1000000 0xc 0x2000000 0x24 false) 0x3ffffff (op (MovI 0xf 0xffffffff) 0xff false ∷ op (MovI 0xa 0x1f) 4 false
    ∷ op (MemA4 0xc 0x16c7b52 Or RkBit 0xfffffffa) 2 false ∷ []))
    (hex 36 0xdf4e58cb34d0ab0cec803fce3519bfe84e01e337bcff158cad4287c5546ef082d6610e5e) 0xffffffff
    (card (regs 0x8bbd3d08d3d8ff94000000023d7e0cad0000ffff0000008045631998ffff8000
    0xc7e29f2fed5a06927ffffffffffffffcff9384b2f8bcba1cfffff00000000013) 0x9f014154 0xffff8000 1 0 0x76050c 0
    (hex 12 0xc6930d6cffffffff07e0336c) [] (outcome 0x1a 0 (hex 12 0x26567e8dfba237e09fba13af) []
    ∷ outcome 0x36 1 (hex 12 0xebe77bb68f6d22d956148a4f) [] ∷ []))
    [] (by_chain 0) (reg 10 0x1f & reg 15 0xffffffff & pc 0x4000104 & done 3) []
    -- 48-MemA4/op-6-rk-0/0
    ∷ runs (block (memory 0xffffffc0 0x3f 0x1000 0x10 true) 0x3ffffff (op (MovI 0xd 0xffffffed) 4 true
    ∷ op (MemA4 8 0 Xor RkReg 0x12aa3d16) 0xff false ∷ [])) (hex 16 0xac712e7ef456706204aa549e53681427) 2
    (card (regs 0x00000007e9040904f7fd6f4600000fff5bc6037fb5894d20deadbeef00000020
    0xffffffc80000007f000100000e97f27f00000002b041cd81a840041700000007) 0xad497363 0xffffffff 0 0 0xbe8802e 0 (hex 60
    0x859c65205bb172afe750a1e442529a933eb858f63312abb6e9c5ff66dd88c7ce3bf344b79de2c1b59b5fc75ad2bbe5a99304b41642773a496d4d2d1f ++ hex 3
    0x999528) (hex 16 0x01800001010080000080010000808080) (outcome 0x71 1 (hex 60
    0x8cf1b51484f5038a4838354d952ec79fa98f8d2e14715061a0efd9a75bf40d148a60d6e0b92d961efdc5dd133f7a7a459a2a97b1ed52234ea11c8092 ++ hex 3
    0xd82122) (hex 16 0x0f3700b4520d4c32340bea67e1725d9b) ∷ []))
    (entry 0x81 0x4000102 ∷ []) (by_chain 0) (reg 13 0xffffffed & pc 0x4000102 & done 2 & ram (hex 60
    0x859c65205bb172af08ee0c3a42529a933eb858f63312abb6e9c5ff66dd88c7ce3bf344b79de2c1b59b5fc75ad2bbe5a99304b41642773a496d4d2d1f ++ hex 3
    0x999528)) []
    -- 48-MemA4/op-7-rk-1/0
    ∷ runs (block (memory 0 0xc 0x2000000 0x14 false) 0x2641323 (op (Ext 8 1 PartUpper true) 0x76 true
    ∷ op (A4 6 0xc Shl RkBit 0x8000) 6 false ∷ op (MemA4 2 0 Mul RkImm 0x3eaf2b39) 4 true ∷ op (CallR 6) 0xa2 false ∷ []))
    (hex 20 0x5879bce8b41143269725d1dbdb1352c49e69aa12) 0x1004
    (card (regs 0x34c7c7060000100000000008000000ff0000001c0000000a00008000fffff001
    0x0000008000000003ffff8000fffffffe0000007fffff8000ffff800080000000) 0xb7bf95d3 0xffff 1 0 0xc52ffa79 0x1000
    (hex 12 0xab723369c09c93d000000000) [] [])
    (entry 0x3f 0x7f ∷ []) by_table (reg 6 0x7f & reg 8 0 & rets 0x2641445 & pc 0x7f & done 0x1004) []
    -- 48-MemA4/op-8-rk-2/0
    ∷ runs (block (memory 0x3000010 0x10 0x3000000 0x10 true) 0x3f5ec2a (op (MovI 0 0x3f) 2 false
    ∷ op (MemA4 9 0 Shl RkBit 0xfffffff0) 4 true ∷ op (A4 1 8 Sar RkImm 0x10000) 2 false ∷ op (Call 8) 4 false ∷ []))
    (hex 16 0xa7a3b54bdc0eed158d2285e250dfa3b3) 0xd17139a2
    (card (regs 0x7fffffffabf38571fffffffefe2727de000000008149ed34fffffffeede3dae7
    0x0001000003000014804fe9047fffffff1166cf2ffffff000fffff000fcd261b2) 0x680d340d 0x292cd843 0 0 0x7f1bc374 0xfff
    (hex 16 0xf6d878ad000000802d893e96e7f2d468) (hex 4 0x01000000)
    (outcome 0xbe 0 (hex 16 0x07667cc0b1f3de5376dcc338660ee1f7) (hex 4 0x9198beeb)
    ∷ outcome 0x66 1 (hex 16 0xcd35295e547a7a3c91c7e90b3aa7b5fd) (hex 4 0xf347fbeb) ∷ []))
    [] (by_chain 0) (reg 0 0x3f & reg 1 0x10000 & rets 0x3f5ec36 & pc 8 & done 0x1003) []
    -- 48-MemA4/op-9-rk-1/0
    ∷ runs (block (memory 0xfffffff4 0xc 0x1000 0x1f false) 0x244222e (op (MinMax 4 6 0xc MinS) 0 false
    ∷ op (MemA4 0xc 0 Shr RkImm 0x1f) 0 false ∷ [])) (hex 31 0x77a504731648f8cd8c94f41b800ab34a80982c9357c7bec5c1b9cc953d7890) 0xffffffff
    (card (regs 0x0000000528f40a8f000001009e01c7490000007fffffffff0000000300000003
    0x80000000000000200000100000008000fffffffcfffff001298d13c80000001f) 0x8513b6e2 0x672b123b 1 0 0x5ea8793f 0xfff
    (hex 12 0x3dd9b7273b21fec700000000) [] (outcome 0xe6 0xffffffff (hex 12 0x62dd3c9e621aaaf66dd6c7fb) []
    ∷ outcome 0xb7 0 (hex 12 0x695eede9b8f918d7751658a6) [] ∷ []))
    [] (by_chain 0) (reg 4 0xfffffffc & pc 0x244222e & done 0x1001) []
    -- 48-MemA4/op-10-rk-0/0
    ∷ runs (block (memory 0x20000000 0xc 0x8000000 0x34 true) 0x3ff1799 (op Nop 4 true ∷ op (Alu3 6 0xb 1 Or) 2 false
    ∷ op (MemA4 0xf 0x20 Sar RkReg 0xfffffff3) 0 false ∷ op (CallR 6) 4 false ∷ []))
    (hex 52 0xbbb18ec993e1ba824d88e1fb4dea043f7545aba2d461f4cdc729d664df768d9165c9cdcc11a60d0d2e7f29c181be61b93acbac75) 4
    (card (regs 0x5663206100000004ffff00000000004080000000000100000000000200012345
    0x55f5c48f000000040000000c00007fff9a22b1180000007f67defbd11fffffe8) 0x163933ef 0x7fffffff 2 0 0x689fd1dc 0
    (hex 12 0xe217018489398b00ffffff7f) (hex 3 0x010000) (outcome 0x67 1 (hex 12 0x0269452dcc628cfd47124663) (hex 3 0xb4bcdc) ∷ []))
    (entry 0x3fff 0x7fff ∷ []) by_table (reg 6 0x7fff & rets 0x3ff17a3 & pc 0x7fff & done 4) []
    -- 48-MemA4/rk-3/0
    ∷ runs (block (memory 0x1000000 0x10 0 0x33 true) 0x2f46284 (op (MovI 1 0x1000004) 4 false ∷ op (MemA4 1 0 Sar RkBit 0xa) 0 true
    ∷ op (Alu2 5 0xd Shr) 4 true ∷ op (Call 0x2f46286) 4 false ∷ []))
    (hex 51 0x87f9e6c21067b05e3dd2ede9fff7c6b0602f4d065ef47fb161b840d6a27c9bf890b42b2121ddba68e249ef952c5321c9f908c8) 0xffffffff
    (card (regs 0x000000ff00000fff33c1662dba8ccf1500012345ffffffffe4c51b54f1fb89a3
    0x00fff0000000001700000010000000ff0000001e00007fff4348858b0000ffff) 0xf4b4bbbf 0xffff8000 0xb9cd37c7 0 0xcce7421e 0xfff
    (hex 16 0xd1026a3b4841bac14eaf3f123aa31fea) (hex 4 0x80000080) [])
    [] (by_chain 0) (reg 1 0x1000004 & reg 5 1 & rets 0x2f46290 & pc 0x2f46286 & done 0x1003) []
    -- 48-MemA4/rk-255/0
    ∷ runs (block (memory 0x20000000 0xc 0x8000000 6 false) 0x260f8e0 (op (MovI 2 1) 4 false ∷ op (MemA4 0xf 0x30973840 And RkBit 2) 2 false
    ∷ [])) (hex 6 0x40b13fd02be3) 0xffffffff
    (card (regs 0x0000100000010000139986f200000004ffff80000000ffff6e6f015e00012345
    0x0000007fffff800000000002800000002187dd270000000800fff000ef68c7c4) 0xfff000 0x3583a90d 0x228b11ce 0 0x36925a47 0
    (hex 12 0xb55eb7fb00000000b5f93c09) [] (outcome 0xf0 0xffffffff (hex 12 0x593e8cb8f7f9038833316845) []
    ∷ outcome 0x9f 0 (hex 12 0x7cd4f232e3318a9774bbe185) [] ∷ []))
    [] (by_chain 0) (reg 2 1 & pc 0x260f8e6 & done 2) []
    -- 48-MemA4/shift-32/0
    ∷ runs (block (memory 0x1000 0xc 0xfffffff8 8 false) 0x24ad48e (op (MovI 8 0x1008) 4 false ∷ op (MemA4 8 0 Sar RkImm 0x20) 4 true ∷ []))
    (hex 8 0x27118e2a6d083898) 0x67786f85
    (card (regs 0x00000100169df80f868a4a8e0000000f00000fff0000001f0000000700000fff
    0xffffffff000000800000000800000016ea2454e5a0efb2690000000300000001) 0xe7fd13dd 0x58b5b7a4 2 0 0x69cf7562 0
    (hex 12 0xa1fa67c0e60c8f4f7bec07fd) [] [])
    (entry 0x2a4b 0x24ad496 ∷ []) (by_chain 0) (reg 8 0x1008 & pc 0x24ad496 & done 2) []
    -- 48-MemA4/shift-255/0
    ∷ runs (block (memory 0x7ffffffc 0xc 0x100 5 false) 0x3ffffff (op (MemA4 0xb 0x1113ba2f Shl RkImm 0xff) 2 true ∷ []))
    (hex 5 0xb4a7138e05) 1
    (card (regs 0x00001000000000004d3c0a2d64291556b5143caf00fff00000fff00000007fff
    0xffffffffe4fe8496ffffffe16eec45d1a3ee8f288978c04c0000000000000008) 0x31d8b1d9 0xfffff000 1 0 0xcc9681ec 0
    (hex 12 0x3a5f04ba00000080fdfb060f) [] (outcome 0x8c 1 (hex 12 0xc4ebce2903c4434b219eb08d) [] ∷ []))
    (entry 0 0x4000001 ∷ []) (by_chain 0) (pc 0x4000001 & done 1 & ram (hex 12 0x3a5f04ba00000000fdfb060f)) []
    -- 48-MemA4/two-requests/0
    ∷ runs (block (memory 0 9 0x2000000 7 false) 0x25bb7e8 (op (Alu3I 0 0xf 0x1f Sub) 2 true ∷ op (MemA4 9 0 Xor RkBit 0x5b5f882c) 2 true
    ∷ op (BitIns 2 0xd 0x40 0x20) 0xff true ∷ [])) (hex 7 0xe2e8512862b7ef) 3
    (card (regs 0x4118ade0ffff800003dbbaaa0001234500000004fffff000760397a32d2f1331
    0x59acf7fc400000020000ffffa7cd2f07000000100000001e00001000fffff001) 0 0xffff0000 2 0 0xce978340 0 (hex 9 0xb583eb298945b27d7b) []
    (outcome 0 0 (hex 9 0xb583eb298945b27d7b) [] ∷ outcome 0x80000000 0 (hex 9 0xb583eb299f45b27d7b) [] ∷ []))
    [] (by_chain 0) (reg 0 0xffffefe2 & reg 2 0x1e & pc 0x25bb8eb & done 3 & ram (hex 9 0xb583eb299f45b27d7b)) (read 0x40000002 4 1
    ∷ write 0x40000002 4 1 0x10000 ∷ [])
    -- 48-MemA4/read-breaks-write-clears/0
    ∷ runs (block (memory 0x7ffffffc 7 0x100 7 false) 0x2956042 (op (Ext 0 0xf PartUpper true) 0xff false
    ∷ op (BitExt 5 0xd 0xff 0x10 true) 4 true ∷ op (MemA4 3 6 And RkBit 0xd) 4 true ∷ op (Mov 4 6) 2 true
    ∷ op (Alu3I 5 9 0xa Sar) 0xa1 false ∷ [])) (hex 7 0xc5312de3ac1eb3) 0xffffffff
    (card (regs 0x000000019389561dffff00000000007affff8000d109d06a7e18c2e6a8ba6223
    0xd0cd8cb8ffffffee329cc1b8bcbb2afa00000001000000040000007f85ff3090) 0x7ba35a67 0x8000 1 0 0x16350007 0 (hex 7 0x09464195055829) []
    (outcome 0xffffffff 0x80000000 (hex 7 0x09464195055829) [] ∷ outcome 1 0 (hex 7 0x09464195055829) []
    ∷ outcome 0xb5 1 (hex 7 0x0804ad9e5f484a) [] ∷ []))
    (entry 0x30f6 0x29561ec ∷ []) (by_chain 0) (reg 0 0xffff85ff & reg 4 0x7e18c2e6 & reg 5 0xffffffff & pc 0x29561ec & done 5)
    (read 0x80 4 2 ∷ write 0x80 4 2 0x10 ∷ [])
    -- 48-MemA4/write-breaks/0
    ∷ runs (block (memory 0x3000010 7 0x3000000 0x10 true) 0x2a9e1a6 (op (MovI 8 0x6220a33c) 4 false ∷ op (MovI 9 0xc530ce33) 4 false
    ∷ op (MemA4 8 0 Shr RkBit 0x3f849719) 6 true ∷ op (BitExt 8 1 0x17 4 false) 0x1d false ∷ op (Mov 0xb 8) 2 false ∷ []))
    (hex 16 0xa9d4c6de99f9d89370681ecbfd9fe27d) 5
    (card (regs 0x21179659ebee3f80021514cefffffffe00010000ac99e17ffffffffe00012345
    0x8d14527930d45d700000000836d09ece00fff000000080005b8d982dffff8000) 0x100 0x80 0 0 0xd891d44 0 (hex 7 0xe1c945a72ccfd8) (hex 2 0x0100)
    (outcome 0xfce3d898 0 (hex 7 0xe1c945a72ccfd8) (hex 2 0x0100) ∷ outcome 0x7fffffff 0x80000000 (hex 7 0xe1c9fda72ccfd8) (hex 2 0x0000)
    ∷ []))
    [] by_return (reg 8 0x6220a33c & reg 9 0xc530ce33 & hold 1 & brk 0x80000000 & pc 0x2a9e1b4 & done 3 & ram (hex 7 0xe1c9fda72ccfd8)
    & map (hex 2 0x0000)) (read 0x6220a33c 4 2 ∷ write 0x6220a33c 4 2 0xfce3d898 ∷ [])
    -- 48-MemA4/both-break/0
    ∷ runs (block (memory 0x20000000 6 0x8000000 5 false) 0x3ffffff (op (ShlI 0xd 0xa 1) 6 true ∷ op (Un 0 0xd Rev) 2 false
    ∷ op (Div 0xe 4 3 RemU) 2 true ∷ op (Un 4 0xf Rev) 2 false ∷ op (MemA4 9 0 Mul RkBit 0xfffffff2) 6 false
    ∷ op (SpAdd 0xfffffff6) 4 true ∷ op (Alu3I 0xd 0xf 0xff And) 0 true ∷ [])) (hex 5 0x32bb355c80) 0x1007
    (card (regs 0x00000001f33bab14000000ff0000010000007fff00000100ffff800000010000
    0x0000008007ffff800000000a5edf38bafffff00000000020000123450000000d) 0xfffffffd 0x8000 0 0 0x6f41936b 0x1000 (hex 6 0x26e16c27efef) []
    (outcome 0x559d6b3e 0xffff0000 (hex 6 0x26e16c27efef) [] ∷ outcome 0x7fffffff 1 (hex 6 0x26ae6c27efef) [] ∷ []))
    [] by_return (reg 0 0x14000000 & reg 4 0xd000000 & reg 13 0x14 & reg 14 0xff & brk 1 & pc 0x4000011 & done 0x1005
    & ram (hex 6 0x26ae6c27efef)) (read 0x7ffff80 4 0x1004 ∷ write 0x7ffff80 4 0x1004 0 ∷ [])
    -- 48-MemA4/xip-read-request-write/0
    ∷ runs (block (memory 0x300000c 0x10 0x3000000 9 false) 0x27910fc (op (MemA4 2 0 AndNot RkImm 0xffffffff) 2 false
    ∷ op (Alu3I 0xa 0xc 0xffffffe5 AndNot) 2 false ∷ [])) (hex 9 0x0daf489693c6be1007) 2
    (card (regs 0xcd62cc270000002403000000fffffff90000001f000000ff00007fffffff8000
    0x0000000455f5cd34ffffffec0000ffff59ac9f87000000020000ffff80000000) 0xfff000 0x7f626437 2 0 0xcb829e16 0
    (hex 16 0x0af8879ac16c51dee243bbc1fc839398) [] (outcome 0x7fffffff 1 (hex 16 0x0af8879ac16c51dee243bbc1fc839398) []
    ∷ outcome 0xdc 0xffffffff (hex 16 0x9df546ef897ec63ea9a284b6f7b11c42) []
    ∷ outcome 0x2d 0xffffffff (hex 16 0x30627e1b2eacf20276b5895663466303) [] ∷ []))
    [] by_return (brk 1 & pc 0x27910fe & done 1) (write 0x3000000 4 0 0 ∷ [])
    -- 48-MemA4/break-start-glue-1/0
    ∷ runs (block (memory 0xffffffd0 0x2f 0x1000 6 true) 0x251780a (op (SarI 7 2 0) 0xf6 false ∷ op (Un 2 5 Rev) 6 false
    ∷ op (MemA4 4 1 Sub RkImm 0xff33cc3e) 4 true ∷ op (Alu2 0xb 0xf RSub) 6 true ∷ op (Goto 0x251780c) 2 false ∷ []))
    (hex 6 0xf0aa3a6cf86a) 0x112bd89e
    (card (regs 0x7fffffffffffffee1f86277500008000ffffffd39a0725618e19e52000fff000
    0x9ac0e56d00007fff0000000c000000080000000bea7a298b0000000700001000) 0x27f98440 0xff 1 1 0xe33a17f3 0xfff
    (hex 47 0x6c63d5d0bb6bfe0a7b6777f3b22b8039193e9f49c9dcc2ca393d0b4d64c22dde4be461447d1ff95b15ddd782513b6a)
    (hex 12 0x000000000000000000000000) (outcome 0x8a 1 (hex 47
    0xd164bf880cee73620dca7850759277c4ae16742f1bd73b75bbd253316b73e70d891c934723d91b4886e4ce56a1411f) (hex 12 0xad9c6f440b146a431b75386d)
    ∷ outcome 0xd0 0xffffffff (hex 47 0x63ef6775d1e6659d93b19f9ec7906f40f8690f89331f414e91f77d7509ea2db9dd313fc139d6a608435240edf1c227)
    (hex 12 0x9ca762b0925d750bde4c446d) ∷ []))
    [] by_return (reg 2 0x6125079a & reg 7 0x1f862775 & pc 0x251790a & done 0x1002
    & ram (hex 47 0x6c63d5d07d9fca0b7b6777f3b22b8039193e9f49c9dcc2ca393d0b4d64c22dde4be461447d1ff95b15ddd782513b6a)) []
    ∷ []

pub all_reach : reached cases ≡ expected cases
unfolding run ops_from op_step load direct store read_le write_le signed_of sign_extend leading_zeros
all_reach = refl
