-- Kind 40: region ends, breaks within the group, the code map, registers kept: each run reaches its end.
use mathlib.Core.Bool.{true, false}
use mathlib.Core.List.{List, [], ◌∷◌}
use mathlib.Core.Path.{◌≡◌, refl}
use Rattle.block.specs.declared.Op.TheVariants.{RSub, AndNot, Or, Mul, Shr}
use Rattle.block.specs.declared.Rk.TheVariants.{Bit as RkBit}
use Rattle.block.specs.declared.Part.TheVariants.{Upper as PartUpper}
use Rattle.block.specs.declared.Choice.TheVariants.{MaxU}
use Rattle.block.specs.declared.UnKind.TheVariants.{Not, SatU}
use Rattle.block.specs.declared.Fast.TheVariants.{MovI, Mov, AddRI, ShlI, SarI, Alu3, Alu2, Alu2I}
use Rattle.block.specs.declared.Fast.TheVariants.{A4, Ext, MinMax, Un, Mov2I, BitExt, BitIns, SpAdd}
use Rattle.block.specs.declared.Fast.TheVariants.{RFromSp, Goto, Rts, GotoR, CallR, BlockMove}
use Rattle.block.specs.Block.{places}
use Rattle.card.specs.Card.{read, write}
use Rattle.card.specs.Word.{signed_of, sign_extend, leading_zeros}
use Rattle.card.specs.Memory.{read_le, write_le, load, direct, store}
use Rattle.card.specs.Step.{op_step, load_all, store_all}
use Rattle.card.specs.Run.{ops_from, run}
use Rattle.card_runs.specs.Case.{Case, runs, reached, expected, block, memory, op, hex, regs, card}
use Rattle.card_runs.specs.Case.{outcome, entry, by_return, by_table, by_chain, reg, sp, rets, hold, brk, pc, done, ram, map, ◌&◌}

abbrev cases : List Case
cases =
    -- 40-BlockMove/load-ram-first/0
    runs (block (memory 0 0xf 0x2000000 0x18 false) 0x3ffffff (op (BlockMove 4 0x2024 false true true) 6 true
    ∷ op (Ext 3 5 PartUpper true) 2 true ∷ [])) (hex 24 0x206d3d4b2fc1ac8d49d3120be6a96ad79caf3a5bc860e452) 0xffffffff
    (card (regs 0x0000000800000080fffffff285e5a7ed0000000cffffffe50000ffff38c0f23f
    0xfc7cfd04ffffffff00008000b830dda50000000de48e7f6044b8d626e7eab449) 0x84deacf9 0x100 0x1b11154f 0 0x6aca47df 0
    (hex 15 0x72e590bfcc63abd2712c3d7cf9f2d9) [] (outcome 0xc3 0 (hex 15 0x65a03f907e908907078e9f23cffd3c) [] ∷ []))
    (entry 3 0x4000007 ∷ []) (by_chain 0) (reg 2 0xbf90e572 & reg 3 0xffffd2ab & reg 4 0 & reg 5 0xd2ab63cc & reg 13 0x7c3d2c71
    & pc 0x4000007 & done 2) []
    -- 40-BlockMove/load-ram-mid/0
    ∷ runs (block (memory 0x1000000 0x18 0 9 true) 0x39d4d29 (op (BitExt 0xc 9 0x20 0xeb false) 0xff true ∷ op (MovI 0xf 0x100000c) 4 false
    ∷ op (BlockMove 0xf 0xc0 false true true) 6 false ∷ [])) (hex 9 0x13eaf5b425ba81fccb) 3
    (card (regs 0x0000000700000100ffffffe70000001f810af67100000026dcdf8c76fffffff6
    0x976568772c6d8076000000200000ffff00fff0000000001b27462c4b22a29fa8) 0x7fff 0xffff0000 2 0 0x255d0fc6 0
    (hex 24 0x779da67adb5e7229714f4ebbf1d01d9fb45cced0c4730043) (hex 6 0x00ffffff0001)
    (outcome 0xb8 0 (hex 24 0x904c960fe2dfd5ba90cb3b856c1f9154a0654311f063fe5b) (hex 6 0x1ded4bb8d5e3) ∷ []))
    [] (by_chain 0) (reg 6 0x29725edb & reg 7 0xbb4e4f71 & reg 12 0x76 & reg 15 0x1000004 & pc 0x39d4e32 & done 3) []
    -- 40-BlockMove/load-ram-exact/0
    ∷ runs (block (memory 0x3000010 0x10 0x3000000 0x10 true) 0x3ffffff (op (BlockMove 3 0xa280 false true true) 2 true ∷ []))
    (hex 16 0xc7556aa8274dd038fa851efb32d27e7a) 1
    (card (regs 0x000000050000000a27061fbe0300002061a4162100001000fa3a4c3200000000
    0x4e8f8e49000000090000001f9a291d5bcd5c2f1bffffffe1800000003e1d485e) 0x80 0x47a3603d 1 0 0x41e8b046 0
    (hex 16 0x5f6c22d672f1c98ad6f29c194afde746) (hex 4 0x80ff0100)
    (outcome 0xdb 0xffffffff (hex 16 0x88be279d355030c91a9b011cca43ef1f) (hex 4 0xf8e7c085)
    ∷ outcome 0x39 1 (hex 16 0xce566ea61306a854c027040446ee98a7) (hex 4 0x1821a4ea) ∷ []))
    (entry 0 0x4000001 ∷ []) (by_chain 0) (reg 3 0x3000010 & reg 7 0xd6226c5f & reg 9 0x8ac9f172 & reg 13 0x199cf2d6 & reg 15 0x46e7fd4a
    & pc 0x4000001 & done 1) []
    -- 40-BlockMove/load-ram-over-1/0
    ∷ runs (block (memory 0x1000000 8 0x2000000 8 true) 0x2000000 (op (Alu3 4 0xd 9 Mul) 4 true
    ∷ op (BlockMove 9 0x802 false true true) 0xff false ∷ [])) (hex 8 0xf79bf2a1badaf0af) 0x2b7d0324
    (card (regs 0x8b917da7000000037e0edbd1fffffffffffff0007843a9d841e00ce7c2f38edb
    0x000000200100000900000008000100002cb388b97e2653d3b744298b00000009) 0 0x7f 0 0 0xbf331c9d 1 (hex 8 0x5d05f646eacf3fdd) (hex 2 0x0000)
    (outcome 0x9a4acbb6 0 (hex 8 0x5d05f646eacf3fdd) (hex 2 0x0000) ∷ outcome 0xd4 0 (hex 8 0x6c5ce98e45f08af4) (hex 2 0x0d7a)
    ∷ outcome 0xe2 1 (hex 8 0x13b996e00c359425) (hex 2 0xb6b4) ∷ []))
    [] (by_chain 0) (reg 1 0xea46f605 & reg 4 0x4258f26b & reg 9 0x1000001 & reg 11 0x9a4acbb6 & pc 0x2000103 & done 3) (read 0x1000005 4 2
    ∷ [])
    -- 40-BlockMove/load-ram-before/0
    ∷ runs (block (memory 0xfffffff0 0x10 0x1000 0xc true) 0x2000000 (op (BitExt 6 2 0x40 0x1f true) 4 false
    ∷ op (AddRI 8 0xe 0x865e86c) 0xff false ∷ op (BlockMove 9 0x2401 false true false) 0 false ∷ op (A4 2 1 AndNot RkBit 0xfff) 0 false
    ∷ op (GotoR 3) 4 false ∷ [])) (hex 12 0x3f36f7661416e98135f0031c) 0x925bbbba
    (card (regs 0x00001000de6a2f0d22527b4f7c2f1d82800000000000000300000001570c2bc8
    0xe5146c08ffffffec0000007f7fffffff0000001f00001000fffff00000000003) 0x77544d58 0 0x556ab810 0 0xca2e692e 0x925bbbb5
    (hex 16 0x8a2e4e7186e641be3adc67249b48f19a) (hex 4 0x80000000)
    (outcome 0x80000000 0 (hex 16 0x8a2e4e7186e641be3adc67249b48f19a) (hex 4 0x80000000) ∷ []))
    (entry 0xec1 0x7c2f1d82 ∷ []) by_table (reg 0 0x80000000 & reg 2 0xde6a2f05 & reg 6 0x22527b4f & reg 8 0x865d86c & reg 9 0xfffffff8
    & reg 10 0x714e2e8a & reg 13 0xbe41e686 & pc 0x7c2f1d82 & done 0x925bbbba) (read 0xffffffec 4 0x925bbbb7 ∷ [])
    -- 40-BlockMove/load-xip-last/0
    ∷ runs (block (memory 0x3000010 0x14 0x3000000 0xe false) 0x3a010cd (op (Alu2I 3 0x20 Shr) 2 true ∷ op (Un 3 0xf Not) 0 false
    ∷ op (AddRI 8 0xa 0x20) 0xde true ∷ op (BlockMove 4 0x8802 false false true) 2 true ∷ [])) (hex 14 0x6fba944a119f8c75afc2bf643d8a)
    0xffffffff
    (card (regs 0x1ec2f81150827f4a000080000d0cb2ea0300000efffff00000001000a047204d
    0x00007fff00fff0007fffffff7be264f400000020d03293530000000dffffffdc) 0x7fffffff 0x595a337c 0 0 0x74020b79 0xfff
    (hex 20 0xfd64db2e5d1496b12829fc8e97cb6240b1c3422b) [] (outcome 0xd8 0xffffffff (hex 20 0xbba5c682705f0f8d39584a4b3de261eac187c677) []
    ∷ []))
    [] (by_chain 0) (reg 1 0x9f114a94 & reg 3 0x23 & reg 8 0x8000001f & reg 11 0xc2af758c & reg 15 0x8a3d64bf & pc 0x3a011af & done 0x1003)
    []
    -- 40-BlockMove/load-xip-over-4/0
    ∷ runs (block (memory 0x7ffffffc 0x10 0x100 0x14 true) 0x389689c (op (BlockMove 9 0x4026 false false false) 0 true
    ∷ op (Goto 0x10000) 6 true ∷ [])) (hex 20 0xd7a0a858a42feb9302b5e1fcfa1501c5bfe7c3d1) 0xffffffff
    (card (regs 0x00010000000123453524ada000000008faa69414800000000000007f00000100
    0xffff8000000001084b33fe680000000010df2468e2783efafffff0011744e900) 0xfb3c4c37 0x87600be5 0 0 0x99b9023f 0xfffffffd
    (hex 16 0xb15e74daa3ceac160b4697406f4c1931) (hex 4 0x80008080)
    (outcome 0x80000000 0 (hex 16 0xb15eacdaa3ceac160b4697406f4c1931) (hex 4 0x80008000)
    ∷ outcome 0xc6 0 (hex 16 0x0dff0ee6f01edf0129b8208fd8b5113c) (hex 4 0x59d59f42) ∷ []))
    (entry 0 0x10000 ∷ []) (by_chain 0) (reg 1 0xfce1b502 & reg 2 0xc50115fa & reg 5 0xd1c3e7bf & reg 14 0x80000000 & pc 0x10000
    & done 0xffffffff & ram (hex 16 0xb15eacdaa3ceac160b4697406f4c1931) & map (hex 4 0x80008000)) (read 0x114 4 0xfffffffd ∷ [])
    -- 40-BlockMove/load-ram-to-xip/0
    ∷ runs (block (memory 0x10000 0x14 0x10014 0x10 true) 0x2000000 (op (BlockMove 0xc 0x580 false true false) 4 false ∷ []))
    (hex 16 0x3650ac9bfb02ae4ca92bc32eb754d8f0) 1
    (card (regs 0xffffffdeffffffe500000004569ad5011dfbfb30fffffff80000001f00000100
    0x000000045b50578bffffffdeffff00000001000c000000800000010000010000) 0xbb942619 0x10000 0x6581842b 0 0x91bdabeb 0
    (hex 20 0x13d6b0776916b9990f0097f43c65904ba2054680) (hex 5 0x000000ff01)
    (outcome 0x98 0xffffffff (hex 20 0xf52915aaa296207c766278e6dbd30c98846ab204) (hex 5 0xc23e3e4deb) ∷ []))
    [] (by_chain 0) (reg 7 0x4b90653c & reg 8 0x804605a2 & reg 10 0x9bac5036 & reg 12 0x10018 & pc 0x2000004 & done 1) []
    -- 40-BlockMove/load-ram-to-xip-odd/0
    ∷ runs (block (memory 0x10000 0xc 0x1000c 0x1c true) 0x34c4131 (op (Alu3 3 6 0xb RSub) 2 false
    ∷ op (BlockMove 6 0x580 false false true) 4 true ∷ [])) (hex 28 0x28ec9d565b8d2ccbf8cf21499aebca2edb714867b1b6644180adaf4d) 0xffffffff
    (card (regs 0x0000800090f8f7e16df36688453087b10000007f0000ffff0001001786fe3780
    0x000000032ee7b6f1ffffffff916adae45750165500008000069aaaa300012345) 0x57987ab3 0xffffffdc 0xa34a9c8f 0 0x8b60ecb0 0xfffffffd
    (hex 12 0xdd5ad79ee4250d5a7147ec7c) (hex 3 0x800080) (outcome 0xffffffff 0 (hex 12 0xdd5ad79ee4250d5a7147ec7c) (hex 3 0x800080) ∷ []))
    [] (by_chain 0) (reg 3 0x9169dacd & reg 7 0xffffffff & reg 8 0x2c8d5b56 & reg 10 0x21cff8cb & pc 0x34c4137 & done 0xffffffff)
    (read 0x1000b 4 0xfffffffe ∷ [])
    -- 40-BlockMove/load-xip-to-ram/0
    ∷ runs (block (memory 0x1000c 0x10 0x10000 0xc true) 0x2000000 (op (MovI 5 0x10014) 4 false
    ∷ op (BlockMove 5 0xa80 false true true) 0xff true ∷ [])) (hex 12 0x5996890f4c490c00f356d293) 0xffffffff
    (card (regs 0xcf874525fffffffa00000080ffff0000d95c4100fffffffe2b37d9b800000002
    0x000080003398cc97000000152503fcea7fffffff7fffffff00000008ffffffed) 0xb34f8ef6 0xffffffff 1 0 0x89a6c18b 0
    (hex 16 0x94c5c57bd9d63fcda4edd11d4520ea86) (hex 4 0x00800001)
    (outcome 0xe0 1 (hex 16 0x049674f0185bbb23ecc03a52c9f09096) (hex 4 0x599c872a)
    ∷ outcome 0xd7 0 (hex 16 0x51747dd3bd3ffd777a721c20400d9412) (hex 4 0xe88454d1) ∷ []))
    [] (by_chain 0) (reg 5 0x10008 & reg 7 0x93d256f3 & reg 9 0x7bc5c594 & reg 11 0xcd3fd6d9 & pc 0x2000103 & done 2) []
    -- 40-BlockMove/load-both/0
    ∷ runs (block (memory 0x1000 0x12 0x1000 0x18 false) 0x3ce19aa (op (BlockMove 0xa 0x1910 false true false) 6 false
    ∷ op (BitIns 1 0xb 0x12 0x21) 2 true ∷ op (Goto 0xffff0000) 4 true ∷ [])) (hex 24 0xa8cc8082b1f1bb807c7921de986ce9baf82ece872f310d1c)
    0xfadb9462
    (card (regs 0xfffff0007e475a99c44e77c70000ffffb76c429d00000fffa583ed7c00012345
    0xfffffff6257120c900001000ffffffe09986141e00000003fffffff544b52ab4) 0x93c06d30 0xfffff001 2 0 0xda443f5c 0xf6a85989
    (hex 18 0xf21ca70c69ca043d8a48688952c701a7e025) [] (outcome 0xcb 1 (hex 18 0x3c34d77572ca79b1e75073e76d9f15691b20) [] ∷ []))
    [] (by_chain 0) (reg 1 0x7e435a99 & reg 4 0xca71cf2 & reg 8 0x3d04ca69 & reg 10 0x1010 & reg 11 0x8968488a & reg 12 0xa701c752
    & pc 0xffff0000 & done 0xf6a8598c) []
    -- 40-BlockMove/load-ram-end-in-xip/0
    ∷ runs (block (memory 0x2000 0x1c 0x2000 0x24 false) 0x3ffffff (op (Alu3 0xf 0xf 8 Mul) 0 true
    ∷ op (BlockMove 9 0x1054 false true false) 2 false ∷ []))
    (hex 36 0x28319dd1b24a2312ceb5f3b7dc28145cda8057a9014f400daf0fe1a6bf5200368f172749) 0xffffffff
    (card (regs 0x0001234589c5e63ffffff0010000ffff00008000ffff00001788886200007fff
    0x00007fff00002010d16ae94bffffffff0000001a0000007f00000003ae64e6d5) 0xad895ba1 0xfffffff0 0 0 0x1c456e01 1
    (hex 28 0xb78ea22bcfe811d536ee26228216b3ba3c9ccd1a3dec6ee974868ecb) []
    (outcome 0x54 0xffffffff (hex 28 0xda76888bb1ee61799519d313dc37e9bf1cc4c69de73137b10a726afe) []
    ∷ outcome 0xaa 1 (hex 28 0x9baa1a2e1371f8c7576654eea75734df505ed68cd0fd7d4bc91396cc) [] ∷ []))
    [] (by_chain 0) (reg 2 0x1acd9c3c & reg 4 0xe96eec3d & reg 6 0xcb8e8674 & reg 9 0x2020 & reg 12 0x360052bf & reg 15 0xc505992b
    & pc 0x4000001 & done 3) []
    -- 40-BlockMove/load-top-wrap/0
    ∷ runs (block (memory 0xfffffff0 0x10 0 0x12 true) 0x2000000 (op (Alu2 2 0xf Shr) 2 false ∷ op (Mov2I 0xb 4 0x1a) 4 true
    ∷ op (BlockMove 7 0x4026 false true true) 4 false ∷ [])) (hex 18 0x98ea97675ace3c7fe55cdd8132e669fe0dbe) 0x373cc039
    (card (regs 0x00007fff02b180a400000002e4efb4a600000003000100001038a96c00000008
    0x535e010c2daa73bf00000003fffff0011cbbbe6f0000001f48a2da8efffffffe) 0x70289337 0xffff0000 0xf5fde38 0 0xe8a11361 0
    (hex 16 0x6ae8e870c3750090281d54c18ad6d787) (hex 4 0x00010001)
    (outcome 0x90 0 (hex 16 0x330d8e9ee1613636985799a1c4126c7f) (hex 4 0xf7c84bab)
    ∷ outcome 0xf7 1 (hex 16 0xc4cea827b54f892869c6ef30f612996e) (hex 4 0x1affb0e5) ∷ []))
    (entry 5 0x200000a ∷ []) (by_chain 0) (reg 1 0xc1541d28 & reg 2 0x87d7d68a & reg 4 0x1a & reg 5 0x6797ea98 & reg 7 0xfffffff8
    & reg 11 0 & reg 14 0x7f3cce5a & pc 0x200000a & done 3) []
    -- 40-BlockMove/load-outside-odd/0
    ∷ runs (block (memory 0x3000014 0x10 0x3000000 0x12 false) 0x2000000 (op (BlockMove 8 0x5240 false true true) 6 false
    ∷ op (AddRI 0xc 0xf 0xfffffffa) 0xff false ∷ [])) (hex 18 0xbd783834a964783e76c03b89fcb344464800) 0xffffffff
    (card (regs 0x00007fff0000002000000fff00000001fffffffc75493a49ac1d076c00000003
    0xe61d3122ffffffdd0000010026384d74000000fffab1ae260000000700007fff) 0xdca6a64 0 0 0 0x41ff47ab 0xfff
    (hex 16 0x06ec0f7aec0232ea42ced9d27b86cff6) [] (outcome 1 0 (hex 16 0x06410f7aec0232ea42ced9d27b86cff6) []
    ∷ outcome 1 0 (hex 16 0x06410f7aec0232ea42ced9d27b86cff6) [] ∷ outcome 0 0 (hex 16 0x06410f7aec0232ea42ced9d27b86cff6) []
    ∷ outcome 0x80000000 0 (hex 16 0x06410f7aec0232ea42ced9d27b86cff6) [] ∷ outcome 0x9d 0 (hex 16 0x76f080745e975b42bac42e87fe4760f2) []
    ∷ []))
    [] (by_chain 0) (reg 6 1 & reg 8 0xe61d3112 & reg 9 1 & reg 12 0x7ff9 & reg 14 0x80000000 & pc 0x2000105 & done 0x1001
    & ram (hex 16 0x06410f7aec0232ea42ced9d27b86cff6)) (read 0xe61d3112 4 0xfff ∷ read 0xe61d3116 4 0xfff ∷ read 0xe61d311a 4 0xfff
    ∷ read 0xe61d311e 4 0xfff ∷ [])
    -- 40-BlockMove/load-break-late-glue-0/0
    ∷ runs (block (memory 0x10000 0x10 0x10010 0x14 true) 0x2000000 (op (MovI 6 0x41cf8f4c) 2 false
    ∷ op (BlockMove 6 0x80a4 false false true) 6 false ∷ op (ShlI 9 5 0) 0xff false ∷ op (SarI 1 0xd 0x3f) 0xff true ∷ []))
    (hex 20 0x545ab32551df8b19832fde7d626f8e604bbf6933) 0xffffffff
    (card (regs 0x000000207fffffff6b1518a2fffffffeffffffdab8ed972bbeac0a18acbd3c1b
    0xc60e50308d1354a1000000ff00000015fffff00000000014406431a6fffff001) 0x19cca1cd 0xfffffffe 1 0 0x3600c374 0
    (hex 16 0x1c9dfbc63e56ad3fae7c9dce8c6c751c) (hex 4 0x00ffffff)
    (outcome 0 0 (hex 16 0x1c9dfbc63e56ad3fae7c9dce8c6c751c) (hex 4 0x00ffffff)
    ∷ outcome 0xed48088a 0 (hex 16 0x1c9dfbc63e56ad3fae7c9dce8c6c751c) (hex 4 0x00ffffff)
    ∷ outcome 0xb83a57c7 0 (hex 16 0x1c9dfbc63e56ad3fae7c9dce8c6c751c) (hex 4 0x00ffffff)
    ∷ outcome 0x7fffffff 1 (hex 16 0x1c9dfbc63e56ad3fae7c9dce8c6c751c) (hex 4 0x00ffffff) ∷ []))
    (entry 4 0x2000008 ∷ []) by_return (reg 2 0 & reg 5 0xed48088a & reg 6 0x41cf8f4c & reg 7 0xb83a57c7 & reg 15 0x7fffffff & brk 1
    & pc 0x2000008 & done 2) (read 0x41cf8f3c 4 1 ∷ read 0x41cf8f40 4 1 ∷ read 0x41cf8f44 4 1 ∷ read 0x41cf8f48 4 1 ∷ [])
    -- 40-BlockMove/load-break-set-cleared-glue-1/0
    ∷ runs (block (memory 0xfffffff4 0xc 0x1000 8 false) 0x22cf0ea (op (Alu3 4 0xd 5 Mul) 2 false ∷ op (RFromSp 1 0x100) 0x35 false
    ∷ op (BlockMove 7 0x2800 false true true) 0 true ∷ op (SpAdd 0xfffff001) 0xff true ∷ op (MovI 0 0xfff) 0xff true ∷ []))
    (hex 8 0xe38a727129027f60) 0xffffffff
    (card (regs 0x6b977587c85eac1c0000001fa2a28744000010005c1164db8aa2abde0000006c
    0x3a5780710000002083caaa29000000030000ffff44eb4db2ffffffe400000001) 4 0x100 0 0 0x5de34d10 1 (hex 12 0x17df3b5eaefed6940c19a22f) []
    (outcome 0 0xffff0000 (hex 12 0x17df3b5eae6fd6940c19a22f) [] ∷ outcome 1 0 (hex 12 0x17df3b5eae6fd6940c19a2cf) [] ∷ []))
    (entry 0x398f 0x22cf31f ∷ []) (by_chain 0) (reg 0 0xfff & reg 1 0x104 & reg 4 0x76ff46 & reg 7 0x64 & reg 11 0 & reg 13 1
    & sp 0xfffff005 & pc 0x22cf31f & done 6 & ram (hex 12 0x17df3b5eae6fd6940c19a2cf)) (read 0x64 4 3 ∷ read 0x68 4 3 ∷ [])
    -- 40-BlockMove/load-break-cleared-glue-1/0
    ∷ runs (block (memory 0x7ffffffc 9 0x100 0x14 true) 0x2000000 (op (BlockMove 0xf 0xc0 false true true) 6 true
    ∷ op (SarI 0xd 0xe 4) 0xff true ∷ [])) (hex 20 0x4917274f9aa3072dea00fff59dc898c0a640b61d) 0xffffffff
    (card (regs 0x00008000cf394daa00000003000001008000000000d8f259c9ffe462a70626b0
    0x0000002700fff000b9d7d7e7a538ee92f9fb2c7a82ac3ef90000800080000070) 0x1f 0xfffff000 1 0x100 0x3a32a9e4 0xfff
    (hex 9 0x06d8e3daa19fa31ca5) (hex 3 0x000001) (outcome 0x7fffffff 0 (hex 9 0x06d8e3daa19fa31ca5) (hex 3 0x000001)
    ∷ outcome 0x8fe17124 0 (hex 9 0x06d8e3daa19f7d1ca5) (hex 3 0x000001) ∷ outcome 0x70 1 (hex 9 0x26792b95f56f47c349) (hex 3 0x5e1153)
    ∷ outcome 0xa3 1 (hex 9 0x7e3256c10c02522da8) (hex 3 0xef3084) ∷ []))
    [] (by_chain 0) (reg 6 0x7fffffff & reg 7 0x8fe17124 & reg 13 0x800 & reg 15 0x80000068 & brk 0 & pc 0x2000105 & done 0x1001
    & ram (hex 9 0x06d8e3daa19f7d1ca5)) (read 0x80000068 4 0xfff ∷ read 0x8000006c 4 0xfff ∷ [])
    -- 40-BlockMove/load-break-none-glue-1/0
    ∷ runs (block (memory 0x1000000 0xf 0 0x18 false) 0x30df1de (op (MovI 3 0x54f491b4) 2 false
    ∷ op (BlockMove 3 0xc400 false true false) 0 true ∷ op (Ext 0 9 PartUpper false) 2 false ∷ []))
    (hex 24 0xed12da1b25142b6f7c0b1f1d72501cbe8f3239f936147254) 0xffffffff
    (card (regs 0x00000003000123454aa523b500008000e4db3e607fffffff3bfbe2a900000001
    0xaba07dc6fffffffb00001000000000808b7fec5a19833cf30c19a47a00000017) 0xffff0000 0x37576a61 0 0 0xf07e191 0xfffffffc
    (hex 15 0x4d5ea9da8dbd84a25de6fee79ebdad) [] (outcome 0x80000000 0 (hex 15 0x4d51a9da8dbd84a25de6fee79ebdad) []
    ∷ outcome 0x7fffffff 0 (hex 15 0x9951a5da8dbd84a25de6fee79ebdad) []
    ∷ outcome 0x801df9f2 0 (hex 15 0x995106da8dbd38a25de6fee79ebdad) [] ∷ []))
    (entry 0x38f1 0x30df1e2 ∷ []) (by_chain 0) (reg 0 0xffff & reg 3 0x54f491c0 & reg 10 0x80000000 & reg 14 0x7fffffff & reg 15 0x801df9f2
    & pc 0x30df1e2 & done 0xffffffff & ram (hex 15 0x995106da8dbd38a25de6fee79ebdad)) (read 0x54f491b4 4 0xfffffffd
    ∷ read 0x54f491b8 4 0xfffffffd ∷ read 0x54f491bc 4 0xfffffffd ∷ [])
    -- 40-BlockMove/load-ram-by-outcome/0
    ∷ runs (block (memory 0x10000 0x10 0x10010 0xc false) 0x3094e32 (op (SarI 3 3 0x1f) 4 false ∷ op (BitExt 5 0xf 0 2 true) 0 true
    ∷ op (AddRI 4 1 0x1dcdd571) 4 true ∷ op (MinMax 9 0xe 6 MaxU) 6 true ∷ op (BlockMove 2 0x409 false true false) 2 false ∷ []))
    (hex 12 0x11fefc3ef2619e4e6b0d106b) 0xffffffff
    (card (regs 0x00000007000080000000fffc000123450000ffff3afcde14e25006ce00000080
    0x1e9447fb0000ffff1c9c86fcffffffe65c90ea23ffffffdbc5e6f2888bc3e047) 0x80000000 3 0 0 0x6ef3c85f 0
    (hex 16 0xc30622c46d99cb13f26c557a9f112cbb) [] (outcome 1 0 (hex 16 0x82281fc4a899cbc54f61da979f112cbb) [] ∷ []))
    (entry 0x2721 0x3094e42 ∷ []) (by_chain 0) (reg 0 1 & reg 2 0x10008 & reg 3 0xc41f2882 & reg 4 0x1dce5571 & reg 5 0xffffffff
    & reg 9 0xe25006ce & reg 10 0xc5cb99a8 & pc 0x3094e42 & done 5 & ram (hex 16 0x82281fc4a899cbc54f61da979f112cbb)) (read 0xfffc 4 4
    ∷ [])
    -- 40-BlockMove/load-last-of-5/0
    ∷ runs (block (memory 0xffffffdc 0x24 0x1000 0x24 true) 0x22404d9 (op (AddRI 8 0xe 0x80) 2 false ∷ op (MovI 3 0xc7a1cf20) 2 false
    ∷ op (AddRI 0xc 0xf 0x4c713e08) 2 false ∷ op (MovI 1 0xdd47144) 2 false ∷ op (BlockMove 7 0x1c34 false true false) 2 false ∷ []))
    (hex 36 0x7b13c05c6d9027c3bed2788f598b35548d7579a5b909f6e370058f99db1a6b7cbef56485) 0x71ed0101
    (card (regs 0x0000000f9e718cfb66ece13a8000000000000020ffffffe900fff00000000064
    0xa959468d000000207d814f3fb80a9e95ea4b3f2cfffffffe0000000049a13f18) 0x22b789a0 0xffff0000 0x9f3ca96 0 0xfd00ce6f 0x71ed00fc
    (hex 36 0x6f22797ed214290255ffd3d0f788ac823a1db874a6d8312aa23f6e550f32d2d71ce576bc) (hex 9 0x010001000000800000)
    (outcome 0x65be5792 0 (hex 36 0x6f22797ed214290255ffd3d0f788ac823a1db874a6d8312aa23f6e550fb3d2d71ce576bc) (hex 9 0x010001000000800001)
    ∷ outcome 1 0 (hex 36 0x6f22797ed214290255ffd3d0f78820823a1db874a6d8312aa23f6e550fb3d2d71ce576bc) (hex 9 0x010001000100800001) ∷
    outcome 0x7fffffff 0 (hex 36 0x6f22db7e7714290255ffd3d0f78820823a1db874a6d8312aa23f6e550fb3d2d71ce576bc) (hex 9 0x014001000100010001)
    ∷ outcome 0xffffffff 0 (hex 36 0x6f22db7e7714290255ffd3d0f78820823a1db874a6d8312aa23f6e550fb3d2d71ce576bc) (hex 9
    0x014001000100010001)
    ∷ outcome 0 0 (hex 36 0x6f22db7e7714290255ffd3d0f78820823a1db874a6d8312aa23f6e550fb3d2d71ce576bc) (hex 9 0x014001000100010001)
    ∷ outcome 0 0 (hex 36 0x6f22db7e7714290255ffd3d0f78820823a1db874a6d8312aa23f6e550fb3d2d71ce576bc) (hex 9 0x014001000100010001) ∷ []))
    [] (by_chain 0) (reg 1 0xdd47144 & reg 2 0x65be5792 & reg 3 0xc7a1cf20 & reg 4 1 & reg 5 0x7fffffff & reg 7 0x7c & reg 8 0x80
    & reg 10 0xffffffff & reg 11 0 & reg 12 0 & pc 0x22404e3 & done 0x71ed0101
    & ram (hex 36 0x6f22db7e7714290255ffd3d0f78820823a1db874a6d8312aa23f6e550fb3d2d71ce576bc) & map (hex 9 0x014001000100010001))
    (read 0x64 4 0x71ed0100 ∷ read 0x68 4 0x71ed0100 ∷ read 0x6c 4 0x71ed0100 ∷ read 0x70 4 0x71ed0100 ∷ read 0x74 4 0x71ed0100
    ∷ read 0x78 4 0x71ed0100 ∷ [])
    -- 40-BlockMove/store-ram-last/0
    ∷ runs (block (memory 0x1000000 0xc 0 0xb false) 0x3ffffff (op (MovI 8 0x100000c) 2 false
    ∷ op (BlockMove 8 0x408 true true true) 0xff false ∷ [])) (hex 11 0x932a16846f992f3f904f9b) 2
    (card (regs 0xffffffec60028b385c7e4f3275da8df000000004a991e40e42a219c300000004
    0x80ad28ca189f5117621590a00000000400000fffffffffff0000000100008000) 0xf2a5e6a4 0x1f 2 0 0x280c6275 0
    (hex 12 0xc75bde50ea8aaf4fee3bd4e4) [] (outcome 0x3f 1 (hex 12 0x82442ecbf9cff84562e3cf66) [] ∷ []))
    [] (by_chain 0) (reg 8 0x1000004 & pc 0x4000100 & done 2 & ram (hex 12 0xc75bde50f08dda75a0901562)) []
    -- 40-BlockMove/store-ram-over-4/0
    ∷ runs (block (memory 0x1000000 0x12 0 0x12 true) 0x3761658 (op (MovI 3 0x1000006) 2 false ∷ op (MovI 0xc 0xe14c6322) 4 false
    ∷ op (MovI 0xf 0xe0fe26e) 4 false ∷ op (BlockMove 3 0x9084 true true false) 6 false ∷ []))
    (hex 18 0x028c6639cf079e3254c36089571b8da77001) 0xe70f8258
    (card (regs 0x000100008aee5bae6e7ff21f0000000480000000fffffff5ffffffd9289ee3f7
    0x000080000000000800008000f4901e41ffffffff7b8aeca900fff0003d0cdc2f) 0x9e8d490e 0xffffffff 0 0 0x149894a7 0xbe1f2cd0
    (hex 18 0xf8c20db1be9c6770169c39aa0ca8362ea242) (hex 5 0x8000000000)
    (outcome 0xffffffff 0 (hex 18 0xf8c20db1be9c1ff27f6ef7e39e2822634ce1) (hex 5 0x8000000000)
    ∷ outcome 0x94 0 (hex 18 0x3a84a66ad36854ec68f0427b05b40586b01c) (hex 5 0xd063cacefa)
    ∷ outcome 0xd7 0 (hex 18 0x8c353dc84256330ce776ae5a5b0a06785996) (hex 5 0x80f67bcd83) ∷ []))
    [] (by_chain 0) (reg 3 0x1000016 & reg 12 0xe14c6322 & reg 15 0xe0fe26e & pc 0x3761668 & done 0xbe1f2cd4
    & ram (hex 18 0xf8c20db1be9c1ff27f6ef7e39e2822634ce1)) (write 0x1000012 4 0xbe1f2cd3 0xe0fe26e ∷ [])
    -- 40-BlockMove/store-ram-odd/0
    ∷ runs (block (memory 0x1000 0x14 0xfffffff0 0xd false) 0x2000000 (op (MovI 0xe 0x92bdf16a) 4 false
    ∷ op (BlockMove 2 0x4110 true true false) 0 false ∷ op Rts 0xdf false ∷ [])) (hex 13 0xd1f16c1866d1615a2fdc48d85c) 0xffffffff
    (card (regs 0x00000020000000000000100200000000c012e110f25a1116cc6d18f800000fff
    0xe611d676a77c0296ffffffdcefac33e1135ddc4afffff00000000002ffff0000) 0x25 0x7fff 0 0 0xda5dc2bf 0xfff
    (hex 20 0xedd29fdd078fdb53c622473c3ace674273673bfd) [] (outcome 0x70 0xffffffff (hex 20 0x5efa5a1173723a7376721d6dd2d4085c3bb18ba3) []
    ∷ outcome 0x47 0 (hex 20 0x716b1d32a0c0cecaccb0eba84763d03cb4aa54d5) [] ∷ []))
    (entry 0x3fff 0x7fff ∷ []) by_table (reg 2 0x100e & reg 14 0x92bdf16a & pc 0x7fff & done 0x1002
    & ram (hex 20 0xedd210e112c076d611e66af1bd92674273673bfd)) []
    -- 40-BlockMove/store-break-first-glue-1/0
    ∷ runs (block (memory 0x1000000 0xa 0 8 false) 0x2bbaf03 (op (BlockMove 0 0x8002 true true true) 0 true ∷ op (Mov 1 0xc) 0 true
    ∷ op (MovI 0xa 0xfffff001) 6 true ∷ op Rts 2 false ∷ [])) (hex 8 0x9517d53c72a9a87b) 0x7c5e8992
    (card (regs 0x0100000469ac51e100000004000000247fffffff80000000df55157e00000fff
    0xffff8000fffffffe957afbc21d4662a60000008000008000b3c791f585d9b888) 0xfff 7 0 0 0x7de65b2b 1 (hex 10 0xcf43c83864d2aba48099) []
    (outcome 0xffffffff 0xffffffff (hex 10 0xcf43c83864a2aba48099) [] ∷ []))
    [] by_return (reg 0 0xfffffc & hold 1 & brk 0xffffffff & pc 0x2bbaf03 & done 2 & ram (hex 10 0x88b8d98564a2aba48099))
    (write 0xfffffc 4 1 0x69ac51e1 ∷ [])
    -- 40-BlockMove/store-outside/0
    ∷ runs (block (memory 0x3000010 0xc 0x3000000 0xe true) 0x3e53903 (op (BlockMove 0xc 0x830 true false true) 2 false ∷ []))
    (hex 14 0xcbc9418e41f33cfc472b8ee6c00a) 0x8c7a03fa
    (card (regs 0xec092ef6000000020000002200012345edb26e4171036afc00007fff497aed22
    0xfffffffe000000802ca0cc48767764690300008c000000ff9ad7f6e55abc37c2) 0xcd85bc8c 0xe8fd9f1f 1 0 0x7cceea56 0
    (hex 12 0xb0123a02bc3903780d545b5f) (hex 3 0x800100) (outcome 0 0 (hex 12 0xb0123a02bc3903780d545b5f) (hex 3 0x800100)
    ∷ outcome 0 0 (hex 12 0xb0123a02bc3903780d545b5f) (hex 3 0x800100)
    ∷ outcome 0x7fffffff 0 (hex 12 0xb0123a02bc3903780d545b6f) (hex 3 0x800000)
    ∷ outcome 0x6d 1 (hex 12 0x26cbfd6d8c31c69d13b4957a) (hex 3 0xe4ff1a) ∷ []))
    [] (by_chain 0) (pc 0x3e53905 & done 1 & ram (hex 12 0xb0123a02bc3903780d545b6f) & map (hex 3 0x800000))
    (write 0x3000080 4 0 0xedb26e41 ∷ write 0x3000084 4 0 0x71036afc ∷ write 0x3000088 4 0 0x76776469 ∷ [])
    -- 40-BlockMove/store-pressure-9/0
    ∷ runs (block (memory 0x1000 0x14 0xffffffe0 0x20 true) 0x2000000 (op (Alu3 6 9 2 Or) 2 false ∷ op (MovI 0xf 0xbf5d7dcd) 2 false
    ∷ op (MovI 2 0xb19a88ce) 2 false ∷ op (AddRI 7 0xd 0x80000000) 2 false ∷ op (AddRI 1 8 0x5b0b146b) 2 false
    ∷ op (AddRI 5 6 0xffff8000) 2 false ∷ op (AddRI 0xc 3 0x100) 2 false ∷ op (AddRI 0xb 7 0x12345) 2 false
    ∷ op (MovI 9 0x438213f1) 2 false ∷ op (BlockMove 0xe 0x2518 true true true) 0 true ∷ op (Un 0 2 SatU) 0 true ∷ []))
    (hex 32 0x2bc41429b0b06adbb8117e486275d200537404d3f5d0d117ae41d16e12f8a1b3) 0xb
    (card (regs 0x00000026000010000000000717be34af7a7fd3e13cb7b488c849230600000003
    0x0953f15906fbdb3c7cc995bc06015dc500000007f1de9e7400001018000000ff) 0x10000 0xffff8000 2 0 0xeadb0c8c 0
    (hex 20 0xb97d118085dd0e51175310685055a8d5427b2bdd) (hex 5 0x0000000000)
    (outcome 1 0 (hex 20 0xb97d1180af34be99e1d37f7a59f15309bc95c97c) (hex 5 0x0040000000)
    ∷ outcome 0x63 0 (hex 20 0xfaf52977a69ffec10b2fd2453646865c9ad1ea3f) (hex 5 0xee1be26b56)
    ∷ outcome 0x23 0 (hex 20 0x1fadb0dc8edf2249a220567bb819d31f444c5682) (hex 5 0x87a47ca083) ∷ []))
    (entry 9 0x2000012 ∷ []) (by_chain 0) (reg 0 0 & reg 1 0x645f05c4 & reg 2 0xb19a88ce & reg 5 0x6fb5b3f & reg 6 0x6fbdb3f
    & reg 7 0x71de9e74 & reg 9 0x438213f1 & reg 11 0x71dfc1b9 & reg 12 0x17be35af & reg 14 0x1004 & reg 15 0xbf5d7dcd & pc 0x2000012
    & done 0xb & ram (hex 20 0xb97d1180af34be99e1d37f7a59f15309bc95c97c) & map (hex 5 0x0040000000)) (write 0x1014 4 9 0xf1de9e74 ∷ [])
    -- 40-BlockMove/map-middle-set/0
    ∷ runs (block (memory 0x10000 0x18 0x10018 0x18 true) 0x33f5d04 (op (BlockMove 0xe 0x10c2 true false true) 4 false ∷ []))
    (hex 24 0xb6d6e9b588d84f9d8ffb685b409be968cde1683871df7899) 0x792b248b
    (card (regs 0x7851be2209bd6159307730603a6494d90000007f3f9d9710449f3d7fb3726e17
    0xffffffffdcb77f0100000017db4fcc9269f11646fffff00000010014c9f17182) 0xb96fbe9f 0x7fffffff 2 0 0xd109f86 0
    (hex 24 0x0417299f616e81db10edeb012426004b8ea18a496d93f01b) (hex 6 0x000000800000)
    (outcome 0xffffffff 0 (hex 24 0x0417299f5961bd097f3d9f44242600598ea18a496d93f01b) (hex 6 0x000000800100)
    ∷ outcome 0xffffffff 0 (hex 24 0x0417295d5961bd097f3de644242600598ea18a496d93f01b) (hex 6 0x000000804000)
    ∷ outcome 0xec 0 (hex 24 0xb7ba8e776278335bdd116ee1d6e35018d4010d441e40737b) (hex 6 0x129ba1160aee)
    ∷ outcome 0x16 0 (hex 24 0x5a61824f1e3824522c1892f54a6023865906cd56cea559f8) (hex 6 0x2b38cc29373d) ∷ []))
    [] (by_chain 0) (pc 0x33f5d08 & done 1 & ram (hex 24 0x0417295d5961bd097f3de644242600598ea18a496d93f01b) & map (hex 6 0x000000804000))
    (write 0x1000c 4 0 0xb3726e17 ∷ write 0x10010 4 0 0x69f11646 ∷ [])
    -- 40-BlockMove/map-next-set/0
    ∷ runs (block (memory 0xffffffec 0x14 0x1000 0x10 true) 0x37ab985 (op (MovI 0 0x3d5b3734) 2 false ∷ op (MovI 9 0xa55ca8cd) 4 false
    ∷ op (BlockMove 5 0x2203 true true false) 0xff true ∷ op (MovI 2 0x13606ddf) 2 false ∷ []))
    (hex 16 0xe2e689aa33b4b966746cd477804e0729) 0xffffffff
    (card (regs 0x000000ffe6ba0208ffffffeeffffffed00001000ffffffed4d043d2827f9a34b
    0x3127e158ffffffe092918ad5000123459514322f531ad7d375de573f7a62344b) 0x10000 0xffffffff 0x3cd1f76 0 0xd9d78f7c 0
    (hex 20 0xac40c570820bcc0086cbe931cdc30d90bb8a2e8d) (hex 5 0x0000000002)
    (outcome 0x42 0xffffffff (hex 20 0xa3a1e249921378108a0a78da47ec38c6afd4556b) (hex 5 0xc824999539)
    ∷ outcome 0x59 0xffffffff (hex 20 0x06872f20f294d7df2d9544a83087bfb6df5cd0b3) (hex 5 0x13b8a825f2) ∷ []))
    (entry 0x1d46 0x37aba8c ∷ []) (by_chain 0) (reg 0 0x3d5b3734 & reg 2 0x13606ddf & reg 5 0xfffffffd & reg 9 0xa55ca8cd & pc 0x37aba8c
    & done 4 & ram (hex 20 0xac34375b3d0802bae6cda85ca5d3d71a538a2e8d)) []
    -- 40-BlockMove/map-set-by-outcome/0
    ∷ runs (block (memory 0x1000000 0x18 0 0x11 true) 0x2000000 (op (Ext 5 5 PartUpper false) 6 true ∷ op (Mov 0xd 8) 0xff true
    ∷ op (MovI 0xa 0x7ee0af17) 4 false ∷ op (BlockMove 0xc 0x8504 true false true) 0 false ∷ []))
    (hex 17 0xd145ff84c5ff37c4ba4fa8b9ee7e7053a1) 4
    (card (regs 0x4c563e9000000fff52f6f105bf7df3771dd92c5100012345ffffffe9005df56b
    0x480653f00000000732f77bfffffffffe01000014cb8664ae000123455a21d980) 0x7b7dccdf 0xffffffdb 0 0 0xa3c204f5 0
    (hex 24 0xee754b8f9868d832749b2c477cb8879dbaff190e81f63f67) (hex 6 0x000200000080)
    (outcome 0xffffffff 0 (hex 24 0xee754b8f9868d832749b2c477cb8879dbaff198f81f63f67) (hex 6 0x000202000080)
    ∷ outcome 0xa362ac8f 0 (hex 24 0xee754b8f9868d832749b2c477cb8879dbaff198f81f63f67) (hex 6 0x000202000080)
    ∷ outcome 0xc6 1 (hex 24 0x716c80bc31e67a6b6642abeb467838c1726bf7b61d442cd5) (hex 6 0xe6b5c424f63d)
    ∷ outcome 0x3a 1 (hex 24 0x821f6c79b98da5d20f8b7f9740616ebf68b124769e7c0886) (hex 6 0xd4174f3e8348) ∷ []))
    (entry 0x84 0x2000109 ∷ []) (by_chain 0) (reg 5 1 & reg 10 0x7ee0af17 & reg 13 0x480653f0 & pc 0x2000109 & done 4
    & ram (hex 24 0xee754b8f9868d832749b2c4717afe07e80d9215a81f63f67) & map (hex 6 0x000202000080)) (write 0x1000004 4 3 0x52f6f105
    ∷ write 0x1000008 4 3 0x480653f0 ∷ [])
    -- 40-BlockMove/map-cleared-by-outcome/0
    ∷ runs (block (memory 0x3000014 0x19 0x3000000 0x14 true) 0x3c04682 (op (MovI 5 0xa95029ad) 4 false ∷ op (Alu2 8 0xc AndNot) 2 false
    ∷ op (MovI 0xc 4) 4 false ∷ op (MovI 2 0xee44dce6) 2 false ∷ op (MovI 0xd 0x3000028) 4 false
    ∷ op (BlockMove 0xd 0x8284 true false true) 0xff true ∷ op (Un 4 0xa SatU) 4 false ∷ op (CallR 3) 0 true ∷ []))
    (hex 20 0xdfdcce436ef142d577bfeb1ec892b89ba5f6be60) 0xffffffff
    (card (regs 0x7fffffff00000007ffffffdd6d2a93360001000070dad1b300fff000d53808a5
    0xfffffffe26dd6d5db3b1a002f2ea21e800000002584b31f0d3b0200ebb916445) 0xeeaeb872 8 0 0 0xccf6ef8c 0
    (hex 25 0x7c64c21f898d1f14c11ea2bf5cae4c7db5b942458b8d9f37a5) (hex 7 0x01010100000001)
    (outcome 0x80000000 0 (hex 25 0x7c64c21f898d1f14c11ea2bf5cae4c7d92b942458b8d9f37a5) (hex 7 0x01010000000001)
    ∷ outcome 0xb3 0xffffffff (hex 25 0x9aed96a7cf700fc14233a9f69f2b373ab210f42ceda5ab6d78) (hex 7 0xb67a63dd36a693)
    ∷ outcome 0x4a 0 (hex 25 0x42b697b9c1af814f534d75af255616f53140ac548b38bc5317) (hex 7 0x268a459b411974) ∷ []))
    (entry 0x99b 0x6d2a9336 ∷ []) by_table (reg 2 0xee44dce6 & reg 4 0 & reg 5 0xa95029ad & reg 8 0xfffffffc & reg 12 4 & reg 13 0x3000028
    & rets 0x3c04795 & pc 0x6d2a9336 & done 8 & ram (hex 25 0x7c64c21f898d1f14a50838d55d6ddd26456491bb8b8d9f37a5)
    & map (hex 7 0x01010000000001)) (write 0x3000018 4 5 0xee44dce6 ∷ [])
    -- 40-BlockMove/copy-down/0
    ∷ runs (block (memory 0x7ffffffc 0x18 0x100 0xc true) 0x2758f12 (op (BlockMove 1 0x1060 false true true) 2 true
    ∷ op (BlockMove 0xd 0x1060 true true true) 2 true ∷ op (Alu3 6 5 6 Mul) 2 false ∷ [])) (hex 12 0xfdc4625a28ce6a19b78a4dcf) 0x1002
    (card (regs 0x00010000800000080000100000007fff0000000e652c2efbc9dda0af00000004
    0x4195b6c37ed29a47b5f0f2e86590956800007fff80000014f44292ccfffff000) 8 4 0 0 0xb340d72c 0xfff
    (hex 24 0x3da81b1ba9bd0ecfcc456135541fff46c2e68c569c9816f4) (hex 6 0x000000000000)
    (outcome 0x4b 0xffffffff (hex 24 0x5a8e463ff8de4c64982a4f06fc518ab4f021b4b9646f04d8) (hex 6 0x1755f6cc82ba)
    ∷ outcome 0xfb 1 (hex 24 0x6ca1c4c823377d9ddc4546567f353cf1612782927238ff88) (hex 6 0x12434580aa40) ∷ []))
    [] (by_chain 0) (reg 1 0x7ffffffc & reg 5 0x1b1ba83d & reg 6 0xd6cd1945 & reg 12 0x356145cc & reg 13 0x80000008 & pc 0x2758f18
    & done 0x1002 & ram (hex 24 0x3da81b1ba9bd0ecfcc4561353da81b1ba9bd0ecfcc456135)) []
    ∷ []

pub all_reach : reached cases ≡ expected cases
unfolding run ops_from op_step load direct store read_le write_le signed_of sign_extend leading_zeros load_all store_all places
all_reach = refl
