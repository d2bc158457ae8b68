-- Kind 44: each pair, offsets, region ends, breaks, the code map: each run reaches its end.
use mathlib.Core.Bool.{true, false}
use mathlib.Core.List.{List, [], ◌∷◌}
use mathlib.Core.Path.{◌≡◌, refl}
use Rattle.block.specs.declared.Op.TheVariants.{Add, Sub, And, Xor, Shl, Sar}
use Rattle.block.specs.declared.Cond.TheVariants.{GeS}
use Rattle.block.specs.declared.Base.TheVariants.{Reg, Sp}
use Rattle.block.specs.declared.Rk.TheVariants.{Bit as RkBit}
use Rattle.block.specs.declared.Part.TheVariants.{Upper as PartUpper}
use Rattle.block.specs.declared.Choice.TheVariants.{MinS, MaxS, MinU, MaxU}
use Rattle.block.specs.declared.DivKind.TheVariants.{RemU}
use Rattle.block.specs.declared.Fast.TheVariants.{Nop, MovI, Mov, AddRI, ShlI, SarI, Alu3, Alu3I}
use Rattle.block.specs.declared.Fast.TheVariants.{Alu2I, A4, Ext, MinMax, Div, Mov2I, BitExt, BitIns}
use Rattle.block.specs.declared.Fast.TheVariants.{SpAdd, RFromSp, BrI, BitBr, Call, Rts, GotoR, CallR}
use Rattle.block.specs.declared.Fast.TheVariants.{StPair}
use Rattle.card.specs.Card.{write}
use Rattle.card.specs.Word.{signed_of, sign_extend, leading_zeros}
use Rattle.card.specs.Memory.{read_le, write_le, load, direct, store}
use Rattle.card.specs.Step.{op_step, store_all}
use Rattle.card.specs.Run.{ops_from, run}
use Rattle.card_runs.specs.Case.{Case, runs, reached, expected, block, memory, op, hex, regs, card}
use Rattle.card_runs.specs.Case.{outcome, entry, by_return, by_table, by_chain, reg, sp, rets, hold, brk, pc, done, ram, map, ◌&◌}

abbrev cases : List Case
cases =
    -- 44-StPair/p-0/0
    runs (block (memory 0xfffffff4 0xb 0x1000 0x14 true) 0x25867d7 (op (StPair 0 (Reg 15) 0) 2 true ∷ []))
    (hex 20 0xc36630f45c9bd521b9dd71be36388af7c465bf64) 2
    (card (regs 0xb1e17b47b7fb7f1f00fff00000000ffffffffffee8e0f223000000ff000000ff
    0x0000007f000080000000ffff00007fff00000012cb6b8e02fffff001fffffff7) 0x6912f8af 0xcbd0cf15 0xb93c5fc 0 0x892ced02 1
    (hex 11 0xa6b797e6522ecb97213e77) (hex 3 0x000000) (outcome 0x38 0 (hex 11 0xf4b6dd6d7feb2f902c2c69) (hex 3 0xdf75e4)
    ∷ outcome 0x1f 0xffffffff (hex 11 0xbdcd140bec776d566002e2) (hex 3 0x4bc105) ∷ []))
    [] (by_chain 0) (pc 0x25867d9 & done 2 & ram (hex 11 0xa6b797477be1b11f7ffbb7)) []
    -- 44-StPair/p-1/0
    ∷ runs (block (memory 0x1000000 8 0x2000000 0x10 true) 0x28894eb (op (AddRI 5 0xb 0xcdefb6bd) 2 false ∷ op (MinMax 7 5 0xf MinS) 4 true
    ∷ op (MovI 2 0xe4977cf9) 4 false ∷ op (StPair 1 (Reg 14) 0xfffffffd) 6 false ∷ op (BitExt 5 0xf 8 0xe1 false) 6 false ∷ []))
    (hex 16 0xd5081f3ac74208311c35e7eab442e3e0) 0xffffffff
    (card (regs 0xf279859100fff000ffffffe109109fe0000000083217a8e70000001f49faa529
    0xffffffebffffffe7ca14f5840000000700000080dd00cd550100000300012345) 0x1f 0x803082ca 1 0 0x3004de1c 0 (hex 8 0x4748d21a26f0d716)
    (hex 2 0x0000) [])
    (entry 0xa80 0x2889501 ∷ []) (by_chain 0) (reg 2 0xe4977cf9 & reg 5 1 & reg 7 0xcdefb6c4 & pc 0x2889501 & done 5
    & ram (hex 8 0xf97c97e4e09f1009)) []
    -- 44-StPair/p-2/0
    ∷ runs (block (memory 0x20000000 0x12 0x8000000 0x10 false) 0x2000000 (op (StPair 2 (Reg 13) 0xf) 2 true
    ∷ op (Alu2I 5 0x58ebd7d3 Add) 0x8c false ∷ [])) (hex 16 0xd4284ad9f441357ebf6c80e924f4fda8) 0xffffffff
    (card (regs 0x7fffffff00007fff8e4559957bd82723910640b0411083cd00000008add98076
    0x7a9a8295d474f68700000004ac9b2def24cf34e01ffffff5553e291a7fffffff) 0xcb8d5846 0xe511974b 0x7a89e24f 0 0x41040c9d 0
    (hex 18 0x73d5b6d96fae870ab74c6f225c4188e3e093) [] (outcome 0x87 0 (hex 18 0x2c5587c459940f34c42922a9ba4445ea077b) [] ∷ []))
    [] (by_chain 0) (reg 5 0x99fc5ba0 & pc 0x200008e & done 2 & ram (hex 18 0x73d5b6d9b0400691cd8310415c4188e3e093)) []
    -- 44-StPair/p-3/0
    ∷ runs (block (memory 0x3000010 8 0x3000000 0x10 true) 0x2000000 (op (BitExt 0xd 0xf 0xff 0x40 false) 0xee false
    ∷ op (StPair 3 (Reg 2) 0) 0xff true ∷ [])) (hex 16 0x3a8203097178c5d5b217dbd87838ffe9) 0xffffffff
    (card (regs 0x0000007fb584fcc8030000101e8b7c4dffffffff6dbbfb9bb23b0959f4589d6e
    0xfffff0008971911300000003f6e5a945000000fff896ceb5ffffffff00008000) 7 0x6a72be83 0 0 0x428cc295 0 (hex 8 0x9db0f5ec51e39bf0)
    (hex 2 0x0000) (outcome 0xb7 0xffffffff (hex 8 0xc077d5eae0b4bf38) (hex 2 0x365c) ∷ []))
    (entry 0xf6 0x20001ed ∷ []) (by_chain 0) (reg 13 0 & pc 0x20001ed & done 2 & ram (hex 8 0x59093bb26e9d58f4)) []
    -- 44-StPair/p-4/0
    ∷ runs (block (memory 0x1000 0x13 0xfffffff0 0x10 true) 0x3ffffff (op (A4 0xc 9 Xor RkBit 0x7fff) 0xff false
    ∷ op (BitExt 0xe 4 0x40 0x16 false) 0 true ∷ op (A4 0xc 1 Sar RkBit 0xcc297e35) 0 true ∷ op (Ext 0 0xe PartUpper false) 0xff true
    ∷ op (MovI 6 0x1004) 2 false ∷ op (MovI 8 0x79a19d5b) 2 false ∷ op (MovI 9 0x371d8405) 2 false ∷ op (StPair 4 (Reg 6) 0) 6 false
    ∷ op (Mov2I 0xa 9 7) 8 true ∷ [])) (hex 16 0x6d75f9e3a5be2e62b8f74f846b19d6de) 0xf198730b
    (card (regs 0xfffff000ffffffdd6d979dd79875142d00fff0000000001b00008000541c7329
    0xf814b071c60a8cb40f2269c800000022d5efe3b4000000000000000e75e6187e) 0xff 0x9cea3d3a 1 0 0x6561ce25 0xccdd49a7
    (hex 19 0x0ba650b174ea930ccc244645c37a67141a54ac) (hex 5 0x8000000101)
    (outcome 0xdd 0 (hex 19 0xba94b0dcad5300bc9dfe9e8f303cbc9f6ca17b) (hex 5 0x976e903566)
    ∷ outcome 5 0 (hex 19 0x8650c14a8e004da19323e425342885ca6dc9f3) (hex 5 0xaa47e709ab) ∷ []))
    (entry 0x108 0x4000211 ∷ []) (by_chain 0) (reg 0 0x3f & reg 6 0x1004 & reg 8 0x79a19d5b & reg 9 7 & reg 10 0 & reg 12 0xffffffdd
    & reg 14 0x3ff000 & pc 0x4000211 & done 0xccdd49b0 & ram (hex 19 0x0ba650b15b9da17905841d37c37a67141a54ac)) []
    -- 44-StPair/p-5/0
    ∷ runs (block (memory 0x10000 0x13 0x10014 8 false) 0x28c87f6 (op (StPair 5 (Reg 6) 0) 4 true ∷ [])) (hex 8 0x2a81c6938e2ec132)
    0xea682f04
    (card (regs 0xfd74275400007fff00fff000ffffffddffffffee79ffb8500001000400000fff
    0x0000000317cc40a12232728cbcd292c126137c7dfffffffffffffffe34632c41) 0xc 0xa03b7747 0 0 0xfb4ae432 0
    (hex 19 0x22c56c80c8ddc1bddeb1b3ad4098dacc5242bf) [] (outcome 0xf6 1 (hex 19 0x0f40462cb2efd57b8914ca3ca3ff5852e86257) []
    ∷ outcome 0xcf 0 (hex 19 0x4d0d0147f93b3d5b036655f45021b7cec2f89d) [] ∷ []))
    [] (by_chain 0) (pc 0x28c87fa & done 1 & ram (hex 19 0x22c56c808c723222c192d2bc4098dacc5242bf)) []
    -- 44-StPair/p-6/0
    ∷ runs (block (memory 0x1000000 0x14 0 0x10 false) 0x3ffffff (op (StPair 6 (Reg 0) 0) 4 true ∷ op (SarI 5 8 0x20) 0 false
    ∷ op (GotoR 3) 4 true ∷ [])) (hex 16 0xa71dce3e4a2684dbbe11aee6b48017c2) 0xffffffff
    (card (regs 0x0100000c0000000400000004fe27a2d300000020e35c3b86b7b7d97aeaabb693
    0xf606da89fffff0007fffffff18a7219c427371b1dcd4d11e8000000030d513c0) 0x95b96d22 0x69207e94 0 0 0xf56202a9 0xfffffffc
    (hex 20 0xe139014a5bb4319b54e5254c403230a423feb1e5) [] (outcome 0x95 0xffffffff (hex 20 0x06f3d96c2732442cc9baaa8f808ecd78e1c1b3ed) []
    ∷ outcome 0x4f 0xffffffff (hex 20 0xd0018ab7a648028ae8cf899710824f86274048e6) [] ∷ []))
    (entry 0x1169 0xfe27a2d3 ∷ []) by_table (reg 5 0xf606da89 & pc 0xfe27a2d3 & done 0xffffffff
    & ram (hex 20 0xe139014a5bb4319b54e5254cb17173421ed1d4dc)) []
    -- 44-StPair/p-7/0
    ∷ runs (block (memory 0 0xc 0x2000000 0xc true) 0x27db18d (op (Div 0xa 4 0xe RemU) 0xff false
    ∷ op (Alu3I 0xb 0xd 0xfffff001 And) 2 false ∷ op (MovI 0xf 0x500998c3) 2 false ∷ op (StPair 7 (Reg 5) 0xa) 4 true ∷ []))
    (hex 12 0xe223883a9c1306a6ccdec391) 0x5d685a13
    (card (regs 0x0000001bffffffea00012345ffffffe000000020fffffff60485fdb38480698b
    0x0001000080000000000000000000007f0000000400fff0006133b15b493b6c95) 0x10000 0xffff 0 0 0xd4126187 0
    (hex 12 0x9026a4869297519edfbae56b) (hex 3 0x000080) (outcome 0x31 1 (hex 12 0x4c883678adb3f60f6e7473d8) (hex 3 0x0b0352)
    ∷ outcome 0xbf 0xffffffff (hex 12 0xfc659ae83e74e84daf40647e) (hex 3 0x99ff98) ∷ []))
    [] (by_chain 0) (reg 10 0x20 & reg 11 0xfff000 & reg 15 0x500998c3 & pc 0x27db294 & done 4 & ram (hex 12 0x5bb13361c3980950dfbae56b))
    []
    -- 44-StPair/p-8/0
    ∷ runs (block (memory 0 0xb 0x2000000 8 true) 0x2000000 (op (StPair 8 (Reg 5) 7) 6 false ∷ op (CallR 0) 2 true ∷ []))
    (hex 8 0x5a69024500d67395) 0x1bc7e07a
    (card (regs 0x1aad30a5b62ddea1999475db9fceb5d8000000fffffffffcffffffdb37dca291
    0xffff00000000007f00000004ffff800097bb280a000000027fffffffbb697c15) 0x1f 8 2 0 0x89379654 0x1bc7e078 (hex 11 0x65a29c9d480ecb55bd283b)
    (hex 3 0x000000) (outcome 0x75 0xffffffff (hex 11 0xb9c5b29f9228d311611e53) (hex 3 0x432af4)
    ∷ outcome 0x62 0 (hex 11 0x48de1ee2cbf8a8e10bb421) (hex 3 0xa16183) ∷ []))
    (entry 0x1852 0x1aad30a4 ∷ []) by_return (rets 0x2000008 & pc 0x1aad30a5 & done 0x1bc7e07a & ram (hex 11 0x65a29ca530ad1aa1de2db6)) []
    -- 44-StPair/p-7f/0
    ∷ runs (block (memory 0x20000000 0xb 0x8000000 9 true) 0x2000000 (op (StPair 0x7f (Reg 12) 0xe183ae58) 6 false ∷ []))
    (hex 9 0xac11f6cfe003de41c4) 0xffffffff
    (card (regs 0x00000fff073809250001000093f9bd8c1c03fe9afffffffffffff00100000010
    0x5b86dac1bfcac86e00000002800000003e7c51ab000000253a906339a23adc76) 0xffff 0x1000 2 0 0x49032a4b 0xfff
    (hex 11 0x0b0642e52458868e6d3b06) (hex 3 0x000000) [])
    [] (by_chain 0) (pc 0x2000006 & done 0x1000 & ram (hex 11 0x0b06423963903a76dc3aa2)) []
    -- 44-StPair/p-ff/0
    ∷ runs (block (memory 0x3000010 0x14 0x3000000 0x10 false) 0x2000000 (op (MinMax 1 0xb 0xc MaxS) 4 true
    ∷ op (MovI 0xe 0xf880ddd) 2 false ∷ op (StPair 0xff (Reg 3) 0) 4 false ∷ op (BitBr 4 RkBit true 3 0x2bb49f19) 6 false ∷ []))
    (hex 16 0xc856a4516e7deb9e7901968ba5f0d7d2) 0x1004
    (card (regs 0x80000000b40a235f94d0129b0300001400000002701fcb03fffff00080000000
    0x88bbf228466d81e4dd25defc0000ffffed1f1f81ab59230d00010000a6bf7876) 0xf7d142a7 0x1000 0 0 0x203e3cd3 0x1000
    (hex 20 0x96c5bcf61aa05f8ebe852b1d91059bc00062b6f1) [] (outcome 0xfd 0 (hex 20 0xde853b8a511c8241676886db1fb4b2b6cd17044b) []
    ∷ outcome 0xb1 0xffffffff (hex 20 0xd8c40f5054a2931941ccd42bb04456e4eded9fdc) [] ∷ []))
    [] (by_chain 0) (reg 1 0xffff & reg 14 0xf880ddd & pc 0x2000010 & done 0x1004
    & ram (hex 20 0x96c5bcf6dd0d880f7678bfa691059bc00062b6f1)) []
    -- 44-StPair/base-even/0
    ∷ runs (block (memory 0x1000 0x10 0xfffffff4 9 false) 0x2000000 (op (Mov 0 2) 2 true ∷ op (MovI 0 3) 4 false
    ∷ op (MovI 0xd 0x44500889) 4 false ∷ op (StPair 0x86 (Reg 12) 0) 0xff false ∷ [])) (hex 9 0x565135ba825e9e3831) 4
    (card (regs 0xded14d04172c489a0000001d0000002053bc87117736a43454bc12ec5b62b02a
    0x0000ffffe3884a2c1b8e5ba9fffff000000010047bf65b9000000003e9e5413c) 0xfff 0xfffffffd 0 0 0x88ece00e 0
    (hex 16 0x3d0fcad2abc83e5387579ddb42483af6) [] (outcome 0xf7 0xffffffff (hex 16 0xb145a9d2cd1ecfed9069758c0b84a4ac) []
    ∷ outcome 0x84 0 (hex 16 0xc12bf37c10790f2e0dbf2a80bf23e023) [] ∷ []))
    [] (by_chain 0) (reg 0 3 & reg 13 0x44500889 & pc 0x2000109 & done 4 & ram (hex 16 0x3d0fcad2041000008908504442483af6)) []
    -- 44-StPair/base-odd/0
    ∷ runs (block (memory 0xfffffff4 0xc 0x1000 0x14 true) 0x269567c (op (MovI 0xe 0xfa51b74c) 4 false
    ∷ op (StPair 0xf (Reg 15) 0xfffffff9) 2 false ∷ op (BrI 5 0x7fffffff GeS 0x7fff) 4 true ∷ []))
    (hex 20 0x65f94dd35aba155088973aa39b75ab5fc47b8d14) 8
    (card (regs 0x72d23be194d30385c6bc11b20000001d00000010800000002e5de5c6fffff000
    0x0000001f000000ff0000001c1a31875000000008e9202dabffffffff0000006b) 0x80 0xffffffff 0 0 0x3770669d 5
    (hex 12 0x544728ccfe208cd892179a8e) (hex 3 0x018000) (outcome 0x3af0d742 0 (hex 12 0x544728ccfe208cd892179a8e) (hex 3 0x018000)
    ∷ outcome 0 0 (hex 12 0x54472804fe208cd89217cc8e) (hex 3 0x000000) ∷ []))
    (entry 0x2b43 0x2695686 ∷ []) (by_chain 0) (reg 14 0xfa51b74c & pc 0x2695686 & done 8 & ram (hex 12 0x54472804fe208cd89217cc8e)
    & map (hex 3 0x000000)) (write 0x64 4 6 0xfa51b74c ∷ write 0x68 4 6 0x6b ∷ [])
    -- 44-StPair/b-16/0
    ∷ runs (block (memory 0x3000010 0xa 0x3000000 0x10 true) 0x3ffffff (op Nop 0xff false ∷ op (MovI 6 0xdc7ec9a2) 2 false
    ∷ op (StPair 3 Sp 0) 0xff true ∷ op (Call 0xfffffff7) 0x6b false ∷ [])) (hex 16 0xf4617c99878b6bdfcb4715445e39a373) 4
    (card (regs 0x007b74e10000ffff4969b22800000fff00762947371cbac0000000014f6f34c6
    0x00000015ddb26be0ffff000000000fffbea2888100008000ffffffed48324f05) 0x3000012 0x20 0xdc053215 0 0xcd2a99b3 0
    (hex 10 0x964e04dd11021932af44) (hex 3 0x000080) [])
    [] (by_chain 0) (reg 6 0xdc7ec9a2 & rets 0x400026a & pc 0xfffffff7 & done 4 & ram (hex 10 0x964ea2c97edcc6346f4f)) []
    -- 44-StPair/off-fff/0
    ∷ runs (block (memory 0x300000c 0x11 0x3000000 0xc false) 0x3081a8a (op (Div 0xc 2 3 RemU) 0xff false
    ∷ op (StPair 5 (Reg 4) 0xfff) 2 false ∷ op (BitBr 9 RkBit true 0x5c539c4e 0x5a0611b7) 2 false ∷ []))
    (hex 12 0xc782b9dc96ea1a8cc06c7537) 0xffffffff
    (card (regs 0x4f48b8c300fff000ffffffff0000000002fff01100000004000000070000001f
    0x000100005fe5a2790be85a73a8cc878200fff000774a38e6a49c740b83875ac9) 0xdb2ea615 0xe5843e6f 0 0 0x2911e6bb 0
    (hex 17 0x8e2efca4db932e8bc66c8d587d24b76206) [] (outcome 0xb5 0xffffffff (hex 17 0x9f1ac57ab3529386d43bafb1762a6e119e) []
    ∷ outcome 0xad 1 (hex 17 0xf96f0807433f51081d4dcf73a3598b69aa) [] ∷ []))
    (entry 0xdc6 0x3081b8d ∷ []) (by_chain 0) (reg 12 0 & pc 0x3081b8d & done 3 & ram (hex 17 0x8e2efca4735ae80b8287cca87d24b76206)) []
    -- 44-StPair/off-fffff000/0
    ∷ runs (block (memory 0 0x14 0x2000000 9 false) 0x3ffffff (op (BitIns 0xc 0xa 0x20 0x21) 0 false ∷ op (A4 0xa 6 Xor RkBit 0xff) 0 true
    ∷ op (StPair 3 (Reg 1) 0xfffff000) 4 true ∷ [])) (hex 9 0xea9407c4e40f74a264) 3
    (card (regs 0x00000008000010786b7189cd00010000ffffffe4fffff0002f589b7405e467c7
    0x000000070000001f00001000000000ff817c31f79c509926ffff8000a27a0667) 0x6a9db653 2 0 0 0x47f6fd68 0
    (hex 20 0xa8404ad3f12178b5a1c5a3e10324ee198a7dd892) [] (outcome 0x87d72ec8 0 (hex 20 0xa8404ad3f12178b5a1c5a3e10324ee198a7dd892) []
    ∷ outcome 0xffffffff 0 (hex 20 0x25404ad3f12178b5d7c5a3e10324ee198a7dd892) [] ∷ []))
    [] (by_chain 0) (reg 10 0x2f589bf4 & reg 12 0x817c31f6 & pc 0x4000003 & done 3
    & ram (hex 20 0x25404ad3f12178b5d7c5a3e10324ee198a7dd892)) (write 0x78 4 2 0x2f589b74 ∷ write 0x7c 4 2 0x5e467c7 ∷ [])
    -- 44-StPair/ram-first/0
    ∷ runs (block (memory 0xfffffff4 0xa 0x1000 0xa false) 0x3bed778 (op (MovI 7 0xff) 0xff true ∷ op (MovI 2 0x8668ae09) 6 true
    ∷ op (MovI 5 0x3d96d0f5) 2 false ∷ op (MovI 0xf 0x47af7c84) 2 false ∷ op (StPair 7 (Reg 5) 0xc2692eff) 2 true ∷ []))
    (hex 10 0x57ba0d613cc4759d41ba) 0x4e34f6f6
    (card (regs 0xfffffffe49b71c06a8a73006fffff000074b1f5e000000ff00000003fffffff2
    0x06d8444308dd815b7fffffff2d9b2559fffffff2ae8a0f3564e8533c53191024) 0xfffffffa 0xba9e7f49 1 0 0x1e157778 0
    (hex 10 0x9a46d5455d3d7bf55676) [] (outcome 0xfc 1 (hex 10 0x058d5217b3737f2cb7cc) []
    ∷ outcome 0xfe 0 (hex 10 0x95cc8fa3baebb4357245) [] ∷ []))
    (entry 0x2c41 0x3bed883 ∷ []) (by_chain 0) (reg 2 0x8668ae09 & reg 5 0x3d96d0f5 & reg 7 0xff & reg 15 0x47af7c84 & pc 0x3bed883
    & done 5 & ram (hex 10 0x3c53e864847caf475676)) []
    -- 44-StPair/ram-exact/0
    ∷ runs (block (memory 0x7ffffffc 8 0x100 8 true) 0x2000000 (op (MovI 5 0x5b76733c) 4 false ∷ op (StPair 2 (Reg 14) 0) 0xff false
    ∷ op (BitExt 5 0xa 0x10 0x3f true) 4 true ∷ [])) (hex 8 0x071518d81d8a152e) 0xffffffff
    (card (regs 0x0000ffff422236c000000011000000026d8722643c39eb9c62fed4ed65dd8bbc
    0x0000000580000000000000071128088f0000000800000fff7ffffffc00fff000) 0x781a00f5 7 1 0 0x25659f6c 0 (hex 8 0x9c96cfac5d447fbe)
    (hex 2 0x0000) (outcome 0x42 0 (hex 8 0xa2809fd122c3d668) (hex 2 0x6f00) ∷ []))
    [] (by_chain 0) (reg 5 0 & pc 0x2000107 & done 3 & ram (hex 8 0x6422876d3c73765b)) []
    -- 44-StPair/ram-over-1/0
    ∷ runs (block (memory 0x20000000 8 0x8000000 0xc true) 0x2000000 (op (StPair 2 (Reg 12) 0) 2 true ∷ []))
    (hex 12 0x6d0b702718fab33d4d541213) 0xffffffff
    (card (regs 0x0d5644030000007ffffffffef014013fce12fed0fbcb308800000100ffff8000
    0xffffffe2e611019a0000007f00007fff200000010000010043ce635c00000028) 0xffffffff 0x7fff 0 0 0xebb7aa62 0xfffffffe
    (hex 8 0x369fff908e48cab7) (hex 2 0x0000) (outcome 1 0 (hex 8 0x36d0fe12ce48cab7) (hex 2 0x0000)
    ∷ outcome 0x50 0xffffffff (hex 8 0x9f5ba6a58d207168) (hex 2 0xdeb4) ∷ []))
    [] (by_chain 0) (pc 0x2000002 & done 0xffffffff & ram (hex 8 0x36d0fe12ce48cab7)) (write 0x20000005 4 0xfffffffe 0xfbcb3088 ∷ [])
    -- 44-StPair/ram-over-4/0
    ∷ runs (block (memory 0x10000 0x14 0x10014 0xa false) 0x3983e98 (op (StPair 6 (Reg 10) 0) 4 true ∷ [])) (hex 10 0x07db96191a3c25c11526)
    0xffffffff
    (card (regs 0xbaa8af3d34451e08916e015cfffff0000000000209c5caf0000000038e9b09a8
    0x66ffe1c2ffffffdf00010010a88ee2432c81b60617f67b790000010007fdc11c) 0x10000 0x100 0 0 0x81d9717a 1
    (hex 20 0xfcf2546939022c1cfe4895420b5ca2214c6a7a74) [] (outcome 0x5b2003a4 0 (hex 20 0xfcf2546939022c1cfe4895420b5ca22106b6812c) []
    ∷ []))
    [] (by_chain 0) (pc 0x3983e9c & done 2 & ram (hex 20 0xfcf2546939022c1cfe4895420b5ca22106b6812c)) (write 0x10014 4 1 0x17f67b79 ∷ [])
    -- 44-StPair/ram-before/0
    ∷ runs (block (memory 0 0xb 0x2000000 8 false) 0x39a8b90 (op (MovI 1 0xe3b3ac89) 4 false ∷ op (StPair 0 (Reg 3) 0xfffffff7) 6 false
    ∷ op (Mov 7 9) 2 false ∷ [])) (hex 8 0xbb0a5c1aba36052d) 0xffffffff
    (card (regs 0xf95eb9fa00000020000100000000000500000004000000ffffffffdb2e6d8a5b
    0xfffff000ce569fb800000008000123452164f8410001234500000080249108a7) 0xdf4cd7ef 0xffffffe4 0 0 0x36362a99 0xfffffffc
    (hex 11 0x9c4326e36b00a5bb63c022) [] (outcome 0xffffffff 0 (hex 11 0xc54326a46b00a5bb63c022) []
    ∷ outcome 0xca 1 (hex 11 0xa4cdde99067740114b339c) [] ∷ outcome 0x33 0 (hex 11 0xefd589f35e05feac36c124) [] ∷ []))
    [] (by_chain 0) (reg 1 0xe3b3ac89 & reg 7 0xce569fb8 & pc 0x39a8b9c & done 0xffffffff & ram (hex 11 0x89acb3e36b00a5bb63c022))
    (write 0xfffffffc 4 0xfffffffd 0xf95eb9fa ∷ [])
    -- 44-StPair/xip-first/0
    ∷ runs (block (memory 0 8 0x2000000 0xb false) 0x374ff58 (op (MovI 5 0x2b7e4e28) 4 false ∷ op (StPair 2 (Reg 1) 0) 0 false
    ∷ op (Mov 4 4) 0x5d true ∷ op (Alu3I 0xa 6 7 Sub) 4 false ∷ op Rts 2 false ∷ [])) (hex 11 0x55d9e64fb5505f82ac55bf) 0xffffffff
    (card (regs 0x0000800002000000caacef5000007fffc96f2b0f0000002379c448f0c7be9ae5
    0x51757d3b2ea60d2ae9c03c98ffffffec000000006c2b594d0000002052c116b1) 0xfffff000 1 2 0 0x1959399e 0xfffffffa (hex 8 0x5d7ec6c66754536e)
    [] (outcome 0x80000000 0 (hex 8 0x5d7ec6c66754536e) [] ∷ outcome 0x7fffffff 0 (hex 8 0x5d7ec6c66754536e) []
    ∷ outcome 0xc9 0xffffffff (hex 8 0x09cd12c3f6e44922) [] ∷ outcome 0x25 0 (hex 8 0x26a1f6b05f17c33a) [] ∷ []))
    (entry 0 0x8001 ∷ []) by_return (reg 5 0x2b7e4e28 & reg 10 0x79c448e9 & pc 1 & done 0xffffffff)
    (write 0x2000000 4 0xfffffffb 0xc96f2b0f ∷ write 0x2000004 4 0xfffffffb 0x2b7e4e28 ∷ [])
    -- 44-StPair/xip-to-ram/0
    ∷ runs (block (memory 0x1000c 0x14 0x10000 0xc true) 0x322a2c0 (op (Alu2I 0 3 And) 2 false ∷ op (MovI 5 0x10008) 4 false
    ∷ op (MovI 9 0xb0838796) 2 false ∷ op (StPair 4 (Reg 5) 0) 0 false ∷ op (Div 9 7 0 RemU) 2 true ∷ []))
    (hex 12 0x45ac59097f70151b21136435) 5
    (card (regs 0x0000000200fff00000010000fffff0000000000800000028aa7e0286ffffffff
    0xd21a8809e498be8d187f4730fffff00042f9c03e601f543b8bb556d600000080) 0x1f398d4f 8 0 0 0x7bc007e9 0
    (hex 20 0xa85885dce6474c11fe60cca75bcba1f75d449bd1) (hex 5 0x0000808001)
    (outcome 0x3e4a933a 0 (hex 20 0xa85885dce6474c11fe60cca75bcba1f75d449bd1) (hex 5 0x0000808001) ∷ []))
    (entry 0x1165 0x322a2ca ∷ []) (by_chain 0) (reg 5 0x10008 & reg 9 1 & pc 0x322a2ca & done 5
    & ram (hex 20 0x968783b0e6474c11fe60cca75bcba1f75d449bd1)) (write 0x10008 4 3 0xd21a8809 ∷ [])
    -- 44-StPair/ram-end-in-xip/0
    ∷ runs (block (memory 0x2000 0xb 0x2000 0x13 true) 0x36b982a (op (StPair 0 (Reg 7) 0xa45586a6) 4 true ∷ []))
    (hex 19 0x58d23df1cfa11394b1ef7a598cef620587df09) 0xffffffff
    (card (regs 0xf5f43181ac1925ff6b9245ac7b2a039257329636000001003c1309e85baa995e
    0x0000001dfffff0019a69a3c40000000300010000b28f943ffffffff200000001) 3 0xffff8000 0 0 0x808cde26 0xfffffffe
    (hex 11 0x1a9007683eac40f4cc0643) (hex 3 0x800000) (outcome 0 0 (hex 11 0x1a9007688131f4adcc0643) (hex 3 0x800001)
    ∷ outcome 0x6a 0xffffffff (hex 11 0xc046bfdf1ed93113f104fe) (hex 3 0xdfb700) ∷ []))
    (entry 0xc17 0x36b982e ∷ []) (by_chain 0) (pc 0x36b982e & done 0xffffffff & ram (hex 11 0x1a9007688131f4adcc0643)
    & map (hex 3 0x800001)) (write 0x2008 4 0xfffffffe 0xac1925ff ∷ [])
    -- 44-StPair/top-wrap/0
    ∷ runs (block (memory 0 0x10 0xfffffff8 8 true) 0x2017816 (op (StPair 6 (Reg 2) 0xfffffff8) 0xff true ∷ op (Alu3 2 2 1 Shl) 0 false
    ∷ op (Call 0xfffff001) 4 false ∷ [])) (hex 8 0x903120e2338aa19c) 0xffffffff
    (card (regs 0x0000007f0000000700000004c02606e00000000149d337d3a80e0c7cfffff001
    0x00fff00000000080fffff00024c19c2f66022c4c71f979d10000000700000002) 1 0x5b2d4fc2 0 0 0x216df622 0x1000
    (hex 16 0xc9decdf7cd4e6c588a765070e6e9a9d5) (hex 4 0x00010100)
    (outcome 0x80000000 0 (hex 16 0xc9decdf7cd4e6c588a765d70e6e9a9d5) (hex 4 0x00010101)
    ∷ outcome 0xd5 1 (hex 16 0x0cebc78be19ed82f586cd3280002d612) (hex 4 0xc2387203)
    ∷ outcome 0xa7 0 (hex 16 0xe9de0d622931cefe0f92467cf9122f8c) (hex 4 0xea47985f) ∷ []))
    [] (by_chain 0) (reg 2 0x200 & rets 0x2017919 & pc 0xfffff001 & done 0x1003 & ram (hex 16 0xd179f971cd4e6c588a765d70e6e9a9d5)
    & map (hex 4 0x00010101)) (write 0xfffffffc 4 0x1000 0x66022c4c ∷ [])
    -- 44-StPair/outside/0
    ∷ runs (block (memory 0x20000000 8 0x8000000 0xb true) 0x2000000 (op (StPair 6 (Reg 3) 0xffffffe3) 0xff true
    ∷ op (Mov2I 0xa 5 0xa594505e) 4 false ∷ [])) (hex 11 0x18fe718d9f224d824284aa) 2
    (card (regs 0x561e3e1efffff000fffffff82485c1e5ed0cd982000000200000000400000003
    0x0000ffffffff800000001000000000029c0a719e0c84afd5ffff0000ae05f7d7) 0x1aea0008 0x12345 0x6b66b225 0 0x92fc3889 0
    (hex 8 0x9da8a63cfdfbfdaa) (hex 2 0x0080) (outcome 0x80000000 0 (hex 8 0x9d21a63cfdfbfdaa) (hex 2 0x0180)
    ∷ outcome 0xe52b62c5 0 (hex 8 0x9d21a63cfdfbfdaa) (hex 2 0x0180) ∷ outcome 0x92 1 (hex 8 0x9d26e668c72c61c9) (hex 2 0xce4a)
    ∷ outcome 0x27 1 (hex 8 0xcefc5c8f42d0bc18) (hex 2 0x0259) ∷ []))
    [] (by_chain 0) (reg 5 0xa594505e & reg 10 0xffffffff & pc 0x2000103 & done 2 & ram (hex 8 0x9d21a63cfdfbfdaa) & map (hex 2 0x0180))
    (write 0x2485c1c8 4 0 0x9c0a719e ∷ write 0x2485c1cc 4 0 0xc84afd5 ∷ [])
    -- 44-StPair/break-start-glue-0/0
    ∷ runs (block (memory 0x1000000 0x18 0 0xa true) 0x2000000 (op (MovI 4 0x456657b5) 4 false ∷ op (MovI 0xd 0x1000001) 2 false
    ∷ op (StPair 2 (Reg 13) 3) 2 false ∷ op (MovI 0xb 0x71f5e1cc) 6 false ∷ op (RFromSp 0xb 0x1f) 2 true ∷ []))
    (hex 10 0xfc1744aee8c138dac71e) 0x1004
    (card (regs 0x0000000b9f9b4a137fffffff63c45000c9a8825878da1d42859ebf40b2644739
    0xb06035f1ffffffff0000007f00007fff4bf19655ffffffff00007fff00001000) 0x7f635145 0xffffffde 2 0xffffffff 0xedf14d95 0xfff
    (hex 24 0x83665acdf0cb1883faf2d3aced957c29e62f3ccb289fa7a7) (hex 6 0x000000008000)
    (outcome 0x8d 1 (hex 24 0xf9d9e14291a1f22ba595a84c92d5b3bff7bb180f05db5f20) (hex 6 0x9e0324830c82) ∷ []))
    [] by_return (reg 4 0x456657b5 & reg 13 0x1000001 & pc 0x2000008 & done 0x1002
    & ram (hex 24 0x83665acdb5576645421dda78ed957c29e62f3ccb289fa7a7)) []
    -- 44-StPair/break-first-glue-0/0
    ∷ runs (block (memory 0x20000000 8 0x8000000 0xa false) 0x31c512e (op (MinMax 0xa 0xe 4 MinU) 6 false
    ∷ op (BitExt 0xa 3 0x25 0x1f false) 0xff true ∷ op (StPair 0 (Reg 14) 0) 0 false ∷ op (Mov2I 9 0xf 0xfffffff9) 0xff false
    ∷ op (Div 4 5 0xb RemU) 2 false ∷ [])) (hex 10 0x7580939a1c706d0f50a8) 0xffffffff
    (card (regs 0xa23c6c876fdbc9a4b95930fb0000001d0000000000000021fbafbd1a848def30
    0x0000100063d215752ac3281efffff0000d412246ffffffdf1ffffffc00000008) 0x7fffffff 0xfffffffe 2 0 0xd00c5d43 0 (hex 8 0x9189418463aaddf2)
    [] (outcome 0x80000000 0x80000000 (hex 8 0x9189418463c2ddf2) [] ∷ outcome 0xc 1 (hex 8 0x4be7e9d9ca8f62f1) []
    ∷ outcome 0x71 1 (hex 8 0x883ee439ca815c11) [] ∷ []))
    [] by_return (reg 10 0 & brk 0x80000000 & pc 0x31c5233 & done 3 & ram (hex 8 0xa4c9db6f63c2ddf2)) (write 0x1ffffffc 4 2 0xa23c6c87
    ∷ [])
    -- 44-StPair/break-all-glue-1/0
    ∷ runs (block (memory 0 8 0x2000000 0xc true) 0x33eff22 (op (StPair 0 (Reg 11) 0) 2 true ∷ op (ShlI 0xd 7 8) 2 false
    ∷ op (MovI 4 0xffffffff) 2 false ∷ [])) (hex 12 0x4233e3e55b37bfc889117548) 0xffffffff
    (card (regs 0x90dd7ab0d890ed1200000001ffff000071d9724cfffffffeffff8000d3ed4790
    0x0000000400001000815e593640000104000000020001234500000080ffffffff) 0x991993a9 2 2 0 0x4027a77c 0xf4350266 (hex 8 0x5d6961dcc096fdb1)
    (hex 2 0x8080) (outcome 0x49576edc 0xffff0000 (hex 8 0x5d6961dcc096fdb1) (hex 2 0x8080)
    ∷ outcome 1 0x80000000 (hex 8 0x5d0461dcc096fdb1) (hex 2 0x8080) ∷ outcome 0x36 0 (hex 8 0x2473c522ca329605) (hex 2 0x6f12)
    ∷ outcome 0xe2 1 (hex 8 0xbae735233b576c38) (hex 2 0xc60b) ∷ []))
    [] by_return (hold 1 & brk 0x80000000 & pc 0x33eff24 & done 0xf4350267 & ram (hex 8 0x5d0461dcc096fdb1))
    (write 0x40000104 4 0xf4350266 0x90dd7ab0 ∷ write 0x40000108 4 0xf4350266 0xd890ed12 ∷ [])
    -- 44-StPair/break-set-cleared-glue-1/0
    ∷ runs (block (memory 0x3000014 0x14 0x3000000 0x14 true) 0x3ffffff (op (StPair 6 (Reg 8) 5) 0 true ∷ op (ShlI 0xa 5 8) 2 true ∷ []))
    (hex 20 0xaca14a50d21e877a15e208e4ef6b5b58b66c44f5) 2
    (card (regs 0x75d75e867fffffff19d60db700000fff0000001b0000001b67c89f76c01bb199
    0x4000017bc16c8be6fffffffe00000080c6fafb2fa4f4c28effff00000000ffff) 0x1f 0xfff000 0 0 0xc8921fbc 0
    (hex 20 0x9ec75d1419f331a99ef55f5eb3d6441bda655508) (hex 5 0x0000008080)
    (outcome 1 0xffffffff (hex 20 0x9ec75d1419f331a99ef55f5eb3d6441bda655508) (hex 5 0x0000008080)
    ∷ outcome 1 0 (hex 20 0x9ee05d1419f331a99ef55f5eb3d6441bda655508) (hex 5 0x0000008080)
    ∷ outcome 0xe8 0xffffffff (hex 20 0xc32069db8ac7673f482771ba1d1bc88d4fc31b44) (hex 5 0xd4abc7e8e4)
    ∷ outcome 0x29 1 (hex 20 0x638fa3f5c4f3186063471bf2c8fc8fed458e0cb1) (hex 5 0x13dc39bfea) ∷ []))
    [] (by_chain 0) (reg 10 0x1b00 & pc 0x4000001 & done 2 & ram (hex 20 0x9ee05d1419f331a99ef55f5eb3d6441bda655508))
    (write 0x40000180 4 0 0xc6fafb2f ∷ write 0x40000184 4 0 0xa4f4c28e ∷ [])
    -- 44-StPair/break-cleared-glue-1/0
    ∷ runs (block (memory 0x10000 9 0x1000c 0xa true) 0x39aeef0 (op (SarI 1 6 0xff) 2 true ∷ op (StPair 5 (Reg 7) 0) 6 true
    ∷ op (BitExt 0xa 0 0x10 1 true) 0 false ∷ op (Mov 0 0xd) 6 false ∷ [])) (hex 10 0xd2025870ab5eb40e6f49) 0xffffffff
    (card (regs 0x00fff000ffff8000c62794d3ffff000000fff00000000000fffff000362d87d8
    0x0000001f373e0303badbc31330c3ec42fffffff9ffffffffffffffe400000000) 0xfffff000 0x7f 1 0xffffffff 0x93fc6681 0x1000
    (hex 9 0x1d3c1e61d3f068c174) (hex 3 0x800100) (outcome 0x9bd63194 0 (hex 9 0x1d3c1e61d3f0687b74) (hex 3 0x800100)
    ∷ outcome 0xa324c1dc 0 (hex 9 0x1d3c1e61d3f0757b74) (hex 3 0x800100) ∷ []))
    [] (by_chain 0) (reg 0 0xffffffff & reg 1 0xffffffff & reg 10 0xffffffff & brk 0 & pc 0x39aeefe & done 0x1004
    & ram (hex 9 0x1d3c1e61d3f0757b74)) (write 0x362d87d8 4 0x1001 0xbadbc313 ∷ write 0x362d87dc 4 0x1001 0x30c3ec42 ∷ [])
    -- 44-StPair/map-first-set/0
    ∷ runs (block (memory 0 0x14 0x2000000 0xa true) 0x3ffffff (op (SpAdd 0xfffffff9) 6 false ∷ op (MovI 0xb 0x1287cb5f) 0x2e false
    ∷ op (StPair 0 (Reg 10) 0) 6 true ∷ [])) (hex 10 0x26563c9ba8ca735cd155) 3
    (card (regs 0x8faa2e6d72438894b045531900000024b49fee74659735700000000300008000
    0x63fba807c32ee78e00000004c1c7fffa00fff0000000001f0000000045b32811) 0x8000 0xfffffff0 2 0 0x80a0a26b 0
    (hex 20 0x3f827f146e227431f38c3f396ef17d1f21885b8f) (hex 5 0x0001000101)
    (outcome 0 0 (hex 20 0x3f827f146e22a731f38c3f396ef17d1f21885b8f) (hex 5 0x4001000101)
    ∷ outcome 0x4d 1 (hex 20 0x8012d14ac122a9c44a4e449991ba2d7660cd3966) (hex 5 0x35c740ca58)
    ∷ outcome 0x58 0xffffffff (hex 20 0x9082f27791a84b0720ba28f644d1c3eb5b6a0448) (hex 5 0x1a413792a6) ∷ []))
    (entry 0x1c 0x4000039 ∷ []) (by_chain 0) (reg 11 0x1287cb5f & sp 0x7ff9 & pc 0x4000039 & done 3
    & ram (hex 20 0x3f827f146e22a731948843726ef17d1f21885b8f) & map (hex 5 0x4001000101)) (write 4 4 2 0x8faa2e6d ∷ [])
    -- 44-StPair/map-all-set/0
    ∷ runs (block (memory 0x1000000 0x12 0 0xc true) 0x3ffffff (op (Div 0xe 8 0xa RemU) 6 true ∷ op (MovI 2 0x1000004) 4 false
    ∷ op (MovI 0xa 0x700984aa) 2 false ∷ op (StPair 5 (Reg 2) 0) 2 false ∷ [])) (hex 12 0x1c3904822e8e537eea31a729) 0xffffffff
    (card (regs 0x7ba0e185a8f6db3900010000ffffffff0000ffff55cbb1effffff000ffff0000
    0xcbae18f50000800080000000598b072b00012345000123450000000800000003) 0xf1f28ee4 0x97b36fe7 0 0 0x97e422dc 5
    (hex 18 0x4eac2065446c1a035c5b9e9706cc0d4cd519) (hex 5 0x8080808001)
    (outcome 0xffffffff 0 (hex 18 0x4eac2065446c1a035c5b9e5706cc0d4cd519) (hex 5 0x0080808001)
    ∷ outcome 0xffffffff 0 (hex 18 0x4eac2065446c1ad85c5b9e5706cc4e4cd519) (hex 5 0x0000808040)
    ∷ outcome 0xe4 1 (hex 18 0x9cf4c11aff8578828ca9bd8a7e3047045c34) (hex 5 0xeaa1a862e8) ∷ []))
    [] (by_chain 0) (reg 2 0x1000004 & reg 10 0x700984aa & reg 14 0x4bae18f5 & pc 0x400000d & done 9
    & ram (hex 18 0x4eac2065446c1ad85c5b9e5706cc4e4cd519) & map (hex 5 0x0000808040)) (write 0x1000004 4 8 0x700984aa
    ∷ write 0x1000008 4 8 0x598b072b ∷ [])
    -- 44-StPair/map-next-set/0
    ∷ runs (block (memory 0x20000000 0x18 0x8000000 0xb true) 0x31a0b50 (op (StPair 5 (Reg 4) 0x10000) 6 true ∷ op (SpAdd 0xffffffde) 4 true
    ∷ op (MinMax 0xb 0xc 5 MaxU) 0 false ∷ [])) (hex 11 0xa972899dafa7a3a869880e) 8
    (card (regs 0xf538c2b700000004ffffffec7ea1291e1fff0003000001000000007fce34b648
    0x2e431718685f968f6d85f04e2537d338a7f467df7d43218c00000012000000ff) 0x12345 0xffffffde 0 0 0x46462755 5
    (hex 24 0xc4cad6906ca98dbbaaf2852081bf5eb2127955d38a1561c9) (hex 6 0x000002800080) [])
    (entry 0x5ad 0x31a0b5a ∷ []) (by_chain 0) (reg 11 0xa7f467df & sp 0x12323 & pc 0x31a0b5a & done 8
    & ram (hex 24 0xc4cad64ef0856d38d337252081bf5eb2127955d38a1561c9)) []
    -- 44-StPair/map-cleared-by-outcome/0
    ∷ runs (block (memory 0x300000c 0x1c 0x3000000 0xc true) 0x3ffffff (op (StPair 0 (Reg 8) 0xffffffff) 4 true ∷ op (SpAdd 1) 0xff false
    ∷ [])) (hex 12 0x5697de69fe636e209a6703e9) 2
    (card (regs 0x092f828133c4760380000000fffffffb332fce690000007f0000007fb10bed02
    0x030000114527eb16b1e80015000000020000001fffffffff0000000400000100) 0x13314d0a 0x1f 0 0 0x293df3fd 0
    (hex 28 0x9f620ff115501af1cb2bb8f27166b86d714ad352353c1e60c1c31f9a) (hex 7 0x01ffff80800180)
    (outcome 1 0 (hex 28 0x9f620ff115501af1cb2bb8f27166b86d714ad352353c1e60c1c31f9a) (hex 7 0x01ff0080800180) ∷ []))
    (entry 0x81 0x4000102 ∷ []) (by_chain 0) (sp 0x13314d0b & pc 0x4000102 & done 2
    & ram (hex 28 0x9f620ff115501af10376c4337166b86d714ad352353c1e60c1c31f9a) & map (hex 7 0x01ff0080800180))
    (write 0x3000010 4 0 0x92f8281 ∷ [])
    ∷ []

pub all_reach : reached cases ≡ expected cases
unfolding run ops_from op_step load direct store read_le write_le signed_of sign_extend leading_zeros store_all
all_reach = refl
