-- Kind 43: each pair, offsets, region ends, breaks: each run reaches its end.
use mathlib.Core.Bool.{true, false}
use mathlib.Core.List.{List, [], ◌∷◌}
use mathlib.Core.Path.{◌≡◌, refl}
use Rattle.block.specs.declared.Op.TheVariants.{Add, Sub, RSub, And, AndNot, Or, Xor}
use Rattle.block.specs.declared.Base.TheVariants.{Reg, Sp}
use Rattle.block.specs.declared.Rk.TheVariants.{Imm as RkImm}
use Rattle.block.specs.declared.Part.TheVariants.{Upper as PartUpper}
use Rattle.block.specs.declared.Choice.TheVariants.{MinU, MaxU}
use Rattle.block.specs.declared.UnKind.TheVariants.{Not}
use Rattle.block.specs.declared.DivKind.TheVariants.{RemU}
use Rattle.block.specs.declared.Fast.TheVariants.{Nop, MovI, Mov, AddRI, SarI, Alu3, Alu3I, Alu2}
use Rattle.block.specs.declared.Fast.TheVariants.{Alu2I, A4, Ext, MinMax, Un, Div, Mov2, Mov2I}
use Rattle.block.specs.declared.Fast.TheVariants.{BitExt, BitIns, SpAdd, RFromSp, Rts, GotoR, LdPair}
use Rattle.card.specs.Card.{read}
use Rattle.card.specs.Word.{signed_of, sign_extend, leading_zeros}
use Rattle.card.specs.Memory.{read_le, write_le, load, direct, store}
use Rattle.card.specs.Step.{op_step, load_all}
use Rattle.card.specs.Run.{ops_from, run}
use Rattle.card_runs.specs.Case.{Case, runs, reached, expected, block, memory, op, hex, regs, card}
use Rattle.card_runs.specs.Case.{outcome, entry, by_return, by_table, by_chain, reg, sp, hold, brk, pc, done, ram, map, ◌&◌}

abbrev cases : List Case
cases =
    -- 43-LdPair/p-0/0
    runs (block (memory 0x3000008 8 0x3000000 8 false) 0x3ffffff (op (BitIns 3 9 2 0xe) 0x22 false ∷ op (AddRI 0xe 6 0x756fca78) 2 false
    ∷ op (MovI 0xc 0xffff0000) 0xa8 true ∷ op (LdPair 0 (Reg 8) 2) 2 false ∷ [])) (hex 8 0x81555cdc6c71a45a) 4
    (card (regs 0x035551799abc86ae59ffc63a000080005882be174c1c20bbffff000000000002
    0x03000006a1434b9000007fff0000010017bb8f4fb92b087d177000da000000ff) 0x2b82ca77 0xf748a3a5 0xea8eb4d5 0 0x4824875a 0
    (hex 8 0xfe1a9871269aef46) [] (outcome 0xb5 0 (hex 8 0x4058a5854c482cef) [] ∷ []))
    (entry 0x66 0x40000cd ∷ []) (by_chain 0) (reg 0 0x71981afe & reg 1 0x46ef9a26 & reg 3 0x2e40 & reg 12 0xffff0000 & reg 14 0x756eca78
    & pc 0x40000cd & done 4) []
    -- 43-LdPair/p-1/0
    ∷ runs (block (memory 0x1000000 8 0x2000000 0xc false) 0x3ffffff (op (LdPair 1 Sp 8) 2 true ∷ [])) (hex 12 0x16f8b91a89dfb265f9119000) 1
    (card (regs 0x192bbadc4c115ba0fffffffffffffffe000000070000000632a8b83480000000
    0x17dede7800000080156345bd000000020000800000000001c916d4b6ffffffff) 0xfffff8 0xffff0000 0 0 0x52e964ae 0 (hex 8 0x127836721693c30c) []
    (outcome 0x7f 0 (hex 8 0xe4f2a274eedbe92b) [] ∷ []))
    (entry 0 0x4000001 ∷ []) (by_chain 0) (reg 2 0x72367812 & reg 3 0xcc39316 & pc 0x4000001 & done 1) []
    -- 43-LdPair/p-2/0
    ∷ runs (block (memory 0x3000008 0x10 0x3000000 8 true) 0x2000000 (op (MovI 0xb 0x300000c) 4 false ∷ op (LdPair 2 (Reg 11) 0) 4 false
    ∷ op (SpAdd 0x7fffffff) 0 true ∷ [])) (hex 8 0xc811711f98405dd2) 0x1003
    (card (regs 0x00000080a6e165da00fff0007fffffff33eb48cfaf9ffe3573be9c5c00000003
    0x0000000ffffffffcffffffff000000ff61c8fcd6ffffffff0000001a00000002) 0xfff000 0x10000 0 0 0x7a58f515 0x1000
    (hex 16 0xe2cd9fe41f2fc548afc35453f50fb5db) (hex 4 0xff008001) [])
    (entry 4 0x2000008 ∷ []) (by_chain 0) (reg 4 0x48c52f1f & reg 5 0x5354c3af & reg 11 0x300000c & sp 0x80ffefff & pc 0x2000008
    & done 0x1003) []
    -- 43-LdPair/p-3/0
    ∷ runs (block (memory 0x10000 8 0x10008 0xb true) 0x2ade783 (op (Mov 8 2) 4 true ∷ op (LdPair 3 (Reg 11) 0) 4 false ∷ []))
    (hex 11 0x0af41557216ab08078459a) 0xffffffff
    (card (regs 0x3f6af31affffffffd4887b4efffff00135b765001a0a10670000008000000007
    0xfffff000d31ae6c600000001000100000000002600010000e3d0b4bc4b2e264b) 0x1287cd20 3 0xff2229de 0 0x58961662 0x402a020c
    (hex 8 0x6df5c3f1c66434a8) (hex 2 0x0001) (outcome 0x42 1 (hex 8 0x042a9ebeee9fdafa) (hex 2 0x9e9f) ∷ []))
    [] (by_chain 0) (reg 6 0xf1c3f56d & reg 7 0xa83464c6 & reg 8 0xd4887b4e & pc 0x2ade78b & done 0x402a020e) []
    -- 43-LdPair/p-4/0
    ∷ runs (block (memory 0x1000 0x14 0xfffffff8 8 false) 0x3ffffff (op (LdPair 4 (Reg 5) 0) 0xff false ∷ [])) (hex 8 0x7c7a2a9e3e4c2f83) 1
    (card (regs 0x00000003000000fffffffffffffff001343f9c0000001004fffff0010000001d
    0x7a06042b0000000800000008000000fffffffff5000000077fffffff832696f2) 0xcd1b3f5a 0xe 2 0 0x38989ed1 0
    (hex 20 0x57c8e2562ae33c06148d378fa50d085fc0a10e64) [] (outcome 0x77 0xffffffff (hex 20 0xb3344f6a5861b82a5401848f2177832f8acdf3a5) []
    ∷ []))
    [] (by_chain 0) (reg 8 0x63ce32a & reg 9 0x8f378d14 & pc 0x40000fe & done 1) []
    -- 43-LdPair/p-5/0
    ∷ runs (block (memory 0x7ffffffc 8 0x100 8 true) 0x2843e64 (op (LdPair 5 (Reg 7) 0x3ce44277) 4 false ∷ op Rts 4 false ∷ []))
    (hex 8 0xd7e298e2498f5caf) 7
    (card (regs 0x9ba3e6750000007ffffffffdfffffff2d59258ab00000008115084bc431bbd85
    0x202e3bd60000002076eb60abffffffff00012345000000140000000100000fff) 0x48204a7a 0x2ddaf3ec 0 0 0xe1b5d3ee 5 (hex 8 0xcac2e26a4baf8095)
    (hex 2 0x00ff) (outcome 0xd8 1 (hex 8 0xffd7b8e14dfc052c) (hex 2 0x5448) ∷ []))
    (entry 0x39f6 0x2ddaf3ec ∷ []) by_table (reg 10 0x6ae2c2ca & reg 11 0x9580af4b & pc 0x2ddaf3ec & done 7) []
    -- 43-LdPair/p-6/0
    ∷ runs (block (memory 0x10000 8 0x10008 8 true) 0x3ffffff (op (MovI 3 0x10000) 2 false ∷ op (LdPair 6 (Reg 3) 0) 0xff false ∷ []))
    (hex 8 0x7d2a396d23560d02) 2
    (card (regs 0x9e8cf209fa45a7974fea0a20af30776df1345d6dffffffdf7e9888d4659452d1
    0x8000000000000fff0000000102a85082accbf89100007fff94746d58ffffffff) 0xd6c98152 0x80000000 1 0 0xa2f82555 0 (hex 8 0xce88d60b4c972b88)
    (hex 2 0x8080) (outcome 0x20 0 (hex 8 0xc10c3da7a6564560) (hex 2 0x3451) ∷ []))
    [] (by_chain 0) (reg 3 0x10000 & reg 12 0xbd688ce & reg 13 0x882b974c & pc 0x4000100 & done 2) []
    -- 43-LdPair/p-7/0
    ∷ runs (block (memory 0x10000 0xb 0x1000c 9 true) 0x3ffffff (op (AddRI 0xe 0xd 8) 6 false ∷ op (MovI 9 0x10003) 2 false
    ∷ op (LdPair 7 (Reg 9) 0) 4 false ∷ [])) (hex 9 0x5ccf899b4972a51360) 0x1003
    (card (regs 0x000000800000001f00000fff06e255b9933167f0fffff0000000002000000100
    0x1887a13f0000007f00000fff1f1516e6ad8bad0007cad7d4b1876c1000000000) 0xffffffff 2 0x4efd7b51 0 0x1dc72e13 0x1000
    (hex 11 0xf29639b2b93377cf6d58ae) (hex 3 0x800100) (outcome 0xcf 0 (hex 11 0x7bf77439e35de546d93168) (hex 3 0xbffe4c) ∷ []))
    [] (by_chain 0) (reg 9 0x10003 & reg 14 0x7733b9b2 & reg 15 0xae586dcf & pc 0x400000b & done 0x1003) []
    -- 43-LdPair/p-8/0
    ∷ runs (block (memory 0x20000000 0x10 0x8000000 0x14 false) 0x2a80096 (op Nop 4 false ∷ op (LdPair 8 (Reg 2) 0) 4 true
    ∷ op (BitIns 3 0 0x10 0) 0 true ∷ [])) (hex 20 0x1cabe04925cd38c56ff79fd057c48785dfb1f9b0) 0xffffffff
    (card (regs 0x000000078158d9a2200000008000000000000020fefcf82e09101874ffff0000
    0x3b0b440f00000006345cbd3f9e717764000000027e7457b985b6f26300000004) 0x12345 0xffffffdd 0xc54144bf 0 0x456525a0 0
    (hex 16 0x1816e1f78d8467ce78882cbc6a170db5) [] [])
    [] (by_chain 0) (reg 0 0xf7e11618 & reg 1 0xce67848d & reg 3 0x16180000 & pc 0x2a8009e & done 3) []
    -- 43-LdPair/p-7f/0
    ∷ runs (block (memory 0x1000 8 0xfffffff0 0x10 true) 0x3ffffff (op (Alu2 0xb 0xd RSub) 2 false ∷ op (SpAdd 0xffff) 0xff false
    ∷ op (AddRI 8 0xa 3) 6 false ∷ op (MinMax 5 8 4 MinU) 4 false ∷ op (Mov 5 9) 4 true ∷ op (Alu2I 9 0xfffff001 Or) 4 false
    ∷ op (SarI 9 0xd 0) 2 true ∷ op (Alu3 4 7 2 Add) 4 false ∷ op (Mov 8 0xa) 0xff true ∷ op (LdPair 0x7f (Reg 2) 0) 2 false ∷ []))
    (hex 16 0x1852cae4b1c4be774a7b7cfc683f0a84) 0xa
    (card (regs 0x0000000300000fff00001000000001000c3c9d1100fff0000000000200000004
    0x87c4393b7ffffffffffffffd936c69ae6bb2ff2800000100e5a118d4ffffffff) 0xffffffff 0xfffffff9 0 0 0x1a247836 0 (hex 8 0x288c2f8419a2c424)
    (hex 2 0x0000) [])
    [] (by_chain 0) (reg 4 0x1004 & reg 5 0x7fffffff & reg 8 0xfffffffd & reg 9 0x100 & reg 11 0x6c939752 & reg 14 0x842f8c28
    & reg 15 0x24c4a219 & sp 0xfffe & pc 0x4000219 & done 0xa) []
    -- 43-LdPair/p-ff/0
    ∷ runs (block (memory 0 0xa 0x2000000 0xa false) 0x2000000 (op (MovI 7 0) 4 false ∷ op (LdPair 0xff (Reg 7) 0) 4 false ∷ []))
    (hex 10 0x744b29d50ea4285514bb) 0x1001
    (card (regs 0xed8dce470000007f00000fff26594652ee34e3691947b000000000072df5a3d5
    0x0000001f0000007fbe6d743e000001000b7bcd660000007f0000000400010000) 0xfffff000 0x10b89478 2 0 0xa555c1d0 0xfff
    (hex 10 0x71f74c9e961586c7a94c) [] [])
    [] (by_chain 0) (reg 7 0 & reg 14 0x9e4cf771 & reg 15 0xc7861596 & pc 0x2000008 & done 0x1001) []
    -- 43-LdPair/base-even/0
    ∷ runs (block (memory 0x1000 8 0xfffffff8 8 false) 0x2000000 (op (MovI 8 0x1009) 2 false ∷ op (LdPair 0xfc (Reg 8) 0xfffffff3) 6 false
    ∷ [])) (hex 8 0x0a89c9d22a6085c7) 0xffffffff
    (card (regs 0xdd105e42000080007fffffff0000002883230bd425baf36d00012345fffff000
    0x80000000fffff000fffff001b2c545165713ce7affff800093654ebd00000001) 0xbc17cce4 4 1 0 0x2974f738 0 (hex 8 0x0ec51fbb95348cd5) []
    (outcome 0x80000000 0 (hex 8 0x0ec51fbb5c3e8cd5) [] ∷ outcome 0x1e 0 (hex 8 0xccbb47eee30a0d0d) []
    ∷ outcome 0x59 0xffffffff (hex 8 0xa890c8ecac00203f) [] ∷ []))
    [] (by_chain 0) (reg 9 0xbb1fc50e & pc 0x2000008 & done 2 & ram (hex 8 0x0ec51fbb5c3e8cd5)) (read 0xffc 4 1 ∷ [])
    -- 43-LdPair/base-odd/0
    ∷ runs (block (memory 0x7ffffffc 0x11 0x100 0xa false) 0x287f12a (op (AddRI 8 0 0x1d) 4 true ∷ op (Alu3I 2 0xf 0x7780d92b And) 0xff true
    ∷ op (Alu2I 0xb 0x1c AndNot) 4 false ∷ op (Alu2 9 3 And) 0 true ∷ op (RFromSp 6 0x5dd2ca73) 2 false ∷ op (RFromSp 3 0xff) 6 true
    ∷ op (Alu2 0 9 And) 6 false ∷ op (Mov2I 8 7 0x1eca6267) 6 false ∷ op (Alu3 0xa 2 1 And) 0xa4 false ∷ op (Alu3 0 4 7 Or) 2 false
    ∷ op (Mov 0xe 4) 0 true ∷ op (Alu2 5 8 Xor) 6 false ∷ op (BitExt 0xa 7 8 2 true) 6 true ∷ op (Mov2 1 0xa 0 0xc) 0xff false
    ∷ op (SpAdd 0x12c6e493) 2 false ∷ op (SpAdd 0x1000) 0xe2 true ∷ op (MovI 0xf 0x80000000) 4 false ∷ op (LdPair 0xff (Reg 15) 0) 2 false
    ∷ op (Un 0xc 0xa Not) 4 false ∷ op (Mov 0xd 4) 0 true ∷ [])) (hex 10 0xeccbb9a37bcdba33e780) 0xffffffff
    (card (regs 0xe8d30a150c1d3c9900001000fffffffe0000ffff0000800000007fff98cb3972
    0x00000002000000060000001d00001000000123451793715ada7849f800000001) 0x8377bc7e 0x76b3bebb 1 0 0x5efbbe6e 0
    (hex 17 0xc251fa3764c8d9534d26d21ba3b699a18d) [] (outcome 0xd1 1 (hex 17 0xed3cddc85075f8625028d3db98d9136dcd) []
    ∷ outcome 0x51 0 (hex 17 0x1af1de65fcbc1357e3055426a6367147ee) [] ∷ []))
    [] (by_chain 0) (reg 0 0x1ecaffff & reg 1 0x1ecaffff & reg 2 1 & reg 3 0x8377bd7d & reg 6 0xe14a86f1 & reg 7 0x1eca6267 & reg 8 0
    & reg 10 0x12345 & reg 12 0xfffedcba & reg 13 0xffff & reg 14 0x53d9c864 & reg 15 0x1bd2264d & sp 0x963eb111 & pc 0x287f4e4
    & done 0x14) []
    -- 43-LdPair/b-16/0
    ∷ runs (block (memory 0x20000000 0x14 0x8000000 0xa true) 0x21dbe92 (op (Alu3 0xb 6 7 Add) 0 false ∷ op (Mov 0 5) 2 false
    ∷ op (Alu2I 0xb 0x7fff Xor) 0 false ∷ op (Div 0xc 0xd 8 RemU) 4 true ∷ op (LdPair 6 Sp 0) 4 true
    ∷ op (Alu3I 1 2 0x10000 Sub) 0xff false ∷ [])) (hex 10 0xa0b259b1b5e546becb12) 0xffffffff
    (card (regs 0xfffffffeffffffe7800000000000001f000000010000000700000100d578c952
    0x44c5f6179db5bfe4a5aca498aa6ea716ffffffff54e3e6c60000007f040e8f0f) 0x2000000c 0xe1de35f2 0x7fa32513 0 0x6e5f681a 0
    (hex 20 0xdedbd16fda22cb73f1c4665afacac3bcc4347811) (hex 5 0xff80ff0080)
    (outcome 0x33 1 (hex 20 0xec6cc0e5baf3f5a0d8818723cb10449ca0b36c49) (hex 5 0x918fc5e9d8) ∷ []))
    (entry 0x1fcd 0x21dbf9b ∷ []) (by_chain 0) (reg 0 7 & reg 1 0x7fff0000 & reg 11 0xd578b5ad & reg 12 0xbcc3cafa & reg 13 0x117834c4
    & pc 0x21dbf9b & done 6) []
    -- 43-LdPair/off-0/0
    ∷ runs (block (memory 0x1000 0x18 0xfffffff8 8 false) 0x3255fc7 (op (LdPair 6 (Reg 6) 0) 2 false ∷ [])) (hex 8 0x309896abc1be06c6)
    0xffffffff
    (card (regs 0x00007fff0000000300000002b13b230300000fffa7cf0a5800001004b297e0eb
    0x00000008b79d1089000123450000001f00000002fffff001108922a5ea6f886a) 0x28ff7e42 2 0 0 0xdf82f559 0x1000
    (hex 24 0xbc4dbbb545333c426b816de4f563430b95d8965df4cf1b56) []
    (outcome 0 1 (hex 24 0x839fcfd3a5d7faa3d763469c1f31a9f4cf22bfc81e32f446) []
    ∷ outcome 0x6d 0 (hex 24 0x79cafb577ba476fe3165dce18a80fa27c2aba412c3ab7ab6) [] ∷ []))
    [] (by_chain 0) (reg 12 0x423c3345 & reg 13 0xe46d816b & pc 0x3255fc9 & done 0x1001) []
    -- 43-LdPair/off-fff/0
    ∷ runs (block (memory 0x1000000 0x14 0x2000000 0xc true) 0x2000000 (op (Mov2I 5 7 0x10000) 2 true ∷ op (Alu2I 0xb 0xd RSub) 6 false
    ∷ op (LdPair 5 (Reg 8) 0xfff) 2 true ∷ op (Alu2 9 0xe AndNot) 0x61 true ∷ [])) (hex 12 0xf84113beb71453db05bff52e) 4
    (card (regs 0x73abe41600007fff00000008abb20e979fa22a75000000010000001f00000016
    0x693a0d51ffffffd96b47a45cfffffffe0000001f00000002000000800000001b) 7 0xfffff000 0 0 0x1781308a 0
    (hex 20 0xcb974e5a1b45ff0418676cabeb960a555b985bea) (hex 5 0xffff010000)
    (outcome 1 0 (hex 20 0xcb974e5a1b45ff0418676cabeb960a555b985bea) (hex 5 0xffff010000)
    ∷ outcome 1 0 (hex 20 0xcb974e5a1b45ff2c18676cabeb960a555b985bea) (hex 5 0xff01010000)
    ∷ outcome 0xd7 0 (hex 20 0x23d714b5a32986b5b5157fad4d26bfefadfdaf7c) (hex 5 0xc2065310b0)
    ∷ outcome 0x8c 0 (hex 20 0x830c0510ca7e6a0d5b668922dd3f52bc3eda8278) (hex 5 0xe0fcb558cf) ∷ []))
    [] (by_chain 0) (reg 5 0 & reg 7 0x10000 & reg 9 0xffffff59 & reg 10 1 & reg 11 1 & pc 0x200006b & done 4
    & ram (hex 20 0xcb974e5a1b45ff2c18676cabeb960a555b985bea) & map (hex 5 0xff01010000)) (read 0x693a1d50 4 2 ∷ read 0x693a1d54 4 2 ∷ [])
    -- 43-LdPair/off-1000/0
    ∷ runs (block (memory 0x1000 0x10 0xfffffff4 0xa false) 0x24660be (op (Mov 0xd 0xb) 4 false ∷ op (SarI 5 0xc 1) 2 false
    ∷ op (MovI 5 1) 2 false ∷ op (MovI 0xc 0x3ffff120) 4 false ∷ op (LdPair 1 (Reg 12) 0x1000) 4 false ∷ []))
    (hex 10 0x7feecbaf7193175daffc) 0xffffffff
    (card (regs 0x171693a60000000200000020800000000fb29af03b865e9da2ef2cb5ffffffff
    0x00000fffdc8ac61fffffffd900010000ffffffebb1c8297f0000001f00008000) 2 0x295c8f33 2 0 0xa59bc2fb 0
    (hex 16 0x54619517584e8196ea652300a10382d3) [] (outcome 0xffffffff 0 (hex 16 0x54619517584e8196ea652300a10382d3) []
    ∷ outcome 0 0 (hex 16 0x54619517584e8196ea652300a10382d3) [] ∷ []))
    (entry 0x3067 0x24660ce ∷ []) (by_chain 0) (reg 2 0xffffffff & reg 3 0 & reg 5 1 & reg 12 0x3ffff120 & reg 13 0x10000 & pc 0x24660ce
    & done 5) (read 0x40000120 4 4 ∷ read 0x40000124 4 4 ∷ [])
    -- 43-LdPair/off-fffff001/0
    ∷ runs (block (memory 0 0x11 0x2000000 9 false) 0x3ffffff (op (MovI 7 0x1003) 2 false ∷ op (LdPair 0 (Reg 7) 0xfffff001) 4 true ∷ []))
    (hex 9 0x9dce01952b063ecc4e) 0xaaa82fee
    (card (regs 0xfffff0016da2ecc046cffa627527c45cd2535d41000100000000000800000080
    0x2ece2c4e000000ffffff800000001000fffff000557684b812d90be600000002) 0x8c30a4b7 0x7fff 2 0 0x51f38ef7 0xfff
    (hex 17 0xf7192a39faaec6d27a570574eccc638954) [] (outcome 0x8a 0 (hex 17 0x698ff391c5fa821e0a95528f205cd6b65e) []
    ∷ outcome 0x21 0 (hex 17 0x318ec6682a75e7b21c2651972217656a0f) [] ∷ []))
    (entry 2 0x4000005 ∷ []) (by_chain 0) (reg 0 0xd2c6aefa & reg 1 0x7405577a & reg 7 0x1003 & pc 0x4000005 & done 0x1001) []
    -- 43-LdPair/off-80000000/0
    ∷ runs (block (memory 0x20000000 9 0x8000000 9 true) 0x3ffffff (op (LdPair 7 (Reg 12) 0x80000000) 4 false ∷ []))
    (hex 9 0x4cd6de55bec2760b89) 0xffffffff
    (card (regs 0x000000040000007f000000047734a915000000017c5ee78f00000004530b62dd
    0x000000027fffffff000000fffffff000a000000193f0e7210000001c00000004) 0xa93a4142 0xfffff000 0 0 0x4b190cbf 5
    (hex 9 0x8931d774151a28840b) (hex 3 0x00ff01) (outcome 0x45 0 (hex 9 0x10026a3f1a7f102e8a) (hex 3 0xf7b135)
    ∷ outcome 0x43 0xffffffff (hex 9 0x1d457bfef747631a27) (hex 3 0xb3ce6e) ∷ []))
    (entry 1 0x4000003 ∷ []) (by_chain 0) (reg 14 0x1574d731 & reg 15 0xb84281a & pc 0x4000003 & done 6) []
    -- 43-LdPair/ram-exact/0
    ∷ runs (block (memory 0x1000000 8 0x2000000 8 true) 0x3199aa2 (op (AddRI 0xf 2 0x3bae48cd) 0 false
    ∷ op (LdPair 7 (Reg 7) 0xfffffff1) 4 true ∷ [])) (hex 8 0xf99a0d25d17e49d3) 0xffffffff
    (card (regs 0x000000028000000013be298097819452db48e23f1bbcc801000000080100000f
    0xffffffe7fffffff5ffff80009e17e5e05bbc177d80000000ffff80000000007f) 0x7deb6d32 0x100 0 0 0x1044bfeb 0xfffffffd
    (hex 8 0x1f3e47c175000e43) (hex 2 0x0080) [])
    [] (by_chain 0) (reg 14 0xc1473e1f & reg 15 0x430e0075 & pc 0x3199aa6 & done 0xffffffff) []
    -- 43-LdPair/ram-last/0
    ∷ runs (block (memory 0x3000010 0xa 0x3000000 0x10 false) 0x383d065 (op (MovI 5 0x3000012) 2 false ∷ op (LdPair 3 (Reg 5) 0) 2 true
    ∷ [])) (hex 16 0x7e6d0d69c3bea05209da32a1056ebd67) 0xffffffff
    (card (regs 0x0000001f9fe27187e26be1950000000800007fff922271ad0000ffff00010000
    0x00007fff00fff000000010000000002060626a6a0000001e567346dd00001000) 0xe8c3538a 7 0 0 0x7dcb0017 0x42920fa4
    (hex 10 0xe65616f69de4e87cce11) [] [])
    (entry 0x2834 0x383d069 ∷ []) (by_chain 0) (reg 5 0x3000012 & reg 6 0xe49df616 & reg 7 0x11ce7ce8 & pc 0x383d069 & done 0x42920fa6) []
    -- 43-LdPair/ram-over-1/0
    ∷ runs (block (memory 0x1000000 8 0x2000000 0xb true) 0x320fc28 (op (AddRI 3 0 0x20) 4 false ∷ op (Alu3 6 6 1 And) 4 false
    ∷ op (LdPair 6 (Reg 8) 0xfffffff3) 4 false ∷ [])) (hex 11 0x6ab99747206fca72df6fa2) 3
    (card (regs 0x919baee1421b2780688fe70efffff001ffffffff25d32f94ffffffff80000000
    0x0100000effffffff0000007f0000100080000000ffffffe1ea0d9dbfc35d0000) 0x7f 0x27098c22 2 0 0xc5b8181d 0 (hex 8 0x4731cf9113a10fc5)
    (hex 2 0x0100) (outcome 0x80000000 0 (hex 8 0x4731cfe513a10fc5) (hex 2 0x0101)
    ∷ outcome 0xf7 0xffffffff (hex 8 0xa010a24e87e0522d) (hex 2 0xa0e6) ∷ outcome 0x7d 1 (hex 8 0xcd227b5a0d663648) (hex 2 0x9b3d) ∷ []))
    (entry 0x3e1a 0x320fc34 ∷ []) (by_chain 0) (reg 3 0x919baf01 & reg 6 0x421b2780 & reg 12 0x1391cf31 & reg 13 0x80000000 & pc 0x320fc34
    & done 3 & ram (hex 8 0x4731cfe513a10fc5) & map (hex 2 0x0101)) (read 0x1000005 4 2 ∷ [])
    -- 43-LdPair/ram-over-4/0
    ∷ runs (block (memory 0xfffffff4 0xc 0x1000 0xc false) 0x3ffffff (op (LdPair 5 (Reg 9) 0) 4 true ∷ []))
    (hex 12 0x2c2b78d95e538c21740e9109) 0xffffffff
    (card (regs 0xffff0000000080009f97ab9600000004ebb44e3a0000000400000003e46abaf2
    0x000000fffffffffc800000007f4960070000001ffffff0010000ffffffff8000) 0x75724c75 0x5b618de8 0 0 0x95e8d0fb 0
    (hex 12 0x912782562c7d3bbffb5a2352) [] (outcome 0xffffffff 0 (hex 12 0x91278256ec7d3bbffb5a2352) []
    ∷ outcome 0x71 1 (hex 12 0x2ecbb4e8b5889f5e1b69306e) [] ∷ outcome 0x6a 1 (hex 12 0xe4f6e9ee661e6d143a476286) [] ∷ []))
    [] (by_chain 0) (reg 10 0x52235afb & reg 11 0xffffffff & pc 0x4000003 & done 1 & ram (hex 12 0x91278256ec7d3bbffb5a2352)) (read 0 4 0
    ∷ [])
    -- 43-LdPair/ram-before/0
    ∷ runs (block (memory 0x7ffffffc 8 0x100 0xc true) 0x29d9df4 (op (BitIns 0xb 0xd 8 2) 2 false ∷ op (BitIns 0xc 0xd 0x3f 0x21) 0x29 false
    ∷ op (Alu2 6 8 And) 0xff true ∷ op (MovI 0xe 0x7ffffff8) 4 false ∷ op (LdPair 5 (Reg 14) 0) 4 false ∷ []))
    (hex 12 0x0b7ccc4e360ad26aeb669455) 5
    (card (regs 0x0000000200000001fffffffe578fb4e100007fff0edfb5712cc5cb9600000003
    0xa58401d40000100000000004000000fffffffff7addd1410ffff8000329de02e) 0x16dacc92 8 0x20e0b881 0 0x63c5d1d0 0 (hex 8 0x9d4872f1798d015a)
    (hex 2 0x0180) (outcome 0x80000000 0 (hex 8 0x9d4872f1798d015a) (hex 2 0x0180)
    ∷ outcome 0x67 1 (hex 8 0x259197ee53ca210d) (hex 2 0x11aa) ∷ outcome 0x9f 0xffffffff (hex 8 0xeecafb2d49c5d2bc) (hex 2 0xe64d) ∷ []))
    [] (by_chain 0) (reg 6 0x24840194 & reg 10 0x80000000 & reg 11 0xf172489d & reg 12 0x7ffffff7 & reg 14 0x7ffffff8 & pc 0x29d9f26
    & done 5) (read 0x7ffffff8 4 4 ∷ [])
    -- 43-LdPair/ram-odd/0
    ∷ runs (block (memory 0 0xd 0x2000000 8 true) 0x257bca0 (op (LdPair 5 (Reg 1) 0) 4 true ∷ [])) (hex 8 0x280112b7d3b123ec) 0xffffffff
    (card (regs 0x0000ffff000000024b530b5f0000007fe860a3e4725f108753b4ce0915cb2095
    0x4a977682fffffffedd8e831efffffff1cc117959000000120000000100000018) 0xae6efc4a 0x10000 1 0 0xe976e6fc 0xfffffffe
    (hex 13 0x288076587f5ba3be03497ff355) (hex 4 0x000080ff)
    (outcome 0x78 0xffffffff (hex 13 0x5fa8d8d34f2a5b43812f6cb450) (hex 4 0xc5d37b88)
    ∷ outcome 0x2d 1 (hex 13 0xc98012b60b3d9844e33d49e356) (hex 4 0xdf1b1a55) ∷ []))
    (entry 0x1e52 0x257bca4 ∷ []) (by_chain 0) (reg 10 0x5b7f5876 & reg 11 0x4903bea3 & pc 0x257bca4 & done 0xffffffff) []
    -- 43-LdPair/xip-over-4/0
    ∷ runs (block (memory 0x1000000 8 0 0x10 true) 0x2000000 (op (SarI 0xf 7 0xff) 2 false ∷ op (LdPair 3 (Reg 14) 0xd24b5af6) 4 true ∷ []))
    (hex 16 0xe49b6c3521f21b7de1f0929b543ed7c3) 3
    (card (regs 0xffffffff00000008000010000000002018ee9793d38715b20001234532541d22
    0x183193b20000001fa8d6fe6db0bc43a8ffffffff00fff0002db4a51600010000) 0x1000 0x80000000 0xb31ec02d 0 0x70a5109b 1
    (hex 8 0xf69d4881dce88423) (hex 2 0x00ff) (outcome 0x80000000 0 (hex 8 0xf69d4881dce88423) (hex 2 0x00ff) ∷ []))
    [] (by_chain 0) (reg 6 0xc3d73e54 & reg 7 0x80000000 & reg 15 0 & pc 0x2000006 & done 3) (read 0x10 4 2 ∷ [])
    -- 43-LdPair/ram-to-xip/0
    ∷ runs (block (memory 0x10000 8 0x10008 0x10 true) 0x2000000 (op (SarI 5 4 8) 0xcc true ∷ op (LdPair 2 (Reg 2) 0x10) 0xff false ∷ []))
    (hex 16 0x08aa5a8d4fd7b52122fe728e92ad6d0c) 2
    (card (regs 0x00000003000123450000fff400000000fffff00100007fffffff8000fffffff0
    0x000000277fffffff6a64d4f98000000000000fffd94171c1424f61aefffff000) 2 0xf2d7fd9e 0x8dc69484 0 0x6525ec9 0 (hex 8 0xe51ff72e5174e189)
    (hex 2 0x8000) (outcome 0xda 1 (hex 8 0xda815bec78f61b45) (hex 2 0x253e) ∷ outcome 0xdd 0 (hex 8 0x529966b5d8deca8e) (hex 2 0xe205)
    ∷ []))
    (entry 0xe5 0x20001cb ∷ []) (by_chain 0) (reg 4 0x89e17451 & reg 5 0x8d5aaa08 & pc 0x20001cb & done 2) []
    -- 43-LdPair/xip-to-ram/0
    ∷ runs (block (memory 0x10008 0x10 0x10000 8 true) 0x3921df9 (op (RFromSp 3 0xffff8000) 2 true ∷ op (SarI 0xd 4 0x10) 0x49 false
    ∷ op (AddRI 5 2 0x20) 6 false ∷ op (Alu3 0xc 0xc 0xc AndNot) 0xff false ∷ op (LdPair 3 (Reg 9) 0) 4 true ∷ []))
    (hex 8 0x9c2b49ccbc601b52) 0xffffffff
    (card (regs 0x367faae43d6a4278fffff0003f63a3c700000004ffff000000000003d2622381
    0xffffffff000100047f081089b37434d500012345d86155ca74495f723ce0e1c2) 0x10000 0x7f 0 0 0x7301e33e 0
    (hex 16 0x7d116905eabe863a3c7baf7a16b672be) (hex 4 0x01010180) [])
    (entry 0xfa6 0x3921f4d ∷ []) (by_chain 0) (reg 3 0x8000 & reg 5 0xfffff020 & reg 6 0x521b60bc & reg 7 0x569117d & reg 12 0 & reg 13 0
    & pc 0x3921f4d & done 5) []
    -- 43-LdPair/both/0
    ∷ runs (block (memory 0x7ffffff0 0xa 0x7ffffff0 8 true) 0x2000000 (op (SarI 2 6 0x21) 0x37 true
    ∷ op (LdPair 5 (Reg 9) 0xfffffff1) 6 false ∷ op (Mov2 9 3 0xe 7) 2 false ∷ [])) (hex 8 0x29b9e3c3eef4e288) 3
    (card (regs 0x0000800000000080fffff0006c648d1b000000040000ffff8000000000000005
    0x908866217fffffff000000200000800000000001000000030000000206786cf5) 3 0xd1c08b77 1 0 0xd2eaeb6d 0 (hex 10 0xc4533ad9601a982b185f)
    (hex 3 0x000001) (outcome 0x81 0 (hex 10 0x98d877913d7668d15e6c) (hex 3 0xbe8bef)
    ∷ outcome 0x8d 0xffffffff (hex 10 0x5374204ca6ae656eef63) (hex 3 0x3732e1) ∷ []))
    [] (by_chain 0) (reg 2 0xc0000000 & reg 3 5 & reg 9 2 & reg 10 0xd93a53c4 & reg 11 0x2b981a60 & pc 0x200003f & done 3) []
    -- 43-LdPair/top-wrap/0
    ∷ runs (block (memory 0 8 0xfffffff4 0xc true) 0x3ffffff (op (LdPair 2 (Reg 8) 0xffff8000) 4 false ∷ []))
    (hex 12 0x119dd92a03613ce70dfdf495) 0xffffffff
    (card (regs 0x37183e7e00fff0008338db45ffffffe87d84dd6ba586dae5d56ef6af00000007
    0x00007ffcffffffdbf99ed3fa7f6858f900000001f1ab541effffffe000012345) 4 0xf93a1648 0 0 0xb804f3b8 0xfffffffe (hex 8 0x3f782cc9f0d2db00)
    (hex 2 0x0080) [])
    [] (by_chain 0) (reg 4 0x95f4fd0d & reg 5 0xc92c783f & pc 0x4000003 & done 0xffffffff) []
    -- 43-LdPair/outside-odd/0
    ∷ runs (block (memory 0xfffffff0 0x10 0x1000 0x10 false) 0x267c94e (op (Ext 0xe 7 PartUpper true) 2 true ∷ op (Alu3 5 4 7 Or) 0xff true
    ∷ op (LdPair 4 (Reg 10) 0) 4 false ∷ op (GotoR 0xe) 6 false ∷ [])) (hex 16 0x43d65034b1df6f5e3b4d6457aa9fc643) 0xb9163d4a
    (card (regs 0x00000008d0c2f19c0000ffff0000000000000007fffffffa00000002fffff001
    0xeaf9ecf700007fffb6e61bf90000ffff000000ff00000008ee722cc90000001e) 0x80000000 0xc25a0cea 0x6fb3cc2d 0 0xc507f37 0x1000
    (hex 16 0x219618b384129125ca03c65f692a4083) [] (outcome 0 0 (hex 16 0x219618b384129125ca03c65f692a4083) []
    ∷ outcome 0xb9646011 0 (hex 16 0x219618b384129125ca03c65f692a4083) [] ∷ outcome 1 1 (hex 16 0x2ddd4d5263eb14d14d2ebc2a08ca8db4) []
    ∷ outcome 0x7a 0xffffffff (hex 16 0x54eb1f08e787caaea7ac65ce55fdacfb) [] ∷ []))
    (entry 0x3fff 0x7fffffff ∷ []) by_return (reg 5 0xfffff007 & reg 8 0 & reg 9 0xb9646011 & reg 14 0xffffffff & pc 0xffffffff
    & done 0x1004) (read 0xb6e61bf9 4 0x1002 ∷ read 0xb6e61bfd 4 0x1002 ∷ [])
    -- 43-LdPair/break-first-glue-1/0
    ∷ runs (block (memory 0x300000c 8 0x3000000 9 true) 0x3ffffff (op (LdPair 1 (Reg 5) 2) 4 true ∷ op (Mov 2 0xf) 2 false
    ∷ op (MovI 5 8) 0x81 true ∷ op Rts 0 true ∷ [])) (hex 9 0x42f73e6ac0d809a8f1) 0xffffffff
    (card (regs 0x345e45946d19c43bac2114fc00000fff51175c5a030000068077e4b380000000
    0x7d8391a580000000000010001f0e9a598399dd800000000400007fff00000001) 0xfffff000 0xf53a6454 0 0 0x3b437d9f 0xc5f5288
    (hex 8 0xd22b32e1934afbc4) (hex 2 0x0000) (outcome 0xffffffff 1 (hex 8 0xd22b32e1934afbf5) (hex 2 0x0000) ∷ []))
    [] by_return (reg 2 0xffffffff & reg 3 0xe1322bd2 & hold 1 & brk 1 & pc 0x4000003 & done 0xc5f5289 & ram (hex 8 0xd22b32e1934afbf5))
    (read 0x3000008 4 0xc5f5288 ∷ [])
    -- 43-LdPair/break-last-glue-1/0
    ∷ runs (block (memory 0x7ffffffc 0xc 0x100 0x10 false) 0x2225d8a (op (LdPair 1 (Reg 10) 0xfffffffc) 0 true
    ∷ op (MovI 0xf 0xfffffffe) 0 true ∷ op (A4 7 8 RSub RkImm 0x1000) 6 false ∷ [])) (hex 16 0xf6f7658b3e30dd30f78544ddfbc5bfcc)
    0xffffffff
    (card (regs 0x872d56410000ffff81d2306876b69ec9652dbd6b0eb39857000000ff80000000
    0x11806e42e406203a800000080000ffff00000004fffffffa5d42f426ffffffda) 0x7f 0xda4ad583 2 0 0x2bcb8024 0
    (hex 12 0xc08275d96eb48d79fc2e8194) [] (outcome 0x545f74c8 0xffffffff (hex 12 0xc08275d96eb4c279fc2e8194) []
    ∷ outcome 0x3f 0xffffffff (hex 12 0x52fb8e8fdfdb4815de340314) [] ∷ []))
    (entry 0x2ec5 0x2225d8a ∷ []) by_return (reg 2 0x94812efc & reg 3 0x545f74c8 & hold 1 & brk 0xffffffff & pc 0x2225d8a & done 1
    & ram (hex 12 0xc08275d96eb4c279fc2e8194)) (read 0x80000008 4 0 ∷ [])
    -- 43-LdPair/break-set-cleared-glue-1/0
    ∷ runs (block (memory 0x1000 8 0xfffffff8 8 true) 0x3b16f34 (op (MovI 5 0x106c) 2 false ∷ op (LdPair 6 (Reg 5) 0) 0 true
    ∷ op (MinMax 5 9 7 MaxU) 0 false ∷ [])) (hex 8 0x3a93ca48c84779f6) 0xffffffff
    (card (regs 0x00000000000080000000000effffffe90000000900007fff73b42fc20000007f
    0x44677e7479d548f7fffff000ffffffe0ae0a9912f9e87cde000000047a9415e4) 0x6fb494ca 0xfbf43605 2 0 0x6d3ff90d 0xfffffffc
    (hex 8 0x96e904c0419ba8fb) (hex 2 0x0101) (outcome 0x7fffffff 0x80000000 (hex 8 0x96e90464419ba8fb) (hex 2 0x0140)
    ∷ outcome 1 0 (hex 8 0x96e963644105a8fb) (hex 2 0x0040) ∷ []))
    (entry 0x379b 0x3b16f36 ∷ []) (by_chain 0) (reg 5 0x79d548f7 & reg 12 0x7fffffff & reg 13 1 & pc 0x3b16f36 & done 0xffffffff
    & ram (hex 8 0x96e963644105a8fb) & map (hex 2 0x0040)) (read 0x106c 4 0xfffffffd ∷ read 0x1070 4 0xfffffffd ∷ [])
    -- 43-LdPair/ram-by-outcome/0
    ∷ runs (block (memory 0x1000000 0xb 0x2000000 8 true) 0x3ffffff (op (LdPair 0 (Reg 8) 0) 0xff true ∷ [])) (hex 8 0xc1e6c4045f383903)
    0xffffffff
    (card (regs 0xeb06df3200001000000000030000000191037f52954dd27d8605624f00008000
    0x00fffffca64f31e2000000ff000000200000ffffc31309dfe596738400000018) 0xffffffff 0xf79e999c 2 0 0xd6b342f1 0
    (hex 11 0x767e8c73cb5bf28ac42ca3) (hex 3 0xff0000) (outcome 0xffffffff 0 (hex 11 0x923ce0b0d0c1fe8ac42ca3) (hex 3 0xff0000)
    ∷ outcome 0xa8 0xffffffff (hex 11 0x27eaa47a967da5829e875c) (hex 3 0x403024)
    ∷ outcome 0x28 0xffffffff (hex 11 0x5451bdf6a7c73c8394c15c) (hex 3 0xe2ae49) ∷ []))
    [] (by_chain 0) (reg 0 0xffffffff & reg 1 0xb0e03c92 & pc 0x40000fe & done 1 & ram (hex 11 0x923ce0b0d0c1fe8ac42ca3))
    (read 0xfffffc 4 0 ∷ [])
    ∷ []

pub all_reach : reached cases ≡ expected cases
unfolding run ops_from op_step load direct store read_le write_le signed_of sign_extend leading_zeros load_all
all_reach = refl
