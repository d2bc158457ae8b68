-- Whole blocks: limits, counts, registers kept over calls: each run reaches its end.
use mathlib.Core.Bool.{true, false}
use mathlib.Core.List.{List, [], ◌∷◌}
use mathlib.Core.Path.{◌≡◌, refl}
use Rattle.block.specs.declared.Op.TheVariants.{Add, Sub, RSub, AndNot, Or, Xor, Sar}
use Rattle.block.specs.declared.RmwOp.TheVariants.{Or as RmwOr, Add as RmwAdd, Sub as RmwSub, Mov as RmwMov}
use Rattle.block.specs.declared.Cond.TheVariants.{GtU, GtS, LeS}
use Rattle.block.specs.declared.Base.TheVariants.{Reg, Sp}
use Rattle.block.specs.declared.Amount.TheVariants.{Reg as ByReg, Inc as ByInc}
use Rattle.block.specs.declared.Width.TheVariants.{Byte as B8, Half as B16, Word as B32}
use Rattle.block.specs.declared.Rk.TheVariants.{Reg as RkReg, Imm as RkImm, Bit as RkBit}
use Rattle.block.specs.declared.Part.TheVariants.{Byte as PartByte, Half as PartHalf}
use Rattle.block.specs.declared.Choice.TheVariants.{MaxU}
use Rattle.block.specs.declared.DivKind.TheVariants.{RemU}
use Rattle.block.specs.declared.Fast.TheVariants.{Nop, MovI, Mov, AddRI, ShlI, SarI, Alu3, Alu2I}
use Rattle.block.specs.declared.Fast.TheVariants.{A4, Ext, MinMax, Div, BitExt, SpAdd, Ld, St}
use Rattle.block.specs.declared.Fast.TheVariants.{LdIdx, LdPost, StPost, Rmw, PushRet, PopRets, BrI, BrR}
use Rattle.block.specs.declared.Fast.TheVariants.{BitBr, Call, Rts, CallR, BlockMove, PushRets, PopPc, LdPair}
use Rattle.block.specs.declared.Fast.TheVariants.{StPair, LdPre, StPre, LdPostR, MemA4, Tb}
use Rattle.block.specs.Block.{places, up_from}
use Rattle.card.specs.Card.{read, write, guard}
use Rattle.card.specs.Word.{signed_of, sign_extend, leading_zeros}
use Rattle.card.specs.Memory.{read_le, write_le, load, direct, store}
use Rattle.card.specs.Step.{op_step, load_all, store_all, push_all, pop_all}
use Rattle.card.specs.Run.{ops_from, run}
use Rattle.card_runs.specs.Case.{Case, runs, reached, expected, block, memory, op, hex, regs, card}
use Rattle.card_runs.specs.Case.{guarded, outcome, leaving, versions, entry, by_return, by_table, by_chain, reg, sp, rets, hold}
use Rattle.card_runs.specs.Case.{brk, pc, done, version, guard_version, ram, map, ◌&◌}

abbrev cases : List Case
cases =
    -- all/empty-first/0
    runs (block (memory 0x1000000 7 0 8 false) 0x3ffffff []) (hex 8 0x05a47e0c81f9be35) 0xffffffff
    (card (regs 0x3169ea40f655a6200000000100000003000000800000000000fff000302967f0
    0xb8d3b243ffffffe7000000ff0000fffff954f5d21a8f07cfffffffff00000080) 8 0xfffff001 0 0 0xe268f441 0 (hex 7 0xb11b104a790e7a) [] [])
    [] (by_chain 0) (pc 0x3ffffff) []
    -- all/empty-limit-below-done/0
    ∷ runs (block (memory 0x7ffffffc 0x10 0x100 5 false) 0x2000000 []) (hex 5 0xdea291bed4) 4
    (card (regs 0x1e373b6c5d1e6cb51a3b7940000080000000000146b5a95352137bca00fff000
    0xfffff000000000800001234500000080f7e3e3f40000ffff102db57a00000009) 0x527bc493 0xfffff000 0x8c0d9921 0 0x5c670cbe 5
    (hex 16 0xf9f9d803d4fb2230695b2e9bcd962271) [] [])
    [] by_return (pc 0x2000000) []
    -- all/limit-over-first/0
    ∷ runs (block (memory 0x1000 0x10 0x1008 0x10 true) 0x2217099 (op (AddRI 0xd 5 0x1fa9228b) 2 true ∷ op (StPost 3 0xa B8 8) 6 true
    ∷ op (BrI 0xe 0xffffffe5 LeS 0xffffffe7) 4 true ∷ [])) (hex 16 0x4ddd3c3fc25f4955a4305f73587d9441) 2
    (card (regs 0xfe8853360000100f0000100effffffe3a1f1cbec000010070000101800001002
    0x000010130000100d0000101c000010170000100f000010180000101400000ffe) 0x1008 0xfff 0 0 0xb2b5f2df 0
    (hex 16 0x475a5e4e090cbde185d5b65c71025737) (hex 4 0x0001ffff)
    (outcome 0x3b 1 (hex 16 0x1bb0c7855bf3afe5fe7dd9b5eaf9077b) (hex 4 0x0314a5d2) ∷ []))
    (entry 0x384c 0x2217099 ∷ []) by_return (pc 0x2217099) []
    -- all/limit-exact-body/0
    ∷ runs (block (memory 0x300000c 0xc 0x3000000 0xc true) 0x2010794 (op (BitBr 6 RkBit false 0xca5b5a40 2) 0xf4 true ∷ []))
    (hex 12 0x4cda8b3ad6ff00a03759a1de) 0xffffffff
    (card (regs 0x030000140300000202fffffc030000080300001503000013030000080300000c
    0xffff0000ffffffe4030000110300000e0000ffff02ffffffd66fda4003000008) 0x3000014 1 0 0 0x82511443 0xfffffffe
    (hex 12 0x26c3f8a6a352842a32db4be4) (hex 3 0x0000ff) [])
    [] (by_chain 1) (pc 2 & done 0xffffffff) []
    -- all/limit-below-done/0
    ∷ runs (block (memory 0 5 0x2000000 6 false) 0x26de9a5 (op (Div 8 0xa 0 RemU) 6 true ∷ op Nop 4 true
    ∷ op (BrR 3 0xa GtU 0x7728574) 6 true ∷ [])) (hex 6 0x9aa11519a5ac) 6
    (card (regs 0x01ffffff00000003ffffffff0200000a0200000401ffffffffffffe100000002
    0x020000020200000600000009fffffffe02000005000000021f3744450200000a) 0 0x1f 1 0 0x44dfe944 7 (hex 5 0xc360204d31) [] [])
    [] by_return (pc 0x26de9a5) []
    -- all/done-max-exact/0
    ∷ runs (block (memory 0x1008 5 0x1000 0x12 true) 0x2aac315 (op (MinMax 1 1 2 MaxU) 0x4d true ∷ op (Call 0x7fffffff) 4 false ∷ []))
    (hex 18 0xb3c3ad8d43d242b3950e717b69cd76c69161) 0xffffffff
    (card (regs 0x00001000000010070000100800001013000010070000101600000fff00001012
    0x000010120000100333bab54800000ffe0000100583c2a6a80000101100001008) 0x1004 0xfffff000 0 0 0x499e5c8c 0xfffffffd (hex 5 0x4d29c752cb)
    (hex 2 0x0000) (outcome 0x8e 0xffffffff (hex 5 0xec1eab32b4) (hex 2 0xd4fa) ∷ []))
    [] (by_chain 0) (reg 1 0x1008 & rets 0x2aac366 & pc 0x7fffffff & done 0xffffffff) []
    -- all/done-index/0
    ∷ runs (block (memory 0x7ffffff0 0x10 0x7ffffff8 0x10 true) 0x2277bb2 (op PopRets 2 true ∷ op (CallR 8) 0 true ∷ []))
    (hex 16 0x0a7c3115d31fa93b26d1fb9f4a475247) 0xffffffff
    (card (regs 0x800000057ffffff67fffffff7ffffff37fffffec7ffffff88000000a7ffffff5
    0x8000000b8000000b4571d0ce800000008000000a7ffffff97ffffff97ffffff7) 0x7ffffff8 0x3cc741ee 0 0 0x7ce86c27 0xffe
    (hex 16 0xd8bc893c1df9ec0a876aa653e3fa74cb) (hex 4 0x01000100)
    (outcome 0xda 0xffffffff (hex 16 0x31d7e3aa3eba9c2c23a2ef426f0af69a) (hex 4 0x125046fd)
    ∷ outcome 0x49 1 (hex 16 0x35e3f08193f22b47969ee8f9a0010d82) (hex 4 0xa67c7705) ∷ []))
    (entry 5 0x8000800b ∷ []) by_return (sp 0x7ffffffc & rets 0x2277bb4 & pc 0x8000000b & done 0x1000) []
    -- all/kept-over-call-9/0
    ∷ runs (block (memory 0x1000 7 0xfffffff8 8 true) 0x3ffffff (op (MovI 0xb 0x15da0721) 2 false ∷ op (MovI 5 0xf96963a0) 2 false
    ∷ op (MovI 8 0xc2f99610) 2 false ∷ op (MovI 0xe 0x9717f8fb) 2 false ∷ op (MovI 6 0x2bfc29c0) 2 false
    ∷ op (MovI 0xa 0xa190f131) 2 false ∷ op (MovI 0xf 0x6d37f837) 2 false ∷ op (MovI 0 0xc6323a5b) 2 false
    ∷ op (MovI 1 0xffffff78) 2 false ∷ op (Ld 5 (Reg 1) 0 B32 false) 2 true ∷ op (Alu3 0 6 8 RSub) 2 false ∷ op (Alu3 5 1 6 Add) 2 false
    ∷ op (Alu3 6 5 8 RSub) 2 false ∷ [])) (hex 8 0x69b5d341524aac1b) 0xfd2e33e2
    (card (regs 0x0000007f00000016fc0b609e00000fff00000004fffff0001de77d83000000ff
    0x000001000000007f000000012c9a018100fff000000000026bfcd287236dc09e) 0x7fff 0x5baa4fb5 2 0 0xcef17795 0 (hex 7 0x4a2ba5e349a8ed)
    (hex 2 0x0080) (outcome 0x8a6d9556 0 (hex 7 0x4a2b5ae349a8ed) (hex 2 0x0080) ∷ outcome 0x5a 1 (hex 7 0x6d50c461bd7eda) (hex 2 0x0261)
    ∷ outcome 0xb5 1 (hex 7 0xda99572901178b) (hex 2 0x4fcb) ∷ []))
    (entry 0xc 0x4000019 ∷ []) (by_chain 0) (reg 0 0x96fd6c50 & reg 1 0xffffff78 & reg 5 0x2bfc2938 & reg 6 0x96fd6cd8 & reg 8 0xc2f99610
    & reg 10 0xa190f131 & reg 11 0x15da0721 & reg 14 0x9717f8fb & reg 15 0x6d37f837 & pc 0x4000019 & done 0xd
    & ram (hex 7 0x4a2b5ae349a8ed)) (read 0xffffff78 4 9 ∷ [])
    -- all/six-bus-breaks/0
    ∷ runs (block (memory 0x1000000 9 0 6 false) 0x2cbee21 (op (StPost 1 7 B16 6) 2 true ∷ op (LdIdx 0xa 4 0xf 0x16 B8 true) 0xff false
    ∷ op (St 0 (Reg 14) 1 B8) 4 true ∷ op (St 0xa Sp 2 B32) 6 false ∷ op (StPost 9 1 B16 0x1000009) 2 true
    ∷ op (BrI 0xb 0x92d2871f GtS 0x1f) 4 false ∷ [])) (hex 6 0x8f0fb5c17d9b) 0x827884d3
    (card (regs 0x0000000400000006fffffff400000007000000062ef2ac270100000901000007
    0x293350c900000004fffffffd4c10b7d2000000020000000600ffffff00000004) 0x1000004 0x451e9f0c 2 0 0xb9a25580 0x827884cd
    (hex 9 0x9289c1e1f1f4ba20bb) [] (outcome 1 1 (hex 9 0x9289c179f1f4ba20bb) [] ∷ outcome 0x46 0 (hex 9 0x5c1f62d261fe1f6fe1) []
    ∷ outcome 0x40 0 (hex 9 0x60d73debef4c500d11) [] ∷ []))
    [] by_return (reg 7 0x100000d & hold 1 & brk 1 & pc 0x2cbee23 & done 0x827884ce & ram (hex 9 0x9289c179f1f4ba20bb))
    (write 0x1000007 2 0x827884cd 6 ∷ [])
    -- all/mixed-12/0
    ∷ runs (block (memory 0xfffffffc 4 0x1000 7 false) 0x22d9091 (op (AddRI 3 0xf 0xffffffeb) 0xff false ∷ op (SarI 0xf 0 0x40) 2 true
    ∷ op (AddRI 0xc 1 0x5dec9aaf) 4 false ∷ op (LdPost 0xb 0xa B8 false 0x1000) 2 false ∷ op (Ext 5 6 PartByte false) 2 false
    ∷ op (Rmw 4 B16 RmwSub 4 0xfffffff8) 4 false ∷ op (MinMax 0xb 0xf 5 MaxU) 0xff false ∷ op (StPost 3 0xd B32 8) 6 false
    ∷ op (Alu3 0xc 9 0xb Sub) 0xed true ∷ op (Rmw 2 B8 RmwMov 1 0xfff) 0 true ∷ op (StPost 0xe 0 B32 0x1001) 0x90 false
    ∷ op (BitBr 0 RkBit false 0xffffffe4 3) 0xff false ∷ [])) (hex 7 0xab6589fed460d7) 0xd
    (card (regs 0x0000000400000011ffff8000fffffff9fffffff900000004df4c04d500001009
    0x00001004fffffffb3e4b80bb000010090000100300000001000000ff000000ff) 0x1008 0xfffff001 0x391bc77b 0 0x2ff3419a 1 (hex 4 0x22fd4006) []
    (outcome 0x7f 0 (hex 4 0x22fd4006) [] ∷ outcome 0xffff 0 (hex 4 0x22fd4006) [] ∷ outcome 0x7fffffff 0 (hex 4 0x22fd4006) []
    ∷ outcome 0 0 (hex 4 0x22fd4006) [] ∷ outcome 0 0 (hex 4 0x14fa4006) [] ∷ outcome 0xcc 0 (hex 4 0x72340e74) []
    ∷ outcome 0x30 0xffffffff (hex 4 0xaf61c35c) [] ∷ []))
    [] (by_chain 1) (reg 0 0x1005 & reg 3 0xea & reg 5 0xd5 & reg 10 0x3e4b90bb & reg 11 0xd5 & reg 12 0xffffff26 & reg 13 9 & reg 15 4
    & pc 3 & done 0xd & ram (hex 4 0x14fa4006)) (read 0x3e4b80bb 1 4 ∷ write 0xfffffffd 2 6 0xfd2a ∷ write 1 4 8 0xea
    ∷ write 0xffff8001 1 0xa 0xfff ∷ write 4 4 0xb 0xff ∷ [])
    -- all/01-limit-exact/0
    ∷ runs (block (memory 0x3000010 0x10 0x3000000 0x10 false) 0x2505d06 (op (PopPc 5) 2 false ∷ []))
    (hex 16 0xa6aeefe4a7eaeaa3aa1f982e80937fc6) 0x2700a795
    (card (regs 0x0300001f0300000700000000030000160000000302ffffff030000150300001a
    0x0300001f02ffffff02fffffd03000016030000230300000efffffffecd8f2789) 0x3000020 0x20 1 0 0x65fd775c 0x2700a794
    (hex 16 0x44f97d455b273ca7b36d9be5528c3c8d) [] (outcome 0xffffffff 0 (hex 16 0x44f999455b270ea7b36d9be5528c3c8d) []
    ∷ outcome 0xe9d8d394 0 (hex 16 0x44f999455b270ea7b36d9be5528c3c8d) []
    ∷ outcome 0xb7dfb4fa 0 (hex 16 0x44f999455b270ea7b36d9be5fa8c3c8d) [] ∷ []))
    (entry 0x1a7d 0xb0dad03b ∷ []) by_return (reg 4 0xffffffff & reg 5 0xe9d8d394 & sp 0x300002c & pc 0xb7dfb4fa & done 0x2700a795
    & ram (hex 16 0x44f999455b270ea7b36d9be5fa8c3c8d)) (read 0x3000020 4 0x2700a794 ∷ read 0x3000024 4 0x2700a794
    ∷ read 0x3000028 4 0x2700a794 ∷ [])
    -- all/01-done-index/0
    ∷ runs (block (memory 0xfffffff0 0x10 0x1000 0x10 true) 0x29abef5 (op (PushRets 5) 0x88 true ∷ op (PushRets 5) 0xff true
    ∷ op (BlockMove 9 0x100 true false false) 0xff true ∷ op (PopPc 1) 4 false ∷ [])) (hex 16 0xe136f8b163b12af4c5180d2bb069ad1a)
    0xffffffff
    (card (regs 0xfffffff40000100ffffffff4000010060000100efffffff083c246d8fffffffc
    0x00000fff00000ffe0000100600000fff00000ffc000010025a2e43e200001002) 0x1008 0x20 1 0 0x61642ece 0xffe
    (hex 16 0x5c193692bb6e849896c602c24302cb2d) (hex 4 0x008001ff)
    (outcome 0x7fffffff 0 (hex 16 0x67193692bb6e849896c602c24302cb2d) (hex 4 0x000001ff)
    ∷ outcome 0x7fffffff 0 (hex 16 0x67193692bb6e849896c602c24302cb2d) (hex 4 0x000001ff)
    ∷ outcome 1 0 (hex 16 0x67193692bb4d849896c602c24302cb2d) (hex 4 0x400001ff)
    ∷ outcome 1 0 (hex 16 0x67193692bb4d849896c602c24302cb2d) (hex 4 0x400001ff)
    ∷ outcome 0xffffffff 0 (hex 16 0x67193692bb4d846e96c602c24302cb2d) (hex 4 0x000001ff)
    ∷ outcome 0xffffffff 0 (hex 16 0x67193692bb4d846e96c602c24302cb2d) (hex 4 0x000001ff)
    ∷ outcome 0x7fffffff 0 (hex 16 0x67353692bb4d846eb4c602c24302cb2d) (hex 4 0x40000140)
    ∷ outcome 0x80000000 0 (hex 16 0x67353692bb4d846eb4c602c24302cb2d) (hex 4 0x40000140)
    ∷ outcome 0xffffffff 0 (hex 16 0x67353692bb4d846e09c602c24302cb2f) (hex 4 0x00000140)
    ∷ outcome 0x4125148d 0 (hex 16 0x95353692bb4d846e09c602c243022c2f) (hex 4 0x00400040)
    ∷ outcome 0xffffffff 0 (hex 16 0x95353692bb4d846e09c602c243022c2f) (hex 4 0x00400040)
    ∷ outcome 0x57 0 (hex 16 0xc3b3115ff0f2bbf6f311fbb19638e2b3) (hex 4 0x9311dc9d)
    ∷ outcome 0x4c 0 (hex 16 0x36e6ec77cf844dbbd8c6e4e46b493efc) (hex 4 0xe35fc9fc) ∷ []))
    (entry 0x3fff 0xfffffffe ∷ []) by_return (reg 1 0x80000000 & reg 2 0xffffffff & reg 3 0x4125148d & sp 0x1000 & pc 0xffffffff
    & done 0x1002 & ram (hex 16 0x95353692bb4d846e09c602c243022c2f) & map (hex 4 0x00400040)) (write 0x1004 4 0xffe 0x20
    ∷ write 0x1000 4 0xffe 0xfffffff0 ∷ write 0xffc 4 0xffe 0x100e ∷ write 0xff8 4 0xfff 0x20 ∷ write 0xff4 4 0xfff 0xfffffff0
    ∷ write 0xff0 4 0xfff 0x100e ∷ write 0xffe 4 0x1000 0xfff ∷ read 0xff0 4 0x1001 ∷ read 0xff4 4 0x1001 ∷ read 0xff8 4 0x1001
    ∷ read 0xffc 4 0x1001 ∷ [])
    -- all/01-groups-6-breaks/0
    ∷ runs (block (memory 0x1000 0x10 0x1008 0x10 true) 0x20684f8 (op (LdPair 0x10 (Reg 3) 0xfffffffc) 0 true
    ∷ op (BlockMove 4 0x400 true true false) 0xff true ∷ op (LdPair 0x3f (Reg 14) 1) 0 false ∷ op (LdPair 0xb (Reg 9) 2) 2 true
    ∷ op (StPair 1 (Reg 10) 0xfffffffc) 2 false ∷ op Rts 0xff true ∷ [])) (hex 16 0x65ade2858e7f02e58ab7a485f1deb0c6) 0xffffffff
    (card (regs 0x000010140000100300001002ffff00000000100e000010120000100bfffff000
    0x0000101000000ffe00001009ffff000000001007000010040000100f00001003) 0x1018 0x5798e6ca 0 0 0xf118f63a 0
    (hex 16 0x213692dcaeb2e10e11fc19ed81e4c455) (hex 4 0x01010000)
    (outcome 0x7fffffff 0 (hex 16 0x213692dcaeb2e10e11fc19ed81e4c455) (hex 4 0x01010000)
    ∷ outcome 0x7fffffff 0x100 (hex 16 0x213692dcaeb2e10e11fc19ed81e4c455) (hex 4 0x01010000) ∷ []))
    (entry 0x27c 0x20684f8 ∷ []) by_return (reg 0 0x7fffffff & reg 1 0x7fffffff & hold 1 & brk 0x100 & pc 0x20684f8 & done 1)
    (read 0xfffefffc 4 0 ∷ read 0xffff0000 4 0 ∷ [])
    -- all/01-mixed-12/0
    ∷ runs (block (memory 0x20000000 0x10 0x8000000 0x10 false) 0x2f83e19 (op (MovI 1 8) 6 false ∷ op PopRets 4 true
    ∷ op (LdPair 0x40 (Reg 11) 1) 0xff false ∷ op (LdPair 2 Sp 0) 0 true ∷ op (MovI 0xa 0x5b63d603) 4 false
    ∷ op (Rmw 0 B16 RmwAdd 4 0x8000011) 2 true ∷ op Nop 4 true ∷ op (LdPair 8 Sp 0xfffffffc) 2 true ∷ op (Mov 0xf 0xc) 4 false
    ∷ op (SpAdd 0x8000004) 0x53 false ∷ op (LdIdx 0xd 8 9 0 B32 true) 0x45 true ∷ op (CallR 7) 0xff true ∷ []))
    (hex 16 0x3807cacb89a1dbf8fda45eb4389a10dc) 0xffffffff
    (card (regs 0x2000000b00000020034ca76b20000000000000040800000e41bddd7220000008
    0x08000010080000132000000308000005200000080800001220000005cd3a8b20) 0x2000000d 0x7176983b 2 0 0xe39a20f8 1
    (hex 16 0x006ed92ca16fed81cf05044284fc717a) [] (outcome 1 0 (hex 16 0x006ed92ca16fed81cf05044284fc717a) []
    ∷ outcome 0x513f8ec4 0 (hex 16 0x006ed92ca16fed81cf05044284fc717a) []
    ∷ outcome 0x80000000 0 (hex 16 0x006ed92ca1c8ed19cf05044284fc717a) []
    ∷ outcome 0xffff 0 (hex 16 0x006ed92ca1c8ed19cf05044284fc737a) [] ∷ outcome 0x8000 0 (hex 16 0x006ed92c67c8ed19cf05044284fc737a) []
    ∷ outcome 0xffffffff 0 (hex 16 0x006ed92c67c8ed19cf05044284fc737a) []
    ∷ outcome 0xffffffff 0 (hex 16 0x006ed92c67c8ed19cf056242eefc737a) [] ∷ outcome 0 0 (hex 16 0x006ed92c67c8ed19cf056242eefcac7a) []
    ∷ outcome 0x15 1 (hex 16 0x66076f241bf6b56402173823bff69112) []
    ∷ outcome 0xc9 0xffffffff (hex 16 0x3b106615ea29d1bccadc08341768419a) [] ∷ []))
    (entry 4 0x20000008 ∷ []) by_table (reg 0 0xffffffff & reg 1 0xffffffff & reg 4 0x513f8ec4 & reg 5 0x80000000 & reg 10 0x5b63d603
    & reg 13 0 & reg 15 0x20000008 & sp 0x28000015 & rets 0x2f840c9 & pc 0x20000008 & done 0xd
    & ram (hex 16 0x006ed92c67c8ed19cf056242eefcac7a)) (read 0x2000000d 4 2 ∷ read 0x20000011 4 4 ∷ read 0x20000015 4 4
    ∷ read 0xa4fdf8df 2 6 ∷ write 0xa4fdf8df 2 6 0x8010010 ∷ read 0x2000000d 4 8 ∷ read 0x20000011 4 8 ∷ read 0x10000023 4 0xb ∷ [])
    -- all/06-mixed-12/0
    ∷ runs (guarded 0xa000000024 (block (memory 0x1000000 0x10 0x8000000 0x10 false) 0x1000000 (op PushRet 0 true
    ∷ op (ShlI 5 8 0x3f) 1 false ∷ op (St 9 (Reg 9) 0xfffffffc B16) 2 true ∷ op Nop 2 false ∷ op (Ext 6 0xc PartHalf false) 0 false
    ∷ op (A4 9 1 Sub RkReg 0xe4bd6d0a) 0 false ∷ op (StPost 0xa 2 B16 0x12345) 0 false ∷ op (Alu2I 3 0x12345 Xor) 1 true
    ∷ op (SarI 0 1 4) 0 false ∷ op (Rmw 0xc B16 RmwOr 2 0xffffffe3) 2 false ∷ op (MovI 9 0xa3858a98) 2 true ∷ op (Call 0x100000e) 1 true
    ∷ []))) (hex 16 0xd6398251e33ea240b4d395fcd3f8aa93) 0xffffffff
    (versions 5 0xa000000024 5 (card (regs 0x010000080100000507fffffc0800001407fffffd00fff00001000011a27ac3c3
    0x0800000d00fffffd08000001000100000100000807fffffe080000080100000a) 0x100000c 0xfffff000 2 0 0x8aa00107 0
    (hex 16 0x359fc61c8ef8a83ddb89416ad3adb880) []
    (leaving 0x9114be8472ecd324 0x348b85f421f9192e (outcome 0x5ea0 0 (hex 16 0x359fc61c8ef8a851d2f0ffffd3adb880) [])
    ∷ leaving 0x73f1c9f44c73c06 0x9a76960a6d3e5480 (outcome 0xdef6 0 (hex 16 0x359fc61c8ef8a851d2f0ffffd3adb880) [])
    ∷ leaving 4 3 (outcome 0xa 1 (hex 16 0xfc91028f75e9973c6ee0a3c8e3aee485) [])
    ∷ leaving 0 3 (outcome 0xee 0xffffffff (hex 16 0xe871888710ec0908c8862da3e72f1bc1) []) ∷ [])))
    [] (by_chain 0) (reg 0 0x100000 & reg 2 0x8012341 & reg 3 0x8012351 & reg 5 0x80000000 & reg 6 8 & reg 9 0xa3858a98 & sp 0x1000008
    & rets 0x100000b & pc 0x100000e & done 0xc & version 0x73f1c9f44c73c06 & guard_version 0x9a76960a6d3e5480
    & ram (hex 16 0x359fc61c8ef8a851d2f0ffffd3adb880)) (write 0xfffff9 2 2 0xfffffd ∷ write 0x7fffffc 2 6 0x8000001 ∷ [])
    -- all/09-forms-3/0
    ∷ runs (block (memory 0x10000 0x25 0x10028 0xc false) 0x24cd7b9 (op (LdPre 2 0xa (ByReg 0) B8 true) 6 false
    ∷ op (MemA4 0xd 2 Sar RkBit 0xfff8) 0x4a true ∷ op (Tb 2 true) 2 false ∷ [])) (hex 12 0x6ccecdb7558ca0801e3c1a73) 0xffffffff
    (card (regs 0x000100360001002afdb4281d00010006000100070001002efbc338dd2242a1fe
    0x0001000100010028000100340001002c0001002700010020ffffffda0001002e) 0x1001d 0x4339d3c4 2 0 0xed2c8360 0
    (hex 37 0x1cadbd054e34b9f69e7268a8d55291b4686fc9d604cd5438bcc9f3867685da1e4866d76041) []
    (outcome 0xea 0 (hex 37 0x1cadbd054e34b9f69e7268a8d55291b4686fc9d604cd5438bcc9f3867685da1e4866d76041) []
    ∷ outcome 0x17e08611 0 (hex 37 0x1cadbd054e34b9f69e7268a8d55291b4686fc9d604cd5438bcc9f3867685da1e4866d76041) []
    ∷ outcome 0xc41176d8 0 (hex 37 0x1cadbd054e34b9f69e7268a8d55291b4686fc9d604cd5438bcc9f3867685da1e4866d76041) []
    ∷ outcome 0x7fff 0 (hex 37 0x1cd0bd054e34b9f69e7268a8d55291b4686fc9d6c2cd5438bcc9f3867685da1e4866d76041) []
    ∷ outcome 0xef 0xffffffff (hex 37 0xe37776dba0617265a7f9c315c28ec40187289b42feb9908b93552f174c5e8b19ecea65b4fe) []
    ∷ outcome 0x68 0 (hex 37 0x9073a3725f987bcf32b00999198603c6fee40550473a3da220cf9a1e51cf933cac8380af80) [] ∷ []))
    (entry 0x2c04 0x24dd808 ∷ []) by_return (reg 2 0xffffffea & reg 10 0x2006a & pc 0x24dd809 & done 3
    & ram (hex 37 0x1cd0bd054e34b9f69e7268a8d55291b4686fc9d6c2cd5438bcc9f3867685da1e4866d76041)) (read 0x2006a 1 0 ∷ read 0x10022 4 1
    ∷ write 0x10022 4 1 0x5f82184 ∷ read 0x24cd7f5 2 2 ∷ [])
    -- all/09-forms-6-breaks/0
    ∷ runs (block (memory 0x7ffffffc 0x10 0x100 4 false) 0x23e3522 (op (MemA4 9 2 Add RkReg 0) 4 false
    ∷ op (StPre 0xf 5 (ByInc 7) B16) 6 false ∷ op (StPre 4 9 (ByReg 4) B16) 6 false
    ∷ op (MemA4 0xe 0xfffffffc AndNot RkBit 0xfffffffe) 2 false ∷ op (MemA4 0xc 4 Sar RkBit 0x7ffffff9) 0xff true
    ∷ op (Tb 0xf false) 2 true ∷ [])) (hex 4 0x298bac0f) 7
    (card (regs 0xbc03003c000001080000010000000100000000ffd6d458ebffff800000012345
    0xf9cde8323c0afd9c0000010080000004fffffffe000000fe0000007ffdc1cace) 0x100 1 0 0 0x210f041d 1
    (hex 16 0xf6d9f55ef10f60e5393d1d23d930ed96) [] (outcome 1 0xffff0000 (hex 16 0x67d9f5e5f10f60e5393d1d23d930ed96) []
    ∷ outcome 0x202621b3 1 (hex 16 0x67d9f5e5f10f60e5393d1d23d91ced96) [] ∷ outcome 0x89 0 (hex 16 0xea998be11e52cd27ca83486f7bed3821) []
    ∷ outcome 0x61 1 (hex 16 0x64ccef46f4e5e0aa7b6b03067d739437) [] ∷ []))
    (entry 0x1a93 0x23e3526 ∷ []) by_return (brk 1 & pc 0x23e3526 & done 2 & ram (hex 16 0x67d9f5e5f10f60e5393d1d23d91ced96))
    (read 0x3c0afd9e 4 1 ∷ write 0x3c0afd9e 4 1 0xbc03003d ∷ [])
    -- all/09-forms-map/0
    ∷ runs (block (memory 0xffffff08 0x10 0xffffff00 0x1f true) 0x21477a3 (op (StPre 8 0xb (ByInc 0xffffff1f) B8) 4 false
    ∷ op (MemA4 2 4 Or RkBit 0xf) 2 false ∷ op (MemA4 7 0xfffffffc Sub RkBit 0xffffffe1) 6 false
    ∷ op (MemA4 1 2 Sar RkBit 0xffffffe7) 6 false ∷ op (StPre 0xf 9 (ByReg 6) B8) 4 true ∷ []))
    (hex 31 0xf250ef6a079a2f23cf8bfced92ae4c59ab9c6da39eaeaeff4522d633a7dd59) 0xffffffff
    (card (regs 0xffffff11ffffff19ffffff06ffffff18ffffff0a419506a9ffffff07ffffff21
    0xffffff1cffffff17ffffff14ffffff1cffffff11cd5f946effffff1400000100) 0xffffff1c 0x99528a87 0 0 0x4b2a7337 5
    (hex 16 0x443d4c456a37e3a681d9716459fa1594) (hex 4 0x000100ff)
    (outcome 0 0 (hex 16 0x443d4c456a37e3a681d97164fbfa1592) (hex 4 0x000100ff)
    ∷ outcome 0x6e36a34f 0 (hex 16 0x443d4c456a37e3a681d97164fbfa1592) (hex 4 0x000100ff)
    ∷ outcome 0x80000000 0 (hex 16 0x443d4c456a37e3a681d97164fbfa1592) (hex 4 0x000100ff)
    ∷ outcome 0 0 (hex 16 0x443d4c456a37e3a681d9716484fa1592) (hex 4 0x000000ff)
    ∷ outcome 0x7fffffff 0 (hex 16 0x443d12456a37e3a68131716484fa1592) (hex 4 0x000000ff)
    ∷ outcome 0x80 0 (hex 16 0x443d12456a37e3a68131716484fa1592) (hex 4 0x000000ff) ∷ []))
    [] (by_chain 0) (reg 9 0xfffffe1e & reg 11 0xfffffe3b & pc 0x21477b9 & done 0xa & ram (hex 16 0x443d12456a37e3a68131716484fa1592)
    & map (hex 4 0x000000ff)) (write 0xfffffe3b 1 5 0xffffff1c ∷ write 0xffffff0a 4 6 0x376a454d ∷ read 0xffffff1d 4 7
    ∷ write 0xffffff1d 4 7 0x7e000000 ∷ write 0xffffff1b 4 8 0x167769cc ∷ write 0xfffffe1e 1 9 0x100 ∷ [])
    -- all/09-mixed-12/0
    ∷ runs (block (memory 0x20000000 0x10 0x8000000 0x10 true) 0x2cee1b6 (op (SarI 5 9 0x21) 0xff true
    ∷ op (Ld 4 (Reg 14) 2 B32 true) 4 false ∷ op (Ld 6 (Reg 14) 2 B16 false) 0xff false ∷ op (MemA4 7 0 Sub RkBit 0xab0b23f9) 0xff false
    ∷ op (MemA4 7 0 Or RkImm 0xc0de6fb2) 4 true ∷ op (BitExt 9 6 0x1f 0x40 true) 4 true ∷ op (ShlI 9 3 0xff) 2 false
    ∷ op (StPre 2 0xc (ByInc 7) B16) 2 false ∷ op (LdPair 2 Sp 4) 4 false ∷ op (Alu2I 0xa 0xff Sar) 4 false
    ∷ op (LdPair 0xff (Reg 12) 2) 2 false ∷ op (Tb 6 false) 6 false ∷ [])) (hex 16 0xe24e15439fa07d10af2ef25f5600fd1c) 0x96cb4809
    (card (regs 0x080000120800000b08000010200000063aa62d7b080000141d311b2f07fffffe
    0x200000000800000b2000000e2000000f07fffffe2000000a0800001420000000) 0x20000014 0x17 0 0 0x932147f8 0x1000
    (hex 16 0x5728bf59c5c0932401e6ed16279d25fd) (hex 4 0x01008000)
    (outcome 0xffffffff 0 (hex 16 0x5728bf59c5c0932401e6ed16279d25fd) (hex 4 0x01008000)
    ∷ outcome 0x8000 0 (hex 16 0x5728bf59c53b932401e6ed16279d25fd) (hex 4 0x01008000)
    ∷ outcome 0x7fffffff 0 (hex 16 0x5728bf59c53b932401e6ed16279d25fd) (hex 4 0x01008000)
    ∷ outcome 0xffffffff 0 (hex 16 0x5728bf59c53b932401e6ed16279d25fd) (hex 4 0x01008000)
    ∷ outcome 1 0 (hex 16 0x5728bf59c53b932401e6eda3279d25fd) (hex 4 0x01008000)
    ∷ outcome 0x654d9d45 0 (hex 16 0x5728bf59c53b932401e6eda3279d25fd) (hex 4 0x01008000)
    ∷ outcome 1 0 (hex 16 0x5728bf59c53b932401e6eda3279d25fd) (hex 4 0x01008000)
    ∷ outcome 0x7eaebb35 0 (hex 16 0x5728bf59c53b932401e6eda3969d25fd) (hex 4 0x01008000)
    ∷ outcome 1 0 (hex 16 0x5728bf59c53b932401e6eda3969d25fd) (hex 4 0x01008000)
    ∷ outcome 0x7f 0 (hex 16 0x5728bf59c53b932401e6eda3969d25fd) (hex 4 0x01008000)
    ∷ outcome 0x93 0 (hex 16 0x672f5b9fc0a5679849f3bb963fea303f) (hex 4 0x233dfb10)
    ∷ outcome 0x88 0xffffffff (hex 16 0x75a50f630e5ac8dc268f1f543a02de67) (hex 4 0x2e84ac36) ∷ []))
    (entry 0x32e8 0x2cee5d1 ∷ []) by_table (reg 4 0x7eaebb35 & reg 5 1 & reg 6 0x8000 & reg 9 0 & reg 10 0 & reg 12 0x8000005
    & reg 14 0xf22eaf10 & reg 15 0xfd00565f & pc 0x2cee5d1 & done 0x100c & ram (hex 16 0x5728bf59c53b932401e6eda3969d25fd))
    (read 0x8000016 4 0x1001 ∷ read 0x8000016 2 0x1002 ∷ read 0x7fffffe 4 0x1003 ∷ write 0x7fffffe 4 0x1003 0x7ffff7ff
    ∷ read 0x7fffffe 4 0x1004 ∷ write 0x7fffffe 4 0x1004 0xc0de6fb3 ∷ write 0x8000005 2 0x1007 0x8000010 ∷ read 0x20000018 4 0x1008
    ∷ read 0x2000001c 4 0x1008 ∷ read 0x2cf64d3 1 0x100b ∷ [])
    -- all/09-in-ram-6/0
    ∷ runs (guarded 0xa000000aaf (block (memory 0x1000000 0xc 0x1000800 7 true) 0x1000004 (op (LdPostR 0xf 6 2 B32 false) 1 false
    ∷ op (StPre 0 0xa (ByReg 8) B16) 1 true ∷ op (LdPostR 9 0 0 B8 true) 2 true ∷ op (StPre 0xb 8 (ByReg 0xc) B8) 1 false
    ∷ op (LdPre 4 3 (ByInc 0x1000011) B8 true) 2 true ∷ op (Tb 7 true) 0 true ∷ []))) (hex 7 0xd51be2fc4beb99) 0xc4e12a03
    (versions 5 0xa000000aaf 6 (card (regs 0x0100000c010007fc01000805010008030100080901000805206d549ddf1501ea
    0x0100080a01000803010000051333a63101000809010008072888929a01000805) 0x1000801 6 0 0 0xd3e952a1 0 (hex 12 0xe196356c92fe7743c75721b5)
    (hex 3 0x008080) (leaving 5 5 (outcome 1 0 (hex 12 0xe196356c92fe7743c7579fb5) (hex 3 0x008080))
    ∷ leaving 5 5 (outcome 1 0 (hex 12 0xe196353292fe7743c7579fb5) (hex 3 0x000180))
    ∷ leaving 0x3536138ac737bc74 0x943a04cebdbf2c62 (outcome 0xa367 1 (hex 12 0xe196353292a37743c7579fe2) (hex 3 0x000001))
    ∷ leaving 3 3 (outcome 0x9f 1 (hex 12 0x32bd2cd7da03a7fdf76cf1e3) (hex 3 0x9e2cf7)) ∷ [])))
    (entry 3 0x1000006 ∷ []) by_return (reg 6 0x216d5ca2 & reg 10 0x200080f & reg 15 1 & hold 1 & brk 1 & pc 0x1000006 & done 2
    & version 0x3536138ac737bc74 & guard_version 0x943a04cebdbf2c62 & ram (hex 12 0xe196353292a37743c7579fe2) & map (hex 3 0x000001))
    (guard 0xa000000aaf ∷ read 0x206d549d 4 0 ∷ write 0x200080f 2 1 0x100000c ∷ [])
    -- all/09-limit-over/0
    ∷ runs (block (memory 0x1000000 7 0x2000000 0x10 true) 0x2f2045e (op (StPre 0xd 0xd (ByInc 0x18e3d870) B8) 0x3c true
    ∷ op (LdPre 4 4 (ByInc 0x1000000) B8 false) 0 true ∷ op (Tb 7 true) 4 true ∷ [])) (hex 16 0x22eb3dc240ac6c3d02a93ec378c1f859) 2
    (card (regs 0x0100000300fffffc372e080500ffffff010000070100000201000007fe0dfb67
    0x010000020100000362b269d5020000080200000a02000009094c187e02000014) 0x1000004 0x9a0bde65 2 0 0x9d3d0df7 0 (hex 7 0xda471d563c70ea)
    (hex 2 0x00ff) (outcome 0xfe 1 (hex 7 0xbc8aeb0c2848cd) (hex 2 0x2a3c)
    ∷ outcome 0xa0 0xffffffff (hex 7 0x6f4fefc6915beb) (hex 2 0x2679) ∷ []))
    (entry 0x22f 0x2f2045e ∷ []) by_return (pc 0x2f2045e) []
    -- all/09-done-max/0
    ∷ runs (block (memory 0x7ffffffc 4 0x100 8 false) 0x2767fe4 (op (StPre 0xf 0xf (ByInc 0xc8f5d29c) B32) 0x20 false
    ∷ op (LdPostR 7 0xd 2 B32 true) 2 true ∷ op (MemA4 6 1 Sar RkBit 0xfffffffc) 2 true ∷ op (Tb 0xf true) 0 false ∷ []))
    (hex 8 0x5e24768e4b82e0bc) 0xffffffff
    (card (regs 0x000001010000010c800000007ffffffe000000007ffffff8000000fe00000103
    0x00000105000001010001000000000103000001027ffffffe80000000fd8980f9) 0x105 0xfffffffe 1 0 0x564db1c4 0xfffffffb (hex 4 0xb8c5d4bb) []
    (outcome 0x7fffffff 0 (hex 4 0xb8c55fbb) [] ∷ outcome 0 0 (hex 4 0xb8c55fbb) [] ∷ outcome 0 0 (hex 4 0xb89791bb) []
    ∷ outcome 0x7fffffff 0 (hex 4 0xb89791bb) [] ∷ outcome 0x8000 0 (hex 4 0xb8a091bb) [] ∷ outcome 0x64 1 (hex 4 0x18cc9a25) []
    ∷ outcome 0xcb 1 (hex 4 0x4fdc3601) [] ∷ []))
    (entry 4 0x82778008 ∷ []) by_return (reg 7 0 & reg 13 0xfffffffe & reg 15 0xc67f5395 & pc 0x2778008 & done 0xffffffff
    & ram (hex 4 0xb8a091bb)) (write 0xc67f5395 4 0xfffffffb 0xc67f5395 ∷ read 0x7ffffffe 4 0xfffffffc ∷ read 0xff 4 0xfffffffd
    ∷ write 0xff 4 0xfffffffd 0 ∷ read 0xc8f5d39d 2 0xfffffffe ∷ [])
    ∷ []

pub all_reach : reached cases ≡ expected cases
unfolding run ops_from op_step load direct store read_le write_le signed_of sign_extend leading_zeros load_all store_all push_all pop_all places up_from
all_reach = refl
