-- Stores of kinds 22, 24, 26, 27 and 28, and of groups, aligned and not, with map flag 1 and 0: each run reaches its end.
use mathlib.Core.Bool.{true, false}
use mathlib.Core.List.{List, [], ◌∷◌}
use mathlib.Core.Path.{◌≡◌, refl}
use Rattle.block.specs.declared.Op.TheVariants.{Add, Sub, And, AndNot, Or, Xor, Mul, Shr}
use Rattle.block.specs.declared.Op.TheVariants.{Sar}
use Rattle.block.specs.declared.RmwOp.TheVariants.{And as RmwAnd, Add as RmwAdd, Mov as RmwMov}
use Rattle.block.specs.declared.Cond.TheVariants.{Eq, LtU, GtU}
use Rattle.block.specs.declared.Base.TheVariants.{Reg, Sp}
use Rattle.block.specs.declared.Width.TheVariants.{Byte as B8, Half as B16, Word as B32}
use Rattle.block.specs.declared.Rk.TheVariants.{Bit as RkBit}
use Rattle.block.specs.declared.Part.TheVariants.{Upper as PartUpper}
use Rattle.block.specs.declared.Choice.TheVariants.{MinU, MaxU}
use Rattle.block.specs.declared.UnKind.TheVariants.{Not, Neg, Rev, Clz, SatS, SatU}
use Rattle.block.specs.declared.DivKind.TheVariants.{RemU}
use Rattle.block.specs.declared.Fast.TheVariants.{Nop, MovI, Mov, AddRI, ShlI, SarI, Alu3, Alu3I}
use Rattle.block.specs.declared.Fast.TheVariants.{Alu2, Alu2I, A4, Ext, MinMax, Un, Div, Mov2I}
use Rattle.block.specs.declared.Fast.TheVariants.{BitExt, BitIns, SpAdd, RFromSp, St, StIdx, StPost, Rmw}
use Rattle.block.specs.declared.Fast.TheVariants.{PushRet, BrI, DecBr, Goto, Call, BlockMove, PushRets, PopPc}
use Rattle.block.specs.declared.Fast.TheVariants.{LdPair, StPair}
use Rattle.block.specs.Block.{places, up_from}
use Rattle.card.specs.Card.{read, write}
use Rattle.card.specs.Word.{signed_of, sign_extend, leading_zeros}
use Rattle.card.specs.Memory.{read_le, write_le, load, direct, store}
use Rattle.card.specs.Step.{op_step, load_all, store_all, push_all, pop_all}
use Rattle.card.specs.Run.{ops_from, run}
use Rattle.card_runs.specs.Case.{Case, runs, reached, expected, block, memory, op, hex, regs, card}
use Rattle.card_runs.specs.Case.{outcome, entry, by_return, by_chain, reg, sp, rets, hold, brk, pc, done, ram, map, ◌&◌}

abbrev cases : List Case
cases =
    -- 22-St/04-flag-0-at-3/0
    runs (block (memory 0xfffffff0 0xe 0x1000 8 false) 0x3ffffff (op (MovI 1 0x68344293) 4 false ∷ op (St 1 Sp 0 B32) 4 false
    ∷ op (BitExt 5 0xa 2 0xf false) 4 true ∷ op (Alu3 6 4 0xe AndNot) 0xd4 true ∷ [])) (hex 8 0xfd054c6cafcc0c52) 0xade7f79a
    (card (regs 0x800000000000001ffffff00123b74e5d94a6304390ad5475fffff00000000002
    0x8e4758f800000002000000080000100000001000fffff00100000021db30933a) 0xfffffff3 0xffffffff 1 0 0x2e49e424 0
    (hex 14 0xfd38283bdec7acc17a64b53ce7d4) [] (outcome 0xe6 1 (hex 14 0x571b0cc4ffbb7cca2b896fe2f660) []
    ∷ outcome 0x23 1 (hex 14 0x02601b3146a4a06d633114fb4c21) [] ∷ []))
    (entry 0x6f 0x40000df ∷ []) (by_chain 0) (reg 1 0x68344293 & reg 5 2 & reg 6 0x94a63042 & pc 0x40000df & done 4
    & ram (hex 14 0xfd382893423468c17a64b53ce7d4)) []
    -- 22-St/04-flag-1-at-0/0
    ∷ runs (block (memory 0x1000 0xf 0xfffffff8 8 true) 0x2000000 (op (St 1 (Reg 1) 0 B32) 4 true ∷ [])) (hex 8 0xc2a3ffa86bdf5108) 0x1001
    (card (regs 0x000100000000100400000fff00fff000fffffffe00007fffdcdbb03a00000003
    0x7fffffff000000800000000300012345b3bc9404fffff001000000fffffff001) 8 0x2e1c4763 1 0 0x5750ec6a 0x1000
    (hex 15 0x8acffb0720b8dbb619598687a41557) (hex 4 0x01000001) [])
    (entry 2 0x2000004 ∷ []) (by_chain 0) (pc 0x2000004 & done 0x1001 & ram (hex 15 0x8acffb070410000019598687a41557)) []
    -- 22-St/04-flag-1-at-1/0
    ∷ runs (block (memory 0xffffffec 0x14 0x1000 8 true) 0x334b3d1 (op (MovI 0xe 0x7e217f2b) 2 false
    ∷ op (St 0xe (Reg 7) 0xfffffffe B32) 6 true ∷ op (Alu3 0xd 5 1 Sar) 4 false ∷ [])) (hex 8 0xb88d88cb90eb01d4) 0xffffffff
    (card (regs 0x5d669679c3992f410bf9d6a2941eec04ffffffff834999fad87f55fbffffffef
    0x4177859b00000004000000000000ffff7fffffffffff0000800000008a27fa77) 0x12345 0xdbf2235b 2 0 0x96eb09d3 0x1000
    (hex 20 0xdb241f74b74b99aecbd24343d07ed621f8f0247b) (hex 5 0x0000010101)
    (outcome 0x38152e57 0 (hex 20 0xdb241f74b74b99aecbd24343d07ed621f8f0247b) (hex 5 0x0000010101) ∷ []))
    (entry 0x19ee 0x334b3dd ∷ []) (by_chain 0) (reg 13 0xc1a4ccfd & reg 14 0x7e217f2b & pc 0x334b3dd & done 0x1003)
    (write 0xffffffed 4 0x1001 0x7e217f2b ∷ [])
    -- 22-St/04-flag-1-at-2/0
    ∷ runs (block (memory 0x1000000 0x14 0x2000000 0x10 true) 0x2000000 (op (St 8 (Reg 8) 0xfffffff9 B32) 2 true
    ∷ op (DecBr 0xf LtU 0x7fff 0x44af8c2b) 0xe8 true ∷ [])) (hex 16 0xeebe977f0b12aeeafd5b11f823d5dde6) 0xffffffff
    (card (regs 0xffffffff0000000000000100e64f7fd1d9a3074400000000ffffffff00000004
    0x01000011fffff001afb61c78ffffffec0000001fb7ebccf7ffffffe605a9aeaf) 0x59a2e131 4 0 0 0x6233a28c 0
    (hex 20 0x66d00199c93cde73c5f9eaa37993d6db5b5057ef) (hex 5 0x0001000000)
    (outcome 0x80000000 0 (hex 20 0x66d00199c93cde73c5f9eaa37993d6db5b5057ef) (hex 5 0x0001000000)
    ∷ outcome 0x57 0xffffffff (hex 20 0x3c783ea0e1acb064bd4347287edd72d25751be3d) (hex 5 0xbc857abc00)
    ∷ outcome 0x5b 0 (hex 20 0x6023daf8d6d77fee07a5ffce5bd9ac965df9b8c7) (hex 5 0x03d3341083) ∷ []))
    [] (by_chain 0) (reg 15 0x5a9aeae & pc 0x20000ea & done 2) (write 0x100000a 4 0 0x1000011 ∷ [])
    -- 22-St/04-flag-1-at-3/0
    ∷ runs (block (memory 0x7ffffffc 0xc 0x100 8 true) 0x273a80f (op (MovI 0xf 0x7fffffff) 2 false ∷ op (St 0xc (Reg 15) 0 B32) 2 false
    ∷ [])) (hex 8 0x4783f300925fec4b) 0xd5f95911
    (card (regs 0x1455fba81cf6f9a7000000014888f4db0000001cffffffdaffff0000fffffffd
    0x000001000000000300000fff00001000216a5cbb0694e9f1433fd19c00000003) 0x27cc8f1e 0xf3d0ed53 0 0 0x8f721c91 0x1000
    (hex 12 0x54b28c930ead622f41703fc1) (hex 3 0x000001) (outcome 0x9152a39a 0 (hex 12 0x54b28c930ead622f41183fc1) (hex 3 0x000000)
    ∷ outcome 0x4e 1 (hex 12 0xd16def71bd0872b89a415e7a) (hex 3 0xe7d438)
    ∷ outcome 0x69 0xffffffff (hex 12 0xbf03ea784077d06539cdca38) (hex 3 0xd43c76) ∷ []))
    [] (by_chain 0) (reg 15 0x7fffffff & pc 0x273a813 & done 0x1002 & ram (hex 12 0x54b28c930ead622f41183fc1) & map (hex 3 0x000000))
    (write 0x7fffffff 4 0x1001 0x216a5cbb ∷ [])
    -- 22-St/04-next-set-at-0/0
    ∷ runs (block (memory 0x1000000 0xc 0x2000000 8 true) 0x3148bde (op (St 2 (Reg 10) 0xfffffff6 B32) 2 true ∷ []))
    (hex 8 0x6beb73b0caacf353) 0xffffffff
    (card (regs 0x0000800000007fff080e4ff6bfc5213b0000ffffc127d48cffff000075373697
    0xffff0000000000280100000e1ae61379800000000000000e0000000700010000) 0x7fffffff 0xff 0 0 0xfb02a39f 0xfffffffe
    (hex 12 0xc71d450546d525139b48ecab) (hex 3 0x000001) (outcome 0x2b 0 (hex 12 0x4dfdc76d334a33fdd1a8f9f8) (hex 3 0xe20abb)
    ∷ outcome 0xb2 1 (hex 12 0x743d3f22273e2f7282019f64) (hex 3 0x713776) ∷ []))
    [] (by_chain 0) (pc 0x3148be0 & done 0xffffffff & ram (hex 12 0xc71d4505f64f0e089b48ecab)) []
    -- 22-St/04-next-set-at-1/0
    ∷ runs (block (memory 0x10000 0xe 0x10010 0xc true) 0x3c38b26 (op (Un 8 3 Neg) 0 true ∷ op (SpAdd 0xffffffdc) 0 true
    ∷ op (Alu2 7 6 Add) 2 false ∷ op Nop 4 false ∷ op (St 6 (Reg 6) 0 B32) 6 false ∷ op (Goto 0x224f04d5) 2 false ∷ []))
    (hex 12 0x92865a34f606a9fb8bce2dee) 0xffffffff
    (card (regs 0x000000000000000100001000fffffffe7fffffff3a8ed7bc00010005bef39649
    0x0000000700010000ffffffff0000000385789583639b0ab8ffff8000ab0b6615) 0xc09208f6 0x1c 0x4407faa 0 0xc56f9a07 1
    (hex 14 0xc17f8e8763ebb877fad3c7896943) (hex 4 0x01000101) (outcome 1 0 (hex 14 0xc17f8ec063ebb877fad3c7896943) (hex 4 0x01000140)
    ∷ []))
    (entry 0x26a 0x224f04d5 ∷ []) (by_chain 0) (reg 7 0xbef4964e & reg 8 2 & sp 0xc09208d2 & pc 0x224f04d5 & done 7
    & ram (hex 14 0xc17f8ec063ebb877fad3c7896943) & map (hex 4 0x01000140)) (write 0x10005 4 5 0x10005 ∷ [])
    -- 22-St/04-next-set-flag-0/0
    ∷ runs (block (memory 0x7ffffffc 0xe 0x100 8 false) 0x2000000 (op (MovI 1 0x63ada386) 2 false ∷ op (MovI 8 0x7ffffffc) 4 false
    ∷ op (St 1 (Reg 8) 2 B32) 0 true ∷ op (Call 0xfff) 0xff false ∷ [])) (hex 8 0x1db960b3ccd6620c) 0x3a1cc383
    (card (regs 0x00010000fffff000a672f1aa000123450000010000000004ffffffe300007fff
    0xe95ebc6e00007fff7a979c4a00010000e8e2a9cb4b920cfcfffffffeffff0000) 0xa3649bbf 0xffffffdc 0xadfef6c5 0 0xd4ded2b1 0
    (hex 14 0x66cd42356a3c09794c175037da38) [] (outcome 0xe7 1 (hex 14 0x62cc76d2b34c14ef8359f4343993) [] ∷ []))
    [] (by_chain 0) (reg 1 0x63ada386 & reg 8 0x7ffffffc & rets 0x2000105 & pc 0xfff & done 4
    & ram (hex 14 0x66cd86a3ad6309794c175037da38)) []
    -- 22-St/04-own-set-at-2/0
    ∷ runs (block (memory 0x10000 0xe 0x10010 8 true) 0x32b7007 (op (St 0xd (Reg 1) 0xfffffff1 B32) 0xff false ∷ []))
    (hex 8 0xb81c654b2aa3ac5f) 0xffffffff
    (card (regs 0x0000002600010011cee0ec2800000fff00000000ffffffffffffffdb50a4c5dd
    0x60982675b3b106e7fffffffe00fff000000000208289d7ca00000080a165d06a) 0xfff48a5d 0x100 0 0 0x4cbd13fe 0
    (hex 14 0xa3785a528f061eec374d68c833c1) (hex 4 0x01000001)
    (outcome 0xffffffff 0 (hex 14 0xa3785a528f061eec374d68c833c1) (hex 4 0x01000001)
    ∷ outcome 0x38 0xffffffff (hex 14 0xb4afe62bfd2c306d8d2b7b84fc43) (hex 4 0xaabc0169)
    ∷ outcome 0x20 1 (hex 14 0x94a53c2f1d82a4ec0ccafb14f7c7) (hex 4 0x0ca46a0f) ∷ []))
    (entry 0x3883 0x32b7106 ∷ []) (by_chain 0) (pc 0x32b7106 & done 1) (write 0x10002 4 0 0x8289d7ca ∷ [])
    -- 22-St/04-last-at-2/0
    ∷ runs (block (memory 0x1000000 0x12 0x2000000 4 true) 0x3ffffff (op (St 0xb (Reg 12) 0x10 B32) 2 false
    ∷ op (Div 0 0xb 0xd RemU) 4 false ∷ op (Mov 0xb 0xd) 0 true ∷ [])) (hex 4 0x88f454a6) 0x4dd0d546
    (card (regs 0x626b0deb00000001ffff800030cf777f000000ff00000001fffffffffffff001
    0x951f7f8e80d4ac53c4d7764eac3f7f0300fffffe66bf7bee4717342600000001) 0x9c8f2b14 0x8000 0x7789c006 0 0xb440c3eb 0
    (hex 18 0x59562fc4f7e03abc9489c083fe71b0997a49) (hex 5 0x0100000000)
    (outcome 0xa28f7fb5 0 (hex 18 0x59562fc4f7e03a869489c083fe71b0997a49) (hex 5 0x0100000000)
    ∷ outcome 0xd0 1 (hex 18 0xcca25fae27cb79484110b6ac63d0b35f48a9) (hex 5 0x5008b1afbf)
    ∷ outcome 0x7b 0 (hex 18 0x4c5a2e07e461746c8c65053fac783b5922d2) (hex 5 0xf62207207a) ∷ []))
    (entry 2 0x4000005 ∷ []) (by_chain 0) (reg 0 0x45800315 & reg 11 0x66bf7bee & pc 0x4000005 & done 3
    & ram (hex 18 0x59562fc4f7e03a869489c083fe71b0997a49)) (write 0x100000e 4 0 0xac3f7f03 ∷ [])
    -- 22-St/04-over-at-1/0
    ∷ runs (block (memory 0x7ffffffc 0xc 0x100 6 true) 0x379f88a (op (BitExt 0xc 9 1 4 false) 2 true ∷ op (MovI 4 0xfff) 0 true
    ∷ op (Alu3 4 0xa 9 Xor) 0x50 false ∷ op (Alu2I 0xa 0xe217c360 Mul) 0x60 false ∷ op Nop 4 false ∷ op (Mov 0xa 1) 0xff true
    ∷ op (BitExt 4 0 0 4 true) 6 true ∷ op (Alu2I 0xe 0x69e8f6fb Sub) 2 true ∷ op (AddRI 1 9 0xffff8000) 2 true
    ∷ op (ShlI 5 0xe 0x3a) 2 false ∷ op (BitIns 5 9 8 0x10) 2 false ∷ op (Div 0xc 0 8 RemU) 4 true
    ∷ op (Alu3I 7 0xf 0xfffffffe And) 0x39 true ∷ op (Alu3 0xd 8 1 Sar) 4 false ∷ op (St 2 (Reg 2) 0 B32) 2 true ∷ []))
    (hex 6 0x1418391550af) 0xffffffff
    (card (regs 0x5e9082ab04a246728000000558097173ffff800031c41ab7ffffffff01a84c73
    0x14c5c4ceffffffe03c51fc460000000200000007558525b70000007f00007fff) 0xffff8000 0x1f 1 0 0x8d23fd45 0x1000
    (hex 12 0x1b9b89b793fccc2c29c951a8) (hex 3 0x000100) (outcome 0x2ad983b 0 (hex 12 0x1bf389b793fccc2c29c937a8) (hex 3 0x000100) ∷ []))
    (entry 0x3d48 0x379fa90 ∷ []) (by_chain 0) (reg 1 0xffff7fe0 & reg 4 0xfffffffb & reg 5 0x10ffe000 & reg 7 0x7ffe & reg 10 0x4a24672
    & reg 12 0xb796f73 & reg 13 0x14c5c4ce & reg 14 0x96170984 & pc 0x379fa90 & done 0x100f & ram (hex 12 0x1bf389b793fccc2c29c937a8))
    (write 0x80000005 4 0x100e 0x80000005 ∷ [])
    -- 22-St/04-width-1-at-3/0
    ∷ runs (block (memory 0x3000010 0xe 0x3000000 0x10 true) 0x3ffffff (op (Alu3 5 0xb 0xb Add) 2 false ∷ op (Alu2 0xf 0xa Xor) 2 true
    ∷ op (Un 0xa 4 SatU) 6 true ∷ op (BitExt 3 5 0x20 4 true) 4 false ∷ op (MovI 2 0x3000013) 2 false ∷ op (MovI 4 0xdc574cd2) 4 false
    ∷ op (St 4 (Reg 2) 0 B8) 4 false ∷ op (BitIns 0xc 0xe 1 8) 6 true ∷ [])) (hex 16 0xe654774dcde8f60d85dc5c7553f14656) 8
    (card (regs 0xffff8000000000041565bcb4ffff8000ff5c81a0f5abf2ecfffff00000000001
    0x0000001fffffffe500000fff00007fff0001000048b7ae7affffffe6f4e0a65d) 0xffff0000 0x7fffffff 0x98d5cfb9 0 0xd1ba096f 0
    (hex 14 0x6e4ded5530e2693e9f505eebfc92) (hex 4 0x00000100) [])
    [] (by_chain 0) (reg 2 0x3000013 & reg 3 0xfffffffe & reg 4 0xdc574cd2 & reg 5 0xfffe & reg 10 0 & reg 12 0x101cc & reg 15 0xf4e0a9a2
    & pc 0x400001d & done 8 & ram (hex 14 0x6e4dedd230e2693e9f505eebfc92)) []
    -- 22-St/04-width-2-at-2/0
    ∷ runs (block (memory 0x20000000 0x10 0x8000000 0x10 true) 0x3b1a30c (op (MovI 0xb 0x8455186a) 4 false
    ∷ op (St 0xb (Reg 15) 0 B16) 6 false ∷ op (Goto 0xffff8000) 2 true ∷ [])) (hex 16 0x8949d842ed4e9dd4058f81b43841ebc9) 0xffffffff
    (card (regs 0x00000100000000200000001f0000002788f4b0303abd7b36becc73fb00000007
    0x57e747a57973f4f7c9dc3fd2ffff800000fff000aa7a6af50000001f20000002) 3 0x8000 0 0 0xce6b027c 0
    (hex 16 0x213f37e3fd3f6b02a7835fd669ad19d9) (hex 4 0x00000000)
    (outcome 0x56 0 (hex 16 0x8ff9594fdf9f8108226bb53d57015bff) (hex 4 0x91d9de4e)
    ∷ outcome 0xc2 0xffffffff (hex 16 0x7b4639ff63b1a5ef6aa32e86549a86ad) (hex 4 0xc3280394) ∷ []))
    (entry 0 0xffff8000 ∷ []) (by_chain 0) (reg 11 0x8455186a & pc 0xffff8000 & done 3 & ram (hex 16 0x213f6a18fd3f6b02a7835fd669ad19d9))
    []
    -- 24-StIdx/04-flag-1-at-1/0
    ∷ runs (block (memory 0x1000000 0xc 0 8 true) 0x2dd3f67 (op (StIdx 0xa 0xa 0xe 0xff B32) 0 false ∷ [])) (hex 8 0x6c43e2ec9c5d5b82)
    0x1001
    (card (regs 0x0000007f76444616bb13feed0000ffff9d5dec7700000004ffffffff00000fff
    0x9efff2e9ffffffff0100000500001000ffffffff09e12ef900000000db0a6fdb) 0xffff8000 0 1 0 0xbe0cc1cb 0x1000
    (hex 12 0x4f44894a7eb8a4028b92349f) (hex 3 0x010000) (outcome 1 0 (hex 12 0x4f44894a7eb8a4028ba7149f) (hex 3 0x000040)
    ∷ outcome 0x9a 1 (hex 12 0x7d27b30b7c557ee82364abd5) (hex 3 0xb3becf)
    ∷ outcome 0x41 1 (hex 12 0x9429ca3d725dd7ab04912bc8) (hex 3 0xeb0c7a) ∷ []))
    [] (by_chain 0) (pc 0x2dd3f67 & done 0x1001 & ram (hex 12 0x4f44894a7eb8a4028ba7149f) & map (hex 3 0x000040))
    (write 0x1000005 4 0x1000 0x1000005 ∷ [])
    -- 24-StIdx/04-xip-at-1/0
    ∷ runs (block (memory 0x1000000 0xe 0x2000000 0x10 true) 0x31405d8 (op (MovI 0xb 0x2137b146) 4 false ∷ op (StIdx 0xb 6 0xe 4 B32) 4 true
    ∷ op (MovI 1 0x10000) 6 true ∷ [])) (hex 16 0xd88dccb41a34705773984b38fdcc859b) 0xffffffff
    (card (regs 0x78e8581e000000220000100000010000000000000000000401ffffe1271d6446
    0x00000015000000014c47978600000fffe61afb6996a0eb630000000200000fff) 0x1ae1af7 0x46769d54 0 0 0x96c54cf 0
    (hex 14 0xf48a9e8d9e5f417185849076273b) (hex 4 0x01010001) (outcome 1 0 (hex 14 0xf48a9e8d9e5f41718584ee76273b) (hex 4 0x01014001)
    ∷ []))
    [] (by_chain 0) (reg 1 0x10000 & reg 11 0x2137b146 & pc 0x31405e6 & done 3 & ram (hex 14 0xf48a9e8d9e5f41718584ee76273b)
    & map (hex 4 0x01014001)) (write 0x2000001 4 1 0x2137b146 ∷ [])
    -- 26-StPost/04-flag-1-at-2/0
    ∷ runs (block (memory 0x1000000 0xd 0 8 true) 0x34c828c (op (BitExt 0xb 0xc 0x1f 0x21 false) 2 false ∷ op (MovI 3 0xbd1c3db0) 4 false
    ∷ op (StPost 3 0xd B32 4) 6 true ∷ op (Alu3 0 0 0xa Or) 6 true ∷ op (BrI 5 4 Eq 0x4437f70a) 2 false ∷ [])) (hex 8 0x94e64e7035bad183)
    0xffffffff
    (card (regs 0x000001000000ffff000000ff6bf2b17f94db504efffff00046865c5800007fff
    0x901166df00000080000000150c53b0503420de660100000600010000ffffffe7) 0x86f3b546 0x57c0c9ac 0x3a928e28 0 0x60c7eb7f 0x22ce66e5
    (hex 13 0x3914ff564ec61db6b3e623a161) (hex 4 0x01000001) (outcome 0 0 (hex 13 0x3914ff564ec61db6b3e623a161) (hex 4 0x01000001)
    ∷ outcome 0x82 0xffffffff (hex 13 0x92a2e94121ceb82e9898dbee97) (hex 4 0xd5e4738a) ∷ []))
    (entry 0x150 0x34c82a0 ∷ []) (by_chain 0) (reg 0 0x115 & reg 3 0xbd1c3db0 & reg 11 0 & reg 13 0x100000a & pc 0x34c82a0
    & done 0x22ce66ea) (write 0x1000006 4 0x22ce66e7 0xbd1c3db0 ∷ [])
    -- 26-StPost/04-break-outcome-glue-1/0
    ∷ runs (block (memory 0x10000 0x14 0x10014 0xc true) 0x2000000 (op (StPost 0xf 0xa B32 2) 4 true ∷ op (SarI 3 0xc 0x14) 0xff true
    ∷ op (Alu2I 0xb 2 Mul) 2 true ∷ [])) (hex 12 0xb2e8371b3bbe0ea6567e75ed) 0x759ae146
    (card (regs 0xd232167600000007ab2dd7e6fffff00000fff000506e3f560000ffffc29d8f8e
    0xffffffff0000000d0001000efffffffe80000000fffffffeffffffff89ac9946) 0x12345 0xffffffff 0 0 0xe49e31d8 0x759ae143
    (hex 20 0xe70e3ac03ad50b46c3d2be68621ac668636fe5a8) (hex 5 0x0101010000)
    (outcome 0 0xffffffff (hex 20 0xe70e3ac03ad50b46c3d2be68621ac668636fe5a8) (hex 5 0x0101010000)
    ∷ outcome 0xf5 0xffffffff (hex 20 0xba08a33946ab511c343bfbc677f00e2021915c1b) (hex 5 0xc1fb33d645)
    ∷ outcome 0x78 0xffffffff (hex 20 0xe5b443d3e1734297ad90a3b376b5621547e60b7e) (hex 5 0x988fc177b6) ∷ []))
    (entry 2 0x2000004 ∷ []) by_return (reg 10 0x10010 & hold 1 & brk 0xffffffff & pc 0x2000004 & done 0x759ae144)
    (write 0x1000e 4 0x759ae143 0x89ac9946 ∷ [])
    -- 27-Rmw/04-flag-0-at-2/0
    ∷ runs (block (memory 0x1000000 0x14 0 8 false) 0x3d9d877 (op (Un 0xe 1 SatS) 4 true ∷ op (Rmw 0xb B32 RmwAdd 0 0xfffff001) 0xff true
    ∷ [])) (hex 8 0x3989c131f38d39cf) 2
    (card (regs 0xeb35d76600000fff000000207fffffff8154a44b2f6b0fab978f7f1280000000
    0xfffffffeb36e5cf6ba1781df0100000ed22cd02718f77872000000083adae78a) 0x99f9d4e3 4 2 0 0x13b6e7ad 0
    (hex 20 0x24c338dc02c581427e3e9ed8db6e9b03c3df9f91) [] (outcome 0x70 0 (hex 20 0x51436fa47845a90d2fa77f4f7a373fe249dde7f4) []
    ∷ outcome 0x4a 0 (hex 20 0xcbdc7e15963217599126a944552b37966351d8c8) [] ∷ []))
    [] (by_chain 0) (reg 14 0xfff & pc 0x3d9d97a & done 2 & ram (hex 20 0x24c338dc02c581427e3e9ed8db6e9cf3c2df9f91)) []
    -- 27-Rmw/04-flag-1-at-3/0
    ∷ runs (block (memory 0x300000c 0xf 0x3000000 9 true) 0x2a19faa (op (Rmw 2 B32 RmwAdd 0 0xff) 0 true ∷ [])) (hex 9 0x8de95e64b67c7bf49c)
    1
    (card (regs 0xaa937f42000100000300000f0000001fdef4059fb2a95eb80001234533c01347
    0x2680f757ffffffffffff0000ffffffff000000040000000800000008b2e91151) 0xb21d6db 0x235683eb 2 0 0xef8365f9 0
    (hex 15 0xb6d94d8944e026790ad99c9eaae82d) (hex 4 0x00000101)
    (outcome 0x80000000 0 (hex 15 0xb6f64d8944e026790ad99c9eaae82d) (hex 4 0x00010101)
    ∷ outcome 0xaa 0xffffffff (hex 15 0xc9e8692022dcab567e7072f61ae8a7) (hex 4 0xce5cdba2)
    ∷ outcome 0x9e 0 (hex 15 0xd2033376fa075370de901759a4b962) (hex 4 0x9963846d) ∷ []))
    [] (by_chain 0) (pc 0x2a19faa & done 1 & ram (hex 15 0xb6f64d8944e026790ad99c9eaae82d) & map (hex 4 0x00010101))
    (write 0x300000f 4 0 0x26e04588 ∷ [])
    -- 27-Rmw/04-next-set-at-2/0
    ∷ runs (block (memory 0x1000000 0xc 0x2000000 8 true) 0x2000000 (op (Rmw 0xb B32 RmwAnd 0xffffffea 0x1b) 4 false ∷ []))
    (hex 8 0xd93b23a0a2f98058) 0xffffffff
    (card (regs 0x0000000767eafa4200001000bafc6eb4abae1a30000000fffffff00100008000
    0x000000072b109c0e00fff00001000018112a61d50000002842a57cf8000000ff) 0xb819d9de 0x357b3e6e 2 0 0x440dc1d3 0
    (hex 12 0xbc74000000806250711b81d8) (hex 3 0x008000) (outcome 0x5901d3c0 0 (hex 12 0xbc040000000b6250711b81d8) (hex 3 0x000100)
    ∷ outcome 0x71 0 (hex 12 0xd1289cbcbff4532e2374c43d) (hex 3 0xbd3abd) ∷ []))
    (entry 2 0x2000004 ∷ []) (by_chain 0) (pc 0x2000004 & done 1 & ram (hex 12 0xbc040000000b6250711b81d8) & map (hex 3 0x000100))
    (write 0x1000002 4 0 0 ∷ [])
    -- 27-Rmw/04-rmw-ram-mov/0
    ∷ runs (block (memory 0x1000 0xc 0xfffffff4 0xc true) 0x356b067 (op (Ext 6 0xc PartUpper true) 0xff false
    ∷ op (Alu3 3 0xa 9 And) 0xff false ∷ op (SpAdd 0xffffffe2) 0x94 false ∷ op (Ext 0xe 0xd PartUpper true) 0x88 false
    ∷ op (MovI 0xe 0x7f) 4 true ∷ op (Div 7 4 8 RemU) 4 true ∷ op (MinMax 8 8 0xa MinU) 4 true ∷ op (AddRI 0 5 0x1000) 4 false
    ∷ op (BitExt 3 0xe 0x10 0x40 false) 2 true ∷ op (BitExt 0xe 4 0 0x21 false) 4 true ∷ op (Alu3I 8 9 0xae2aa821 Add) 0 false
    ∷ op (Mov 8 0xe) 2 true ∷ op (Alu3I 0xc 5 2 Xor) 2 true ∷ op (MovI 4 0x67a550d2) 2 false ∷ op (Ext 7 1 PartUpper false) 0xff false
    ∷ op (Rmw 0xd B32 RmwMov 0 0xc413b175) 4 true ∷ op (Un 0xd 4 Not) 0xff true ∷ op (AddRI 0xc 0xa 0x1a) 6 true ∷ []))
    (hex 12 0x5d0b0231d4eeab61f8fc425e) 0x1011
    (card (regs 0xffffffdf0000001bfffffff782a99258249ea3d00000800000000fff00000021
    0x000080000000007f8d6d8cee0000000b0000000400001001925ff7d300010000) 8 0x10000 0 0 0x7d3aca78 0xfff (hex 12 0x52ffffffffda7de902317df7)
    (hex 3 0x000000) (outcome 0x6692786b 0 (hex 12 0x52ff10ffffda7de902310ff7) (hex 3 0x004040) ∷ []))
    (entry 0x1ad2 0x356b5a5 ∷ []) (by_chain 0) (reg 0 0x9000 & reg 3 0 & reg 4 0x67a550d2 & reg 6 0 & reg 7 0 & reg 8 0 & reg 12 0x8d6d8d08
    & reg 13 0x985aaf2d & reg 14 0 & sp 0xffffffea & pc 0x356b5a5 & done 0x1011 & ram (hex 12 0x52ff10ffffda7de902310ff7)
    & map (hex 3 0x004040)) (write 0x1001 4 0x100e 0xc413b175 ∷ [])
    -- 27-Rmw/04-rmw-xip/0
    ∷ runs (block (memory 0x1000000 0x10 0 0xc true) 0x3ffffff (op (Rmw 7 B32 RmwAnd 0 0xe4b137b4) 0xff true ∷ op (Alu3 9 6 9 AndNot) 0 true
    ∷ [])) (hex 12 0xd2c11000000080ed96d29634) 0x8d22be51
    (card (regs 0x2f84c1adc4928ad829481a720000001775e81a16fffff0000000000200000003
    0xa1096c0700000008c00df73500000fff8c334137348b3dc5619bbec600000001) 0x1e 0x62eb09d8 2 0 0x9a1e455f 0x1000
    (hex 16 0x69acf25978c7380184ac36de6d903712) (hex 4 0x00000000)
    (outcome 1 0 (hex 16 0x69acf25978c7380184ac36de6d903712) (hex 4 0x00000000)
    ∷ outcome 0xb3 0xffffffff (hex 16 0xc5e34c187840e0c23a117632fd0a91a4) (hex 4 0x6e884d60) ∷ []))
    [] (by_chain 0) (reg 9 2 & pc 0x40000fe & done 0x1002) (write 3 4 0x1000 0x80000000 ∷ [])
    -- 27-Rmw/04-rmw-outside-read-breaks-write-clears/0
    ∷ runs (block (memory 0x1000 0x10 0xfffffff8 6 true) 0x2000000 (op (Rmw 7 B32 RmwAnd 6 0x7f) 0xff false ∷ op (MovI 7 0xffffffff) 6 true
    ∷ [])) (hex 6 0xc4b81fb7f35a) 0xafaad601
    (card (regs 0x00000016ffff0000ea4868db00007fff00000001fffffff3ffff800017109b6b
    0x3f4418cefffff00011529b03fac86cc9c48d75200000000200000fff00007fff) 0xe4dc0942 0xffffffee 2 0 0xcbf10b88 0
    (hex 16 0xcad5b37bf8d090eb11d5ef0d56c38676) (hex 4 0x00000000)
    (outcome 0x5a90fd62 0x80000000 (hex 16 0xcad5b37bf8d090eb11d5ef0d56c38676) (hex 4 0x00000000)
    ∷ outcome 1 0 (hex 16 0x9fd5b37ef8d090eb11d5ef0d56c38676) (hex 4 0x00000001) ∷ []))
    (entry 0x82 0x2000105 ∷ []) (by_chain 0) (reg 7 0xffffffff & pc 0x2000105 & done 2 & ram (hex 16 0x9fd5b37ef8d090eb11d5ef0d56c38676)
    & map (hex 4 0x00000001)) (read 0x17109b71 4 0 ∷ write 0x17109b71 4 0 0x62 ∷ [])
    -- 28-PushRet/04-flag-0-at-1/0
    ∷ runs (block (memory 0xfffffff0 0xe 0x1000 9 false) 0x24fc76a (op (Alu3I 8 0xa 0x1f Sub) 6 true ∷ op PushRet 2 true ∷ []))
    (hex 9 0xef25835efa18c6832c) 0xb3d78082
    (card (regs 0xd95891fa00008000ffffffd90000000800012345025004877ffffffffffff000
    0x0000000371b7a0e8000080008edac4160000ffff2d1f9f4100001000ffff0000) 0xfffffff5 0x21b6f77e 0 0 0x6346bde6 0
    (hex 14 0x519766ac9ea84aa3e9ebcebc2723) [] (outcome 0xe1 0 (hex 14 0x56daf8fb44903ad0b8035c08c069) []
    ∷ outcome 0xb4 1 (hex 14 0x79e13dfbd254274f0ec51fa76d2a) [] ∷ []))
    [] (by_chain 0) (reg 8 0x7fe1 & sp 0xfffffff1 & pc 0x24fc772 & done 2 & ram (hex 14 0x517ef7b621a84aa3e9ebcebc2723)) []
    -- 28-PushRet/04-flag-1-at-1/0
    ∷ runs (block (memory 0x7ffffffc 0xc 0x100 8 true) 0x3ffffff (op PushRet 2 true ∷ [])) (hex 8 0xfee2c60cc10e1505) 0xf349ccc5
    (card (regs 0xffff00000001234527b0d3b2ffffffe60000000f000000080000008080000000
    0x4ba525970000000300012345000000ff9dcac40008d3f12b0000002000001000) 0x80000005 0x813809a6 0xcb27c09f 0 0xe3a9b247 0
    (hex 12 0x06f973c75ac30fd8a6764fb2) (hex 3 0x000000) (outcome 0x5651a921 0 (hex 12 0x06f973c75ac30fd8a6764fb2) (hex 3 0x000000) ∷ []))
    [] (by_chain 0) (sp 0x80000001 & pc 0x4000001 & done 1) (write 0x80000001 4 0 0x813809a6 ∷ [])
    -- 28-PushRet/04-flag-1-at-2/0
    ∷ runs (block (memory 0x3000008 0xe 0x3000000 8 true) 0x3f07aa4 (op (SpAdd 0x20) 2 false ∷ op PushRet 0 true ∷ []))
    (hex 8 0x8ab7d770e5717f35) 0xffffffff
    (card (regs 0xfffff000000000000000000103ed15ae9de740a3000001009a8af1abfc02bbf5
    0xed1d3747ffffffeea50cbdf300000026000000044bab029d8c78a75000000002) 0x2ffffee 0xcd2abf7a 0x6653e50f 0 0x52832203 0xfffffffd
    (hex 14 0xa79ed657d3ed5986edbd12060f6a) (hex 4 0x00000001)
    (outcome 0xb572b6a1 0 (hex 14 0xa79ed657d3ed5986edbd12060f6a) (hex 4 0x00000001)
    ∷ outcome 0x3e 0 (hex 14 0x13c71974d87d4c0e50f875341338) (hex 4 0x66650210)
    ∷ outcome 0x50 1 (hex 14 0x66570d1a924b70213549c9fadb65) (hex 4 0xb33856bb) ∷ []))
    [] (by_chain 0) (sp 0x300000a & pc 0x3f07aa6 & done 0xffffffff) (write 0x300000a 4 0xfffffffe 0xcd2abf7a ∷ [])
    -- 28-PushRet/04-next-set-at-3/0
    ∷ runs (block (memory 0x7ffffffc 0xe 0x100 8 true) 0x2000000 (op (Alu2I 6 0xfff000 Sar) 6 false ∷ op (Un 0xd 0xb Clz) 4 true
    ∷ op (AddRI 0xb 3 8) 4 false ∷ op (MovI 1 0xfffffffe) 4 false ∷ op (MinMax 3 0xf 0xb MaxU) 0x5c true ∷ op (MovI 7 0xf) 2 true
    ∷ op (Alu3I 0xf 0xe 0xffff Shr) 6 true ∷ op (Alu2 0 2 And) 0xff false ∷ op (A4 0 9 Shr RkBit 0xffff8000) 0xed true
    ∷ op (Mov 0xa 6) 0 true ∷ op (Mov 2 9) 4 false ∷ op (Alu2I 4 0xa3bd9aa3 Mul) 0 false ∷ op (Alu3 0xc 3 9 Add) 0 true
    ∷ op (Alu3I 6 8 0x1f Shr) 4 false ∷ op (Alu3 3 1 0xb AndNot) 4 true ∷ op (Mov2I 0xf 0xe 0xfff) 0 false ∷ op PushRet 0xff true ∷ []))
    (hex 8 0x66cc29026ff19dea) 0xffffffff
    (card (regs 0xfffffffd9d27e66d222ad588ee49d71100000020ffffffff0000ffff225d3e57
    0x00000017ffffffe31acdb9630000001ffffffffeffffffe7480d31ae09fe0c9d) 0x80000007 0xee3a76cc 0xc2330a5a 0 0x4ed29611 0
    (hex 14 0x739c430d111bb26db90fa4aad53f) (hex 4 0x00000101)
    (outcome 0x80000000 0 (hex 14 0x739c4300111bb26db90fa4aad53f) (hex 4 0x00004001) ∷ []))
    (entry 0x1b6 0x200036d ∷ []) (by_chain 0) (reg 0 0xffffffe3 & reg 1 0xfffffffe & reg 2 0xffffffe3 & reg 3 0x11b628e6 & reg 4 0x77b35460
    & reg 6 0 & reg 7 0xf & reg 10 0xffff & reg 11 0xee49d719 & reg 12 0xee49d6fc & reg 13 0x1b & reg 14 0xfff & reg 15 0 & sp 0x80000003
    & pc 0x200036d & done 0x11 & ram (hex 14 0x739c4300111bb26db90fa4aad53f) & map (hex 4 0x00004001)) (write 0x80000003 4 0x10 0xee3a76cc
    ∷ [])
    -- 28-PushRet/04-before-at-2/0
    ∷ runs (block (memory 0x10000 0xd 0x10010 8 true) 0x3ffffff (op PushRet 2 true ∷ [])) (hex 8 0xc45d84b598d64951) 0xffffffff
    (card (regs 0xb192a6ff1fac04be000000010a270c9423d2773700000020b896dec5ffffffe0
    0xc8f497a00000000709ff9d0880000000000000020000ffffd101654e00000020) 0x10002 0xf3e028e0 1 0 0x2c385025 0
    (hex 13 0x5eaeea6ad8d5ba03cc80404402) (hex 4 0x00000001)
    (outcome 0x7fffffff 0 (hex 13 0x5eaeea6ad8d5ba03cc80404402) (hex 4 0x00000001)
    ∷ outcome 0x34 0 (hex 13 0x82bf26846699fab905216d5b37) (hex 4 0xb92ce088)
    ∷ outcome 0x13 0 (hex 13 0x7d7f3b32df0537230866f0e761) (hex 4 0xb7be2314) ∷ []))
    [] (by_chain 0) (sp 0xfffe & pc 0x4000001 & done 1) (write 0xfffe 4 0 0xf3e028e0 ∷ [])
    -- 28-PushRet/04-outside-at-3/0
    ∷ runs (block (memory 0xfffffff4 0xc 0x1000 0xc true) 0x320391c (op (Ext 6 4 PartUpper true) 4 false ∷ op PushRet 4 false
    ∷ op (MinMax 8 3 0xa MaxU) 0x85 true ∷ op (Alu3I 5 0xe 0x1233799f Sub) 2 false ∷ [])) (hex 12 0x2c3f503c8c4ac4177c303965) 4
    (card (regs 0xccc043246ecd40746a28f894ffffffd8f551f77942221d61fffffff1ffffffed
    0x1b1043dc99c86b2fff694bd5ffff800071739af9800000000000000e00000000) 0x3ffffffb 0x2a274898 0 0 0x9006becf 0
    (hex 12 0x466d9d1d229dc0af8151f493) (hex 3 0x010000) (outcome 0xffffffff 0 (hex 12 0x466d9d1d229dc0af8151f493) (hex 3 0x010000)
    ∷ outcome 0x76 1 (hex 12 0x49c935db9b8a4198e36ab9de) (hex 3 0xa38ccf) ∷ []))
    [] (by_chain 0) (reg 5 0xedcc866f & reg 6 0xfffff551 & reg 8 0xffffffd8 & sp 0x3ffffff7 & pc 0x32039ab & done 4)
    (write 0x3ffffff7 4 1 0x2a274898 ∷ [])
    -- 40-BlockMove/04-unaligned-clear/0
    ∷ runs (block (memory 0 0x1c 0x2000000 0xf true) 0x3ffffff (op (MovI 9 2) 2 false ∷ op (MovI 0xe 0x8359b500) 4 false
    ∷ op (BlockMove 9 0x4006 true true false) 0 false ∷ [])) (hex 15 0x9639c39d4f95f467a8d5f4fe36bf47) 0x81ccc1c2
    (card (regs 0x583c284770fb6208859751f0fffff000000000020000fffffffffffe6b9f3031
    0x0000008000007fff31b2697e000123450000000700000002ffff800000000001) 0x80 0xffffffdc 2 0 0x1a3f606d 0xfff
    (hex 28 0x686950598af8a11244b8c873d0ac16331895cb37c18cc2cdfce00782) (hex 7 0x00000000000000)
    (outcome 0x58 0 (hex 28 0x18a931a430f9bd300bcc46d5efc51c88dc9b6fe199f98e3872ab4c43) (hex 7 0x8985f7e797aee8) ∷ []))
    [] (by_chain 0) (reg 9 0xe & reg 14 0x8359b500 & pc 0x4000005 & done 0x1002
    & ram (hex 28 0x68690862fb70f051978500b5598316331895cb37c18cc2cdfce00782)) []
    -- 40-BlockMove/04-unaligned-own/0
    ∷ runs (block (memory 0x20000000 0x14 0x8000000 0x18 true) 0x2000000 (op (BlockMove 0xd 0x4180 true false false) 6 true ∷ []))
    (hex 24 0xe41578f341b7f9153566b1f8f56a75ec39eb57bf33f6894b) 0xffffffff
    (card (regs 0xf58aad7b00000009e17358268bee1c8400007fffdf380e18425004ce637127e3
    0x38b4f4db0000000300012345000000220000ffff20000001cb91b94300000001) 0x872bed01 0xffffffe7 0 0 0x8304f0c8 0xfffffffe
    (hex 20 0xd8f63a874dfc118ba3b92c7750a5ad12995ae969) (hex 5 0x0000018001)
    (outcome 0 0 (hex 20 0xd8e3277163dbf4b438b92c7750a5ad12995ae969) (hex 5 0x0000018001) ∷ []))
    [] (by_chain 0) (pc 0x2000006 & done 0xffffffff & ram (hex 20 0xd8e3277163dbf4b438b92c7750a5ad12995ae969))
    (write 0x20000009 4 0xfffffffe 0xcb91b943 ∷ [])
    -- 41-PushRets/04-unaligned-clear/0
    ∷ runs (block (memory 0x1000 0xd 0xfffffff4 0xa true) 0x30e3f3c (op (PushRets 4) 4 false
    ∷ op (DecBr 0xd GtU 0x83aa8ffa 0x9de6767e) 4 true ∷ [])) (hex 10 0x5e9a9f96f788364161df) 0xffffffff
    (card (regs 0x256fb6ab00012345ffffffffdaa82838abbc66a5000000214f5d29d6fffffff1
    0x00001000ffffffff0cb080d4fffff000fffff0010000000100000100a736aa90) 0x100a 0x76b39ddf 1 0 0x7d6ac46b 5
    (hex 13 0x8efe3eec7a03f3709cffe33d0c) (hex 4 0x00000000) [])
    [] (by_chain 0) (reg 13 0 & sp 0x1002 & pc 0x30e3f44 & done 7 & ram (hex 13 0x8efea566bcabdf9db376e33d0c)) []
    -- 41-PushRets/04-unaligned-next/0
    ∷ runs (block (memory 0 0x14 0x2000000 0x10 true) 0x3ffffff (op (PushRets 6) 2 true ∷ [])) (hex 16 0x4b9aaa459248bd089e9e3d61db471f14) 1
    (card (regs 0x00000fff0000ffff4bc2f06123c1e2d5da07c6ab7aa6fa8c511ea17700010000
    0xadbb02befffffff0d6ac93d400000028000010005095fa02000000801600adc6) 0x11 0x91b110c5 0 0 0xe76c0d73 0
    (hex 20 0x27b5ec97acee76b729cb402d94f624482f343c1d) (hex 5 0x0000000001)
    (outcome 0xfb 0 (hex 20 0x182208ca8d52e68c2986bf72cc7c89a2e3f06b44) (hex 5 0xbb18a9116e)
    ∷ outcome 0xde 1 (hex 20 0xd318946d1dd7fa82afdd3fd1508623e7ea1ef618) (hex 5 0xf3bbe235d0) ∷ []))
    (entry 0 0x4000001 ∷ []) (by_chain 0) (sp 1 & pc 0x4000001 & done 1 & ram (hex 20 0x27abc607da8cfaa67a77a11e51c510b191343c1d)) []
    -- 44-StPair/04-unaligned-next/0
    ∷ runs (block (memory 0 0x18 0x2000000 9 true) 0x3ffffff (op (Un 0xe 0xf Rev) 4 false ∷ op (MovI 1 0x678350d5) 2 false
    ∷ op (StPair 0 (Reg 3) 0xfffffff4) 4 false ∷ [])) (hex 9 0x04839af2c4025031d1) 0xffffffff
    (card (regs 0x080b3a7f000000037fffffff0000000f0000007f9fc7f1b0cb0b53f6dfb26620
    0xffff8000f4aae0e600000004ffffffd900010000000010004cf6c45bb7b3fcf2) 0xa045af08 0x12345 0 0 0xbe7f26d6 5
    (hex 24 0xe1190394caac1e7214303a62887948a04de3ecc70ab40420) (hex 6 0x000001000001)
    (outcome 0xd5 0 (hex 24 0xbe6ef41f16f6338d54e7718f6066d2e589de669a75a060b1) (hex 6 0xfbbd208d420a)
    ∷ outcome 0xa4 1 (hex 24 0x960f7389051c829ccf64a6cac391d64102755972d5ab92ea) (hex 6 0x809c329c89c6) ∷ []))
    [] (by_chain 0) (reg 1 0x678350d5 & reg 14 0xf2fcb3b7 & pc 0x4000009 & done 8
    & ram (hex 24 0xe119037f3a0b08d550836762887948a04de3ecc70ab40420)) []
    -- 44-StPair/04-unaligned-flag-0/0
    ∷ runs (block (memory 0x1000000 0xf 0x2000000 8 false) 0x3ffffff (op (RFromSp 0 2) 0 true ∷ op (Un 0xf 0xd SatU) 2 true
    ∷ op (Alu2 0 0 Sub) 2 true ∷ op (StPair 1 (Reg 13) 0xf) 2 false ∷ [])) (hex 8 0x9f99bff6cf6730d6) 4
    (card (regs 0xaf6a371b6654c8fd6c2e9b4795b181912e480cfdfffff0007fffffffffffffea
    0xec71ff6700000001cf5b5db9000000040000000300fffff300000fff00000000) 0xffff0000 0xa8e50855 2 0 0x17b9babc 0
    (hex 15 0x5be8df3a6ac553dc8256525a28ce6b) [] (outcome 0x3d 0 (hex 15 0x5ec40b778aaff50dbeaccfe8ac2783) []
    ∷ outcome 0xe8 0 (hex 15 0x98a5ed2cee30ee7eab9ac1657b8527) [] ∷ []))
    [] (by_chain 0) (reg 0 0 & reg 15 0xffff & pc 0x4000005 & done 4 & ram (hex 15 0x5be8479b2e6c9181b195525a28ce6b)) []
    -- all/04-stores-and-groups/0
    ∷ runs (block (memory 0x1000000 0x10 0 0x10 true) 0x20a875a (op (LdPair 0 (Reg 13) 1) 0 true ∷ op PushRet 4 true
    ∷ op (St 4 (Reg 8) 0xfffffffc B8) 1 false ∷ op (LdPair 0x40 Sp 0) 4 true ∷ op (StIdx 0xe 5 4 8 B16) 2 false ∷ op (PopPc 5) 4 false
    ∷ [])) (hex 16 0xecd359ff09db29f7e7e33f7a27b0d5ef) 0xffffffff
    (card (regs 0x00000004ffffffff010000020100000afffffffe000000800000800001000010
    0xffff00000000000a000000130100000c010000100100000325cad24500000007) 0x100000d 0x1000 2 0 0xf12f5028 0
    (hex 16 0x181acbcc7395be51450ae9647a06cd3d) (hex 4 0x01ffff01)
    (outcome 0xcc47afb3 0 (hex 16 0x181acbcc7395d551450ae9647a06cd3d) (hex 4 0x01ffff00)
    ∷ outcome 0 0 (hex 16 0x181acbcc7395d55145eee9647a06cd3d) (hex 4 0x01ffff00)
    ∷ outcome 0x80000000 0 (hex 16 0x181acbcc7395d55145eee9647a06cd3d) (hex 4 0x01ffff00)
    ∷ outcome 0 0 (hex 16 0x181acbcc7395455145eea6647a06cd3d) (hex 4 0x0100ff00)
    ∷ outcome 0x3f04156e 0 (hex 16 0x181acbcc7395455145eea6e57a06cd3d) (hex 4 0x0100ff00)
    ∷ outcome 0x7fffffff 0 (hex 16 0x181acbcc7395455145eea6e57a20cd3d) (hex 4 0x0000ff00)
    ∷ outcome 0x50 1 (hex 16 0xdd06c2fc26f44450fac6d204cb89df42) (hex 4 0x54d1f8a3)
    ∷ outcome 0xec 0 (hex 16 0x543b48595461ed9752eb10a883178dfd) (hex 4 0x2e7a9b9f) ∷ []))
    (entry 0x3fff 0xffffffff ∷ []) by_return (reg 0 0x7a64e9ee & reg 1 0x80000000 & reg 4 0x7a64a6ee & reg 5 0x3f04156e & sp 0x1000015
    & pc 0x7fffffff & done 6 & ram (hex 16 0x181acbcc7395455145eea6e57a20cd3d) & map (hex 4 0x0000ff00)) (write 0x1000009 4 1 0x1000
    ∷ write 0xfffefffc 1 2 0xfffffffe ∷ read 0x100000d 4 3 ∷ write 0xfffffe80 2 4 0x25cad245 ∷ read 0x100000d 4 5 ∷ read 0x1000011 4 5
    ∷ [])
    ∷ []

pub all_reach : reached cases ≡ expected cases
unfolding run ops_from op_step load direct store read_le write_le signed_of sign_extend leading_zeros load_all store_all push_all pop_all places up_from
all_reach = refl
