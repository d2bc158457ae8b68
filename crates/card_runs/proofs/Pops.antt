-- Kind 42: each number, region ends, the jump table, breaks that leave hold as it was: each run reaches its end.
use mathlib.Core.Bool.{true, false}
use mathlib.Core.List.{List, [], ◌∷◌, ◌++◌}
use mathlib.Core.Path.{◌≡◌, refl}
use Rattle.block.specs.declared.Op.TheVariants.{Sub, And, AndNot, Or, Xor, Shl}
use Rattle.block.specs.declared.Rk.TheVariants.{Bit as RkBit}
use Rattle.block.specs.declared.Choice.TheVariants.{MinU, MaxU}
use Rattle.block.specs.declared.UnKind.TheVariants.{SatU}
use Rattle.block.specs.declared.DivKind.TheVariants.{QuoU, RemU}
use Rattle.block.specs.declared.Fast.TheVariants.{Nop, MovI, Mov, AddRI, ShlI, SarI, Alu3, Alu3I}
use Rattle.block.specs.declared.Fast.TheVariants.{Alu2I, A4, MinMax, Un, Div, Mov2I, BitExt, BitIns}
use Rattle.block.specs.declared.Fast.TheVariants.{SpAdd, RFromSp, PushRets, PopPc}
use Rattle.block.specs.Block.{up_from}
use Rattle.card.specs.Card.{read}
use Rattle.card.specs.Word.{signed_of, sign_extend, leading_zeros}
use Rattle.card.specs.Memory.{read_le, write_le, load, direct, store}
use Rattle.card.specs.Step.{op_step, push_all, pop_all}
use Rattle.card.specs.Run.{ops_from, run}
use Rattle.card_runs.specs.Case.{Case, runs, reached, expected, block, memory, op, hex, regs, card}
use Rattle.card_runs.specs.Case.{outcome, entry, by_return, by_table, reg, sp, brk, pc, done, ram, map, ◌&◌}

abbrev cases : List Case
cases =
    -- 42-PopPc/n-0/0
    runs (block (memory 0x1000000 0x1c 0x2000000 0x16 true) 0x2000000 (op (Div 4 1 9 RemU) 4 false ∷ op (ShlI 0xa 3 0x20) 0x38 false
    ∷ op (PopPc 0) 0 true ∷ [])) (hex 22 0x787c798e9228ef50ee015fb20143f1693a6dfb83da28) 0x77cd50e9
    (card (regs 0x000080006257b8d526a13307fffffffe000000ffe4fb9dd3705c0c5435e971fe
    0xb2bd43a9c1699f1f0000000cbf2763b02be9b7ed1ae5d407000000070000001f) 0x1000008 0x7b4d5cd3 0 0 0xc02f9aa4 0
    (hex 28 0x3917458ea89621909fa8aec1784221d30afe9bbcba7eede700000000) (hex 7 0x0101000180ff00) [])
    (entry 0 0 ∷ []) by_table (reg 0 0xc1aea89f & reg 1 0xd3214278 & reg 2 0xbc9bfe0a & reg 3 0xe7ed7eba & reg 4 0x6257b8d5
    & reg 10 0xfffffffe & sp 0x100001c & pc 0 & done 3) []
    -- 42-PopPc/n-1/0
    ∷ runs (block (memory 0x3000014 0x1c 0x3000000 0x14 false) 0x3a72172 (op (SpAdd 0x20) 2 false ∷ op (PopPc 1) 4 true ∷ []))
    (hex 20 0x4cd2aefda1483a8520129795e71b0d185b906c98) 0x8667d3f5
    (card (regs 0xea901d32cdd8734c00000fff0000007f7fffffff000000040000ffff995e0b96
    0x000000ffffffffe100000007aec8640efffff00100fff000fffffff5fffff000) 0x2fffff4 0xffff0000 1 0 0xd917344d 0
    (hex 28 0x8d24a859ca7f3b1b16b1548dffffffffdc96e801aeb5e2b065f6067e) []
    (outcome 0x8d 0xffffffff (hex 28 0xda9a77678120043f06ad3dbf728edcf0f142d4df314e855167fd6e4b) []
    ∷ outcome 0x13 0 (hex 28 0xc19bbeaf7a2ffeb1ea5dd3112a4db7b92a94c744a77b004009c7a0e9) [] ∷ []))
    (entry 0x3fff 0xffffffff ∷ []) by_table (reg 1 0x59a8248d & reg 2 0x1b3b7fca & reg 3 0x8d54b116 & sp 0x3000024 & pc 0xffffffff
    & done 2) []
    -- 42-PopPc/n-2/0
    ∷ runs (block (memory 0x10000 0x14 0x10014 0xf true) 0x3c8c38e (op (PopPc 2) 0xff true ∷ [])) (hex 15 0x01910355fddeced584638c6e4d46db)
    0xffffffff
    (card (regs 0x5d67e0850000008000000016546d1b0500000080044bfe4b7fffffff00000007
    0x0000000400000020fffff00000000ffffffff0000000007f00007fffffffffdc) 0x10004 0x25f5cef4 1 0 0x1496b410 0xfffffffe
    (hex 20 0x2bf6f78c1ccd2cf52288173590491259c4aa567f) (hex 5 0x0100808000) [])
    (entry 0x24c8 0x5912c990 ∷ []) by_return (reg 2 0xf52ccd1c & reg 3 0x35178822 & sp 0x10010 & pc 0x59124990 & done 0xffffffff) []
    -- 42-PopPc/n-3/0
    ∷ runs (block (memory 0 0x14 0x2000000 8 true) 0x2000000 (op (PopPc 3) 0 false ∷ [])) (hex 8 0xa91bbbb2467247f0) 0x41be3608
    (card (regs 0x9d795a7b7fffffffffff800000000001d8becc8b00007fff0000002000007fff
    0x7fffffff0000fffffffff0010000000800000008f59892410000001c00fff000) 0 0x21 2 0 0x12fef871 0
    (hex 20 0x86ed3c70ffffffff4be220ff771515867f2a0c02) (hex 5 0xff01000101) [])
    (entry 0x3fff 0xfffffffe ∷ []) by_return (reg 3 0x703ced86 & sp 8 & pc 0xffffffff & done 1) []
    -- 42-PopPc/n-4/0
    ∷ runs (block (memory 0xffffffec 0x11 0x1000 0xa true) 0x3210b00 (op (MinMax 6 4 6 MaxU) 0xff false ∷ op (ShlI 0xd 6 0) 4 true
    ∷ op (Div 0xa 6 7 RemU) 4 true ∷ op (SarI 7 1 0x20) 6 false ∷ op (ShlI 0xf 8 1) 0 true ∷ op (Alu2I 0xd 4 Sub) 0 false
    ∷ op (BitIns 0xf 9 0x20 0x1f) 0xff true ∷ op (MovI 1 0xffffffff) 0xff false ∷ op (SarI 0xe 9 2) 0 false ∷ op (Un 0xe 0xf SatU) 6 true
    ∷ op (MinMax 0xa 0xc 6 MaxU) 2 false ∷ op (MinMax 1 3 0xf MaxU) 4 false ∷ op (PopPc 4) 4 true ∷ [])) (hex 10 0x8e4771c681596d3de9ac)
    0x6e0134be
    (card (regs 0x00000001ffff000000000002ffff0000257b27e500007fff6ff757e90000007f
    0xf99d4f86ef2379c10000007f0000002000000023fffff00000000004fffffffa) 0xfffffff0 0xf7ad4803 2 0 0x1904b501 0
    (hex 17 0x1584297a65099a2d00000000acb02cb575) (hex 5 0x0180ff8000)
    (outcome 0xfd 0xffffffff (hex 17 0x69c1ded8dff3a17ba0cff30ef79737ebab) (hex 5 0xe5a3e5f468)
    ∷ outcome 0xd4 0xffffffff (hex 17 0x14e1fe776e9a92212c9f8484a9f08b0bab) (hex 5 0x7cd39de1bc) ∷ []))
    (entry 0 0x9c3c15b3 ∷ []) by_return (reg 4 0x2d9a0965 & reg 7 0xffff0000 & reg 10 0x6ff757e9 & reg 13 0x6ff757e5 & reg 14 0
    & reg 15 0xef2379c1 & sp 0xfffffff8 & pc 0 & done 0xd) []
    -- 42-PopPc/n-5/0
    ∷ runs (block (memory 0x10000 0x18 0x10018 0xf true) 0x2852a6a (op (PopPc 5) 0 true ∷ [])) (hex 15 0x4d7e97a0dcfb32714da950faed3525)
    0xffffffff
    (card (regs 0x8a0b04e60000001fa6653500a7d564ab0c408bfeffffffff0000000300000003
    0xffffffff2dd282d3d53cc3d8fffffffffffffff90000001d00000fffc1289eac) 0x10000 0xffff 0 0 0x68d170d6 1
    (hex 24 0xcc80a3026fe7bd4d3765557056ee987b3b9dc40e7a5dea18) (hex 6 0x00ff800000ff)
    (outcome 0x56 0xffffffff (hex 24 0x99d95891f0ea58b4a07f5acb4affc4704fc720432ccdf698) (hex 6 0x1b9ec2666293) ∷ []))
    (entry 0x329b 0x7d38ed6c ∷ []) by_return (reg 4 0x2a380cc & reg 5 0x4dbde76f & sp 0x1000c & pc 0x70556537 & done 2) []
    -- 42-PopPc/n-6/0
    ∷ runs (block (memory 0x10000 0x1c 0x1001c 0x10 false) 0x2ee4daf (op (PopPc 6) 2 false ∷ []))
    (hex 16 0xc06adaffd16aceb74dd9c83008c7a524) 0xffffffff
    (card (regs 0x00001000d6f4b1a88b167eaf7fffffff39ab81d500007fffac9e34455c3e33bc
    0xffff80000000000000000ffff89080f8a9241a00ae2b361c7fffffff00000020) 0x10000 0x8000 2 0 0xaa4859a9 5
    (hex 28 0x8880136f2cc5e68f9c5d56512b5f19029f513a11324da9d90f506592) []
    (outcome 0x95 0 (hex 28 0x4d271b7f61e84ba99c9565cafe56b6bb45c6a2b57aab17f6ca6c5c5c) [] ∷ []))
    (entry 0x2f95 0xd5bc3688 ∷ []) by_return (reg 4 0x6f138088 & reg 5 0x8fe6c52c & reg 6 0x51565d9c & sp 0x10010 & pc 0x2195f2b & done 6)
    []
    -- 42-PopPc/n-7/0
    ∷ runs (block (memory 0 0x1c 0x2000000 0x16 true) 0x3e3843b (op (SpAdd 0xd4849172) 2 false ∷ op (PopPc 7) 4 false ∷ []))
    (hex 22 0x3c5dd742994268e4564f68c7a883c69ce54262da0454) 0xffffffff
    (card (regs 0x000000ff00000100000000207fffffff00000001000000027fffffff14b6ff7b
    0x00000080000001006c6a91a0fffffffefffffff28d11363d00000003da9e822b) 0x2b7b6e8e 0x2644da9e 0x463b8298 0 0xdf85da09 0
    (hex 28 0xe3f48f846226a3c4d520c7260514785aff7f00001f005989ee9a13ae) (hex 7 0xff01000000ff80)
    (outcome 0x69 1 (hex 28 0x6cc65e415dd07d0963311d5265da8dde24b2f0f0590d25585fef483d) (hex 7 0x0f4298154bfc57)
    ∷ outcome 0xf0 0 (hex 28 0xac53e231b142c083d884ead3c055ca8b353cd452fb07afceee6d4943) (hex 7 0x374474924fe7f2) ∷ []))
    (entry 0x3fff 0x7fff ∷ []) by_table (reg 4 0x848ff4e3 & reg 5 0xc4a32662 & reg 6 0x26c720d5 & reg 7 0x5a781405 & sp 0x14 & pc 0x7fff
    & done 2) []
    -- 42-PopPc/n-8/0
    ∷ runs (block (memory 0x20000000 0x22 0x8000000 0x18 true) 0x3ffffff (op (A4 6 0xd Shl RkBit 1) 6 true ∷ op (PopPc 8) 6 true ∷ []))
    (hex 24 0x3e34afd4122996c780639614367dcbca2a31183b6993d7ab) 0xffffffff
    (card (regs 0x5eef6475ffff0000000000807fffffff00000004000080000000000400000004
    0xbeda7d15ad67d66e43b84d0d5de41a3f4a7aa1fb0000000cffff800000000000) 0x20000004 0x1000 1 0 0x68babee8 0xfffffffd
    (hex 34 0x519d311735cb19b1ce56af66475f3f5eb04e4af575ce02f175cbf0f1367bc9bf80fb) (hex 9 0x000101008000ff8000)
    (outcome 0x7d 0xffffffff (hex 34 0xc98a1933852e5173fca59e9cc8baf17fd73d88b554d46199eea0cccac61b9322364e) (hex 9 0xef8d88a6fad717245c)
    ∷ outcome 0x21 1 (hex 34 0x0c09b31e3782d110223b365aa612f2eebc324968b6af58b1772a44cc672b10e3f25d) (hex 9 0x83584b5149269169ab) ∷ []))
    (entry 0x25ba 0x945ab012 ∷ []) by_return (reg 4 0xb119cb35 & reg 5 0x66af56ce & reg 6 0x5e3f5f47 & reg 7 0xf54a4eb0 & reg 8 0xf102ce75
    & sp 0x2000001c & pc 0xf1f0cb75 & done 0xffffffff) []
    -- 42-PopPc/n-9/0
    ∷ runs (block (memory 0x10000 0x1c 0x1001c 0x28 true) 0x2ca0c50 (op (MinMax 0xa 0xb 4 MinU) 2 true ∷ op (SpAdd 1) 2 false
    ∷ op (PopPc 9) 2 true ∷ [])) (hex 40 0x61db889f7afc4988fc76b8488874e35aa798666581eb928970da7f3b5ae6a9172f4ab43cd7adb9cf) 0xffffffff
    (card (regs 0x000000036d6aa20d7e331ea800000008ffff0000000000fffffffff3945f53b2
    0x95942d5100007fffffffffff7abc6b157fffffffffff8000ca25c3c980000000) 0xffff 0xfffff000 0 0 0xc124face 0
    (hex 28 0xa35d2f8454a9a4b35f8cd576bb871fac83645fad81531cd7ff7f0000) (hex 7 0x00010000800001) [])
    (entry 0x3fff 0xffff ∷ []) by_return (reg 4 0x842f5da3 & reg 5 0xb3a4a954 & reg 6 0x76d58c5f & reg 7 0xac1f87bb & reg 8 0xad5f6483
    & reg 9 0xd71c5381 & reg 10 0x7abc6b15 & sp 0x1001c & pc 0x7fff & done 3) []
    -- 42-PopPc/n-10/0
    ∷ runs (block (memory 0 0x24 0x2000000 0x23 false) 0x3ffffff (op (A4 0xd 7 Sub RkBit 8) 4 true ∷ op (SpAdd 0x7fff) 2 false
    ∷ op (PopPc 0xa) 2 true ∷ [])) (hex 35 0xc33692e35403229a106ff744ffab18ea1db06b10fb4bfcddb578dbe07e5c92f5b7e42b) 3
    (card (regs 0x8000000000007fff7fdab72300012345fffffffe000080000000100000000003
    0x000000000000ffff2d30e4fbfffffff3ffff8000ffff80000000000429538e3c) 0xffff8005 0x725eca5c 0 0 0x6c3bb907 0
    (hex 36 0x4541368a551680fc189240bc77c06c2e2130bd2d64bd5da98ba3d467da94a1dcff7f0000) []
    (outcome 0xc7 1 (hex 36 0x54457fa35c1463594ea4c7b52865dfb652f814cfbd1b5550866706eb3928da5e42ce7980) [] ∷ []))
    (entry 0x3fff 0x7ffe ∷ []) by_return (reg 4 0xfc801655 & reg 5 0xbc409218 & reg 6 0x2e6cc077 & reg 7 0x2dbd3021 & reg 8 0xa95dbd64
    & reg 9 0x67d4a38b & reg 10 0xdca194da & reg 13 2 & sp 0x24 & pc 0x7fff & done 3) []
    -- 42-PopPc/n-11/0
    ∷ runs (block (memory 0xffffffdc 0x24 0x1000 0x24 true) 0x3b154b5 (op (Div 3 0 1 RemU) 6 false ∷ op Nop 4 false
    ∷ op (AddRI 2 0xe 0xe2813891) 2 false ∷ op (Un 4 2 SatU) 2 false ∷ op (SpAdd 0x28) 2 false ∷ op (PopPc 0xb) 4 true ∷ []))
    (hex 36 0xe05240ceb5173c5db2d832cce9d7cb4f2c8065a62781298487b16272ca017652f2b36118) 0xffffffff
    (card (regs 0x000010000000000400000004000000040000000712dca401d012356400000002
    0xbcfaaa354c7f09db00000003a5d8b22ba0fe62220000007f8d98f4e500fff000) 0xffffffb4 0xb8bcbe1a 1 0 0xfdd8de85 0xfffffff9
    (hex 36 0x8bc5b1efcab56aedc3bd55a710dc463111af2b38f82e1432fe117e51c38b69d600000002) (hex 9 0x800100008000ff0000) (outcome 0xe9
    0xffffffff (hex 36 0xfa873ed2d155d3acd852ac8dfaf495e355d1e45936db3158f6943ae92a72aaf94b1ceb41) (hex 9 0x718766eef9c4a205b7)
    ∷ outcome 0xe3 0 (hex 36 0x9339242ba21b0feab6ab53a17903842b509fec8c27a68d49260e085237c747a8fda41216) (hex 9 0xd7c456ef958974afce)
    ∷ []))
    (entry 0 0x2000001 ∷ []) by_return (reg 2 0x701a2d76 & reg 3 0 & reg 4 0xefb1c58b & reg 5 0xed6ab5ca & reg 6 0xa755bdc3
    & reg 7 0x3146dc10 & reg 8 0x382baf11 & reg 9 0x32142ef8 & reg 10 0x517e11fe & reg 11 0xd6698bc3 & sp 0 & pc 0x2000000
    & done 0xffffffff) []
    -- 42-PopPc/n-12/0
    ∷ runs (block (memory 0x10000 0x32 0x10034 0x28 true) 0x3ffffff (op (MinMax 8 9 8 MaxU) 0x30 false ∷ op (Alu3I 2 0xf 0x8000 And) 4 true
    ∷ op Nop 0 true ∷ op (PopPc 0xc) 0xff false ∷ []))
    (hex 40 0x46db5506b791022921c9b4811b97f4d874b0be6c57b23467a817f0680fe056e4a65a7ed4d11cec38) 4
    (card (regs 0xffffffff0000ffff00000004ed099a62d2125a170000001500fff00000000001
    0xb032ecd18eddb4f100000007ffff80000000007fea50ac1787a12839ffff0000) 0x10004 0xcea8fe0d 0xd1b008ab 0 0x7d775ed 0
    (hex 50 0x440f97d17689c213d2071c66926161e960a7d764cdaa9b84fb198ba99868fe29f89cd247278e2147ff7f0000316f649cf54d)
    (hex 13 0x000000ff8000ff000100800001) (outcome 0x70 0 (hex 50
    0x90fa07dab30174f0ba3a2987000e05d11f375080fb54f2519b09cdc1b7d39914957558ed05fa97f061a36412e49c696397b9) (hex 13
    0x124424699123aa179a4de7c58a) ∷ outcome 0xd8 0 (hex 50
    0x0ec7295f0cc290f23c03736e404868d543ae7ef43e6db474956bd6e5f32bc91318d5929b193e418e773af0c9cb0817df5ed2) (hex 13
    0xb4b7dd51babf3c55f34d665c82) ∷ []))
    (entry 0x3fff 0x7fff ∷ []) by_table (reg 2 0 & reg 4 0x13c28976 & reg 5 0x661c07d2 & reg 6 0xe9616192 & reg 7 0x64d7a760
    & reg 8 0x849baacd & reg 9 0xa98b19fb & reg 10 0x29fe6898 & reg 11 0x47d29cf8 & reg 12 0x47218e27 & sp 0x1002c & pc 0x7fff & done 4)
    []
    -- 42-PopPc/n-13/0
    ∷ runs (block (memory 0x7ffffffc 0x37 0x100 0x30 false) 0x2000000 (op (RFromSp 4 0x1000) 4 true ∷ op (SpAdd 8) 2 false
    ∷ op (PopPc 0xd) 2 false ∷ []))
    (hex 48 0xa5d19450d7f5ca4589ce28320b9a787b13d96ac3fd59d80e48e502751947956eb46dd18bcb444e69bf93600bb646b36e) 0xaa7de6c4
    (card (regs 0x00fff000c2c36301119ac107980c3c98f65b46d0ffffffe500000fffffffffff
    0x00010000ea78c6e90000001e85354a4f3a03e0a2ffff8000c1e2ec1a00000004) 0x7ffffff8 0x4045c9ed 2 0 0xf71405ce 0
    (hex 55 0xbb68f67c41be9f3861eae252b965396808f981193dfcb940289d77db0c1b2123e460cafd83e25150f2e0a7faff7f00000a5ca93ee14a45) [] (outcome
    0xdc 1 (hex 55 0x7372a643f63f5994b3b460341cd602208e26da2d58ef17cf5d7933580b76729a8781383152791d0b65b5b41e6093829a3d34cb5aedc0fb) [] ∷
    outcome 4 0 (hex 55 0x0e13a89361f0076c52536bbe97964875190bd9c7d95ccb4a15c8522934d06c49fc85ea2cd0c358a64f9932fadd9e697c714d0c7bff740b)
    [] ∷ []))
    (entry 0x3fff 0x80007fff ∷ []) by_return (reg 4 0x389fbe41 & reg 5 0x52e2ea61 & reg 6 0x683965b9 & reg 7 0x1981f908 & reg 8 0x40b9fc3d
    & reg 9 0xdb779d28 & reg 10 0x23211b0c & reg 11 0xfdca60e4 & reg 12 0x5051e283 & reg 13 0xfaa7e0f2 & sp 0x8000002c & pc 0x7fff
    & done 3) []
    -- 42-PopPc/n-14/0
    ∷ runs (block (memory 0x10000 0x40 0x10040 0x34 true) 0x326ccec (op (AddRI 4 5 4) 2 false ∷ op (RFromSp 4 0x1acc4f2b) 6 true
    ∷ op (PopPc 0xe) 0xff false ∷ []))
    (hex 52 0xea15c8a917306e7df27336e3aa2b52ffe547e7f8ec00706925691e09ab06bc40fa116932fa183e2da3ec1560b2c18e6bfaceacbc) 3
    (card (regs 0x00000020be043489fffffff1a48fb63473da0224ffffffe50001234500000080
    0x6a7ddf740000800000012345556e45987fffffffd2a5242b52a7c03dffffffe1) 0x10004 0x1f 2 0 0x593ea96c 0 (hex 60
    0xa1d868128d08dd8e6d877b2849b66c56abf80684bb98e508bc7b58d66e31f7d0c981735a2e427198cba8168551e5b66e000000025627675144a25cba ++ hex 4
    0x11098c0a) (hex 16 0x0100ffff80000180ff01ff01ff018001) [])
    (entry 0 0x2000000 ∷ []) by_table (reg 4 0x8edd088d & reg 5 0x287b876d & reg 6 0x566cb649 & reg 7 0x8406f8ab & reg 8 0x8e598bb
    & reg 9 0xd6587bbc & reg 10 0xd0f7316e & reg 11 0x5a7381c9 & reg 12 0x9871422e & reg 13 0x8516a8cb & reg 14 0x6eb6e551 & sp 0x10034
    & pc 0x2000000 & done 3) []
    -- 42-PopPc/n-15/0
    ∷ runs (block (memory 0x1000000 0x3e 0 0x37 false) 0x3ffffff (op (BitIns 9 9 1 1) 0xff true ∷ op (Alu3 0 5 0xf Xor) 2 true
    ∷ op (ShlI 0xc 0xd 0x40) 2 true ∷ op (PopPc 0xf) 0 true ∷ []))
    (hex 55 0x3a84c4f0d4a69c903bebdbf64539bd22520287ca019b6955b9310b9b61e02097c1c627a907ccbea97d1487d25b584713dae4ba00f3b05d) 0xffffffff
    (card (regs 0xccacc583000000803e56bb31fc3e18f600000007ffffffdf00007fffc1f29f81
    0x0000007f00001000bfa1ce78c5988e55ffff8000e79221d90000010000000004) 0x1000004 0xfffffffe 0 0 0xbdcbb741 0xfffffffb (hex 60
    0x9d2ed92a3bd4072c39fc8f5fc3517f76710ba27b25748386824f44a995c91b5f79333b5d22c587c8b74005e986927ed1ca27128da7a13a795ec7af31 ++ hex 2
    0xfe9d) [] (outcome 0xe 1 (hex 60
    0x44990ce63bcc4eb0bfc9ab9c725d649d21712ad4a1a9d1f1d79a1758f807340f463c2c0d7d4a2c9fa8d658ce4a3fef9a5bf09e48655a2c9987b4fce1 ++ hex 2
    0x0b8f) [] ∷ outcome 0xaf 0 (hex 60
    0xaca9c7def989232456d7ccde95942f6b99123c2e1c51c9c890c143716c789de300c97f86904458b246401334676c586695f68c6e7f2c503c5b83835d ++ hex 2
    0x26e1) [] ∷ []))
    (entry 0x10d3 0x793aa1a7 ∷ []) by_table (reg 0 0xffffffdb & reg 4 0x2c07d43b & reg 5 0x5f8ffc39 & reg 6 0x767f51c3 & reg 7 0x7ba20b71
    & reg 8 0x86837425 & reg 9 0xa9444f82 & reg 10 0x5f1bc995 & reg 11 0x5d3b3379 & reg 12 0xc887c522 & reg 13 0xe90540b7
    & reg 14 0xd17e9286 & reg 15 0x8d1227ca & sp 0x1000038 & pc 0x793aa1a7 & done 0xffffffff) []
    -- 42-PopPc/ram-last/0
    ∷ runs (block (memory 0 0xb 0x2000000 0xa true) 0x33e5710 (op (BitIns 7 0xa 0x1c 0x40) 0xff false ∷ op (MovI 9 0xff) 2 false
    ∷ op (PopPc 4) 4 false ∷ [])) (hex 10 0xf6d8ffc40178d9c15ac2) 3
    (card (regs 0x00000007b334ea0600000004f410a841fffff000000000081566917effffffff
    0x0000000400000001879e727200000100ffffffdd000010000000000365cffa70) 3 0x540a34cb 0x1fd7494a 0 0x334bc335 0
    (hex 11 0x9aeea3de84868000000000) (hex 3 0x8001ff) [])
    (entry 0 0 ∷ []) by_table (reg 4 0x808684de & reg 7 0x2fffffff & reg 9 0xff & sp 0xb & pc 0 & done 3) []
    -- 42-PopPc/ram-over-1/0
    ∷ runs (block (memory 0x1000000 8 0x2000000 0x10 true) 0x3ffffff (op (Div 7 6 0xc QuoU) 2 false ∷ op (PopPc 3) 6 false ∷ []))
    (hex 16 0xd78debbcda804b249908371f494032aa) 0xffffffff
    (card (regs 0x0000000800000100fffffffe00000080fffffff800007fff0000ffff00629ff7
    0xfffffffe00012345ad9313890000000400000080ffff8000ffffffe100007fff) 0x1000001 0x7fff 0 0 0x8555ab2 0xfffffffd
    (hex 8 0x7baaf106bb5234f9) (hex 2 0x0001) (outcome 0 0 (hex 8 0x7baaf106bb1334f9) (hex 2 0x0000)
    ∷ outcome 0x4d 1 (hex 8 0x4aba4bab8542a943) (hex 2 0x965d) ∷ outcome 0xd0 0xffffffff (hex 8 0x7a9b94a9ff85d99f) (hex 2 0xb967) ∷ []))
    (entry 0 0x8000 ∷ []) by_return (reg 3 0xbb06f1aa & reg 7 0x1ff & sp 0x1000009 & pc 0 & done 0xffffffff
    & ram (hex 8 0x7baaf106bb1334f9) & map (hex 2 0x0000)) (read 0x1000005 4 0xfffffffe ∷ [])
    -- 42-PopPc/ram-over-4/0
    ∷ runs (block (memory 0x7ffffffc 0x13 0x100 0x10 true) 0x2000000 (op (PopPc 1) 4 false ∷ []))
    (hex 16 0xb81c3419e173232379d5fc21fbb85edc) 0x6cac0e53
    (card (regs 0xfffffff2426ece5b90006b0880999e6d00000004fffffff631245268d1d28043
    0x7fffffff00007fff00000020fffffffe88926311c572bea000000ffffffff000) 0x80000003 0xff 1 0 0xedfdf00c 0
    (hex 19 0x0f253b0bc78f7e229e1ced1f065dca21a5bb7a) (hex 5 0x0100000000)
    (outcome 0x8e5ac4a7 0 (hex 19 0x0f903b0bc78f7e229e1ced1f065dca21a5bb7a) (hex 5 0x0100400000) ∷ []))
    (entry 0x2253 0x8e5ac4a7 ∷ []) by_table (reg 1 0xed1c9e22 & reg 2 0xca5d061f & reg 3 0x7abba521 & sp 0x80000013 & pc 0x8e5ac4a7
    & done 1 & ram (hex 19 0x0f903b0bc78f7e229e1ced1f065dca21a5bb7a) & map (hex 5 0x0100400000)) (read 0x8000000f 4 0 ∷ [])
    -- 42-PopPc/ram-before/0
    ∷ runs (block (memory 0x20000000 0x10 0x8000000 0x14 true) 0x2a09ad9 (op (PopPc 6) 0xff false ∷ []))
    (hex 20 0x34427d72163d559429de3dd8cc2419b269d494d4) 1
    (card (regs 0x0001234573f59067ffff800000000000ffff000000001000ffff00005c1d47b3
    0x00010000ffff800000fff000000000ffac217b7c3fddea250001000000000003) 0x1ffffffc 0xd49a1224 0 0 0xda8000ec 0
    (hex 16 0xa6dcc74ea02ecf648662e5840933eef6) (hex 4 0x0100ff00)
    (outcome 0xf8514444 0 (hex 16 0xa6dcc74ea02ecf648662e5d90933eef6) (hex 4 0x0001ff00)
    ∷ outcome 0xd 0 (hex 16 0x4383da2d32980491a4fad4cf3ffc99fa) (hex 4 0x146d3fc3) ∷ []))
    (entry 0x3143 0xf2d579c1 ∷ []) by_return (reg 4 0xf8514444 & reg 5 0x4ec7dca6 & reg 6 0x64cf2ea0 & sp 0x2000000c & pc 0xd9e56286
    & done 1 & ram (hex 16 0xa6dcc74ea02ecf648662e5d90933eef6) & map (hex 4 0x0001ff00)) (read 0x1ffffffc 4 0 ∷ [])
    -- 42-PopPc/xip-first/0
    ∷ runs (block (memory 0x3000014 0x1c 0x3000000 0x13 false) 0x3780fe1 (op (PopPc 1) 0xff false ∷ []))
    (hex 19 0x66f105a1efaa4a12ef253a2e41674a7bfd6171) 0xffffffff
    (card (regs 0x00012345000010000000ffffef2a3e9f00000000ffffffe700000100befaba07
    0xa94cde4300000000048de56e104b1bb90fbf4093ffff80000000000100000007) 0x3000000 0xffffffe4 0 0 0xb0973ec3 0xfffffffe
    (hex 28 0xfbdb2c36c5b341359b710a46feefa18cf17f09e9766d0255d1cacb80) []
    (outcome 0x3c 0 (hex 28 0x681a95ed6b84c6141e861c3f5fb0fff705b087420a37c6940872bd38) []
    ∷ outcome 0x51 0xffffffff (hex 28 0xd985f92b405b09074afd3fb4344c8d29611a28a2f137c4d719e56cb5) [] ∷ []))
    (entry 0x33a0 0xfb4a6741 ∷ []) by_return (reg 1 0xa105f166 & reg 2 0x124aaaef & reg 3 0x2e3a25ef & sp 0x3000010 & pc 0x7b4a6741
    & done 0xffffffff) []
    -- 42-PopPc/ram-to-xip-odd/0
    ∷ runs (block (memory 0x10000 0x18 0x10018 0x12 true) 0x2000000 (op (PopPc 5) 2 false ∷ []))
    (hex 18 0xb37400ffffffffbe72f34404eea3e24d256f) 0x28129504
    (card (regs 0x00000002000000077fffffff2f79e3c200000004b18569f600010000000000ff
    0xfffff000ffff800000000007fffff0000000000280aa3697c6314aa8c6b6845a) 0x10013 0xffffffff 0 0 0xfd14e0a8 0
    (hex 24 0x0b671b5b077b18f667c3f993b43946bb09d4c4ba58023640) (hex 6 0x800080000000)
    (outcome 0xf0a4332f 0 (hex 24 0x0b671b5b077b18f667c0f993b43946bb09d4c4ba58023640) (hex 6 0x800080000000) ∷ []))
    (entry 0x3fff 0xfffffffe ∷ []) by_return (reg 4 0x360258ba & reg 5 0xf0a4332f & sp 0x1001f & pc 0xffffffff & done 1
    & ram (hex 24 0x0b671b5b077b18f667c0f993b43946bb09d4c4ba58023640)) (read 0x10017 4 0 ∷ [])
    -- 42-PopPc/top-wrap/0
    ∷ runs (block (memory 0 0x18 0xfffffff4 0xc false) 0x21d8804 (op (SpAdd 0x4689325d) 2 false ∷ op (PopPc 2) 4 false ∷ []))
    (hex 12 0x486bb491ee1a4cb466aaafd5) 0x13969247
    (card (regs 0xffffffe567e5a746fffff0009313c26c00fff0002b1b43d000012345f038b6c8
    0x000000805f89029a6012b2dc9d0675110f900e370000000100000020ffff0000) 0xb976cd9f 0x560d666e 0 0 0xe3e7d8a6 0
    (hex 24 0xa2caa07600000000d898b32ba014441ecd1b594b79c06f29) [] [])
    (entry 0 1 ∷ []) by_return (reg 2 0xd5afaa66 & reg 3 0x76a0caa2 & sp 8 & pc 0 & done 2) []
    -- 42-PopPc/hit/0
    ∷ runs (block (memory 0x10000 0x18 0x10018 0x10 true) 0x290c243 (op (MovI 0 0x80000000) 2 true ∷ op (Alu2I 8 0x24 Shl) 2 true
    ∷ op (BitExt 4 9 0 0xff true) 0xff true ∷ op (A4 6 0xa Sub RkBit 0x1c) 6 true ∷ op (PopPc 2) 0xff false ∷ []))
    (hex 16 0x2ed0593509b86060ff2b045595838298) 5
    (card (regs 0x0c9b0e547b692054f55fe8aa0000008005062fa2ffff0000f5d571cc00007fff
    0x783f53cd000000010000000700000011aff7551affff0000fffff0010acee34a) 0x10000 0xe 2 0 0x3db38db 0
    (hex 24 0xe744454f4090c824ff7f0000ed5c5226a9367f867603b02f) (hex 6 0x000101008080)
    (outcome 0x98 1 (hex 24 0x3f5ebabd5ddb6b3efa867c172c7f8d48ffd1c9ef09720008) (hex 6 0xf865ae1fef5c) ∷ []))
    (entry 0x3fff 0x7fff ∷ []) by_table (reg 0 0x80000000 & reg 2 0x4f4544e7 & reg 3 0x24c89040 & reg 4 1 & reg 6 0xfc000007
    & reg 8 0x83f53cd0 & sp 0x1000c & pc 0x7fff & done 5) []
    -- 42-PopPc/bit0/0
    ∷ runs (block (memory 0xfffffff4 0xc 0x1000 0xd false) 0x23fb41c (op (PopPc 5) 0xff true ∷ [])) (hex 13 0x2e40f48327e9f5ebd41be263cd)
    0xffffffff
    (card (regs 0x00000007b3bb3773000000022fa9a5dbfffffff100000002000000030000001f
    0x0000ffff000000ffffffffd9254eb3200000002080000000ffffffff53a4fa21) 0x1000 6 0 0 0xee50d6dd 0 (hex 12 0x580c0aaea7b53e52a350faae) []
    (outcome 0x2d 0 (hex 12 0xfd512f4ff1defdf5d49299f7) [] ∷ []))
    (entry 0xdea 0x63e21bd5 ∷ []) by_return (reg 4 0x83f4402e & reg 5 0xebf5e927 & sp 0x100c & pc 0x63e21bd4 & done 1) []
    -- 42-PopPc/high/0
    ∷ runs (block (memory 0x3000014 0x13 0x3000000 0x12 true) 0x362093c (op (Mov 0 0xc) 0x9b true ∷ op (PopPc 1) 0 false ∷ []))
    (hex 18 0x8a948969365bfc542ccd380d791982b3e9b1) 0xffffffff
    (card (regs 0x44045e1d0000000800008000be2d5376f90c747f000000ff00000020fffffff4
    0xd4e70f2efffff00100008000f1f3f9f309d9ac0d000080005ba1273000010000) 0x3000017 0x5494e26a 0 0 0xa50c73be 0xe5c7a2ad
    (hex 19 0x14731c52770e4cfc2e3569e6a3969600000002) (hex 5 0xff00008001) [])
    (entry 0 0x2008000 ∷ []) by_return (reg 0 0x9d9ac0d & reg 1 0x4c0e7752 & reg 2 0x69352efc & reg 3 0x9696a3e6 & sp 0x3000027
    & pc 0x2000000 & done 0xe5c7a2af) []
    -- 42-PopPc/decoy/0
    ∷ runs (block (memory 0x3000018 0x18 0x3000000 0x18 true) 0x3b35976 (op (Alu3 3 6 5 Or) 6 true ∷ op (Mov 8 0xf) 4 true
    ∷ op (PopPc 1) 0xff false ∷ [])) (hex 24 0xbeb47cf1a6f9a8585741ff84d2b30218d80511222f107dde) 0x1003
    (card (regs 0x00012345992730b0ffffffff00000003fffffffeffff0000d2490cbc2dc1a3bb
    0xfffff00000001000cc20c3dc5611e672be00cda3000000fff21b6ed500000100) 0x3000018 0xffffffff 0 0 0xadeebffc 0x1000
    (hex 24 0x8f64663887ad04c96299a4266e751eaa68e4428458c856f3) (hex 6 0x0000808080ff)
    (outcome 0xb5 1 (hex 24 0x20596348284565ce9696ee31b5a43f308dc1ac0b212296d4) (hex 6 0x63747f10db5f) ∷ []))
    (entry 0x1ab7 0xaa1e756e ∷ entry 0x3ab6 0xaa1e756e ∷ entry 0x3ab7 0xaa1f756e ∷ entry 0x3ab8 0xaa1e756e ∷ []) by_return
    (reg 1 0x3866648f & reg 2 0xc904ad87 & reg 3 0x26a49962 & reg 8 0x100 & sp 0x3000028 & pc 0xaa1e756e & done 0x1003) []
    -- 42-PopPc/answer-hit/0
    ∷ runs (block (memory 0x10000 0xc 0x1000c 8 false) 0x236a880 (op (SarI 5 0xd 0xf2) 4 true ∷ op (BitExt 0xb 5 0x20 0 true) 6 false
    ∷ op (PopPc 3) 2 true ∷ [])) (hex 8 0x97e75607bb31baa2) 3
    (card (regs 0xffffffdaa08fef2814b45a11288a13cefffffffe00000080fffffff500000000
    0x0000008000fff000000123457459100b00000080a536c9e4fffff00000000100) 0x10070 0x10000 2 0 0xf933b557 0
    (hex 12 0x765760933e7662c7d3df91ee) [] (outcome 0x80000000 0 (hex 12 0x765760933e7662c7d3df91ee) []
    ∷ outcome 0 0 (hex 12 0x765760933e7662c7d3df91ee) [] ∷ outcome 0x33 0xffffffff (hex 12 0x232f7b2dcbaad135a308e851) []
    ∷ outcome 0xac 0 (hex 12 0x2190599e0abc56e7146936fe) [] ∷ []))
    (entry 0 0 ∷ []) by_table (reg 3 0x80000000 & reg 5 0xffffe94d & reg 11 0xffffe94d & sp 0x10078 & pc 0 & done 3) (read 0x10070 4 2
    ∷ read 0x10074 4 2 ∷ [])
    -- 42-PopPc/answer-miss/0
    ∷ runs (block (memory 0x20000000 0xd 0x8000000 0xc false) 0x2000000 (op (PopPc 5) 0xff false ∷ [])) (hex 12 0x72e93893b96cfd8e11f5e64f)
    0xffffffff
    (card (regs 0x0000008000000003d43b6acb7fffffff00008000813c8532d16c0c005967e487
    0x000000800000002018c87d360000000e0000000f00fff000e471e537e08c679a) 0x36647274 0 0x498f198a 0 0x6e1ca1cd 0x1000
    (hex 13 0xe0f38414d91892156ce4e4270f) [] (outcome 0x80000000 0 (hex 13 0xe0f38414d918921502e4e4270f) []
    ∷ outcome 0x471d11e4 0 (hex 13 0xe0f38414d918921502e4e4270f) [] ∷ outcome 0x2000000 0 (hex 13 0xe0f38414d918921570e4e4270f) []
    ∷ outcome 0xdc 0 (hex 13 0xfa8311d419cf5ae013017ce2eb) [] ∷ outcome 0xba 1 (hex 13 0x7cd7d1d6de8c505fefb403355a) [] ∷ []))
    (entry 0 0x82000000 ∷ []) by_return (reg 4 0x80000000 & reg 5 0x471d11e4 & sp 0x36647280 & pc 0x2000000 & done 0x1001
    & ram (hex 13 0xe0f38414d918921570e4e4270f)) (read 0x36647274 4 0x1000 ∷ read 0x36647278 4 0x1000 ∷ read 0x3664727c 4 0x1000 ∷ [])
    -- 42-PopPc/break-start-glue-1/0
    ∷ runs (block (memory 0x300000c 0x16 0x3000000 0xc false) 0x3ffffff (op (PopPc 2) 4 true ∷ [])) (hex 12 0x77c0b633b935a30c30629ca0) 1
    (card (regs 0xb5dd81ebffffffff5b349fb900000001fffff001fffff001d5c21f38fa1f948e
    0xac3facbce9fd7afad13843a10000000780000000c5ad9c5d03b60a4000000002) 0x3000010 0xfff 0xf68bb99c 0x100 0xbd5c1d4b 0
    (hex 22 0xa4258e5185b5fb6c3f1b56edff7f00009d0cfe063bee) [] (outcome 0x4a 0 (hex 22 0xa6079c9eb5e9f072a8e2cd05b16539cf16363ea7ad56) []
    ∷ outcome 0xd3 1 (hex 22 0x045c33bf7f3d6040cbdd2e34967b8c918fcfb9477cf2) [] ∷ []))
    (entry 0x3fff 0x7fff ∷ []) by_return (reg 2 0x6cfbb585 & reg 3 0xed561b3f & sp 0x300001c & pc 0x7fff & done 1) []
    -- 42-PopPc/break-first-glue-1/0
    ∷ runs (block (memory 0xfffffff0 0x10 0x1000 0x12 true) 0x323ea0a (op (Alu2I 1 0x20 Sub) 6 false ∷ op (AddRI 6 2 0x7fff) 4 true
    ∷ op (PopPc 1) 6 true ∷ [])) (hex 18 0x7d69ac2ee29ab195d521defa3d68e2261378) 0x4ab8488a
    (card (regs 0x7fffffff4f75beb1e68a9f8affffffff000000ffffff800000007ffffffffff9
    0xea68fe75c38040198000000022569a650000100000000020ffffffdfffff8000) 0xffffffec 0xffffffff 2 0 0x77364d2a 0
    (hex 16 0xcc3131cbbd9d6f0affffffff44724b9b) (hex 4 0x80000001)
    (outcome 0xb01e990e 0x100 (hex 16 0xcc3131cbbd9d6f0affffffff44724b9b) (hex 4 0x80000001)
    ∷ outcome 0xbb 0xffffffff (hex 16 0x002aab3c64bceca8825f536219b0bef6) (hex 4 0x984a4a97) ∷ []))
    (entry 0x3fff 0xffffffff ∷ []) by_return (reg 1 0xb01e990e & reg 2 0xcb3131cc & reg 3 0xa6f9dbd & reg 6 0xe68b1f89 & sp 0xfffffffc
    & brk 0x100 & pc 0xffffffff & done 3) (read 0xffffffec 4 2 ∷ [])
    -- 42-PopPc/break-last-glue-1/0
    ∷ runs (block (memory 0x20000000 0x14 0x8000000 0x13 true) 0x3ffffff (op (SpAdd 0x7f) 2 false ∷ op (PopPc 1) 0 true ∷ []))
    (hex 19 0xedf04164eb1e4f239bbd7f9c60b058a70f03ae) 2
    (card (regs 0x000100007e470fef15e35ad7a1a317e94d12a2727fffffff0000000300000007
    0x000000007fffffff00000007c77fce843e5b249b00000003abdb9c8e00000003) 0x1fffff89 0x12345 0 0 0x3821a8f5 0
    (hex 20 0x20e5b21420b53afb8fd9058f9d8b613564facd05) (hex 5 0x0100808000)
    (outcome 0 1 (hex 20 0x20e5b21420b53afb8fd9058f9d8b613564facd05) (hex 5 0x0100808000)
    ∷ outcome 0x46 0xffffffff (hex 20 0x54f2c732ecb6d6aedbcbf51e1c0d87cded9d43f1) (hex 5 0xa4c3e73ff5)
    ∷ outcome 0x6f 0 (hex 20 0x94994294e27eb03f17434ac20f47de4a4f01dcc9) (hex 5 0xcf724bd3f8) ∷ []))
    (entry 0 0 ∷ []) by_return (reg 1 0x8f05d98f & reg 2 0x35618b9d & reg 3 0x5cdfa64 & sp 0x20000018 & brk 1 & pc 0 & done 2)
    (read 0x20000014 4 1 ∷ [])
    -- 42-PopPc/break-late-glue-0/0
    ∷ runs (block (memory 0xfffffff4 0xc 0x1000 0xd true) 0x30866ed (op (SpAdd 0x1000) 2 false ∷ op (PopPc 2) 0xff false ∷ []))
    (hex 13 0xec692c2163ea7d1422585f3c3a) 0xffffffff
    (card (regs 0x000010008c9bf23259ad23114291cb2ad12af4b2f8540043a3dd2b8bdbf7c158
    0x00000008000000013ae6eedeab2ab3ab0000800000000003fffff001f66250ec) 0x557b060 0 1 0 0x24e0514f 0 (hex 12 0xea0340c6cb87dc9f9708f04d)
    (hex 3 0x010080) (outcome 0x7fffffff 0 (hex 12 0xea0340c6cb87dce49708f04d) (hex 3 0x000080)
    ∷ outcome 0x80000000 0 (hex 12 0x68cd40c6cb87dce49708f04d) (hex 3 0x010001)
    ∷ outcome 0xd3673246 0x100 (hex 12 0x68cd40c6cb87dce49708f04d) (hex 3 0x010001) ∷ []))
    (entry 0x1923 0xd3673246 ∷ []) by_return (reg 2 0x7fffffff & reg 3 0x80000000 & sp 0x557c06c & brk 0x100 & pc 0xd3673246 & done 2
    & ram (hex 12 0x68cd40c6cb87dce49708f04d) & map (hex 3 0x010001)) (read 0x557c060 4 1 ∷ read 0x557c064 4 1 ∷ read 0x557c068 4 1 ∷ [])
    -- 42-PopPc/break-set-cleared-glue-1/0
    ∷ runs (block (memory 0xfffffff4 0xb 0x1000 8 true) 0x2750bc6 (op (BitExt 9 0 0xff 0x3f true) 0x53 true
    ∷ op (Alu2I 1 0x7fffffff AndNot) 0xbc false ∷ op (PopPc 3) 4 true ∷ [])) (hex 8 0xa5a4c2d610d7878e) 0x3e155666
    (card (regs 0x6799a03f00000004249b2c4ffffff001e1ae363200fff0008061114cfffffffe
    0x000000030000000093bf5e5a000000ffcf40da2784351e27000000fff7247e64) 0x60 0x7fff 0 0 0x9cbc70f7 0 (hex 11 0xf29d07a3d34f6b22fc31ef)
    (hex 3 0x000000) (outcome 1 0x100 (hex 11 0xf29d07a3d34f6b22fc31ef) (hex 3 0x000000)
    ∷ outcome 0xbcacb413 0 (hex 11 0xf29d07a3d34f6b22fc31ef) (hex 3 0x000000)
    ∷ outcome 0xce 1 (hex 11 0xf42eb8ae10639429e31839) (hex 3 0xe9c28d)
    ∷ outcome 0x48 1 (hex 11 0xc7450c195265cba5297466) (hex 3 0xd4bc17) ∷ []))
    (entry 0x1a09 0xbcacb413 ∷ []) by_table (reg 1 0 & reg 3 1 & sp 0x68 & pc 0xbcacb413 & done 3) (read 0x60 4 2 ∷ read 0x64 4 2 ∷ [])
    -- 42-PopPc/break-none-glue-1/0
    ∷ runs (block (memory 0x10000 0x17 0x10018 0x20 true) 0x3ffffff (op (PopPc 0) 6 true ∷ []))
    (hex 32 0x5a21ad7500516aa3f1aa68b31901c9e05f08c7c0196c0a8d28518d5dbebb6db1) 0xb8caf9ba
    (card (regs 0xde4cc4150000000c00000027000000010000000de32ebd8200001000ffffffff
    0xee0128fcbaceda1ffffff0011a0e9228000010007fffffff0000007ffffffffe) 0x10078 0xebf0c05 0 0 0xf67da3c4 1
    (hex 23 0x1657f2a0230bc1681ab675b68ea885f8fc27cca4cfc29e) (hex 6 0x010180000001)
    (outcome 1 0 (hex 23 0x1657f2a0230bc1681ab675b68ea885f8fc27cca4cfc29e) (hex 6 0x010180000001)
    ∷ outcome 1 0 (hex 23 0x1657f2a0230bfc681ab675b68ea885f8fc27cc31cfc29e) (hex 6 0x010100000001)
    ∷ outcome 0 0 (hex 23 0x1657f2a0230bfc681ab675b68ea885f8fc27cc31cfc29e) (hex 6 0x010100000001)
    ∷ outcome 0x49e2b0b6 0 (hex 23 0x1657f2a0230bfc681ab675b68ea885f8fc27cc31cfc29e) (hex 6 0x010100000001)
    ∷ outcome 0x7fff 0 (hex 23 0x1657f2a0180bfc681ab675b68ea885f8fc27cc31cf0d9e) (hex 6 0x004000000001)
    ∷ outcome 0x5e 1 (hex 23 0xb9e4dc613858890ffb1cc77855481b1fdf3f00276a7bc9) (hex 6 0x584ec5fee22d)
    ∷ outcome 0x96 0 (hex 23 0x03852a0f393267955eeca0fcbb5ab435a26985290ee2d3) (hex 6 0x75985606c31f) ∷ []))
    (entry 0x3fff 0x7fff ∷ []) by_table (reg 0 1 & reg 1 1 & reg 2 0 & reg 3 0x49e2b0b6 & sp 0x1008c & pc 0x7fff & done 2
    & ram (hex 23 0x1657f2a0180bfc681ab675b68ea885f8fc27cc31cf0d9e) & map (hex 6 0x004000000001)) (read 0x10078 4 1 ∷ read 0x1007c 4 1
    ∷ read 0x10080 4 1 ∷ read 0x10084 4 1 ∷ read 0x10088 4 1 ∷ [])
    -- 42-PopPc/ram-by-outcome/0
    ∷ runs (block (memory 0x7ffffffc 0xe 0x100 0xc true) 0x2000000 (op (SarI 3 3 0x1d) 2 false ∷ op (PopPc 5) 4 false ∷ []))
    (hex 12 0x7f671708cc8038d5569be2e0) 2
    (card (regs 0xfffff0002dcb2e6d00fff000286c3c8a0000002300000fff8148c5cffffffffe
    0x8140f3c60000010000000007d39380870000ffff5cf62f03369025e600fff000) 0x7ffffff8 0xa2106229 0 0 0xd37ab59c 0
    (hex 14 0x1ea4586bffffffff31a1e3f01c17) (hex 4 0xff01ff01) (outcome 1 0 (hex 14 0xa2c2562717b4d0a131a10e441c17) (hex 4 0xff01ff01)
    ∷ outcome 0x81 1 (hex 14 0x576e64b06d8b2300f6567a7c3843) (hex 4 0xef61b367) ∷ []))
    (entry 0x1a0b 0xa1d0b416 ∷ []) by_return (reg 3 1 & reg 4 1 & reg 5 0x2756c2a2 & sp 0x80000004 & pc 0xa1d0b417 & done 2
    & ram (hex 14 0xa2c2562717b4d0a131a10e441c17)) (read 0x7ffffff8 4 1 ∷ [])
    -- 42-PopPc/behind-PushRets/0
    ∷ runs (block (memory 0x3000040 0x14 0x3000000 0x40 false) 0x2012144 (op (PushRets 2) 2 false ∷ op Nop 4 false
    ∷ op (Div 1 9 0xe RemU) 4 false ∷ op (Mov2I 0xa 0 3) 4 true ∷ op (SarI 0xb 9 1) 0 false ∷ op (PopPc 3) 2 true ∷ [])) (hex 60
    0x00cbf4b8958f0d867b11ef582061fa4a2532781b6a1cd77a47519bde0a6cfb178ea2baa6991be564c7cf26571f5d7d01a64bf7dfb388466ee150b159 ++ hex 4
    0x6295f464) 0x83130f33
    (card (regs 0x0000001f000000100000000105f060b10a01ea590000000701e896c0a39ff8fe
    0x000010000000000415f073eedfbebc8f56fb13df000000ff000000ff00000009) 0x300004c 0xffffffff 0 0 0xa3ce8194 0x83130f2d
    (hex 20 0x77d00accd0a1739c99e0906617b6e1125a77b295) [] [])
    (entry 0x3058 0x5f060b1 ∷ []) by_table (reg 0 3 & reg 1 4 & reg 3 1 & reg 10 0 & reg 11 2 & sp 0x3000048 & pc 0x5f060b1
    & done 0x83130f33 & ram (hex 20 0x01000000b160f005ffffffff17b6e1125a77b295)) []
    ∷ []

pub all_reach : reached cases ≡ expected cases
unfolding run ops_from op_step load direct store read_le write_le signed_of sign_extend leading_zeros push_all pop_all up_from
all_reach = refl
