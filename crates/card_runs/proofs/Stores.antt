-- Kinds 22, 24, 26, 27 and 28: the code map, odd halfwords, Rmw's one break check: each run reaches its end.
use mathlib.Core.Bool.{true, false}
use mathlib.Core.List.{List, [], ◌∷◌}
use mathlib.Core.Path.{◌≡◌, refl}
use Rattle.block.specs.declared.Op.TheVariants.{Add, Sub, RSub, And, AndNot, Or, Mul, Shl}
use Rattle.block.specs.declared.Op.TheVariants.{Shr}
use Rattle.block.specs.declared.RmwOp.TheVariants.{Or as RmwOr, And as RmwAnd, Xor as RmwXor, Add as RmwAdd, Sub as RmwSub, Mov as RmwMov}
use Rattle.block.specs.declared.Cond.TheVariants.{Eq, LtS, GeS}
use Rattle.block.specs.declared.Base.TheVariants.{Reg, Sp}
use Rattle.block.specs.declared.Width.TheVariants.{Byte as B8, Half as B16, Word as B32}
use Rattle.block.specs.declared.Rk.TheVariants.{Bit as RkBit}
use Rattle.block.specs.declared.Part.TheVariants.{Half as PartHalf, Upper as PartUpper}
use Rattle.block.specs.declared.Choice.TheVariants.{MinS, MaxU}
use Rattle.block.specs.declared.DivKind.TheVariants.{RemU}
use Rattle.block.specs.declared.Fast.TheVariants.{Nop, MovI, Mov, AddRI, ShlI, SarI, Alu3, Alu3I}
use Rattle.block.specs.declared.Fast.TheVariants.{Alu2, Alu2I, A4, Ext, MinMax, Div, Mov2, Mov2I}
use Rattle.block.specs.declared.Fast.TheVariants.{BitExt, SpAdd, St, StIdx, StPost, Rmw, PushRet, BrR}
use Rattle.block.specs.declared.Fast.TheVariants.{DecBr, BitBr, Goto, Rts, GotoR}
use Rattle.card.specs.Card.{read, write}
use Rattle.card.specs.Word.{signed_of, sign_extend, leading_zeros}
use Rattle.card.specs.Memory.{read_le, write_le, load, direct, store}
use Rattle.card.specs.Step.{op_step}
use Rattle.card.specs.Run.{ops_from, run}
use Rattle.card_runs.specs.Case.{Case, runs, reached, expected, block, memory, op, hex, regs, card}
use Rattle.card_runs.specs.Case.{outcome, entry, by_return, by_table, by_chain, reg, sp, hold, brk, pc, done, ram, map, ◌&◌}

abbrev cases : List Case
cases =
    -- 22-St/ram-last/0
    runs (block (memory 0x7ffffffc 0xc 0x100 7 false) 0x3ffffff (op (St 5 Sp 0x5fbd394d B32) 2 false ∷ op (Alu2 0xc 0xa Shl) 0 true
    ∷ op (Mov 0xc 6) 2 true ∷ [])) (hex 7 0x2af5efaf87f02d) 3
    (card (regs 0x000000ff00008000000080000000001bffff800060b3cf745518f4ad9ca4993f
    0x553496d0000123450000007fffffffeaf00cb50cfffffff80001234500008000) 0x2042c6b7 0x11 0 0 0x9b17609d 0
    (hex 12 0xe4c65e97cb8d77f5482f5284) [] (outcome 0x69 0xffffffff (hex 12 0xd3d898d910f1088a660c8d3c) []
    ∷ outcome 0x56 0xffffffff (hex 12 0xa8f63247f88d03f39115b2d6) [] ∷ []))
    (entry 1 0x4000003 ∷ []) (by_chain 0) (reg 12 0x5518f4ad & pc 0x4000003 & done 3 & ram (hex 12 0xe4c65e97cb8d77f574cfb360)) []
    -- 22-St/ram-over/0
    ∷ runs (block (memory 0x1000000 0x10 0 9 false) 0x3ffffff (op (MinMax 0xf 7 6 MinS) 0xe6 false ∷ op (MovI 3 0x9b59eebc) 4 false
    ∷ op (St 3 Sp 4 B32) 2 true ∷ [])) (hex 9 0x2dd34614c8a36f034b) 0xffffffff
    (card (regs 0x6e6aaaa000001000fffff00100000fff00fff00000008000e57bef4b00000023
    0x00fff000fffffffe68482fb7000000ff0000001f0000100000000fffd948ddb2) 0x1000009 0x1db2eeaf 1 0 0x9ef8ff45 0xfff
    (hex 16 0x984f155c805537d4d32f9b01f93056ad) [] (outcome 0x7fffffff 0 (hex 16 0x894f155c805537d4d32f9b01f9305605) []
    ∷ outcome 0x39 1 (hex 16 0x5fe7574a0361503af0992fc8339ef82c) []
    ∷ outcome 0x1b 0xffffffff (hex 16 0x2e2b83a598088bb339cd180373354045) [] ∷ []))
    [] (by_chain 0) (reg 3 0x9b59eebc & reg 15 0xe57bef4b & pc 0x40000eb & done 0x1002 & ram (hex 16 0x894f155c805537d4d32f9b01f9305605))
    (write 0x100000d 4 0x1001 0x9b59eebc ∷ [])
    -- 22-St/ram-odd/0
    ∷ runs (block (memory 0x1000000 9 0x2000000 7 true) 0x3ffffff (op (Div 6 0xd 7 RemU) 2 true ∷ op (St 7 Sp 0xfffffffb B16) 0xff false
    ∷ op (BrR 3 0xe Eq 0x3ffffff) 6 false ∷ [])) (hex 7 0x0e447a2d2b8bd3) 3
    (card (regs 0x000000ffce06802f00fff000000000045d1eacc700008000000001006c814148
    0x000000010000008000000000398c142cffff8000229a6afbf339dd894525ea9a) 0x100000c 0xab2a6e31 2 0 0x4c2e9aab 0 (hex 9 0xa10772980e7f94f59e)
    (hex 3 0x800080) (outcome 0x7fff 0 (hex 9 0xa10772980e7f94f59e) (hex 3 0x800080)
    ∷ outcome 0x49 1 (hex 9 0xc90f6b45c44feb6252) (hex 3 0xebc944) ∷ []))
    (entry 0x83 0x4000106 ∷ []) (by_chain 0) (reg 6 0x229a6afb & pc 0x4000106 & done 3) (write 0x1000007 2 1 0x6c814148 ∷ [])
    -- 22-St/xip-first/0
    ∷ runs (block (memory 0x1000000 7 0 8 true) 0x2000000 (op (BitExt 0xc 9 0x2f 0x20 false) 2 true ∷ op (SpAdd 0xa56fbe69) 2 true
    ∷ op (St 9 (Reg 0) 4 B8) 0 false ∷ op (Alu3I 0xa 1 0xffffffe3 Or) 0xff true ∷ op (Alu2I 4 0xfffffff9 Shr) 6 false
    ∷ op (DecBr 5 GeS 0x21 0x2000000) 2 false ∷ [])) (hex 8 0x8fb1de9be1756f30) 0xffffffff
    (card (regs 0xfffffffcfffff001ef4035d3afdeed2dd6dbd531ffffffe1e80f27600000001b
    0xfffffff24575239000000008000000078e54e1799813277800000013ffffffff) 0xfffffffb 0x15f1647b 0 0 0x8bbf095d 5 (hex 7 0x7c0effae747a21)
    (hex 2 0x8080) (outcome 0x7f 0 (hex 7 0x7c0effa4747a4e) (hex 2 0x0080) ∷ outcome 0x2d 1 (hex 7 0x7e53212549b6b6) (hex 2 0x4ddd) ∷ []))
    [] (by_chain 0) (reg 4 0x6b & reg 5 0xffffffe0 & reg 10 0xffffffe3 & reg 12 0x8aea & sp 0xa56fbe64 & pc 0x200010b & done 0xb
    & ram (hex 7 0x7c0effa4747a4e) & map (hex 2 0x0080)) (write 0 1 7 0x45752390 ∷ [])
    -- 22-St/map-clear/0
    ∷ runs (block (memory 0x1000000 0xc 0 7 true) 0x382b730 (op (St 8 (Reg 8) 0xa18284ba B16) 0 false ∷ op (Goto 4) 4 false ∷ []))
    (hex 7 0x8de1f52fc722de) 7
    (card (regs 0x00000019000000001b5ffad5835641f88deceafa000001000000000000000080
    0x5f7d7b4c79517dfe0000000780000000adba895300000007ed9c695b0000007f) 0xffff 0x52a00299 0 0 0x8e855beb 5
    (hex 12 0x2c9a61c5a68e8b529256c9cf) (hex 3 0x000000) [])
    [] (by_chain 0) (pc 4 & done 7 & ram (hex 12 0x2c9a61c5a68e4c7b9256c9cf)) []
    -- 22-St/map-set/0
    ∷ runs (block (memory 0x7ffffffc 0xe 0x100 4 true) 0x3ffffff (op (Alu3I 2 0xc 0xfd11c889 RSub) 0xff false ∷ op (SpAdd 0xfff000) 2 false
    ∷ op (St 0xc Sp 0xfff000 B16) 4 true ∷ op (Alu3I 5 5 0x24d73a91 Mul) 2 true ∷ [])) (hex 4 0x8194c5e3) 0xd7cfe438
    (card (regs 0xec72164b5e04e66be0c1dbd018232fd1000000080000007f000000084b321a04
    0x0000001d0000001cf8ac04b291f41beadd757d37ffffffedffffffffc5c4b225) 0x7e001ffc 7 2 0 0x6e1c6630 0x1000
    (hex 14 0xfa57c7522e31001509ca9d615d73) (hex 4 0x80010000)
    (outcome 0xffff 0 (hex 14 0xfa57c7525231001509ca9d615d73) (hex 4 0x80010000)
    ∷ outcome 0xf8 0 (hex 14 0xd00deca8a6e81216b22d5ce1a46c) (hex 4 0xf197ebfd) ∷ []))
    [] (by_chain 0) (reg 2 0x1f9c4b52 & reg 5 0x46c60def & sp 0x7f000ffc & pc 0x4000106 & done 0x1004
    & ram (hex 14 0xfa57c7525231001509ca9d615d73)) (write 0x7ffffffc 2 0x1002 0xdd757d37 ∷ [])
    -- 22-St/map-own-set/0
    ∷ runs (block (memory 0x7ffffffc 0xc 0x100 9 true) 0x2000000 (op (Mov2I 4 0xc 0x8000) 4 false ∷ op (AddRI 7 0xe 0xfffffffe) 4 true
    ∷ op (St 0xd (Reg 6) 4 B32) 6 true ∷ op Nop 0 true ∷ [])) (hex 9 0xe3da5b9668cf4990a2) 0xffffffff
    (card (regs 0xc186df8648e656cd409b2f863eb5aae7fffffffe000100007ffffffb00010000
    0x000000ff00000003000001000000000300007fff53beb81000000015e09144e2) 0x20 0xdc2880e3 1 0 0x5388877b 0
    (hex 12 0xb8b523d8f9a0d11d6ebca225) (hex 3 0x010000) (outcome 1 0 (hex 12 0xb8b5c5d8bea0d11d6ebca225) (hex 3 0x000000)
    ∷ outcome 0x65 0xffffffff (hex 12 0x26b195930b22b000226a7b31) (hex 3 0xa89e1a)
    ∷ outcome 0x29 1 (hex 12 0xbf1a20050fa43a289c8d4fc4) (hex 3 0xbb3027) ∷ []))
    [] (by_chain 0) (reg 4 0 & reg 7 0x13 & reg 12 0x8000 & pc 0x200000e & done 4 & ram (hex 12 0xb8b5c5d8bea0d11d6ebca225)
    & map (hex 3 0x000000)) (write 0x7fffffff 4 2 0x53beb810 ∷ [])
    -- 22-St/map-next-set/0
    ∷ runs (block (memory 0 0xc 0x2000000 0x38 true) 0x2ed4352 (op (St 0xf Sp 0xffff0000 B32) 4 false ∷ []))
    (hex 56 0x26797a6194950dc3b656b26330dd2e0a3ca70ca4a750354d55a7b233f40ebe1122500093b0bc6459031ef3e8ff56b89849e2885a34486380) 0x8a72ed65
    (card (regs 0x0000000f9b7ebfbaffffffe00000008000000fff92f0e5bd0000001c00008000
    0x3f5ef16180000000fffffff500010000d351bd7cc72d31dd00fff000259072f3) 0x10006 4 1 0 0xaa53ba75 0 (hex 12 0xc3a9d38ee804bcab9b433b1f)
    (hex 3 0x010001) (outcome 0 0 (hex 12 0xc3a9d38ee804bcab9b433b1f) (hex 3 0x010001)
    ∷ outcome 0x7c 1 (hex 12 0x7d837f88db35c1d34eadfbeb) (hex 3 0x654563)
    ∷ outcome 0x7e 0 (hex 12 0x061f037e31481e9fa945cc35) (hex 3 0x82f9e6) ∷ []))
    [] (by_chain 0) (pc 0x2ed4356 & done 1) (write 6 4 0 0x259072f3 ∷ [])
    -- 22-St/break-start-glue-1/0
    ∷ runs (block (memory 0xfffffff4 0xc 0x1000 5 true) 0x3ffffff (op (St 4 (Reg 11) 0xfffffff3 B8) 2 true
    ∷ op (Alu3 2 2 0xc AndNot) 2 false ∷ op (SarI 0xe 0xe 0) 4 false ∷ op Nop 4 true ∷ [])) (hex 5 0xda8c0c0614) 0xffffffff
    (card (regs 0xffffffffc0ef16fb0a2f3a6dfffff0003d541148633bc02f7b2a1190253c852f
    0xe5eb53b700000fff2fb270af00000009fffff00100000008fffff0006fc043f5) 0x59bda069 0x19d03385 0x46e81b28 1 0x13455be5 0x1000
    (hex 12 0x62468f76444939a2d825a6c2) (hex 3 0x018000) (outcome 0xfe 1 (hex 12 0x5305fec32d48c566a1225772) (hex 3 0x49e78f)
    ∷ outcome 0x2c 0 (hex 12 0xf3b0e9dc5338795199ccb02f) (hex 3 0x55e547) ∷ []))
    (entry 0 0x4000001 ∷ []) by_return (hold 1 & pc 0x4000001 & done 0x1001 & ram (hex 12 0x62468f76444939a24825a6c2)) []
    -- 22-St/break-outcome-glue-1/0
    ∷ runs (block (memory 0x7ffffffc 0x10 0x100 4 false) 0x37936f3 (op (MovI 0xd 0xfff) 4 false ∷ op (Alu3 7 9 0xf And) 4 false
    ∷ op (St 3 Sp 0 B16) 6 true ∷ op (Alu3I 0xd 8 4 Add) 4 false ∷ op (SpAdd 0x2c875018) 0xff true ∷ op (GotoR 0xb) 2 false ∷ []))
    (hex 4 0xc2d04e25) 0xec1d5160
    (card (regs 0xffffffff00007fff3a1c00a0bf0738c0fffff001f08f0bd0fffffffe0000007f
    0xfffff00000000007a9290801000000070000100060c5ebeb000000020000001e) 0x80 5 2 0 0x208f60bf 0
    (hex 16 0xd899bc4bd63bdfb05690349779b638c2) [] (outcome 1 0xffffffff (hex 16 0x1a992c4bd63bdfb05690349779b638c2) []
    ∷ outcome 0xcb 0xffffffff (hex 16 0x08db1bde49ae0c4ca84221a77f9b1713) []
    ∷ outcome 0xcc 0xffffffff (hex 16 0x6fb853ef972c7b385c329a57b32d2b35) [] ∷ []))
    (entry 0x1b80 0x3793701 ∷ []) by_return (reg 7 6 & reg 13 0xfff & hold 1 & brk 0xffffffff & pc 0x3793701 & done 3
    & ram (hex 16 0x1a992c4bd63bdfb05690349779b638c2)) (write 0x80 2 2 0xbf0738c0 ∷ [])
    -- 24-StIdx/ram-last/0
    ∷ runs (block (memory 0x20000000 4 0x8000000 0x10 false) 0x2c172e0 (op (SarI 0xc 0xc 0x21) 0x50 true ∷ op (Alu3 2 1 5 Sub) 0 false
    ∷ op (MovI 0xe 0x1998b7c) 2 false ∷ op (StIdx 6 0xe 0xa 0x21 B16) 4 true ∷ [])) (hex 16 0x653bf9b4add824842cc22610a566fd1b) 0xffffffff
    (card (regs 0x000000043e3f006e0000000800007fff000000fffffff0012a75e9b77fffffff
    0xf4b90ccf94ddbf198f333a43330d6a7823a957af00008000b6bc15d02c39929d) 0x10 0xfffffffe 0x9550efc2 0 0x25d5c97a 0x1000 (hex 4 0xe26a7725)
    [] (outcome 0x1c 0xffffffff (hex 4 0x95f8ffc4) [] ∷ outcome 0x21 1 (hex 4 0x963a2bb5) [] ∷ []))
    (entry 0x399b 0x2c17336 ∷ []) (by_chain 0) (reg 2 0x3e3f106d & reg 12 0x11d4abd7 & reg 14 0x1998b7c & pc 0x2c17336 & done 0x1004
    & ram (hex 4 0xe26ab7e9)) []
    -- 24-StIdx/map-last/0
    ∷ runs (block (memory 0xfffffff0 0xe 0x1000 0x24 true) 0x3e0a68e (op (StIdx 7 0xb 0xe 0x21 B32) 2 true
    ∷ op (BitExt 0xf 9 0x3f 0x40 true) 6 true ∷ op (Ext 4 8 PartUpper false) 0 false ∷ []))
    (hex 36 0x2786c9fb466ad3680f3e57dae20ed4b4e0319445fae2ec9795a5b1b0f417a8ba5b5a25cf) 3
    (card (regs 0x0000000cc3647f9700000003000000040000008000007ffffffff001056fe11d
    0xffffffde0000000200000020fffffff80000001f000000230000000100000007) 0x74d3fc5b 0x12 0 0 0xfe97c768 0
    (hex 14 0xb361aae2c2ce9ee5fea61a2b7b99) (hex 4 0x00000000) (outcome 0 0 (hex 14 0xb361aae2c2ce9ecafea61a2b7b99) (hex 4 0x00000000)
    ∷ outcome 8 1 (hex 14 0x8a2a8e1850db19af9a219b2b823d) (hex 4 0xb615ca97)
    ∷ outcome 0x36 1 (hex 14 0x479dfd5d19a22c5ae1c9c2fb8a86) (hex 4 0x7ab3d684) ∷ []))
    [] (by_chain 0) (reg 4 0xffff & reg 15 0 & pc 0x3e0a696 & done 3 & ram (hex 14 0xb361aae2c2ce9ecafea61a2b7b99))
    (write 0xfffffffa 4 0 0x56fe11d ∷ [])
    -- 26-StPost/ram-over/0
    ∷ runs (block (memory 0x1000 6 0xfffffff0 0x10 false) 0x371e3c9 (op (StPost 7 9 B16 2) 4 false
    ∷ op (BitBr 0xf RkBit false 0 0x371e3c9) 0xff false ∷ [])) (hex 16 0x45316bf49b57fdae4d8ff0e6f8dc17c8) 0x7e3b3aad
    (card (regs 0x0000007fd7a5d246000000809d9d7d8ba4ddf45e0000001f000000043d91f4d7
    0x816281b80000100600000001a24a2a410000007f0000000854496aa0fffffffe) 0 0x5f59ac36 2 0 0x22f597dd 0x7e3b3aab (hex 6 0x0cea44599517) []
    (outcome 0x67fb 0 (hex 6 0x0cea44599517) [] ∷ outcome 0x96 0xffffffff (hex 6 0xa020c6a8bdcb) []
    ∷ outcome 0x85 0 (hex 6 0x5ead7e7b3a72) [] ∷ []))
    [] (by_chain 0) (reg 9 0x1008 & pc 0x371e4cc & done 0x7e3b3aad) (write 0x1006 2 0x7e3b3aab 0x3d91f4d7 ∷ [])
    -- 26-StPost/s=b-ram-mid/0
    ∷ runs (block (memory 0x1000000 0xc 0 0xc true) 0x2e99f4a (op (StPost 7 7 B32 0) 4 false ∷ op (BitExt 0xd 1 8 0 false) 4 false ∷ []))
    (hex 12 0xb84745e9ac804ef6b5286400) 0xffffffff
    (card (regs 0x80000000f59fe3c2ffffffff03d3232affff8000ffff8000deba808f01000004
    0xfffffffe000000037fffffff80000000000000070000010079a2b00dd6633430) 0xd2103f9b 0x3997e960 0 0 0x416f9d85 0xfffffffd
    (hex 12 0xa11bd0bff950bb266b23742c) (hex 3 0x800000) [])
    (entry 0xfa9 0x2e99f52 ∷ []) (by_chain 0) (reg 13 0xf59fe3 & pc 0x2e99f52 & done 0xffffffff & ram (hex 12 0xa11bd0bf040000016b23742c))
    []
    -- 26-StPost/s=b-outside/0
    ∷ runs (block (memory 0x3000008 0x15 0x3000000 5 false) 0x2000000 (op (StPost 3 3 B8 0x7f7e1f7c) 0xff true ∷ op (MovI 0xd 0x80) 2 false
    ∷ op (MinMax 7 0xd 0 MaxU) 2 false ∷ [])) (hex 5 0x23f78b8e8c) 0xabd03b36
    (card (regs 0x000000000000000260c535f003000080fffffffe00000007cace44514fc08436
    0x00010000fffffffe0001000000000003000000ff3feb5536000080008cc47a1a) 0xffff8000 1 2 0 0xd1f68e09 0xabd03b33
    (hex 21 0x602ef333e2fa8343d15984f8c7befbb26a0676dcfc) [] (outcome 0x46 0 (hex 21 0x6039f333e2fa8343d15984f8c7befbb26a06764afc) []
    ∷ outcome 4 0 (hex 21 0x05978d1079cf038616e8a894a0d12068c799bb8667) []
    ∷ outcome 0xcc 0xffffffff (hex 21 0x93ece8084d798f4cfb8a63c33abfbfd4f37a0c6187) [] ∷ []))
    [] (by_chain 0) (reg 3 0x827e1ffc & reg 7 0x80 & reg 13 0x80 & pc 0x2000103 & done 0xabd03b36
    & ram (hex 21 0x6039f333e2fa8343d15984f8c7befbb26a06764afc)) (write 0x3000080 1 0xabd03b33 0x3000080 ∷ [])
    -- 26-StPost/break-outcome-glue-1/0
    ∷ runs (block (memory 0 8 0x2000000 9 false) 0x2000000 (op (SpAdd 0x404b6dd8) 0xf1 true ∷ op (StPost 0xe 4 B16 1) 4 true
    ∷ op (Mov2 0xc 9 7 6) 5 true ∷ op (Mov2I 0xb 9 0x7f) 4 false ∷ [])) (hex 9 0xd4ae939e386b372f4c) 0xb9adb070
    (card (regs 0xc41668e0d93a3a0300000003800000004000007e50bbc573b206ea52e61d2601
    0x2155b19f34d0b032ffff80000000100000000000df99a511d3a6d296fe4ac968) 0x2fe36d28 0xffff 1 0 0x3e2f424a 0xfff (hex 8 0x9f8b958197d02278)
    [] (outcome 0x7fff 0x80000000 (hex 8 0x9f8b958197d02278) [] ∷ []))
    [] by_return (reg 4 0x4000007f & sp 0x702edb00 & brk 0x80000000 & pc 0x20000f5 & done 0x1001) (write 0x4000007e 2 0x1000 0xd3a6d296
    ∷ [])
    -- 27-Rmw/xip-read-request-write/0
    ∷ runs (block (memory 0x7ffffffc 5 0x100 8 true) 0x30cb7c6 (op (Rmw 0xa B32 RmwOr 0xfffffff7 0x13) 2 true
    ∷ op (SarI 4 0xe 0x9c) 0x13 true ∷ op (Alu3 0xe 0xc 0xd Add) 0xff false ∷ [])) (hex 8 0xffffff7f04c5971a) 0xffffffff
    (card (regs 0x00000007c57e54903df1facff4283a698480e88f80000000000000800cf3da9e
    0x000000080000ffff00000109b57c2e6e5d8ab53886ddadc20001234555608baa) 0x689b85c0 0x13 0 0 0xc458b80a 0 (hex 5 0x06441e1cc0)
    (hex 2 0x0101) (outcome 0xe40641b3 0x100 (hex 5 0x06441e1cc0) (hex 2 0x0101)
    ∷ outcome 0x79 0xffffffff (hex 5 0xa31a74cec3) (hex 2 0x37fd) ∷ outcome 0x1b 0 (hex 5 0xd9e7d1c8e0) (hex 2 0x909d) ∷ []))
    [] by_return (hold 1 & brk 0x100 & pc 0x30cb7c8 & done 1) (write 0x100 4 0 0x7fffffff ∷ [])
    -- 27-Rmw/op-2/0
    ∷ runs (block (memory 0x20000000 0xc 0x8000000 5 false) 0x2000000 (op (MovI 0xc 0x20000004) 4 false
    ∷ op (Rmw 0xc B16 RmwXor 0 0xfffffffe) 4 true ∷ [])) (hex 5 0xb917e7beb4) 0xffffffff
    (card (regs 0xfffffffefffffff94b2d16d3ffff00000000ffff0000ffff1c36c5940000001b
    0x000000803e5ed8b280000000fb45222cffffffed65a35dd215d5800d00000002) 0xfffffffe 0xdcbb6600 0 0 0xcd067a01 0x1000
    (hex 12 0x4cbbe57700802b9d8051b10b) [] [])
    (entry 4 0x2000008 ∷ []) (by_chain 0) (reg 12 0x20000004 & pc 0x2000008 & done 0x1002 & ram (hex 12 0x4cbbe577fe7f2b9d8051b10b)) []
    -- 27-Rmw/outside/0
    ∷ runs (block (memory 0x1000000 9 0x2000000 6 false) 0x2000000 (op (Alu3 0 0 0xe Sub) 4 true ∷ op (Alu2 0 0xa AndNot) 6 true
    ∷ op (Rmw 3 B8 RmwAdd 1 0x4668d98e) 4 true ∷ [])) (hex 6 0xaabc18d94e5e) 0xffffffff
    (card (regs 0x00010000000000ff94a4b19801ffff7f97f0d518fffffffe00012345b57acff0
    0xfffffff5fffffffe00000008da67a81e00000008000000ff0000000100000100) 0x11910386 0xfffff001 0 0 0xedecccf6 0
    (hex 9 0x68d1fecc0ea39fad56) [] (outcome 0xff 0 (hex 9 0x68d139cc7da39fad56) [] ∷ outcome 0x80 0 (hex 9 0x68d139cc7da39fad56) []
    ∷ outcome 0x3a 0 (hex 9 0x58bb0491cf53f81534) [] ∷ outcome 0xfc 1 (hex 9 0xc6c05b27414cb25eef) [] ∷ []))
    [] (by_chain 0) (reg 0 0xfff7 & pc 0x200000e & done 3 & ram (hex 9 0x68d139cc7da39fad56)) (read 0x1ffff80 1 2
    ∷ write 0x1ffff80 1 2 0x4668da8d ∷ [])
    -- 27-Rmw/op-5/0
    ∷ runs (block (memory 0x1000 0xc 0xfffffff8 7 true) 0x39e6d6c (op (MovI 7 0x1008) 4 false ∷ op (Rmw 7 B8 RmwMov 0 0x80) 4 true ∷ []))
    (hex 7 0xd1cf723d4b293b) 0x1001
    (card (regs 0xfffff00100000017ffffffffffff800036408c7a000000803ac90ff17fffffff
    0xffff00000000000d9fa7242700000004fffffffe00fff000fffffffeae64ccd5) 0x80000000 0x100 2 0 0x905328e3 0xfff
    (hex 12 0xe3e61d7e512e55e44c55f738) (hex 3 0x010100) [])
    [] (by_chain 0) (reg 7 0x1008 & pc 0x39e6d74 & done 0x1001 & ram (hex 12 0xe3e61d7e512e55e48055f738)) []
    -- 27-Rmw/ram-odd/0
    ∷ runs (block (memory 0xfffffff4 9 0x1000 6 false) 0x3ffffff (op (Mov 0 2) 6 false ∷ op (Rmw 0xc B16 RmwSub 0xff 0xff) 6 true
    ∷ op (ShlI 4 0xc 0x3f) 2 false ∷ op Rts 2 true ∷ [])) (hex 6 0x247b69fb3428) 0xffffffff
    (card (regs 0xfffff001e1bc155900000001000001003e14b324ffff80000a0498070a033d3e
    0x397f8ff3000000010736844700000020fffffefcffffffff0000001affffffea) 0xe1335ad6 0xfff 0xf62a0815 0 0x379a1f6c 5
    (hex 9 0xd78258b408d8baf3d3) [] (outcome 1 0 (hex 9 0xa68258b408d8baf386) [] ∷ []))
    (entry 0x7ff 0xfff ∷ []) by_table (reg 0 1 & reg 4 0 & pc 0xfff & done 9 & ram (hex 9 0xa68258b408d8baf386))
    (write 0xfffffffb 2 6 0xf2bb ∷ [])
    -- 27-Rmw/two-requests/0
    ∷ runs (block (memory 0x1000 9 0xfffffffc 4 true) 0x3ffffff (op (AddRI 3 0xf 0x8000) 2 true ∷ op (MovI 0xe 0x275b164c) 2 false
    ∷ op (Rmw 0xe B32 RmwSub 0 0xffff8000) 4 true ∷ op (Alu3I 1 0xd 0x10000 Shr) 4 false ∷ op (Mov2 5 2 0xb 6) 2 false ∷ []))
    (hex 4 0x942a2421) 6
    (card (regs 0x80000000ffffffecceab60f0ffffffdf0000002062cbc6f300000008fffff000
    0x62c1fb0afffffffe79683bd4fffffffb9fa3b3d74d73b6dae17ed1c0ffff0000) 0xffffffe6 0xf559250b 1 0 0xa8c2a36c 1
    (hex 9 0xa8b9e79cc00ba57ea4) (hex 3 0x010180) (outcome 0 0 (hex 9 0xb2b9e79cc00ba57ea4) (hex 3 0x014080)
    ∷ outcome 1 0 (hex 9 0xb2b9e79cc00ba57ea4) (hex 3 0x014080) ∷ outcome 0x43 1 (hex 9 0xba3a75c5d67398532d) (hex 3 0xeb63da)
    ∷ outcome 0x31 0xffffffff (hex 9 0xa011941e3d8b9a7727) (hex 3 0xa2506a) ∷ []))
    [] (by_chain 0) (reg 1 0x4d73b6da & reg 2 8 & reg 3 0xffff8000 & reg 5 0xfffffffb & reg 14 0x275b164c & pc 0x400000d & done 6
    & ram (hex 9 0xb2b9e79cc00ba57ea4) & map (hex 3 0x014080)) (read 0x275b164c 4 3 ∷ write 0x275b164c 4 3 0x8000 ∷ [])
    -- 27-Rmw/read-breaks-write-clears/0
    ∷ runs (block (memory 0x20000000 4 0x8000000 9 false) 0x3b28027 (op (Rmw 3 B32 RmwAnd 0 0xfffff000) 2 false
    ∷ op (Ext 4 0xb PartHalf false) 0xff true ∷ [])) (hex 9 0xbd2e15a932cb2a96cf) 2
    (card (regs 0x9bf56f770c029764fffff001c2e994f8d351f8ad605d6c62884d5913fffff000
    0xfffff00000000fff1228db96000000260000800076a36e9000f4c16400000008) 0x7fffffff 0xe24e3ff7 1 0 0xd2bed11f 0 (hex 4 0x4e77a575) []
    (outcome 0x7fffffff 1 (hex 4 0x4e77a575) [] ∷ outcome 0x36829df7 0 (hex 4 0x4e774c75) []
    ∷ outcome 0xc0 0xffffffff (hex 4 0xf30f63fb) [] ∷ outcome 0x40 0 (hex 4 0xd53efd9f) [] ∷ []))
    [] (by_chain 0) (reg 4 0x26 & pc 0x3b28128 & done 2 & ram (hex 4 0x4e774c75)) (read 0xc2e994f8 4 0 ∷ write 0xc2e994f8 4 0 0x7ffff000
    ∷ [])
    -- 27-Rmw/write-breaks/0
    ∷ runs (block (memory 0xffffffd0 0x2d 0x1000 4 true) 0x2620029 (op (AddRI 3 1 8) 4 true ∷ op (SpAdd 0xfffff000) 6 false
    ∷ op (SpAdd 0xfffffff2) 4 true ∷ op (Mov2 3 8 4 6) 2 true ∷ op (Rmw 0xd B16 RmwXor 0x13e56015 0xfff000) 6 false
    ∷ op (Alu3I 6 0 0xe Shl) 2 true ∷ op (BitExt 9 0xc 0x20 0x13 true) 0 true ∷ [])) (hex 4 0x597bfcd7) 0xffffffff
    (card (regs 0xfffffff0fb330032ffffffe800000008ca786095fffffffe6e14984cfffff001
    0xffff800000000001fffff00116c1f5b6ffffffffc7674b7b596e48a200000080) 0x1000 0x1eb6aa33 0 0 0x5382e3dc 0
    (hex 45 0xcbe240c12fda9f3a279910581ea73b1bcf0d3c1cd5e1b872a123a7d4e82bdb3b9da939adc41cdddb501f6f85fb)
    (hex 12 0x010101010080800101000100) (outcome 0 0 (hex 45
    0xcbe240c12fda9f3a279910581ea73b1bcf0d3c1cd5e1b872a123a7d4e82bdb3b9da939adc41cdddb501f6f85fb) (hex 12 0x010101010080800101000100) ∷
    outcome 0xbe63 0x100 (hex 45 0xcbe240c12fda9f3a279910581ea73b1bcf0d3c1cd5e1b872a123a7d4e82bdb3b9da939adc41cdddb501f6f85fb) (hex 12
    0x010101010080800101000100) ∷ outcome 0x98 1 (hex 45
    0xd7c8dbc6a4f9df19b12527fbbeab2c63725bd713086c4039b1e1a4905f6b39e23ab05c8be406abf2f8c84552e2) (hex 12 0xdbd2637b304f28cfff029ab7) ∷
    outcome 0x1b 1 (hex 45 0x502ecd163f0890a528bfbc4273b9f0f9ef28ff2a6f871a26bfb903fc27cbd047fcc9a9332c95705fadf1b82e3a) (hex 12
    0x609ff341b4b39e924df7591c) ∷ []))
    [] by_return (reg 3 0xca786095 & reg 8 0x6e14984c & sp 0xfffffff2 & brk 0x100 & pc 0x262003f & done 5) (read 0xdb4cab90 2 4
    ∷ write 0xdb4cab90 2 4 0xfff000 ∷ [])
    -- 27-Rmw/mov-one-request/0
    ∷ runs (block (memory 0 5 0x2000000 5 true) 0x33e8826 (op (Rmw 0xe B8 RmwMov 0 0x7fffffff) 4 true
    ∷ op (AddRI 0xf 0xc 0x7fffffff) 6 false ∷ op (Alu3 0 4 3 Sub) 4 false ∷ op (Goto 0x1000) 0 true ∷ [])) (hex 5 0x22f1a0c075) 0xffffffff
    (card (regs 0xfffff001000000169d96f27e96680e57000000000000007f90b5e1d21ec8314c
    0x00000021a7a81f429c0d10aaffffffe0917500ec000100004000007431e1193f) 0x80000000 0 0x38032423 0 0x824947ac 0xfffffffb
    (hex 5 0x1f164145c8) (hex 2 0x8001) (outcome 0xcd 0x100 (hex 5 0x1f164145c8) (hex 2 0x8001) ∷ []))
    [] by_return (hold 1 & brk 0x100 & pc 0x33e882a & done 0xfffffffc) (write 0x40000074 1 0xfffffffb 0x7fffffff ∷ [])
    -- 28-PushRet/ram-first/0
    ∷ runs (block (memory 0x7ffffffc 9 0x100 0x10 true) 0x2000000 (op (A4 0xe 2 Sub RkBit 0xba322202) 4 false
    ∷ op (SpAdd 0xa5510c3d) 2 false ∷ op PushRet 0 false ∷ op (BrR 0xf 7 LtS 0xfffffff4) 0xff false ∷ []))
    (hex 16 0xf855fdf7ab42604d7563195b225ae41b) 0xffffffff
    (card (regs 0xfffffff20223384980000000234f05e8ffff800000fff0000000000058e6a5e1
    0x00000fff00000025fffff001ffff80003ee4668a0000000300000007ffffffe4) 0xdaaef3c3 0x153d651c 0x8d1054be 0 0x8abd9b69 0xfffffffb
    (hex 9 0x1d74f669edba809e3e) (hex 3 0x008001) (outcome 0x1a 1 (hex 9 0x36b652fbe0dc0a2d63) (hex 3 0x61f661) ∷ []))
    [] (by_chain 1) (reg 14 0x7fffffff & sp 0x7ffffffc & pc 0xfffffff4 & done 0xffffffff & ram (hex 9 0x1c653d15edba809e3e)) []
    -- 28-PushRet/outside/0
    ∷ runs (block (memory 0x1000000 6 0 9 false) 0x3b07cca (op PushRet 6 false ∷ [])) (hex 9 0x551ef24f15511c9e42) 0xffffffff
    (card (regs 0x10d7061dfffffffe00012345a1246195ffff8000a66b4c87cd6082a400000002
    0x15795cc200000004b889eb3800000003800000000000007f0cde4e405fe79e81) 0x4000007c 0xbf84121f 1 0 0xeae3eaf5 0 (hex 6 0xf172c09b4380) []
    (outcome 0x789658e0 0 (hex 6 0xf172c0a84380) [] ∷ outcome 0xd5 0 (hex 6 0x8b5561a83682) [] ∷ []))
    [] (by_chain 0) (sp 0x40000078 & pc 0x3b07cd0 & done 1 & ram (hex 6 0xf172c0a84380)) (write 0x40000078 4 0 0xbf84121f ∷ [])
    -- 28-PushRet/break-outcome-glue-0/0
    ∷ runs (block (memory 0x1000000 4 0 7 true) 0x254ad7c (op PushRet 6 false ∷ op (Ext 0xa 3 PartUpper false) 2 true ∷ []))
    (hex 7 0x4bdef7d5c037b2) 0xffffffff
    (card (regs 0x0000000e8b55583ffffffff300000080098d82d7ffffffdfb2173f56256dc70b
    0x00000fff0000010000000001000123454fe4bcf2000000032d3998e9aa4a9885) 0xffffff84 0xde7748fb 0 0 0x93d45ae5 0xfffffffd (hex 4 0xd2c5a000)
    (hex 1 0x01) (outcome 0xffffffff 0xffffffff (hex 4 0xd2c5770f) (hex 1 0x40) ∷ outcome 0xee 0 (hex 4 0x888fca6b) (hex 1 0x49) ∷ []))
    [] by_return (sp 0xffffff80 & brk 0xffffffff & pc 0x254ad82 & done 0xfffffffe & ram (hex 4 0xd2c5770f) & map (hex 1 0x40))
    (write 0xffffff80 4 0xfffffffd 0xde7748fb ∷ [])
    ∷ []

pub all_reach : reached cases ≡ expected cases
unfolding run ops_from op_step load direct store read_le write_le signed_of sign_extend leading_zeros
all_reach = refl
