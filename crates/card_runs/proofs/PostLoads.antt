-- Kind 47: a base that is loaded, an index that is loaded or the base, widths and signs, breaks: each run reaches its end.
use mathlib.Core.Bool.{true, false}
use mathlib.Core.List.{List, [], ◌∷◌, ◌++◌}
use mathlib.Core.Path.{◌≡◌, refl}
use Rattle.block.specs.declared.Op.TheVariants.{Sub, RSub, And, Or, Mul, Sar}
use Rattle.block.specs.declared.Width.TheVariants.{Byte as B8, Half as B16, Word as B32}
use Rattle.block.specs.declared.Rk.TheVariants.{Bit as RkBit}
use Rattle.block.specs.declared.Part.TheVariants.{Upper as PartUpper}
use Rattle.block.specs.declared.Choice.TheVariants.{MaxU}
use Rattle.block.specs.declared.DivKind.TheVariants.{QuoS, RemS, RemU}
use Rattle.block.specs.declared.Fast.TheVariants.{Nop, MovI, Mov, AddRI, ShlI, SarI, Alu3, Alu2I}
use Rattle.block.specs.declared.Fast.TheVariants.{A4, Ext, MinMax, Div, Mov2, Mov2I, BitExt, BitIns}
use Rattle.block.specs.declared.Fast.TheVariants.{SpAdd, RFromSp, Goto, CallR, LdPostR}
use Rattle.card.specs.Card.{read}
use Rattle.card.specs.Word.{signed_of, sign_extend, leading_zeros}
use Rattle.card.specs.Memory.{read_le, write_le, load, direct, store}
use Rattle.card.specs.Step.{op_step}
use Rattle.card.specs.Run.{ops_from, run}
use Rattle.card_runs.specs.Case.{Case, runs, reached, expected, block, memory, op, hex, regs, card}
use Rattle.card_runs.specs.Case.{outcome, entry, by_return, by_chain, reg, sp, rets, hold, brk, pc, done, ram, map, ◌&◌}

abbrev cases : List Case
cases =
    -- 47-LdPostR/ram-first/0
    runs (block (memory 0x1000000 8 0 0x10 false) 0x24e9ff7 (op (MovI 0xc 0x1000000) 4 false ∷ op (LdPostR 0xe 0xc 0 B8 false) 2 false
    ∷ [])) (hex 16 0x07fab3d57d6654fda7577e98c99390ce) 0xffffffff
    (card (regs 0x000000010001000000000025e36b44e754035600fe801cd000000fff9e4b1c86
    0x00000013000000082438ef6a00000fff00012345c1a6823a5129a79700010000) 0x29e9eaf0 0x20685a2d 2 0 0x7f434d0b 0 (hex 8 0x7fd7312290a5a4e9)
    [] [])
    (entry 0xffe 0x24e9ffd ∷ []) (by_chain 0) (reg 12 0x1000001 & reg 14 0x7f & pc 0x24e9ffd & done 2) []
    -- 47-LdPostR/ram-last/0
    ∷ runs (block (memory 0x1000000 5 0x2000000 0xc false) 0x2000000 (op (MovI 0xf 0xb0327f06) 4 false
    ∷ op (LdPostR 0xf 3 0xc B16 true) 6 false ∷ [])) (hex 12 0x8ac04650d49dfcf717c29157) 0xffffffff
    (card (regs 0x9f8c7ab800000100ffff800001000002fffffff60000ffff00000fffefe23b44
    0x0000010000007fff000000012a58516100000000c4a5e79d0001000003b84d68) 0x7f 2 0 0 0x9fb87117 0 (hex 5 0xf722008037) []
    (outcome 0x5e 1 (hex 5 0xb7418bbc9f) [] ∷ outcome 8 0xffffffff (hex 5 0xb2d3c64601) [] ∷ []))
    [] (by_chain 0) (reg 15 0xffff8000 & pc 0x200000a & done 2) []
    -- 47-LdPostR/ram-odd/0
    ∷ runs (block (memory 0x1000000 0x40 0x2000000 6 true) 0x2000000 (op (A4 2 4 Sub RkBit 0x7fffffff) 2 true
    ∷ op (Ext 0xe 8 PartUpper false) 4 true ∷ op (BitExt 6 9 0x1f 4 true) 4 false ∷ op (LdPostR 9 8 4 B32 true) 2 false ∷ []))
    (hex 6 0x6712e9804a20) 0xffffffff
    (card (regs 0x0e4c28972fd26571e0699a4900000018fffffffc00000003fffffffe00000001
    0x01000003e2d9bbd422a369790000000300000100000000207fffffff7d8345c6) 0x26 0xa 0 0 0x7a758cb7 0xfffffffb (hex 60
    0xd1185100000000fa988d1098226f13fbec0366561b175ec2b8aabd24f681a61a3701ec79e548ea57ab0413573072a009c5c6d09feacb9621cb413fa1 ++ hex 4
    0x62e5952c) (hex 16 0x0100ff80800001ff8080ff8000ff0001) (outcome 0xfb 0xffffffff (hex 60
    0x74a5d7af8c510a4492ac70dead684914aa806196b0c4bb63bba71e191d5ce4edb576a57f0eec8351de0832ca2b711c0344b762cf424b8b44a65f2a52 ++ hex 4
    0x0563dd3c) (hex 16 0x6e8d1761becfe8ac2c5bbd394400b435) ∷ []))
    (entry 6 0x200000c ∷ []) (by_chain 0) (reg 2 0xffffffbc & reg 6 1 & reg 8 0xffffff & reg 9 0 & reg 14 0x100 & pc 0x200000c
    & done 0xffffffff) []
    -- 47-LdPostR/xip-over/0
    ∷ runs (block (memory 0x7ffffffc 0xc 0x100 0xc false) 0x2000000 (op (RFromSp 0xf 0x97eae14) 2 true ∷ op (MinMax 9 0xd 0xe MaxU) 4 true
    ∷ op (BitExt 0xb 3 0x1f 0x12 true) 4 false ∷ op (Mov 0xf 0xa) 2 true ∷ op (LdPostR 2 4 7 B8 true) 6 true
    ∷ op (Goto 0xffffffea) 4 false ∷ [])) (hex 12 0x1ab8f654f7f8e0d99c8a5640) 0x37da2aaf
    (card (regs 0xfffff00000000fffe31a8455800112f60000010c000000010000001300000001
    0x0000001f0000001fca2f31a4e1d1a476fffffffe00fff0000000000300007fff) 0x7f 0x6c3b6bc9 0 0 0x4ccdf562 0
    (hex 12 0x326beeddf3b8a56f99aab0ad) [] (outcome 0x4d 0 (hex 12 0x326bee1ff3b8a56f99aaecad) [] ∷ []))
    (entry 0x3ff5 0xffffffea ∷ []) (by_chain 0) (reg 2 0x4d & reg 4 0x10d & reg 9 0xfff000 & reg 11 1 & reg 15 0xca2f31a4 & pc 0xffffffea
    & done 6 & ram (hex 12 0x326bee1ff3b8a56f99aaecad)) (read 0x10c 1 4 ∷ [])
    -- 47-LdPostR/ram-end-in-xip/0
    ∷ runs (block (memory 0x2000000 0x10 0x2000008 0x10 true) 0x3bec674 (op (MovI 9 0xe8a64d4d) 2 false
    ∷ op (LdPostR 9 0xb 4 B16 false) 6 false ∷ [])) (hex 16 0x13f6fc67e9b4cf5db482ddde3bed05c8) 3
    (card (regs 0x00000000c8bc1b217b94bf750000001ffffffffc000000000000100062119717
    0xe65f28ac0000000a0000000f0200000f3fc820dd000000ff800000000000007f) 0x4d65418f 0x93250a72 0 0 0x11d34647 1
    (hex 16 0x1fbf881a29a984fabdb11ab78f140080) (hex 4 0x00010180)
    (outcome 0x28 0xffffffff (hex 16 0x1ad24da3d41727fcd2ea7881b3a59897) (hex 4 0x9f95513d) ∷ []))
    [] (by_chain 0) (reg 9 0x8000 & reg 11 0x200000b & pc 0x3bec67c & done 3) []
    -- 47-LdPostR/d=b-ram/0
    ∷ runs (block (memory 0x1000000 0x10 0x2000000 0x14 true) 0x2000000 (op (LdPostR 9 9 3 B16 true) 4 false ∷ []))
    (hex 20 0x4cd58327f4243d3ccb9a3e7522c1a8d8591ad5aa) 0xffffffff
    (card (regs 0x47196dff7a046017ffffffef000000010000000089cb75960000007fffff0000
    0xfffffff60100000c80000000d0e6a98f000000210000800000000fff00001000) 0x100 0xb61f4234 1 0 0x4eb45456 0
    (hex 16 0x83700117417fcf2454861b95ffff7e6d) (hex 4 0x8001ffff)
    (outcome 0x7e 0xffffffff (hex 16 0x77c3cab1446c74b6d2a281d5a09a7d42) (hex 4 0x8c8a70e6) ∷ []))
    (entry 2 0x2000004 ∷ []) (by_chain 0) (reg 9 0 & pc 0x2000004 & done 1) []
    -- 47-LdPostR/d=b-outside/0
    ∷ runs (block (memory 0x7ffffffc 0x10 0x100 9 false) 0x2000000 (op (Alu2I 0xd 0xfff And) 4 false
    ∷ op (Ext 0xc 0xf PartUpper true) 2 false ∷ op (LdPostR 8 8 4 B16 true) 0 true ∷ [])) (hex 9 0x58c39fdf950d18fd20) 3
    (card (regs 0xe961601efffff001000000040b7393bf0000100191719a33fffffffe00000001
    0x6671d55effff800000008000000000ff00008000fffffffc00000100ffff8000) 0x80000000 0xd55a68b2 1 0 0xaf4d9cc 0
    (hex 16 0x235cb8240295f5601b096ea91821b599) [] (outcome 0xd14c 0 (hex 16 0x235cb8240295f5601b096ea91821b599) []
    ∷ outcome 0x84 0xffffffff (hex 16 0xf5c9848eadbc7241b316391cf6224ba4) [] ∷ []))
    [] (by_chain 0) (reg 8 0xffffe14d & reg 12 0xffffffff & reg 13 0xffc & pc 0x2000006 & done 3) (read 0x6671d55e 2 2 ∷ [])
    -- 47-LdPostR/d=i-ram/0
    ∷ runs (block (memory 0x1000000 0xc 0 7 true) 0x2e3793e (op (LdPostR 1 0xc 1 B16 false) 2 false ∷ [])) (hex 7 0xc2e5d20da6791e) 1
    (card (regs 0xfffff001bcc52838fffffffe6a9328a62504e3acfffffff60000001f00000003
    0x689c4b4a3e28020600000004a3d93bc60100000449cd47ed000000ff00000100) 0xddd196ec 0x80 1 0 0x759a214f 0
    (hex 12 0x15b2d8fe5f49e9f6d66131d9) (hex 3 0x0100ff) [])
    (entry 0x3ca0 0x2e37940 ∷ []) (by_chain 0) (reg 1 0x495f & reg 12 0xbdc5283c & pc 0x2e37940 & done 1) []
    -- 47-LdPostR/d=i-outside/0
    ∷ runs (block (memory 0x7ffffffc 4 0x100 6 false) 0x2000000 (op (LdPostR 9 3 9 B32 false) 4 false ∷ [])) (hex 6 0x4fb41633dbcc) 1
    (card (regs 0x3b2c451800010000fffffffb80000064ecef4050000000800001000000000020
    0x00010000941674315f845b51fffffff90000800000007fff0000007fffffffff) 0x1000 0x100 2 0 0xe0d2af44 0 (hex 4 0x26490589) []
    (outcome 0xffffffff 0 (hex 4 0x2649b889) [] ∷ outcome 0x4d 0xffffffff (hex 4 0x015fb955) [] ∷ outcome 0xf6 0 (hex 4 0x2f25b0b4) []
    ∷ []))
    [] (by_chain 0) (reg 3 0x14167495 & reg 9 0xffffffff & pc 0x2000004 & done 1 & ram (hex 4 0x2649b889)) (read 0x80000064 4 0 ∷ [])
    -- 47-LdPostR/b=i-ram/0
    ∷ runs (block (memory 0x20000000 0xc 0x8000000 4 true) 0x2000000 (op (SarI 0xe 0 0xc2) 4 true ∷ op (LdPostR 1 3 3 B32 true) 6 true
    ∷ [])) (hex 4 0xda49a870) 7
    (card (regs 0x7c162d2cb80cf6940000000820000008ffffffdfd87901c899732169ffffffff
    0x0000002000fff000000000112854092049cb3543dc343d84b28dc65bef8d9d7f) 0xfffff001 0x100 0 0 0x406f513a 5
    (hex 12 0x5f17caec77a822de00000000) (hex 3 0xff0080) (outcome 0x2c 1 (hex 12 0x925b5c4b704557725e2e0555) (hex 3 0xf7b4df) ∷ []))
    [] (by_chain 0) (reg 1 0 & reg 3 0x40000010 & reg 14 0x1f058b4b & pc 0x200000a & done 7) []
    -- 47-LdPostR/b=i-outside/0
    ∷ runs (block (memory 0x7ffffffc 0x3a 0x100 0x10 true) 0x3ffffff (op (MinMax 1 6 0xf MaxU) 4 false ∷ op (MovI 9 0xffffffff) 6 false
    ∷ op (LdPostR 0xd 7 7 B32 true) 2 true ∷ op (Alu3 5 0xa 0xd Sub) 4 true ∷ [])) (hex 16 0x3a3d25fe06228c47434a3d5c8d201290) 9
    (card (regs 0x00007fff800000000000001f000000ff5fe01232000001004157ac7a00000080
    0x000000806cd03998fffffffff052c35a538465c8285107c60000000000000003) 0xfffff000 0x80 0xf5b90059 0 0xbf5ae6b1 5
    (hex 58 0xfb71a743317c6b62306065e46b6885037d9703c682f46b689d7fa94f1b81ec6574088bbcc169ae023be294f8b8cd2f8ce8aedbc7a9a491f1088c)
    (hex 15 0xff000100018000ff800000ff008000) (outcome 0 0 (hex 58
    0xfb71a743317c6b62306065e46b6885f57d9703c682f46b68e77fa94f1b81ec6574088bbcc169ae023be294f8b8cd2f8ce8aedbc7a9a491f1088c) (hex 15
    0xff000100408000ff800000ff008000) ∷ outcome 0xd2 0 (hex 58
    0xc4ce2578c7b19b30ca58043f576141fc10267aebcd371ece75b4d9490c428ba3a83478f2ee117b20fc91010cb8cce2cd3f822bbe42ad552eedca) (hex 15
    0xe516a6cefcbc7460c49e9a5298148f) ∷ outcome 0xc4 0xffffffff (hex 58
    0x5af9eb9923ae584a47a322a9b7ef060ca0a9dabfa51a3001ecbbae7dae704ac192eba779adac676e6a820a7835e7fd78e1f53529182ab56b68ce) (hex 15
    0xb6d7d8af0299622ddc578f86c37232) ∷ []))
    (entry 7 0x400000f ∷ []) (by_chain 0) (reg 1 0x4157ac7a & reg 5 0xffffffff & reg 7 0x100 & reg 9 0xffffffff & reg 13 0 & pc 0x400000f
    & done 9
    & ram (hex 58 0xfb71a743317c6b62306065e46b6885f57d9703c682f46b68e77fa94f1b81ec6574088bbcc169ae023be294f8b8cd2f8ce8aedbc7a9a491f1088c)
    & map (hex 15 0xff000100408000ff800000ff008000)) (read 0x80 4 7 ∷ [])
    -- 47-LdPostR/all-ram/0
    ∷ runs (block (memory 0xfffffff4 0xc 0x1000 0x18 true) 0x3952d82 (op (SarI 2 8 4) 0x3d false ∷ op (LdPostR 0xa 0xa 0xa B32 true) 0 true
    ∷ [])) (hex 24 0x06db87187c03e7db5add9083ded0adcc5cf9a5e65d3aace3) 0xffffffff
    (card (regs 0xdf1ff2795dd146307fffffff8bf030e100fff000ac28e83f00000007c8e9937d
    0x00000003b026f2fcfffffff80000010000000007a968ce3589e1b7c9fffff001) 3 0x7fffffff 0x4b6438a 0 0x52819982 0
    (hex 12 0x5336b734739046ceedfce4e0) (hex 3 0xff0080) [])
    [] (by_chain 0) (reg 2 0 & reg 10 0xce46906b & pc 0x3952dbf & done 2) []
    -- 47-LdPostR/all-outside/0
    ∷ runs (block (memory 0x10000 0x10 0x10010 0xc true) 0x3ffffff (op Nop 4 true ∷ op (Alu2I 0xa 7 RSub) 0xff true
    ∷ op (BitIns 3 0xa 2 0xe) 0xff true ∷ op (AddRI 8 5 0x801fac69) 4 false ∷ op (LdPostR 1 1 1 B8 false) 6 false
    ∷ op (Mov 0xa 8) 0xef false ∷ op (CallR 3) 4 true ∷ [])) (hex 12 0xc1fe3d55ecdc0f3f9a173e8c) 0xffffffff
    (card (regs 0x0000007f400000000000007f0000001490af5f90000000fffffff000fffff000
    0xa54eca861645f3a80000000234194ab8ffffffff000000ffffffffff00008000) 0xffff0000 0xfff000 0 0 0x716700fd 0xfffffff8
    (hex 16 0xaaec1b86439baa3970f42c6efe143057) (hex 4 0x01ffff00)
    (outcome 0xe7 0 (hex 16 0xaaec1b86439baa3970f42c6efe143057) (hex 4 0x01ffff00)
    ∷ outcome 0x4d 1 (hex 16 0x827d3e06be049d8d54152cc238401e74) (hex 4 0x03e1597a)
    ∷ outcome 0xa3 0 (hex 16 0xe6df4fcf19a5c0b5ded0f76aa0deee40) (hex 4 0xe4acd29b) ∷ []))
    (entry 0xa 0x8014 ∷ []) by_return (reg 1 0x400000e7 & reg 8 0x801fad68 & reg 10 0x801fad68 & rets 0x40002fe & pc 0x14
    & done 0xffffffff) (read 0x40000000 1 0xfffffffc ∷ [])
    -- 47-LdPostR/sign-ram-2/0
    ∷ runs (block (memory 0x7ffffffc 0xc 0x100 6 true) 0x2846e36 (op (SpAdd 0x80000000) 0xca true ∷ op (MovI 0xa 0x7ffffffc) 2 false
    ∷ op (LdPostR 1 0xa 0xf B16 true) 0 false ∷ op (Div 1 0xe 0xf RemU) 0 true ∷ op (SpAdd 0x1c) 2 true ∷ [])) (hex 6 0x5a86aaa90eb4)
    0xad555136
    (card (regs 0xfffffffe249b4726000000080001000060597d2800000004f8fc8f9900012345
    0x000000ff9ed378947c46aa9b0000008000008000000000206ef3577500000004) 0xb3b4ce6c 0x66344b27 2 0 0x1a5c6188 0
    (hex 12 0xf6cf3861b9dd933a63b97e7a) (hex 3 0x010000) [])
    (entry 0x3782 0x2846f04 ∷ []) (by_chain 0) (reg 1 1 & reg 10 0x80000000 & sp 0x33b4ce88 & pc 0x2846f04 & done 5) []
    -- 47-LdPostR/sign-request-1/0
    ∷ runs (block (memory 0x7ffffffc 9 0x100 0xc true) 0x201ddc4 (op (MovI 0 0x8000) 4 true ∷ op (Alu3 9 7 0xf Sar) 2 true
    ∷ op (Mov2I 8 6 0x27535c63) 4 true ∷ op (Div 0xf 0xd 0xa RemS) 4 true ∷ op (LdPostR 0xa 1 0xd B8 true) 4 false ∷ []))
    (hex 12 0x8cc5f45c5e4afd707bcbddc6) 0xffffffff
    (card (regs 0x0000000280000068fffffffda3cd32ab000000088f72351ebfbfca4e00012345
    0x706043f000000002a72441d800000080fbe164d81e22e0ad000000079f2613a2) 0xffff 0xf32f36d 2 0 0x745d6e36 5 (hex 9 0x703c0b84053ea7b132)
    (hex 3 0x0000ff) (outcome 0xce 0 (hex 9 0x703c0b84053ea7b132) (hex 3 0x0000ff) ∷ []))
    [] (by_chain 0) (reg 0 0x8000 & reg 1 0x9e22e115 & reg 6 0x27535c63 & reg 8 0 & reg 9 0x48d1 & reg 10 0xffffffce & reg 15 0x1e22e0ad
    & pc 0x201ddd6 & done 0xa) (read 0x80000068 1 9 ∷ [])
    -- 47-LdPostR/unsigned-ram-1/0
    ∷ runs (block (memory 0x1000000 5 0x2000000 4 true) 0x298b7eb (op (MovI 0 0x7fe52642) 4 false ∷ op (LdPostR 0 1 0xd B8 false) 0 true
    ∷ [])) (hex 4 0x2296b824) 2
    (card (regs 0x00000001010000001c7a1371115933c6bfd4fc1c4ae49cbdf8c6e86800000027
    0x0000007f7ffffffffffffff60000000400000fffd2a74a15fffffffe000000ff) 0xfffffff8 0xffffffef 0xeedd3ce1 0 0xf85fedd3 0
    (hex 5 0xcf2abd052e) (hex 2 0xff00) (outcome 0x7e 0xffffffff (hex 5 0xc30854d99f) (hex 2 0x5bb4)
    ∷ outcome 0xa2 1 (hex 5 0x95ac8ac758) (hex 2 0x791b) ∷ []))
    (entry 0x1bf7 0x298b7ef ∷ []) (by_chain 0) (reg 0 0xcf & reg 1 0xd3a74a15 & pc 0x298b7ef & done 2) []
    -- 47-LdPostR/unsigned-request-2/0
    ∷ runs (block (memory 0 5 0x2000000 6 true) 0x39714de (op (MovI 9 0xcb5b309d) 4 false ∷ op (LdPostR 9 2 0xa B16 false) 0 false ∷ []))
    (hex 6 0xc2529471fc89) 0xffffffff
    (card (regs 0x00000002a45c389e40000012b90316068c03446ce834c3aa7787ccc9f2942f14
    0x00000003000000ff00000fff268c1b4b99ebd022c45cb389086df9ea000000ff) 0x80 0x46cb02ef 0 0 0xdd2c289d 0xfffffffd (hex 5 0x0019757fce)
    (hex 2 0x0001) (outcome 0x8d24 0 (hex 5 0x1319757fc4) (hex 2 0x0101) ∷ outcome 0x49 0xffffffff (hex 5 0x41a8efba6c) (hex 2 0xe3fd)
    ∷ outcome 0x90 0xffffffff (hex 5 0x3db65f6011) (hex 2 0xf4c8) ∷ []))
    (entry 0xa71 0x39714e2 ∷ []) (by_chain 0) (reg 2 0x40001011 & reg 9 0x8d24 & pc 0x39714e2 & done 0xffffffff & ram (hex 5 0x1319757fc4)
    & map (hex 2 0x0101)) (read 0x40000012 2 0xfffffffe ∷ [])
    -- 47-LdPostR/break-start-glue-0/0
    ∷ runs (block (memory 0xfffffff4 0xc 0x1000 8 false) 0x2be67a4 (op (MovI 7 0x3fbc3458) 4 false ∷ op (LdPostR 7 3 0xa B32 false) 2 false
    ∷ op (Alu3 8 7 1 Mul) 0xfb false ∷ op (Alu3 0 1 5 Sub) 6 false ∷ op Nop 0 false ∷ [])) (hex 8 0x2f84156735fc033a) 5
    (card (regs 0xb1cfd49db9aade68ffff8000fffffff837c0614d000100000000ffff0019fa07
    0xffffffff00000100fffffffc0000002000000fff69020aaaffff0000b0ed7d8b) 0xfff 0x1000 2 0x80000000 0x433b0d9d 0
    (hex 12 0xa889b686ffffff7f2746a14b) [] [])
    [] by_return (reg 3 0xfffffff4 & reg 7 0x7fffffff & pc 0x2be67aa & done 2) []
    -- 47-LdPostR/break-outcome-glue-1/0
    ∷ runs (block (memory 0x3000010 6 0x3000000 0x10 true) 0x2604c2e (op (ShlI 3 0xb 0x40) 6 false ∷ op (MovI 0xc 4) 2 false
    ∷ op (LdPostR 4 0xe 0xb B16 true) 0xff true ∷ op (Mov 6 0) 6 true ∷ [])) (hex 16 0x6923c11ed3ffe450d58579e8c2ac5f56) 0xffffffff
    (card (regs 0x81e0b8d50001234500000001000000006c87a0ad2880f1b2000000002003c038
    0x8392e955ffff800030cbfc7e0000000400000020276aaf20400000c6a26f9122) 0xfffff001 0x7fff 2 0 0x9e5b4311 0 (hex 6 0xc48b0913f0a6)
    (hex 2 0x0000) (outcome 0x8000 0x80000000 (hex 6 0xc48b0913f0a6) (hex 2 0x0000)
    ∷ outcome 0x10 0xffffffff (hex 6 0xa06d51c343bc) (hex 2 0x1c56) ∷ []))
    [] by_return (reg 3 4 & reg 4 0xffff8000 & reg 12 4 & reg 14 0x400000ca & hold 1 & brk 0x80000000 & pc 0x2604d35 & done 3)
    (read 0x400000c6 2 2 ∷ [])
    -- 47-LdPostR/break-cleared/0
    ∷ runs (block (memory 0x1000 9 0xfffffff0 0x10 false) 0x34a6836 (op (Div 0 2 0xd QuoS) 0 false ∷ op (Mov 0 3) 0 false
    ∷ op (LdPostR 5 0xa 1 B16 true) 4 false ∷ op (Mov2 0xa 6 4 6) 0xff true ∷ op (Alu2I 0xa 0xa0a61670 Or) 4 false
    ∷ op (Mov2 6 0 0xd 0xa) 6 true ∷ [])) (hex 16 0xd23b6c1b72f1671b38056df6cd5f2b71) 0xffffffff
    (card (regs 0xfffffff600000000de8adfd6277ad1230000000167c0fc4600000003fffffff1
    0x00000fff1c1e280f0000106cffffffff000010003e35e1030000000316351181) 0x64a0c3c8 0xffff0000 0x4cc94c3e 1 0x350d4d53 0x103f1f75
    (hex 9 0x401c2056d9150e34ee) [] (outcome 1 0 (hex 9 0x401c2056d9150e34ee) [] ∷ []))
    (entry 0x34a1 0x34a6943 ∷ []) (by_chain 0) (reg 0 0xa0a61671 & reg 5 1 & reg 6 0x3e35e103 & reg 10 0xa0a61671 & brk 0 & pc 0x34a6943
    & done 0x103f1f7b) (read 0x106c 2 0x103f1f77 ∷ [])
    ∷ []

pub all_reach : reached cases ≡ expected cases
unfolding run ops_from op_step load direct store read_le write_le signed_of sign_extend leading_zeros
all_reach = refl
