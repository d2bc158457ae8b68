-- Kind 46: region ends, a base that is stored or the index, the code map, unaligned words, breaks: each run reaches its end.
use mathlib.Core.Bool.{true, false}
use mathlib.Core.List.{List, [], ◌∷◌, ◌++◌}
use mathlib.Core.Path.{◌≡◌, refl}
use Rattle.block.specs.declared.Op.TheVariants.{Add, Sub, And, AndNot, Mul, Shr, Sar}
use Rattle.block.specs.declared.Cond.TheVariants.{Ne, GtU, GeU}
use Rattle.block.specs.declared.Amount.TheVariants.{Reg as ByReg, Inc as ByInc}
use Rattle.block.specs.declared.Width.TheVariants.{Byte as B8, Half as B16, Word as B32}
use Rattle.block.specs.declared.Rk.TheVariants.{Bit as RkBit}
use Rattle.block.specs.declared.Part.TheVariants.{Byte as PartByte, Upper as PartUpper}
use Rattle.block.specs.declared.UnKind.TheVariants.{Rev}
use Rattle.block.specs.declared.DivKind.TheVariants.{RemU}
use Rattle.block.specs.declared.Fast.TheVariants.{Nop, MovI, Mov, AddRI, ShlI, SarI, Alu3, Alu3I}
use Rattle.block.specs.declared.Fast.TheVariants.{Alu2, Alu2I, A4, Ext, Un, Div, Mov2, Mov2I}
use Rattle.block.specs.declared.Fast.TheVariants.{BitExt, RFromSp, BrI, BrR, Goto, Rts, CallR, StPre}
use Rattle.card.specs.Card.{write}
use Rattle.card.specs.Word.{signed_of, sign_extend, leading_zeros}
use Rattle.card.specs.Memory.{read_le, write_le, load, direct, store}
use Rattle.card.specs.Step.{op_step}
use Rattle.card.specs.Run.{ops_from, run}
use Rattle.card_runs.specs.Case.{Case, runs, reached, expected, block, memory, op, hex, regs, card}
use Rattle.card_runs.specs.Case.{outcome, entry, by_return, by_chain, reg, rets, brk, pc, done, ram, map, ◌&◌}

abbrev cases : List Case
cases =
    -- 46-StPre/ram-first/0
    runs (block (memory 0xfffffff4 0xc 0x1000 0xc false) 0x2000000 (op (Alu3I 0xc 0xd 0x7fff Shr) 0 false
    ∷ op (StPre 4 6 (ByInc 1) B16) 4 true ∷ [])) (hex 12 0x38ab2a71f96bae6eee1bf49b) 3
    (card (regs 0xffffffffb19a34da65cbd4e37ffffffffd88c1af00012345fffffff30b98f2a5
    0x00000fff00001000fffffffe000000010000ffff856d9de60000000f80000000) 8 1 0xa89ded4 0 0xc8274751 1 (hex 12 0xa0fd6f5d24cbb2d1ce57412d)
    [] (outcome 4 0 (hex 12 0x4fcafaa445ad2ff3b0ea76ea) [] ∷ outcome 0xe7 1 (hex 12 0x03adecc2425dddc20b178fb2) [] ∷ []))
    (entry 2 0x2000004 ∷ []) (by_chain 0) (reg 6 0xfffffff4 & reg 12 1 & pc 0x2000004 & done 3 & ram (hex 12 0xafc16f5d24cbb2d1ce57412d))
    []
    -- 46-StPre/ram-last/0
    ∷ runs (block (memory 0xfffffff4 9 0x1000 0x36 true) 0x2b2d866 (op (Alu3I 9 0xa 0xfff Add) 6 true ∷ op (MovI 3 0x420b4c63) 2 false
    ∷ op (StPre 3 1 (ByReg 8) B32) 6 false ∷ []))
    (hex 54 0x51967a9acb37972e5e82353ac74f61a7548324ed5ee728784a65393e1d70655feb465fbedcf109ef8d6cf93069bb7cd15fbf89b38395) 3
    (card (regs 0x00000004fffffff9d4a025d3fffff001938ef2ab00012345ff7ac76d1a533bfd
    0x00000000ffffffff00fff00063c588a9fa7e9851bf4a62840000001500000080) 0 0xf45af9a8 2 0 0xf5b1ba69 0 (hex 9 0x780ba13cf7159fd973)
    (hex 3 0x000000) (outcome 0xffffffff 0 (hex 9 0x780ba13cf7159fd973) (hex 3 0x000000)
    ∷ outcome 0x2c 0 (hex 9 0xcaa854d6adde304268) (hex 3 0x541889) ∷ outcome 0xaa 0xffffffff (hex 9 0x206511a619b386d62d) (hex 3 0xa66ccf)
    ∷ []))
    [] (by_chain 0) (reg 3 0x420b4c63 & reg 9 0xffffff & pc 0x2b2d874 & done 3) (write 0xfffffff9 4 2 0x420b4c63 ∷ [])
    -- 46-StPre/ram-over/0
    ∷ runs (block (memory 0x20000000 6 0x8000000 6 true) 0x2000000 (op Nop 4 false ∷ op (MovI 0xb 0xdba62b56) 4 false
    ∷ op (StPre 0xb 0xf (ByInc 4) B16) 2 false ∷ op (SarI 0xa 9 0x90) 6 false ∷ op (Mov 8 0xd) 0xf5 false ∷ [])) (hex 6 0x18be4ce277bd) 6
    (card (regs 0x07f5c634000000fffffff000000000ff000123450000001f0000000800000007
    0x000000014d0293447066fe160000000000000008ffffffeb0001234520000001) 3 0x314fa9c 1 0 0x98f20c58 1 (hex 6 0xef110d80d1f4) (hex 2 0x0000)
    (outcome 0x8000 0 (hex 6 0xef110d80d1f4) (hex 2 0x0000) ∷ []))
    (entry 0x82 0x2000105 ∷ []) (by_chain 0) (reg 8 0xffffffeb & reg 10 0x4d02 & reg 11 0xdba62b56 & reg 15 0x20000005 & pc 0x2000105
    & done 6) (write 0x20000005 2 3 0xdba62b56 ∷ [])
    -- 46-StPre/xip-first/0
    ∷ runs (block (memory 0x10000 4 0x10004 8 true) 0x267b173 (op Nop 0xff true ∷ op (Un 9 0xb Rev) 2 false ∷ op (MovI 0xf 0x10000) 4 false
    ∷ op (StPre 1 0xf (ByReg 0xa) B32) 0 false ∷ op (Goto 0xfff000) 4 false ∷ [])) (hex 8 0x77cccbaf8aadb4e1) 0xffffffff
    (card (regs 0x00012345cb1dd236b954d027457dfc0700000020000000000000007f80000000
    0xffff8000eb3e1921000000048000000000000004fffffffc0000000800012345) 0x80 0x4ff0b7ed 1 0 0xc4235e8d 0 (hex 4 0x4bb9ebda) (hex 1 0x80)
    (outcome 0x7fffffff 0 (hex 4 0x4bb9ebda) (hex 1 0x80) ∷ outcome 0xde 0xffffffff (hex 4 0x01a0f757) (hex 1 0x2d)
    ∷ outcome 1 1 (hex 4 0x15415e93) (hex 1 0x37) ∷ []))
    (entry 0x3800 0xfff000 ∷ []) (by_chain 0) (reg 9 0x80 & reg 15 0x10004 & pc 0xfff000 & done 5) (write 0x10004 4 3 0xcb1dd236 ∷ [])
    -- 46-StPre/top-ram/0
    ∷ runs (block (memory 0xfffffff8 8 0 4 false) 0x2312148 (op (MovI 0xf 0xbf6ce9c8) 2 false
    ∷ op (StPre 5 0xf (ByInc 0x40931637) B8) 4 true ∷ op (BitExt 7 4 0x21 8 true) 0 false ∷ op Nop 0x60 false
    ∷ op (BrI 0xd 0xe4ecad5c GeU 0x231214a) 6 false ∷ [])) (hex 4 0xc61c7808) 5
    (card (regs 0x6935991e00008000fffffffffffffffe00000100882aea9015bb9e4600000007
    0x94c97604f4c8baee000080000001000000000008fffffffc0c6ba1c100007fff) 0x80000000 0xdff25299 1 0 0x98cbba0 0 (hex 8 0x905bfaffab660d54)
    [] (outcome 0x11 0 (hex 8 0x143858823d8e31b9) [] ∷ []))
    (entry 0x10a5 0x231214a ∷ []) (by_chain 1) (reg 7 0xffffff80 & reg 15 0xffffffff & pc 0x231214a & done 5
    & ram (hex 8 0x905bfaffab660d90)) []
    -- 46-StPre/s=b-ram/0
    ∷ runs (block (memory 0xfffffff4 0xc 0x1000 8 true) 0x3ffffff (op (StPre 0xe 0xe (ByInc 1) B32) 2 true ∷ op (CallR 0xf) 0x26 true ∷ []))
    (hex 8 0x800abb4c035b86cc) 0xffffffff
    (card (regs 0xef3c87060000001f000000000000800000000008800000002a31b6b3fffffff0
    0x3732c6160000000c289dcfc90000007f000000034239116bfffffffb80000000) 0xfff 0x49c284af 0x976550a 0 0x8a019c9a 0
    (hex 12 0x300c3f41516e6ae7f11dc3f5) (hex 3 0x008000) (outcome 0x48 0xffffffff (hex 12 0x5ef75b1e985264d7489907c1) (hex 3 0x9c1c04)
    ∷ []))
    (entry 0 0x93c4a6e3 ∷ []) by_return (reg 14 0xfffffffc & rets 0x4000027 & pc 0x80000000 & done 2
    & ram (hex 12 0x300c3f41516e6ae7fcffffff)) []
    -- 46-StPre/s=b-outside/0
    ∷ runs (block (memory 0x20000000 0xc 0x8000000 0x34 false) 0x2000000 (op (MovI 9 0x78407bae) 6 true ∷ op (MovI 4 0x80000000) 0x34 false
    ∷ op (Mov 8 0xd) 2 true ∷ op (Mov 0xf 2) 0x81 true ∷ op (Alu2 3 3 Sub) 0 false ∷ op (BitExt 8 0xa 0 0xff true) 6 false
    ∷ op (Ext 4 0xf PartUpper false) 4 false ∷ op (Alu3 0xc 4 0 Sub) 0xff false ∷ op (StPre 5 5 (ByReg 2) B16) 2 false ∷ []))
    (hex 52 0x6573f946322403f152a73f1071a5c6ad0a0cf057838a8582106003da9cf95dcc6562343fd02620dc081ff33fd971227520fc19d5) 0xffffffff
    (card (regs 0xafb4764c00000004fffffffc57a6153e00fff00007ffff848000000000fff000
    0x7fffffff33161ad93291d8b100007fffffff800000012345c9151b9833d66aa2) 0x23c44b38 0xfd3124fd 0xa3031cb 0 0x2d2c4614 0
    (hex 12 0xc7afead7260051f05e6275b7) [] (outcome 0xffff 0 (hex 12 0xc7afead7262551f05e624db7) []
    ∷ outcome 0xbf 0xffffffff (hex 12 0x0d34df6a76d942a41b6b2168) [] ∷ outcome 0xd8 1 (hex 12 0x93f1c94865161ca208e69b7e) [] ∷ []))
    (entry 0xe4 0x20001c8 ∷ []) (by_chain 0) (reg 3 0 & reg 4 0xffff & reg 5 0x7ffff80 & reg 8 0x3291d8b1 & reg 9 0x78407bae
    & reg 12 0x504c89b3 & reg 15 0xfffffffc & pc 0x20001c8 & done 9 & ram (hex 12 0xc7afead7262551f05e624db7))
    (write 0x7ffff80 2 8 0x7ffff80 ∷ [])
    -- 46-StPre/s=i-ram/0
    ∷ runs (block (memory 0x3000004 0xc 0x3000000 4 true) 0x3ffffff (op (StPre 4 0 (ByReg 4) B8) 2 false ∷ [])) (hex 4 0x07ec903a)
    0x99d4bdd8
    (card (regs 0xf4b0220b0cd8cfc100000001fffffffe0e4fddfdffffffe500fff0006796249e
    0x000001000e399b9554944a94fffffffe000000170000007f00007fff00010000) 3 0xffffffee 1 0 0x169a1260 0 (hex 12 0x0db749a3861175219bee88af)
    (hex 3 0x010001) (outcome 0xa4 0 (hex 12 0xd7a9775180e6ce052e4fddb9) (hex 3 0x73ee3b) ∷ []))
    [] (by_chain 0) (reg 0 0x3000008 & pc 0x4000001 & done 1 & ram (hex 12 0x0db749a3fd1175219bee88af)) []
    -- 46-StPre/s=i-outside/0
    ∷ runs (block (memory 0x1000 0x21 0xfffffffc 4 true) 0x3ffffff (op (Ext 1 0xa PartByte false) 4 true ∷ op (Alu3I 0xb 0xb 4 And) 4 true
    ∷ op (MovI 0xf 0xcb13e14c) 4 false ∷ op (StPre 0xd 0xf (ByReg 0xd) B8) 0xff false ∷ [])) (hex 4 0xffbd25b4) 0x7399cff9
    (card (regs 0x000000fffffffffcffff8000000000080000007f000080000000000200008000
    0xabd855c20000000400008000e3d8ae28ffffffdccb448b60000000080000001f) 0xff 0x2cae844c 0xef0ffb32 0 0x117d607b 0
    (hex 33 0xf718d76a7d4835991dad71b5d541c084fadcd27b5b412610c73b5029bacbae0098) (hex 9 0x800080000180010001)
    (outcome 0x24 0 (hex 33 0xf718d76a7d4835941dad71b5d541c084fadcd27b5b412610cf3b5029bacbae0098) (hex 9 0x800080004080010000)
    ∷ outcome 0xd9 1 (hex 33 0x30aa18357c0d508467b8e5491bbafcacbe9780e3974bdf93c4601e0b7a22c5516a) (hex 9 0xf4eb4a0be3c3b70dad)
    ∷ outcome 0xf1 0 (hex 33 0x4ae8cced9200d6e73af2384be79007731976c783929f1354fc6006a5f5747fca84) (hex 9 0x59e74fc1ace859cccd) ∷ []))
    [] (by_chain 0) (reg 1 0 & reg 11 0 & reg 15 0x96586cac & pc 0x400010a & done 4
    & ram (hex 33 0xf718d76a7d4835941dad71b5d541c084fadcd27b5b412610cf3b5029bacbae0098) & map (hex 9 0x800080004080010000))
    (write 0x96586cac 1 3 0xcb448b60 ∷ [])
    -- 46-StPre/b=i-ram/0
    ∷ runs (block (memory 0xfffffff4 0xc 0x1000 0xa false) 0x28951c7 (op (StPre 7 0xd (ByReg 0xd) B8) 2 false ∷ []))
    (hex 10 0x83a3a971ef3838f94999) 2
    (card (regs 0x0000000352efde149b84a3730e0f2a3c000000000000000230d96f6f298045ba
    0x000000ffb4b6e268819d248a00000080000000047ffffffc65db723564bbd808) 4 0x8000 0 0 0x9879c633 1 (hex 12 0xea993a0e31d27214cb8f5d75) []
    [])
    (entry 0x28e4 0x28951c9 ∷ []) (by_chain 0) (reg 13 0xfffffff8 & pc 0x28951c9 & done 2 & ram (hex 12 0xea993a0ebad27214cb8f5d75)) []
    -- 46-StPre/all-ram/0
    ∷ runs (block (memory 0xfffffff4 0xc 0x1000 0x28 false) 0x2000000 (op (StPre 0xc 0xc (ByReg 0xc) B16) 4 true ∷ []))
    (hex 40 0x35822114d02319c995d1f08d2e0a55b49fc95d23261786835386a8774009f532ce01f97124ed8133) 0xba41a68c
    (card (regs 0x00000006fffffff200012345000080007a7033b3ffff800045b9dc6200000001
    0x00000002fffff001fffffff900000001fffffffcfffff0010000008000008000) 0xa469af6c 0x5ed64922 0 0 0xaf549b6a 0
    (hex 12 0x6dfd1a2593eec3d97b8d03b5) [] (outcome 0xd6 0xffffffff (hex 12 0x3d14ee6a30fee65d8f61cba9) []
    ∷ outcome 0x15 1 (hex 12 0xe54215c6aa5cb4db5af7d943) [] ∷ []))
    (entry 2 0x2000004 ∷ []) (by_chain 0) (reg 12 0xfffffff8 & pc 0x2000004 & done 1 & ram (hex 12 0x6dfd1a25f8ffc3d97b8d03b5)) []
    -- 46-StPre/all-outside/0
    ∷ runs (block (memory 0 0x40 0x2000000 0xc true) 0x31f3852 (op (MovI 1 0xa000002c) 2 false ∷ op (StPre 1 1 (ByReg 1) B16) 2 true ∷ []))
    (hex 12 0x121df8d4a2996718ed974c75) 7
    (card (regs 0x828c140f80000000ffffffe1000010007ebd7e3fce31e7bf00010000fffffffa
    0x12f1d030270ce98e0000ffff0000000ce73cc62428bb37f50261c020fffff001) 0x6d6ff8d6 0x3e37f903 1 0 0x5bcb5aa9 5 (hex 60
    0x94f6ce21f6b9d5c8d4cd7cf379318d4d82a8b2fcc04531aacb7f7b89f5577833ba6f86fd646f6849823311010f78e2f82a4e1eefba18d13dd4c7f1c3 ++ hex 4
    0x8c5a58d4) (hex 16 0x01018001018080010180008080800101) (outcome 1 0 (hex 60
    0x94f6ce21f6b9d5c8d4cd7cf379318d4d82a8b2fcc04531aacb7f7b89f5577833ba6f86fd646f6849823311010f78e2f82a4e1eefba18d13dd4c7f1c3 ++ hex 4
    0x8c5a58d4) (hex 16 0x01018001018080010180008080800101) ∷ outcome 0xa7 0xffffffff (hex 60
    0x92b4f3458701c740324adf0e9d91aed80bde3867201933f9326317ae1e9c1e4c420e3e0d6ce19b9a7ac3aac70d5acf308c9148cace466b7bac6810bb ++ hex 4
    0xa2c1b6c5) (hex 16 0xa0c1b353e8e965e5d3b2c0f50fab4dda) ∷ outcome 0x62 0xffffffff (hex 60
    0x3481a48084d709f70ab2874523d581a0f0350b4c9aba56255321ca97cdb7dc1e9b7a6dcfdd1144a2051f6742b4cccd784e455d65363bd51e22e9ce11 ++ hex 4
    0xee42d0d1) (hex 16 0xc7d757a5cb1e525dbea30d9e7ca082cf) ∷ []))
    [] (by_chain 0) (reg 1 0x40000058 & pc 0x31f3856 & done 7) (write 0x40000058 2 6 0x40000058 ∷ [])
    -- 46-StPre/i-16/0
    ∷ runs (block (memory 0x7ffffffc 0xa 0x100 0x1c true) 0x3ffffff (op (Alu2 0xc 3 Mul) 2 true ∷ op (RFromSp 0xb 2) 0 true
    ∷ op (Mov2I 0xa 0xf 4) 4 false ∷ op (ShlI 3 6 0x1f) 2 false ∷ op (A4 0xa 8 Add RkBit 0x80) 0 true
    ∷ op (RFromSp 0xa 0xfb51e444) 4 false ∷ op (Alu3 0xe 0xb 0xc Sar) 0 false ∷ op (Div 5 7 0 RemU) 4 false
    ∷ op (Mov2I 7 5 0x4c4d2b24) 4 false ∷ op (Alu2I 4 0x80000000 AndNot) 4 false ∷ op (Div 0xa 0xf 0 RemU) 0 true
    ∷ op (MovI 5 0x7f) 0xff false ∷ op (Alu3 0xf 5 1 Add) 4 true ∷ op (BitExt 4 0xd 0x10 0x45 false) 2 false
    ∷ op (A4 3 4 Sub RkBit 0xfff) 0xb4 true ∷ op (Alu3I 8 0xe 0xffff Add) 2 true ∷ op (ShlI 1 8 8) 0x74 true
    ∷ op (StPre 0xd 6 (ByInc 0xfffffffc) B8) 4 false ∷ [])) (hex 28 0xd9470849f79d476a8f523ee45b99a8ca9dff4cf9c7d29f9b8f077eaf) 0x12
    (card (regs 0xffffffef000000800001234500fff000fffff0017fffffff00000104ffffffff
    0x74200ed500007fff00010000000100008de4432adaa730800000008000000000) 0x100 0xe 1 0 0xc8ff8008 0 (hex 10 0xb19ce92e7b8c4d339cd1)
    (hex 3 0x800180) (outcome 0x80 0 (hex 10 0xb19ce92e7b8c4d339cd1) (hex 3 0x800180) ∷ []))
    [] (by_chain 0) (reg 1 0x1010100 & reg 3 0x80000007 & reg 4 7 & reg 5 0x7f & reg 6 0x100 & reg 7 0 & reg 8 0x10101 & reg 10 4
    & reg 11 0x102 & reg 12 0xe5cd6000 & reg 14 0x102 & reg 15 0xff & pc 0x400024a & done 0x12) (write 0x100 1 0x11 0xdaa73080 ∷ [])
    -- 46-StPre/i-32/0
    ∷ runs (block (memory 0x20000000 0xc 0x8000000 0x10 false) 0x3ffffff (op (StPre 7 4 (ByInc 0) B16) 4 false
    ∷ op (Alu3 0xd 0xc 0xd Sar) 2 false ∷ [])) (hex 16 0xc22908beb0ceeb9d31a000d9fe75401c) 0xffffffff
    (card (regs 0xd2013766b35d9c5e00000007d637549e200000040000007f000000022b3124cb
    0xf1b78e4300000008ffff0000e25bfaef00000003310a5397fffffffea2362c60) 0x6ae43d95 0x10000 0 0 0x5018c32d 0
    (hex 12 0xd2014b25f29b06ecbf14469d) [] (outcome 0xbc 1 (hex 12 0x2910f2c2ae9804112007c85b) [] ∷ []))
    (entry 2 0x4000005 ∷ []) (by_chain 0) (reg 13 0 & pc 0x4000005 & done 2 & ram (hex 12 0xd2014b25cb2406ecbf14469d)) []
    -- 46-StPre/inc-1000/0
    ∷ runs (block (memory 0x10000 8 0x10008 8 true) 0x2000000 (op (StPre 0xe 4 (ByInc 0x1000) B8) 2 true ∷ [])) (hex 8 0x04a75e63c5f3e48f)
    0x4ea70634
    (card (regs 0x0000001f95654e25cd120d5508afe0a10000f008dccab47138b61ab79d63bdcf
    0xfc8555e90000001cfffff00000007fffffffffff3fbca54b1417752cff3144f4) 0x1f 0xfffff001 0 0 0xaf1bd0c5 0xfff (hex 8 0x5274e97f304280e5)
    (hex 2 0x0100) (outcome 1 0 (hex 8 0x5274e97f304280e5) (hex 2 0x0100) ∷ []))
    (entry 1 0x2000002 ∷ []) (by_chain 0) (reg 4 0x10008 & pc 0x2000002 & done 0x1000) (write 0x10008 1 0xfff 0x1417752c ∷ [])
    -- 46-StPre/inc-12345678/0
    ∷ runs (block (memory 0x10000 6 0x10008 5 true) 0x3ffffff (op (MovI 3 0xf59be8ee) 4 false
    ∷ op (StPre 3 0xa (ByInc 0x12345678) B32) 2 true ∷ [])) (hex 5 0x1bc1cf99ed) 2
    (card (regs 0x0001234504037886093610727fffffff00012345fffffffb00000fff70d0f11d
    0x8000000072ae9acbedcca988ffff8000ffff0000616d8ce93b3680bce1f8e4c7) 0xfffffffe 0x1f 1 0 0x28110f22 0 (hex 6 0xf0fdaa5649a5)
    (hex 2 0x0000) (outcome 0x87 1 (hex 6 0x48891d19804d) (hex 2 0xf106) ∷ outcome 0x53 0 (hex 6 0x4dd48e2b0d78) (hex 2 0xac8a) ∷ []))
    (entry 2 0x4000005 ∷ []) (by_chain 0) (reg 3 0xf59be8ee & reg 10 0x10000 & pc 0x4000005 & done 2 & ram (hex 6 0xeee89bf549a5)) []
    -- 46-StPre/odd-word/0
    ∷ runs (block (memory 0x1000 8 0xfffffff8 6 false) 0x31346ce (op (StPre 0xa 0xe (ByReg 2) B32) 0 false ∷ [])) (hex 6 0xceae3c15fb76)
    0x1001
    (card (regs 0x0000000b00000fff00000000000000033816734805f72f64c98c1637ed29dc90
    0x02149ec9fffffffe09a3e9b00000007f21e72fde0000000f00001003fffff001) 0x2c6fc00f 0x19 0x8f3d33c 0 0x7f10c63d 0x1000
    (hex 8 0x6f2fa3edcf65312c) [] (outcome 0xc3 0xffffffff (hex 8 0xe206299622b957b4) []
    ∷ outcome 9 0xffffffff (hex 8 0xd81405a081861e13) [] ∷ []))
    (entry 0x2367 0x31346ce ∷ []) (by_chain 0) (pc 0x31346ce & done 0x1001 & ram (hex 8 0x6f2fa3b0e9a3092c)) []
    -- 46-StPre/odd-half/0
    ∷ runs (block (memory 0x7ffffffc 0x19 0x100 0x10 true) 0x242af16 (op (MovI 1 0xa2632879) 2 false
    ∷ op (StPre 1 0xa (ByInc 0x81) B16) 2 true ∷ op (BrI 0xf 0xfff GtU 0xfffffffd) 4 true ∷ []))
    (hex 16 0xcfe8d4ad8a1c0a56e6694ca07881a29f) 0x4325c200
    (card (regs 0x01544f920000000e0000000007fb1015ffffffe900000001fffffff1000000ff
    0x45b631b1000010007fffff7cfffffffe0000800084b217dafffff00100000002) 0xe70c73ec 0xffff 1 0 0x84b19daa 0x4325c1fd
    (hex 25 0x3bb3bb06c4922b3a2ff1b8c2531033ba6a143c4a4f731a8ef7) (hex 7 0x00018001000180)
    (outcome 0x1828 0 (hex 25 0x3bb3bb06c4922b3a2ff1b8c2531033ba6a143c4a4f271a8ef7) (hex 7 0x00018001400180)
    ∷ outcome 0x31 0 (hex 25 0x98286ae333bb2c83e39220f395190ff4b04bf186e7625bac63) (hex 7 0x8ccba177afe3db)
    ∷ outcome 0x46 1 (hex 25 0x605ea61cb16d9bfcd97a24e3d0372562cadd7f05970c59580b) (hex 7 0x2cbd59cde738ac) ∷ []))
    (entry 0x178f 0x242af1e ∷ []) (by_chain 0) (reg 1 0xa2632879 & reg 10 0x7ffffffd & pc 0x242af1e & done 0x4325c200
    & ram (hex 25 0x3bb3bb06c4922b3a2ff1b8c2531033ba6a143c4a4f271a8ef7) & map (hex 7 0x00018001400180))
    (write 0x7ffffffd 2 0x4325c1fe 0xa2632879 ∷ [])
    -- 46-StPre/flag-0-at-1-clear/0
    ∷ runs (block (memory 0x1000 0xd 0xfffffff8 5 false) 0x2278f6b (op (StPre 2 9 (ByReg 0xd) B32) 4 true ∷ [])) (hex 5 0x787ef04b0c)
    0xffffffff
    (card (regs 0xfffffff6d1e955c5668a0e9700000020be4f4d2f00001000b2e9fa717fffffff
    0xfffffffe0000100939be6db40000001a00000008fffffffc8274c0a600000007) 0xd9e1ad80 0xe8cd29a 0 0 0xe38b1aca 0
    (hex 13 0x02082116f8ef602e05293b2eb2) [] (outcome 0x4d 0xffffffff (hex 13 0xf491f728bb9ef2eae3e3e5c3bb) []
    ∷ outcome 0xd7 1 (hex 13 0xed5d2db32e6c27b427fdad368b) [] ∷ []))
    (entry 0x7b7 0x2278f6f ∷ []) (by_chain 0) (reg 9 0x1005 & pc 0x2278f6f & done 1 & ram (hex 13 0x02082116f8970e8a66293b2eb2)) []
    -- 46-StPre/flag-0-at-2-next/0
    ∷ runs (block (memory 0x10000 0x10 0x10010 0x1e false) 0x25b5f06 (op (MovI 1 0) 2 false ∷ op (MovI 9 0x87ab38a) 2 false
    ∷ op (StPre 9 0xc (ByReg 1) B32) 0 false ∷ op (SarI 0xb 0xf 0x21) 0x4a false ∷ []))
    (hex 30 0x8e67be77536a2d42f7de99f831b30ecf488568f736cb53bf35e1e819a83b) 0xffffffff
    (card (regs 0x7fffffff96c68b995e9b9cfe117cecc0210b111500001000ffffffff72924686
    0xf0093a098f3890d1800000007e6c2faa0001000a00000020fffffffe80000000) 8 0xffffffdd 0x1503986a 0 0x13d00052 5
    (hex 16 0x8f0c4fea359a86b4d0a7adebc6e5eda7) [] (outcome 2 1 (hex 16 0x7ec0f437daafcc9e2b8041f0cf9cd949) [] ∷ []))
    [] (by_chain 0) (reg 1 0 & reg 9 0x87ab38a & reg 11 0xc0000000 & pc 0x25b5f54 & done 9
    & ram (hex 16 0x8f0c4fea359a86b4d0a78ab37a08eda7)) []
    -- 46-StPre/flag-1-at-0-clear/0
    ∷ runs (block (memory 0x7ffffffc 0xd 0x100 6 true) 0x3c3dae3 (op (Alu3I 5 5 0xfffffffe Sub) 4 true ∷ op (MovI 0xc 0x7fffffff) 4 false
    ∷ op (StPre 4 0xc (ByReg 3) B32) 4 true ∷ [])) (hex 6 0x56f72cb3492f) 0xffffffff
    (card (regs 0xffffffeb462d9ee4fffff00100000001c6c7226dffff00007fffffff00001000
    0x7fffffff2f2c4f00fffff0018d328d3300012345000000040000000300000002) 0x7fff 0xfffff000 0x24d83050 0 0x656e6371 0
    (hex 13 0xf0765dd57efbe60fddb59f82eb) (hex 4 0x00000000) [])
    (entry 0x2d77 0x3c3daef ∷ []) (by_chain 0) (reg 5 0xffff0002 & reg 12 0x80000000 & pc 0x3c3daef & done 3
    & ram (hex 13 0xf0765dd56d22c7c6ddb59f82eb)) []
    -- 46-StPre/flag-1-at-0-own/0
    ∷ runs (block (memory 0 0xd 0x2000000 9 true) 0x28aae3f (op (StPre 3 5 (ByInc 0xfffffffc) B32) 4 true ∷ op (MovI 0xf 0xffffffff) 6 false
    ∷ [])) (hex 9 0x831ad6431c71ac819b) 0xffffffff
    (card (regs 0x00001000fffff0000000001f981226000000000700000004ffff800000007fff
    0xfffffff800000001d6036c8700fff00000008000000000010000000439ecfcc3) 0x956f786c 0x90242bce 0 0 0xcd145833 0
    (hex 13 0xf46a044cc0d8da43071591029d) (hex 4 0x01000000)
    (outcome 0x3e913478 0 (hex 13 0xf46a0473c0d8da43071591029d) (hex 4 0x01400000) ∷ []))
    (entry 0x1724 0x28aae49 ∷ []) (by_chain 0) (reg 5 0 & reg 15 0xffffffff & pc 0x28aae49 & done 2
    & ram (hex 13 0xf46a0473c0d8da43071591029d) & map (hex 4 0x01400000)) (write 0 4 0 0x98122600 ∷ [])
    -- 46-StPre/flag-1-at-0-next/0
    ∷ runs (block (memory 0x7ffffffc 0xd 0x100 5 true) 0x31df014 (op (StPre 2 0xb (ByInc 4) B32) 2 true ∷ op Rts 4 false ∷ []))
    (hex 5 0x608f091a17) 2
    (card (regs 0x9cc62b8b00000080d5f98eb1ce8590656379ea9200007fff0000000ce582565f
    0x0000800000fff000b0542bd17ffffff800012345ffffffe700007fff00001000) 0xfffff000 0x3f224648 0 0 0x9464dbc0 0
    (hex 13 0x04ad2eac7382628005d3966e0a) (hex 4 0x00010000) (outcome 0xed 0 (hex 13 0xbdae41db7b9039e0eb07b2eb1e) (hex 4 0x0fd5694e)
    ∷ outcome 0xdf 0xffffffff (hex 13 0xb1b93e30f554333f8b1000677c) (hex 4 0xe881cb79) ∷ []))
    (entry 0x2324 0x3f224649 ∷ []) by_return (reg 11 0x7ffffffc & pc 0x3f224648 & done 2 & ram (hex 13 0xb18ef9d57382628005d3966e0a)) []
    -- 46-StPre/flag-1-at-1-clear/0
    ∷ runs (block (memory 0x3000008 0xd 0x3000000 7 true) 0x2e066c4 (op (Ext 7 0xf PartUpper false) 2 true ∷ op (MovI 4 0x2ff000c) 4 false
    ∷ op (StPre 9 4 (ByReg 0xb) B32) 4 false ∷ op (BrR 5 8 Ne 0xe4914e79) 2 true ∷ [])) (hex 7 0xc36da4bc259868) 4
    (card (regs 0x000000ff46029151c14ca0db54d94e1bee003b32000000047fffffff6639c2c9
    0xffff0000acdb8bc800000025000100010001000000000fff7618901eb0cbc2f1) 0xf1799f7c 0xdf2b7cf2 0x7710ed2a 0 0x4ebee810 0
    (hex 13 0xbf8ac208125034c6773f620d77) (hex 4 0x00000000)
    (outcome 0xffffffff 0 (hex 13 0xbf8acc08125034c6773f620d77) (hex 4 0x00000000)
    ∷ outcome 0x13 1 (hex 13 0x9ff8b7f6cb1f06f3e61465831d) (hex 4 0xa1e4b4c6)
    ∷ outcome 0x5d 1 (hex 13 0xaebbe5ff4657b8147b2835ec68) (hex 4 0x4a9fc9ac) ∷ []))
    [] (by_chain 1) (reg 4 0x300000d & reg 7 0xb0cb & pc 0xe4914e79 & done 4 & ram (hex 13 0xbf8acc08125034c6773f620d77))
    (write 0x300000d 4 2 0xacdb8bc8 ∷ [])
    -- 46-StPre/flag-1-at-2-next/0
    ∷ runs (block (memory 0x10000 0x10 0x10010 6 true) 0x30e1423 (op (StPre 8 0xd (ByReg 0xb) B32) 0xff false ∷ op (Alu3 5 3 0xd Mul) 6 true
    ∷ op (Mov2 9 0xd 0 0xc) 2 true ∷ op (Goto 0x2000000) 2 true ∷ [])) (hex 6 0xcbe12e8e1874) 0xffffffff
    (card (regs 0x4299feb8000000020000002000000004fffffffef36ae8c5a367944b0000001a
    0x445781b99e76359a63165bc2ffffffff0000ffff000100030000000800000fff) 0x8899eadd 0x11da9385 0 0 0x932a6024 0xfffffffb
    (hex 16 0x167a8f55dfa5a8372ea7a66860afa346) (hex 4 0x00010000)
    (outcome 0x681c2f12 0 (hex 16 0x167a8f55dfa5a8372ea7a66860afa346) (hex 4 0x00010000)
    ∷ outcome 0x2e 1 (hex 16 0x02ad9b55263d62e5212d003911208836) (hex 4 0x38f5342b)
    ∷ outcome 0xf7 0xffffffff (hex 16 0x2b2d11bf7fbc52c28d21e97f839c7624) (hex 4 0x9cdb8d8b) ∷ []))
    (entry 0 0x2000000 ∷ []) (by_chain 0) (reg 5 0x40008 & reg 9 0x4299feb8 & reg 13 0xffff & pc 0x2000000 & done 0xffffffff)
    (write 0x10002 4 0xfffffffb 0x445781b9 ∷ [])
    -- 46-StPre/flag-1-at-3-clear/0
    ∷ runs (block (memory 0x1000 0xd 0xfffffff8 5 true) 0x2f0d562 (op (StPre 0xb 4 (ByReg 0xa) B32) 0 true ∷ op (SarI 8 0 0x1f) 0x79 true
    ∷ op (Alu2I 4 0xbc2f6aef Mul) 4 false ∷ [])) (hex 5 0xb6ac587e1b) 0xffffffff
    (card (regs 0x00001000fffffffe79eee31dffff000000000fff00000000d649848b00000004
    0x520fc640829fcd1e00000004f20bfaceffffffe974616221fffffffffc70f174) 0x80000000 0x10000 1 0 0x8e20d0c5 0xfffffffc
    (hex 13 0xe17986afa4c631db49a2868015) (hex 4 0x00000000)
    (outcome 0xdaccaf5a 0 (hex 13 0xe17986afa4c631db49a2868015) (hex 4 0x00000000) ∷ []))
    [] (by_chain 0) (reg 4 0x2b3d30cd & reg 8 0 & pc 0x2f0d5df & done 0xffffffff) (write 0x1003 4 0xfffffffc 0xf20bface ∷ [])
    -- 46-StPre/break-start-glue-0/0
    ∷ runs (block (memory 0x1000 0xc 0xfffffffc 4 false) 0x2a67c9c (op (MovI 8 0x91086381) 2 false ∷ op (StPre 8 0xa (ByReg 5) B16) 2 false
    ∷ op (RFromSp 6 0x1c) 2 false ∷ op (A4 3 2 Add RkBit 0x21) 2 true ∷ op (AddRI 0xb 0xb 0) 2 true ∷ [])) (hex 4 0xc159aaaa) 5
    (card (regs 0xad5038670000000300000004000100000001234500000001800000008df3f682
    0x8afc909effffffe900001007000100005400eaeeec45fcfae062fbab00fff000) 0x3202162f 0xb3d3f31a 0x3a720d6 0x80000000 0x7313570b 0
    (hex 12 0x2b799e7fc34177c9a781232b) [] (outcome 0xad 0xffffffff (hex 12 0x0bf836b31057b9cc7e93d958) [] ∷ []))
    [] by_return (reg 8 0x91086381 & reg 10 0x1008 & pc 0x2a67ca0 & done 2 & ram (hex 12 0x2b799e7fc34177c98163232b)) []
    -- 46-StPre/break-outcome-glue-1/0
    ∷ runs (block (memory 0x1000 0x10 0xfffffff8 5 true) 0x2000000 (op (StPre 3 6 (ByInc 0xffffffff) B16) 4 true
    ∷ op (Alu3 3 0xd 0xc Sar) 2 false ∷ [])) (hex 5 0xd5381c3bf6) 2
    (card (regs 0x5ab42600fffffffefffffffea7d81b48566c17e7f9ab391640000023ffff0000
    0x00000001f99bf5950000000301d8705a00fff0007e69e0e38000000027fd0fdc) 0xffff 2 1 0 0xdbc2f2d8 0
    (hex 16 0x2ada6f3adcff84fb224e143062624c31) (hex 4 0x80008001)
    (outcome 0xffff 0xffff0000 (hex 16 0x2ada6f3adcff84fb224e143062624c31) (hex 4 0x80008001)
    ∷ outcome 0x3f 1 (hex 16 0xa067ea2191d83047e0bbb79cbebeb69b) (hex 4 0x259bef3d)
    ∷ outcome 0xaf 1 (hex 16 0x653a176e95d73720ea054a4b82bb5f42) (hex 4 0xb4fa5bb0) ∷ []))
    [] by_return (reg 6 0x40000022 & brk 0xffff0000 & pc 0x2000004 & done 1) (write 0x40000022 2 0 0xa7d81b48 ∷ [])
    -- 46-StPre/break-cleared/0
    ∷ runs (block (memory 0x20000000 4 0x8000000 8 true) 0x3a20554 (op (MovI 5 0x40000038) 4 false
    ∷ op (StPre 8 5 (ByInc 0xfffffffc) B16) 4 true ∷ op (Div 0xd 9 0xf RemU) 4 false ∷ [])) (hex 8 0xdc54269665284081) 0xffffffff
    (card (regs 0xfc88463400007fff410b63da000000ff39e5e30000007fffffffffe400000006
    0xc8b64bc400000fff0000007f00008000fffff00100001000fffffffffffff001) 2 0x80000000 2 0xffffffff 0x3b96f618 0 (hex 4 0x687fd397)
    (hex 1 0x01) (outcome 0x241e 0 (hex 4 0x687fd397) (hex 1 0x01) ∷ outcome 0x47 0xffffffff (hex 4 0xe79bef43) (hex 1 0x80) ∷ []))
    (entry 0x2b0 0x3a20560 ∷ []) (by_chain 0) (reg 5 0x40000034 & reg 13 0xfff & brk 0 & pc 0x3a20560 & done 3)
    (write 0x40000034 2 1 0xc8b64bc4 ∷ [])
    ∷ []

pub all_reach : reached cases ≡ expected cases
unfolding run ops_from op_step load direct store read_le write_le signed_of sign_extend leading_zeros
all_reach = refl
