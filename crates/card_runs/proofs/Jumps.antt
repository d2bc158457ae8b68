-- Kinds 30 to 39: each run reaches its end.
use mathlib.Core.Bool.{true, false}
use mathlib.Core.List.{List, [], ◌∷◌, ◌++◌}
use mathlib.Core.Path.{◌≡◌, refl}
use Rattle.block.specs.declared.Op.TheVariants.{RSub, AndNot, Or, Xor, Mul, Shr}
use Rattle.block.specs.declared.Cond.TheVariants.{Eq, LtU, GtU, LeU, GeU, LtS, GtS, LeS}
use Rattle.block.specs.declared.Cond.TheVariants.{GeS}
use Rattle.block.specs.declared.Base.TheVariants.{Reg}
use Rattle.block.specs.declared.Width.TheVariants.{Word as B32}
use Rattle.block.specs.declared.Rk.TheVariants.{Reg as RkReg, Bit as RkBit}
use Rattle.block.specs.declared.Part.TheVariants.{Upper as PartUpper}
use Rattle.block.specs.declared.Choice.TheVariants.{MaxS, MaxU}
use Rattle.block.specs.declared.UnKind.TheVariants.{SatU}
use Rattle.block.specs.declared.DivKind.TheVariants.{QuoS}
use Rattle.block.specs.declared.Fast.TheVariants.{Nop, MovI, AddRI, ShlI, Alu3, Alu3I, Alu2, Alu2I}
use Rattle.block.specs.declared.Fast.TheVariants.{A4, Ext, MinMax, Un, Div, Mov2, Mov2I, BitExt}
use Rattle.block.specs.declared.Fast.TheVariants.{SpAdd, Ld, BrI, BrR, DecBr, BitBr, Goto, Call}
use Rattle.block.specs.declared.Fast.TheVariants.{Rts, GotoR, CallR, PopRet}
use Rattle.card.specs.Card.{read}
use Rattle.card.specs.Word.{signed_of, sign_extend, leading_zeros}
use Rattle.card.specs.Memory.{read_le, write_le, load, direct, store}
use Rattle.card.specs.Step.{op_step}
use Rattle.card.specs.Run.{ops_from, run}
use Rattle.card_runs.specs.Case.{Case, runs, reached, expected, block, memory, op, hex, regs, card}
use Rattle.card_runs.specs.Case.{outcome, entry, by_return, by_table, by_chain, reg, sp, rets, brk, pc, done, ram, ◌&◌}

abbrev cases : List Case
cases =
    -- 30-BrI/cond-2-not/0
    runs (block (memory 0x7ffffffc 7 0x100 0x10 false) 0x333cca8 (op (MovI 9 0xffffffff) 2 false ∷ op (BrI 9 0 LtU 0x75760696) 6 true
    ∷ [])) (hex 16 0xc2aa84cc43b2fa734abf67cd015819c1) 2
    (card (regs 0xf2b605c1c644bf7cffffffff216edcaa000001000000001f43dee0f200000007
    0xfffff00000000001099fd604aa18c3e9000000070000000010e67a1800007fff) 0xffff8000 0x14 1 0x100 0x5775d495 0 (hex 7 0x301d2c541a18b4) []
    [])
    (entry 0x2658 0x333ccb0 ∷ []) (by_chain 0) (reg 9 0xffffffff & pc 0x333ccb0 & done 2) []
    -- 30-BrI/cond-4-equal/0
    ∷ runs (block (memory 0x10000 0x3e 0x10040 6 true) 0x2000000 (op (SpAdd 0x17) 0 false ∷ op (Alu3 8 0xd 5 AndNot) 4 false
    ∷ op (BrI 3 5 LeU 0xffffffff) 0xff false ∷ [])) (hex 6 0x3c3056d6341f) 0xffffffff
    (card (regs 0x02318f580000800000000008000000050000007f0b1d983b1bc1330f00000008
    0x0000000378b3b0a48000000000001000000000040000008067e8e4685e6eeb11) 2 0xfff 1 0xffffffff 0x4d55c1e6 0xfff (hex 60
    0x3699627349d6fb0da0825cc1d04b231fa1fbac7882077e4f0cfb9c6fc257b34494c91b0d9da22b5f2d289808ea005ad13cc2dafa97c01a9d438cd4ef ++ hex 2
    0x976f) (hex 16 0x00800180800100ff0100000000010101) [])
    (entry 0x3fff 0xffffffff ∷ []) (by_chain 1) (reg 8 0x80 & sp 0x19 & pc 0xffffffff & done 0x1002) []
    -- 30-BrI/cond-6-taken/0
    ∷ runs (block (memory 0xfffffffc 4 0x1000 0x10 true) 0x3219851 (op (BrI 6 0 LtS 0x3cf6dd63) 0 true ∷ []))
    (hex 16 0x9d6a81e16dcd962af1364852aaa0e817) 0xffffffff
    (card (regs 0x0000001fd589ba6700fff0000000800000000002fffff00080000000ffffffde
    0x00012345fffff001ffffffec5e578bb3000000202f8bf19b80000000ffff0000) 0xffffffe4 0xffff8000 0 0 0x5e1de36c 1 (hex 4 0x37aa1dd4)
    (hex 1 0xff) [])
    (entry 0x2eb1 0x3cf6dd63 ∷ []) (by_chain 1) (pc 0x3cf6dd63 & done 2) []
    -- 31-BrR/cond-2-equal/0
    ∷ runs (block (memory 0 4 0x2000000 9 true) 0x3e9abe2 (op (BrR 4 0xc LtU 0xffffffff) 6 false ∷ [])) (hex 9 0x9ec056bc57367c4f70) 1
    (card (regs 0xfffffffe00000004fffffffe0000000b00000000fffffffeffffffff00000008
    0x00000fff6fa595c911cdeb110000002000000000000000ff00012345fffffffc) 0x7fff 0x3b77b578 0x231e9bf0 0xffffffff 0x64ce47d3 0
    (hex 4 0xa3d2cfa3) (hex 1 0x00) [])
    [] (by_chain 0) (pc 0x3e9abe8 & done 1) []
    -- 31-BrR/cond-3-equal/0
    ∷ runs (block (memory 0x1000000 0xc 0 8 true) 0x3ffffff (op (BrR 0xf 0 GtU 0x23d7310f) 0 true ∷ [])) (hex 8 0x29f2cc6f462197b4)
    0xffffffff
    (card (regs 0x0000000000000015fffff0010614cf5dc86febc150a62e13fffff001179f0f82
    0x1322fbcd9af2176b000100000000000300000020800000002f51b47500000000) 0xfff000 0x1f 1 0x100 0xcaeec46a 0
    (hex 12 0xbedb3098e66f4f883c321b21) (hex 3 0x008000) [])
    [] (by_chain 0) (pc 0x3ffffff & done 1) []
    -- 31-BrR/cond-5-equal/0
    ∷ runs (block (memory 0x20000000 5 0x8000000 8 false) 0x3ffffff (op (MovI 0xd 0xfff) 2 false ∷ op (BrR 7 0xd GeU 0xffffffff) 0 true
    ∷ [])) (hex 8 0xdf58b4b789b14df2) 2
    (card (regs 0xfadc7c69000000080000001ffffff001ffffffff9238dc40ffffffe000000fff
    0x3eadc2280000002000000008cf02036b00001000fffff0010000001ffffff000) 0x67261793 0xfffffffa 0xb13c4e31 0xffff0000 0x2a7a1d9c 0
    (hex 5 0x8f20171d49) [] [])
    [] (by_chain 1) (reg 13 0xfff & pc 0xffffffff & done 2) []
    -- 31-BrR/cond-6-equal/0
    ∷ runs (block (memory 0x1000000 7 0 6 true) 0x3ffffff (op (BrR 5 0xf LtS 0xffffffff) 6 true ∷ [])) (hex 6 0x289941967efe) 0xffffffff
    (card (regs 0x1619671400000027ffff000080298563bc8ec59300001000fffffffe00000001
    0x05c2dd6f0478cdec648b302f0000001f7fffffffffffffeb0000800000001000) 0x100 0xc2394427 2 0x80000000 0x2c6cb700 0
    (hex 7 0x31b8f6da23b8b9) (hex 2 0x0101) [])
    (entry 2 0x4000005 ∷ []) (by_chain 0) (pc 0x4000005 & done 1) []
    -- 31-BrR/cond-7-equal/0
    ∷ runs (block (memory 0x3000008 6 0x3000000 8 true) 0x23ab32c (op (BrR 5 6 GtS 0x5fb0d721) 4 true ∷ [])) (hex 8 0xe9ee5338aef41fba)
    0xffffffff
    (card (regs 0xf6c0b15f0000ffff6a52e8bf00012345ffffffe700000005000000050000001f
    0x0000000a7fffffff00000020cf7dde180000000300000080000000ff00000000) 0x12345 0xfffffff8 1 0 0xa6022c97 0x378b0a74
    (hex 6 0x9f2704365b13) (hex 2 0x8000) [])
    [] (by_chain 0) (pc 0x23ab330 & done 0x378b0a75) []
    -- 31-BrR/cond-8-equal/0
    ∷ runs (block (memory 0x3000004 0x2a 0x3000000 4 false) 0x3169212 (op (Alu2I 0xb 0xffffffff Or) 2 false
    ∷ op (Alu3I 0 0xa 0xfffffffe Xor) 4 false ∷ op (MovI 0 1) 4 false ∷ op (MovI 1 0) 2 false ∷ op (BrR 1 6 LeS 0x24a57be) 4 false ∷ []))
    (hex 4 0xc4976c74) 5
    (card (regs 0x259b6d323503131aa5a0931c66361c141ca06797a15611ec0000000000000100
    0xffffffed80000000000001003d8f8585fffff0000000000870a1472b00000001) 0xfffff000 0x2e3c2e72 0 0 0xb81e9e63 0
    (hex 42 0xa0186fded17c1efa3e739cf04250b92fa655a66a9362f4f8e34e8b598a9c8e6f4dd190c691ab4a92c72f) [] [])
    (entry 0x2bdf 0x24a57be ∷ []) (by_chain 1) (reg 0 1 & reg 1 0 & reg 11 0xffffffff & pc 0x24a57be & done 5) []
    -- 31-BrR/cond-9-equal/0
    ∷ runs (block (memory 0x7ffffffc 0x10 0x100 6 false) 0x3ffffff (op (MovI 8 5) 4 false ∷ op (BrR 8 2 GeS 0x21acb93) 0 false ∷ []))
    (hex 6 0xddaf311796a4) 0xffffffff
    (card (regs 0x434b30732dcab80a000000050000000300000080147931060000100000000002
    0x975cfe3e0001000000000020efd9ee69ffffffec00000007fffffffeffff0000) 0xffff0000 0x100 0xec4a6e11 0 0xf4bd6259 0
    (hex 16 0x213711b445f0c0a6eeb30735e6bb4300) [] [])
    [] (by_chain 1) (reg 8 5 & pc 0x21acb93 & done 2) []
    -- 31-BrR/break/0
    ∷ runs (block (memory 0x1000000 7 0 9 false) 0x3c486c8 (op (ShlI 1 0xd 0x40) 0xff false ∷ op (Alu2 9 4 Or) 0xb5 true
    ∷ op (A4 0xf 4 RSub RkBit 0xfffffffe) 2 false ∷ op (BrR 0xb 7 GtS 0xffffffff) 4 true ∷ [])) (hex 9 0x133977c579adf0f552) 4
    (card (regs 0xadd0db8e0000000100000007061f3962a27cb7da340b79df0000ffffffffffff
    0x0000ffff899605b200000008000000009f9689130000000476611494fffffffe) 0xe52db449 0xffffffe4 0 0xffff0000 0xf4d5d3c8 0
    (hex 7 0x314df82c459158) [] [])
    (entry 0x3fff 0xffffffff ∷ []) (by_chain 1) (reg 1 4 & reg 9 0xabfeb7fa & reg 15 0x5d934826 & pc 0xffffffff & done 4) []
    -- 32-DecBr/cond-0-equal/0
    ∷ runs (block (memory 0x10000 6 0x10008 8 true) 0x2000000 (op (MovI 7 0) 4 false ∷ op (DecBr 7 Eq 0xffffffff 0xe797dcbd) 6 false ∷ []))
    (hex 8 0xb4af111f44d487fc) 0x90bf78de
    (card (regs 0x000000000000001300000fffffffffe56a5f5923ffffffe7000100009f969db0
    0x5dcceb57000000010000100000007fff000000030000000400000007ffffffd9) 0x424f7de0 0xec42fd6f 0x66045f00 0 0xa120e497 0x90bf78dc
    (hex 6 0x91e5a8d464e1) (hex 2 0x00ff) [])
    [] (by_chain 1) (reg 7 0xffffffff & pc 0xe797dcbd & done 0x90bf78de) []
    -- 32-DecBr/from-0/0
    ∷ runs (block (memory 0x1000000 5 0 0x10 false) 0x3b69dc8 (op (DecBr 4 GtS 0 0xffffffff) 6 false ∷ []))
    (hex 16 0xff52e012c1940f6e7d9d372372025aa5) 0xffffffff
    (card (regs 0x0000000411e6478455925afb0000000400000000a6d279238edcd85b8db84134
    0xa79856557fffffff000000081e16b0ea6512910d48aacb9e00000004ffff8000) 0x12345 0xfffffffc 1 0xffffffff 0x3650aa01 0 (hex 5 0xef76ddd015)
    [] [])
    [] (by_chain 0) (reg 4 0xffffffff & pc 0x3b69dce & done 1) []
    -- 33-BitBr/register-ne-1/0
    ∷ runs (block (memory 0x1000000 6 0x2000000 0xc true) 0x2000000 (op (MovI 0xd 0x81a13231) 2 false
    ∷ op (BitBr 0xd RkReg true 0x65a5df67 0x6e37c3d6) 2 true ∷ [])) (hex 12 0xdbd5d9894378bbe51bbc5bf3) 2
    (card (regs 0x00000007fffffffefffffffffffff000769329990000ffffe0c6bcc366139753
    0xc9fa1469af0359310000001f0000ffff20c435e6745d68e25a34515e00fff000) 0x1000 0xffffffef 2 0x100 0x6693ec96 0 (hex 6 0x17c7f65fc0a7)
    (hex 2 0xff00) [])
    (entry 0x21eb 0x6e37c3d6 ∷ []) (by_chain 1) (reg 13 0x81a13231 & pc 0x6e37c3d6 & done 2) []
    -- 33-BitBr/bit-ne-0/0
    ∷ runs (block (memory 0x20000000 8 0x8000000 0x10 false) 0x3ffffff (op (Un 7 0 SatU) 2 false
    ∷ op (BitBr 0xf RkBit false 0xa 0xae4ee378) 2 false ∷ [])) (hex 16 0x057d2f68ef4203c39981d795473ed47f) 0xc7f62c84
    (card (regs 0x0000800040aacb9fc2745271fffffffe0f1e62addf8ba0485db7a295f9351b3a
    0x22073c52ffff00000000003f0000000100000100fffff000ffffffff8c3cac04) 0x7f 4 0xb6cb3153 0 0x3fc09277 1 (hex 8 0x74062d31c4c08e63) [] [])
    [] (by_chain 0) (reg 7 0x8000 & pc 0x4000003 & done 3) []
    -- 33-BitBr/bit-ne-1/0
    ∷ runs (block (memory 0x20000000 9 0x8000000 9 true) 0x3ffffff (op (MinMax 0xa 0xe 0xa MaxS) 0 true ∷ op (MovI 9 0xff) 4 false
    ∷ op (BitBr 3 RkBit true 9 0x6a43e662) 2 false ∷ [])) (hex 9 0x1713a29dee34dcea1d) 0xffffffff
    (card (regs 0x53b756ace778a4ff2da76a63fa27a0bf000000ff00007fff0001000000012345
    0x000000166ebe75da0146630ad38121431f0edce900000100239336fd00000007) 0xffffffe5 0xfff 2 0x100 0x69dcd0b0 0 (hex 9 0x4e9be70dcffb806bcd)
    (hex 3 0x010000) (outcome 0xb 1 (hex 9 0x019ac53b64b809eef5) (hex 3 0x004728) ∷ []))
    [] (by_chain 1) (reg 9 0xff & reg 10 0x239336fd & pc 0x6a43e662 & done 3) []
    -- 34-Goto/break/0
    ∷ runs (block (memory 0x3000010 7 0x3000000 0xd false) 0x2d4c412 (op (SpAdd 0xb3774cd0) 0 false ∷ op (Div 0xa 6 8 QuoS) 2 true
    ∷ op (Mov2I 5 3 0xfff000) 4 false ∷ op (Alu3 5 0xc 9 Shr) 6 true ∷ op (Goto 0x1899ae4e) 4 true ∷ []))
    (hex 13 0x5cbebeede8757ead629e36fbbf) 0xffffffff
    (card (regs 0x8bb47751ffffffdb994a8d180000800000000008000000010000ffff4b651be1
    0x00000007000000020c1846539b2e0a66fffffff000000002d05ebc7700012345) 0x1f 3 0 0xffffffff 0x3887ce82 0 (hex 7 0xea102824eda500) []
    (outcome 0x53 1 (hex 7 0x9c9bd5155168f8) [] ∷ []))
    [] (by_chain 0) (reg 3 0xfff000 & reg 5 0x3ffffffc & reg 10 0x2492 & sp 0xb3774cef & pc 0x1899ae4e & done 5) []
    -- 34-Goto/glue/0
    ∷ runs (block (memory 0x3000004 6 0x3000000 4 true) 0x289ce7b (op (Goto 0xb26f3d9e) 2 true ∷ [])) (hex 4 0xca6bf406) 0xffffffff
    (card (regs 0x0000001ffffffff76cf1ed6030e964bd000010008120ffef82c151f500012345
    0x5448e67d00000002ffffffe5684422df0000001dffffffe10000010029d78b42) 0x7f59e4cf 0xfffffffe 0xc04e84fa 0 0x90fa940f 0
    (hex 6 0xcd1258567dfc) (hex 2 0x0080) (outcome 0xee 1 (hex 6 0xe0ce8aac1844) (hex 2 0xb8fa) ∷ []))
    [] (by_chain 0) (pc 0xb26f3d9e & done 1) []
    -- 35-Call/length-255/0
    ∷ runs (block (memory 0x20000000 8 0x8000000 0xc false) 0x22a03f2 (op (Call 0xe29adb84) 0xff false ∷ []))
    (hex 12 0xe3dc5b70c3b4643841cd2f33) 0xffffffff
    (card (regs 0x101a322c000000030000000800000fffb2df5f1900000012399fa557fffffff3
    0xe2376270000080000000007f00000001ffff8000ffffffecfffffffea69f3347) 0x7fff 4 0 0xffff0000 0x20e56c9d 0xfffffffe
    (hex 8 0x113609be897a0216) [] [])
    (entry 0x2dc2 0xe29adb84 ∷ []) (by_chain 0) (rets 0x22a04f1 & pc 0xe29adb84 & done 0xffffffff) []
    -- 36-Rts/hit/0
    ∷ runs (block (memory 0x1000 8 0xfffffff8 5 false) 0x2000000 (op Rts 0 true ∷ [])) (hex 5 0xc7229b6c4f) 2
    (card (regs 0x3b1f645b18fc9d4000000001000000076f0cdeb169c2d49300000003ffff0000
    0x00000007fffffffe0001234574b7d651d1f8b6370000007fd5331f74000000ff) 0x3da410a9 0 0 0x100 0x5d907754 1 (hex 8 0x546874cff1f0fe24) []
    [])
    (entry 0 0 ∷ []) by_table (pc 0 & done 2) []
    -- 36-Rts/high/0
    ∷ runs (block (memory 0 8 0x2000000 9 false) 0x2000000 (op Rts 0xff false ∷ [])) (hex 9 0x5134c62a18ee5a62df) 1
    (card (regs 0x275c6e04fffffffec2582163a42d0e990000ffff9d71e79a01fb3325f7506058
    0xfffff000000000003ee6c96400000002000000ff1d135349321ff39800fff000) 0xfffffff2 0x1ca16d36 2 0 0xd159a3d7 0 (hex 8 0x1b17c41fcefe7a12)
    [] [])
    (entry 0x369b 0x1ca1ed36 ∷ []) by_return (pc 0x1ca16d36 & done 1) []
    -- 37-GotoR/by-Ld/0
    ∷ runs (block (memory 0x7ffffffc 0xc 0x100 8 true) 0x2dc7a10 (op (Ld 9 (Reg 10) 0 B32 false) 2 true ∷ op (GotoR 9) 4 true ∷ []))
    (hex 8 0x087666e88fdd21d2) 0xffffffff
    (card (regs 0x000000ff000100004d5827680000001b00000002aa9ba54c4bbe6fd700000001
    0x00000003000000807ffffffc082a11f48000000058011319e35daed00000ffff) 0x1000 0xfff000 2 0 0x1ebd23fe 5
    (hex 12 0xff7f00009f389550c054f0ee) (hex 3 0x800000) (outcome 0x32 0xffffffff (hex 12 0x04c09b56880435c9bd7f71e2) (hex 3 0x04793d)
    ∷ outcome 9 1 (hex 12 0x564d7fbb7d034fda96bd7f68) (hex 3 0xddfee7) ∷ []))
    (entry 0x3fff 0xffff ∷ []) by_return (reg 9 0x7fff & pc 0x7fff & done 7) []
    -- 38-CallR/hit/0
    ∷ runs (block (memory 0x1000 7 0xffffffc4 0x3b true) 0x3ffffff (op (CallR 0) 4 false ∷ []))
    (hex 59 0x7612a1cc0ad0e31f08b61471e01bbc0a758b81169fcfc690623353fc641193e25eacd1a8570bec4d83a7554da1e904e266dfd380fb70de0e6aa63e)
    0xffffffff
    (card (regs 0x02000000ffffffffa7b7ded206c816d100000028ffffffed000080000000000c
    0x00000fff000000200000ffffc3e7e4698596af420749fbf6b925c086ffffffff) 0xffff8000 0x7fffffff 1 1 0xdf864b06 0 (hex 7 0x88298b91e3a073)
    (hex 2 0xff00) [])
    (entry 0 0x2000000 ∷ []) by_table (rets 0x4000003 & pc 0x2000000 & done 1) []
    -- 39-PopRet/hit/0
    ∷ runs (block (memory 0x7ffffffc 4 0x100 0xc false) 0x2000000 (op (Ext 3 8 PartUpper true) 0x55 true ∷ op (MovI 9 0xffff8000) 0xff true
    ∷ op Nop 0xd9 true ∷ op (MovI 4 0x26) 2 true ∷ op (Alu2I 2 0x1000 Mul) 0xce false ∷ op (BitExt 0xd 0 0x1f 0x20 true) 4 true
    ∷ op (MinMax 8 0xa 8 MaxU) 0 true ∷ op (AddRI 0 7 0xfffff000) 2 true ∷ op (Mov2 7 7 9 0xa) 0 false ∷ op PopRet 4 true ∷ []))
    (hex 12 0x00000000d1f0fdae0e0f94e4) 0xffffffff
    (card (regs 0x0000008000008000ffffffff00000001000080003b1f383affffffffd8593e0c
    0x6fe586d500fff000ffffffd93539d3ca0001000093d966dcddff6b400000001f) 0x100 0x1000 0 0 0x2a31d082 0 (hex 4 0x15f49190) [] [])
    (entry 0 0 ∷ []) by_table (reg 0 0xd8592e0c & reg 2 0xfffff000 & reg 3 0x6fe5 & reg 4 0x26 & reg 7 0xffffffd9 & reg 8 0xffffffd9
    & reg 9 0xffff8000 & reg 13 0 & sp 0x104 & pc 0 & done 0xa) []
    -- 39-PopRet/answer-miss/0
    ∷ runs (block (memory 0x10000 0x3c 0x1003c 0xc false) 0x2000000 (op PopRet 2 true ∷ [])) (hex 12 0x2e5e2af447904dae52627fff) 0xd5536001
    (card (regs 0x00001000eecae86cb80fd83b0000007fffff000000000007c3d795c40b7c8e28
    0x00000fff9cb87d79000000200000000700000fffad0539e800000008094ba2cd) 0xcaf38440 0xfffffffe 2 0 0x2cb090ed 0
    (hex 60 0xc0e6cc73ed12a5acd3e2dfd184974126d81244edfefa249ee447fd10bb4504ecdd0d6c00403489ef83a562b83c1a39ec736fe5f7170a5cb1a99a64ff) []
    (outcome 0xffffffff 0 (hex 60
    0xc0e6cc73ed12a5acd3e2dfd184974126d81244edfefa249ee447fd10bb4504ecdd0d6c00363489ef83a562b83c1a39ec736fe5f7170a5cb1a99a64ff) [] ∷
    outcome 0xf9 0 (hex 60
    0xd7267abc62c8798f128164e316c81b1f8699f84e851998b206bb3045e7dcb8b85cccdd085e5ec212b84b6808953b3f05d971bbff57b2c0aeb39392e6) [] ∷
    outcome 0xd1 0xffffffff (hex 60
    0x460583711409d000229de0d16aeac89c687933c5509b8065ebb5380a89d42b19e6b36fc6dbf0ec60300bc2c5fef8af4491a954bc520421b3bb1c8cd0) [] ∷ []))
    (entry 0x3fff 0x7fffffff ∷ []) by_return (sp 0xcaf38444 & pc 0xffffffff & done 1 & ram (hex 60
    0xc0e6cc73ed12a5acd3e2dfd184974126d81244edfefa249ee447fd10bb4504ecdd0d6c00363489ef83a562b83c1a39ec736fe5f7170a5cb1a99a64ff))
    (read 0xcaf38440 4 0 ∷ [])
    -- 39-PopRet/break-start-glue-0/0
    ∷ runs (block (memory 0x20000000 0xc 0x8000000 4 false) 0x2f988d8 (op PopRet 0 false ∷ [])) (hex 4 0xa36df5e1) 1
    (card (regs 0x0000001f00000003ffffffda000080008b632a60ffff0000c53928f0904714b0
    0xffffffffea3350dd00000001ffffffe7ffff00000c76ac927a0e560ad4807295) 0x20000004 4 0x76f0a667 0x100 0x3dc7fb8c 0
    (hex 12 0x231004ac4a2e4202ee1cf0b9) [] (outcome 0xd9 1 (hex 12 0x0d974eaff96bf536db2d5929) []
    ∷ outcome 0x84 0xffffffff (hex 12 0x389d4dab70ad93df9224b821) [] ∷ []))
    (entry 0x1725 0x2422e4a ∷ []) by_return (sp 0x20000008 & pc 0x2422e4a & done 1) []
    -- 39-PopRet/break-outcome-glue-1/0
    ∷ runs (block (memory 0xfffffff4 0xc 0x1000 7 false) 0x247663b (op (SpAdd 0x80) 2 false ∷ op PopRet 4 true ∷ []))
    (hex 7 0x6c85c77a4aa265) 0xa645ce65
    (card (regs 0xb4766e5700000fff000000205c7e6af6dcdffac8ceeca436ffff0000fffffffe
    0x92943a0500012345ffffffff0000001fffff8000000000023fe0674e00000019) 0x3fffffde 0x8000 0 0 0x99f1a1b5 0
    (hex 12 0x06b55d6e3355310cdb0d8843) [] (outcome 0xc1c07a38 0xffffffff (hex 12 0x06b55d6e3355310cdb0d8843) []
    ∷ outcome 0xbf 1 (hex 12 0xb9a20fb71edc0bf12e64f408) [] ∷ []))
    (entry 0x3d1c 0xc1c07a38 ∷ []) by_return (sp 0x40000062 & brk 0xffffffff & pc 0xc1c07a38 & done 2) (read 0x4000005e 4 1 ∷ [])
    ∷ []

pub all_reach : reached cases ≡ expected cases
unfolding run ops_from op_step load direct store read_le write_le signed_of sign_extend leading_zeros
all_reach = refl
