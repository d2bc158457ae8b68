-- RAM blocks: versions, answers, what a guard's outcome gives, the limit first, where a block starts and ends: each run reaches its end.
use mathlib.Core.Bool.{true, false}
use mathlib.Core.List.{List, [], ◌∷◌}
use mathlib.Core.Path.{◌≡◌, refl}
use Rattle.block.specs.declared.Op.TheVariants.{RSub, And, AndNot, Xor, Mul, Shl, Shr, Sar}
use Rattle.block.specs.declared.RmwOp.TheVariants.{And as RmwAnd, Add as RmwAdd, Sub as RmwSub}
use Rattle.block.specs.declared.Cond.TheVariants.{Ne}
use Rattle.block.specs.declared.Base.TheVariants.{Reg}
use Rattle.block.specs.declared.Width.TheVariants.{Byte as B8, Word as B32}
use Rattle.block.specs.declared.Rk.TheVariants.{Bit as RkBit}
use Rattle.block.specs.declared.Part.TheVariants.{Byte as PartByte, Upper as PartUpper}
use Rattle.block.specs.declared.Choice.TheVariants.{MaxU}
use Rattle.block.specs.declared.UnKind.TheVariants.{Rev, Clz, SatU}
use Rattle.block.specs.declared.DivKind.TheVariants.{QuoU, RemU}
use Rattle.block.specs.declared.Fast.TheVariants.{Nop, MovI, Mov, AddRI, ShlI, SarI, Alu3, Alu3I}
use Rattle.block.specs.declared.Fast.TheVariants.{Alu2, Alu2I, A4, Ext, MinMax, Un, Div, Mov2}
use Rattle.block.specs.declared.Fast.TheVariants.{Mov2I, BitExt, BitIns, SpAdd, RFromSp, Ld, St, LdPost}
use Rattle.block.specs.declared.Fast.TheVariants.{StPost, Rmw, BrI, Call, PopPc}
use Rattle.block.specs.Block.{up_from}
use Rattle.card.specs.Card.{read, write, guard}
use Rattle.card.specs.Word.{signed_of, sign_extend, leading_zeros}
use Rattle.card.specs.Memory.{read_le, write_le, load, direct, store}
use Rattle.card.specs.Step.{op_step, pop_all}
use Rattle.card.specs.Run.{ops_from, run}
use Rattle.card_runs.specs.Case.{Case, runs, reached, expected, block, memory, op, hex, regs, card}
use Rattle.card_runs.specs.Case.{guarded, outcome, leaving, versions, entry, by_return, by_chain, reg, sp, rets, hold, brk}
use Rattle.card_runs.specs.Case.{pc, done, version, guard_version, ram, map, ◌&◌}

abbrev cases : List Case
cases =
    -- all/06-equal-0/0
    runs (guarded 0xa000000d04 (block (memory 0x4000000 8 0x4000800 9 false) 0x4000004 (op (MovI 8 0x1f) 0 true
    ∷ op (BitIns 9 5 0 0x1c) 1 false ∷ []))) (hex 9 0x6a39295b3b5a2c79ed) 0xa67d9158
    (versions 0 0xa000000d04 0 (card (regs 0x00fff000000080000000ffff00000100ed14258a1f167acd0000ffff000000ff
    0x00000020ffffffde00000013ffff8000ffffffdd000000ffffffffff1abd7fa4) 8 0xc2023445 1 0 0x7415e2c5 0 (hex 8 0x2b5c92ab27eace85) [] []))
    [] (by_chain 0) (reg 8 0x1f & reg 9 0xff167acd & pc 0x4000005 & done 2) []
    -- all/06-equal-max/0
    ∷ runs (guarded 0xa00000026e (block (memory 0x4000000 8 0x2000000 8 true) 0x4000000 (op (Un 1 0xa Rev) 2 true
    ∷ op (MovI 0xd 0xed1c064e) 2 true ∷ op (LdPost 6 3 B32 false 4) 0 false ∷ op (SpAdd 0xff) 0 false ∷ []))) (hex 8 0xfea788609821754b)
    0xffffffff
    (versions 0xffffffffffffffff 0xa00000026e 0xffffffffffffffff
    (card (regs 0xf081de2e000000080000001f040000000000ffff0000007fbddd3b4500000fff
    0x694416cd7a9c922fffff0000ffffffe22bc59cd2ffff80000000000700000003) 0xff7008e1 0xfffff000 1 0 0x682df62 0 (hex 8 0xd80e5bd1577a640d)
    (hex 2 0x0000) (leaving 1 3 (outcome 0x9e 0xffffffff (hex 8 0x58ad3842573d0298) (hex 2 0x2b5d))
    ∷ leaving 5 3 (outcome 0x51 1 (hex 8 0x143d265188052dd6) (hex 2 0xe0ea)) ∷ [])))
    [] (by_chain 0) (reg 1 0xffff & reg 3 0x4000004 & reg 6 0xd15b0ed8 & reg 13 0xed1c064e & sp 0xff7009e0 & pc 0x4000004 & done 4) []
    -- all/06-equal-asks/0
    ∷ runs (guarded 0xa00000066d (block (memory 0xfffffff4 0xc 0x30000000 9 true) 0xfffffff8 (op (St 0 (Reg 11) 0 B32) 0 true ∷ [])))
    (hex 9 0xbb74f3849fc7ea5cd9) 0xffffffff
    (versions 0x86deeb25c84a594c 0xa00000066d 0x86deeb25c84a594c
    (card (regs 0xe63fc1f80000000474f73605000010000000ffff00000002fffffffe00008000
    0x00000100fffff00000000003500000f8262aef7afffffffbffffffe9dea659b7) 0x33d7a1aa 0xfff 1 0 0xd4c5ce26 0
    (hex 12 0x3dc38932f550d015c1f456f4) (hex 3 0x010080)
    (leaving 5 5 (outcome 0x1400f39d 0 (hex 12 0x3dc38932f550d015c1785652) (hex 3 0x004080))
    ∷ leaving 1 3 (outcome 0xd7 0 (hex 12 0xdfb47eecd66d25293fadc18f) (hex 3 0xeb99f1))
    ∷ leaving 4 3 (outcome 0xeb 0xffffffff (hex 12 0x5ea3f0d0855485bf23214b52) (hex 3 0x0fae87)) ∷ [])))
    (entry 0x3ffc 0xfffffff8 ∷ []) (by_chain 0) (pc 0xfffffff8 & done 1 & version 5 & guard_version 5
    & ram (hex 12 0x3dc38932f550d015c1785652) & map (hex 3 0x004080)) (write 0x500000f8 4 0 0xe63fc1f8 ∷ [])
    -- all/06-differ-bit-0-answer-0/0
    ∷ runs (guarded 0xa0000002cf (block (memory 0 9 0x800 8 true) 1 (op (Ld 7 (Reg 10) 0 B32 false) 0 false ∷ op (Div 0xb 6 0xb QuoU) 1 true
    ∷ op (BitIns 9 0xe 2 0x21) 0 true ∷ []))) (hex 8 0x5e6ef3c1a05cf226) 0xffffffff
    (versions 0x371fbac215d36ff9 0xa0000002cf 0x371fbac215d36ff8
    (card (regs 0x9b9163f60000000398a638cb0001234500000008000123456f1cb55d210393f4
    0x00000fff0000000700000000dfbb25f100000022b06989f20001000000fff000) 0xffffffdd 7 2 0 0x4733df3f 0 (hex 9 0x39d1374df16ef28c1d)
    (hex 3 0x000000) (leaving 0x371fbac215d36ff9 0x371fbac215d36ff8 (outcome 0 0 (hex 9 0x39d1374df16ef28c1d) (hex 3 0x000000))
    ∷ leaving 6 3 (outcome 0x62 1 (hex 9 0x8eea38cbe14ac091ae) (hex 3 0x51c23c))
    ∷ leaving 2 3 (outcome 0xc5 0 (hex 9 0x146bfbb832e2195c45) (hex 3 0xc65c7b)) ∷ [])))
    [] by_return (pc 1) (guard 0xa0000002cf ∷ [])
    -- all/06-differ-bit-31-answer-1/0
    ∷ runs (guarded 0xa000000b45 (block (memory 0 0x10 0x800 8 false) 8 (op (ShlI 1 0xb 0x1f) 2 true ∷ op (BitIns 0xc 0xe 0x1f 0x10) 2 true
    ∷ []))) (hex 8 0x1f892bc524332952) 0xffffffff
    (versions 0x6294ff3142983d9f 0xa000000b45 0x6294ff31c2983d9f
    (card (regs 0x0000000100008000ffff8000ffff000000001000000001000000000b00000020
    0x000100001aaf52e400000005ffff0000000000808000000000008000ef807141) 0x7cce86c0 0x8000 2 0 0xbc445426 0
    (hex 16 0xe71ab1ee931b253e7d09e1129c2efd4c) []
    (leaving 0x2b9f98027666f1dc 0x173699ea4513489e (outcome 1 0 (hex 16 0xe79448ee931b253e7d09e1129c2efd4c) [])
    ∷ leaving 2 3 (outcome 0xe9 0 (hex 16 0xf295ce87135b2cd45905f8bdd3da6ce6) []) ∷ [])))
    (entry 6 0xc ∷ []) (by_chain 0) (reg 1 0 & pc 0xc & done 2 & version 0x2b9f98027666f1dc & guard_version 0x173699ea4513489e
    & ram (hex 16 0xe79448ee931b253e7d09e1129c2efd4c)) (guard 0xa000000b45 ∷ [])
    -- all/06-differ-bit-32-answer-0/0
    ∷ runs (guarded 0xa000000b94 (block (memory 0x1fffff4 0xc 0x8000000 8 false) 0x1fffff4 (op (Rmw 0xe B32 RmwSub 0 0x3952d97d) 0 false
    ∷ op (Alu3 0xa 2 5 And) 2 false ∷ op (SpAdd 0xe083f7f6) 0 true ∷ []))) (hex 8 0x4183f6bd9358dce0) 0xffffffff
    (versions 0x100000002 0xa000000b94 2 (card (regs 0x132d848d00000000fffffffeaaa5c25600fff0000000ffffffff0000000000ff
    0x00000014f90231f10000000000000100f1283e040000000401fffff400000001) 0x80000000 0x80000000 0 0 0xab770abb 0xfffffffc
    (hex 12 0x1b4908e8dfa99d93d87d968e) [] (leaving 0x100000002 2 (outcome 0 0 (hex 12 0x1b4931e8e2a99d93d87d968e) [])
    ∷ leaving 0 3 (outcome 0xcb 0 (hex 12 0x775d527e2431ae05f11ee289) [])
    ∷ leaving 3 3 (outcome 0xe0 0xffffffff (hex 12 0x1da08ccacc3b6e0e2710c920) []) ∷ [])))
    [] by_return (pc 0x1fffff4 & ram (hex 12 0x1b4931e8e2a99d93d87d968e)) (guard 0xa000000b94 ∷ [])
    -- all/06-differ-bit-32-answer-1/0
    ∷ runs (guarded 0xa000000864 (block (memory 0x4000000 8 0x30000000 8 true) 0x4000000 (op Nop 1 false ∷ op (Alu2I 7 0x12345 And) 0 false
    ∷ op (AddRI 4 9 0x1b819448) 0 true ∷ op (Div 5 0xf 8 RemU) 2 false ∷ []))) (hex 8 0xd78e7b22e9190dba) 4
    (versions 0x8170b5e82f30ec35 0xa000000864 0x8170b5e92f30ec35
    (card (regs 0xffffffdef8bdca15fffffffea2943e5ffffffffffffffff40000008043f0d60a
    0x0000100000000008450095057daa05310000000100000fff000000080400b9de) 0x7fff 0x8c2bbbce 0xfc17a54f 0 0xdd7eb7e4 0
    (hex 8 0xa9fb88913aa95971) (hex 2 0x0180)
    (leaving 0x15365587f3c5cd4b 0x6ebe9ad7c404329f (outcome 1 0 (hex 8 0xa9fb885a3aa95971) (hex 2 0x0101))
    ∷ leaving 7 3 (outcome 0xf3 0xffffffff (hex 8 0xb7348c080df7c6ff) (hex 2 0x3622)) ∷ [])))
    [] (by_chain 0) (reg 4 0x1b819450 & reg 5 0x9de & reg 7 0x200 & pc 0x4000003 & done 4 & version 0x15365587f3c5cd4b
    & guard_version 0x6ebe9ad7c404329f & ram (hex 8 0xa9fb885a3aa95971) & map (hex 2 0x0101)) (guard 0xa000000864 ∷ [])
    -- all/06-differ-bit-63-answer-1/0
    ∷ runs (guarded 0xa0000005d4 (block (memory 0 8 0x8000000 8 false) 4 (op (ShlI 8 0 0x21) 1 false ∷ op (ShlI 0xe 0xb 0x21) 2 false
    ∷ op (Ld 0xc (Reg 7) 0 B32 false) 1 false ∷ []))) (hex 8 0x69fba340673be69f) 3
    (versions 0x100000002 0xa0000005d4 0x8000000100000002 (card (regs 0x0092341f000000000000800091f1b2b10000001dfffff0010000000040000180
    0x19cdc75a18131ffe5427c7050000008084b0b73bf631675e083748befffffffe) 0xffff 0xfffff000 0 0 0x2ba2bf1b 0 (hex 8 0xbaed42f21108c760) []
    (leaving 5 5 (outcome 1 0 (hex 8 0xbaed42f21108c760) [])
    ∷ leaving 0x803d9b691b80fd94 0x98a42d8811333678 (outcome 0x80000000 0 (hex 8 0xbaed42f2a008c77a) []) ∷ [])))
    [] (by_chain 0) (reg 8 0x124683e & reg 12 0x80000000 & reg 14 0x100 & pc 8 & done 3 & version 0x803d9b691b80fd94
    & guard_version 0x98a42d8811333678 & ram (hex 8 0xbaed42f2a008c77a)) (guard 0xa0000005d4 ∷ read 0x40000180 4 2 ∷ [])
    -- all/06-differ-halves-answer-1/0
    ∷ runs (guarded 0xa000000f2a (block (memory 0 9 0x800 0x10 false) 4 (op (BitIns 0xd 8 0x1f 0x1f) 0 true
    ∷ op (BitExt 4 4 0xff 0x19 true) 1 true ∷ op (StPost 0xe 0xf B32 4) 1 false ∷ op (AddRI 1 0 0x7fffffff) 1 false ∷ [])))
    (hex 16 0x2eab7b417d23b96ae748a783f60788df) 0x56b316c2
    (versions 5 0xa000000f2a 0x500000000 (card (regs 0x00000007f396dce102474ad00000800000000000916288a28848a2ad923eb0c0
    0x0000001fcbed597d319c1533cb800af0ffffffea1acd72ae0e50d0000f000018) 0x7cd761d0 0xfff000 2 0 0x344b5a1d 0 (hex 9 0x57355139d3b7eaab5d)
    [] (leaving 5 0x500000000 (outcome 1 0 (hex 9 0x57355139d3b7eaab5d) [])
    ∷ leaving 5 0x500000000 (outcome 0xffffffff 0 (hex 9 0x57355139d3b7eaab5d) [])
    ∷ leaving 1 3 (outcome 0x1b 0 (hex 9 0x2a94429f274b8df2df) []) ∷ [])))
    [] (by_chain 0) (reg 1 0x80000006 & reg 13 0x9acd72ae & reg 15 0xf00001c & pc 7 & done 4) (guard 0xa000000f2a
    ∷ write 0xf000018 4 2 0xe50d000 ∷ [])
    -- all/06-answer-100/0
    ∷ runs (guarded 0xa0000000e5 (block (memory 0xfffffff4 0xc 0xfffff800 8 false) 0xfffffff8 (op (Un 0xa 5 SatU) 0 false
    ∷ op (Div 2 4 7 RemU) 0 true ∷ op (Rmw 0xb B32 RmwSub 0 0x7fff) 2 false ∷ []))) (hex 8 0x5a324e848ffab025) 0x2d5bbd4a
    (versions 5 0xa0000000e5 0x8000000000000005 (card (regs 0x00000020dddda63b4a31cccdffffffe83b8c35b30000007f00000004ffffffe8
    0x0000000800000000ffff8000fffffff400000008fffff0006f67788d4159d4d2) 0x6bc92fe5 0xfff 1 0 0xb931d5b4 0
    (hex 12 0x4d1fe4448ff157729d26b3c3) [] (leaving 5 0x8000000000000005 (outcome 0x100 0 (hex 12 0x4d1fe4448ff157729d26b3c3) [])
    ∷ leaving 2 3 (outcome 0xc7 0xffffffff (hex 12 0x81b18fdd6c9aec098bfb6ab6) [])
    ∷ leaving 0 3 (outcome 0xc5 0xffffffff (hex 12 0x4c7492e5c655259192191931) []) ∷ [])))
    [] (by_chain 0) (reg 2 0x3b8c35b3 & reg 10 0x7f & pc 0xfffffffa & done 3 & ram (hex 12 0x4e9fe3448ff157729d26b3c3)) (guard 0xa0000000e5
    ∷ [])
    -- all/06-answer-80000000/0
    ∷ runs (guarded 0xa000000c90 (block (memory 0x1000000 8 0x2000000 0xc true) 0x1000006 (op (MinMax 0xd 2 1 MaxU) 1 true ∷ [])))
    (hex 12 0x661bf36fe3361ee5cd1185d4) 0xffffffff
    (versions 0x100000002 0xa000000c90 0x8000000100000002 (card (regs 0x45c92cacffff800000010000ffffffff8b609c07ffffffd80000000300012345
    0x00fff00000000007ff4dcbfe0000ffff919fa1abaf65ad866120f59b6c744ba9) 0xffffffff 0x8b6651a9 2 0 0x627eff94 0xfffffffe
    (hex 8 0x9ce5cc57bfe7e501) (hex 2 0x0101)
    (leaving 0x100000002 0x8000000100000002 (outcome 0x80000000 0 (hex 8 0x9ce5cc57bfe76001) (hex 2 0x0000)) ∷ [])))
    (entry 3 0x1000007 ∷ []) (by_chain 0) (reg 13 0xffff8000 & pc 0x1000007 & done 0xffffffff & ram (hex 8 0x9ce5cc57bfe76001)
    & map (hex 2 0x0000)) (guard 0xa000000c90 ∷ [])
    -- all/06-answer-ffffffff/0
    ∷ runs (guarded 0xa000000cdb (block (memory 0xfffffff8 8 0x30000000 8 true) 0xfffffffc (op Nop 2 false ∷ op (Alu2I 2 1 Shr) 2 false
    ∷ op (BitExt 4 8 0x1f 0x10 true) 0 false ∷ []))) (hex 8 0x7c613840be7e5efc) 0xffffffff
    (versions 0xd8d739fc82a8d9a7 0xa000000cdb 0x58d739fc82a8d9a7
    (card (regs 0x3435381a0000001cffff8000000000800000000100001000918faf06ea89405c
    0x800000004fc1488d000000040000ffff12cba7040000000000012345fffffffe) 0xfffffff5 0xa4efc504 1 0 0x63c5f5f6 5 (hex 8 0x20fe315c8112ca2e)
    (hex 2 0x8000) (leaving 0xfbd718cfe1d0a38 0x58b2a7eaa9245568 (outcome 0xffffffff 0 (hex 8 0x20fe315c8112db2e) (hex 2 0x8000))
    ∷ leaving 5 3 (outcome 0x4f 1 (hex 8 0xb2dc48081f122dff) (hex 2 0xe462)) ∷ [])))
    (entry 0 0 ∷ []) (by_chain 0) (reg 2 0x7fffc000 & pc 0 & done 8 & version 0xfbd718cfe1d0a38 & guard_version 0x58b2a7eaa9245568
    & ram (hex 8 0x20fe315c8112db2e)) (guard 0xa000000cdb ∷ [])
    -- all/06-limit-over-differ/0
    ∷ runs (guarded 0xa00000019a (block (memory 0x4000000 8 0x4000800 8 false) 0x4000003 (op (Alu2I 6 0xfffff000 Shr) 1 true
    ∷ op (Mov 0xc 0xf) 1 false ∷ []))) (hex 8 0xf57f998e67518967) 1
    (versions 0xfffffffffffffffa 0xa00000019a 5 (card (regs 0x7fffffffcdb3a3850000000600000fff0000000129db9d4e0000010000000007
    0x00010000000000ffa0a1f359d8f40317fffff0010a6e118f9c40f45bc44a62ea) 0xff 0x44c5bef6 0 0 0x8c1e57d4 0 (hex 8 0x472d381baaabf781) []
    []))
    (entry 1 0x4000003 ∷ []) by_return (pc 0x4000003) []
    -- all/06-limit-exact-answer-0/0
    ∷ runs (guarded 0xa000000eff (block (memory 0 0x10 0x800 8 false) 0 (op (MovI 0xb 0x741f6ffb) 1 true ∷ op (RFromSp 6 0xa1b784f9) 2 true
    ∷ op (Ld 4 (Reg 15) 0 B32 false) 1 true ∷ op (Mov 2 8) 2 false ∷ []))) (hex 8 0xbe3b6dba6b927f26) 5
    (versions 0x100000002 0xa000000eff 0x100000003 (card (regs 0x0000000d00008000ff224bf90000001e6354a5f27e525ac44740df19ffffffed
    0x00fff0002124c3cd00000001693404eee54023c100000003708f018f500000fc) 0xfffff001 0xffffffef 0 0 0xec59e6eb 1
    (hex 16 0xaf878a22bfd324cddd290c1d301fd7b6) []
    (leaving 0x829d6aeb0d2fa7ee 0x99d87e869d11eeef (outcome 0 0 (hex 16 0xaf878a22bfd324cddd290c1d301fd7b6) [])
    ∷ leaving 1 3 (outcome 0x2f 1 (hex 16 0x19a846542fb31790c2eff741fee5c959) [])
    ∷ leaving 3 3 (outcome 0x54 0xffffffff (hex 16 0x015220c37ec1eb4e5ba23ceece2f2c02) []) ∷ [])))
    [] by_return (pc 0 & version 0x829d6aeb0d2fa7ee & guard_version 0x99d87e869d11eeef) (guard 0xa000000eff ∷ [])
    -- all/06-limit-exact-answer-1/0
    ∷ runs (guarded 0xa000000aef (block (memory 0x1000000 8 0x1000800 0x10 true) 0x1000003 (op (SarI 7 5 8) 2 true
    ∷ op (SpAdd 0xffffffd8) 0 false ∷ op (Alu3 6 3 0xc RSub) 2 false ∷ []))) (hex 16 0xa63cb6925ce009fcec2cbea51a09eee5) 0xad23ac62
    (versions 0xf7337e4065eca763 0xa000000aef 0xf7337e4065eca762
    (card (regs 0x00abbb6a00010000482665459eb05ddf000000025ffb8433ad02829c00000008
    0x0000ffff25d097f926dd0ba000000002000123450000001ff953733eba72fa9e) 0x836550e5 0xfff000 2 0 0xd1fcb125 0xad23ac5f
    (hex 8 0x1e3c59c44435ded7) (hex 2 0xff00)
    (leaving 0xf7337e4065eca763 0xf7337e4065eca762 (outcome 1 0 (hex 8 0x1e3c59c44435ded7) (hex 2 0xff00)) ∷ [])))
    [] (by_chain 0) (reg 6 0x6150c566 & reg 7 0x5ffb84 & sp 0x836550bd & pc 0x1000007 & done 0xad23ac62) (guard 0xa000000aef ∷ [])
    -- all/06-done-max-answer-0/0
    ∷ runs (guarded 0xa000000c25 (block (memory 0xfffffff8 8 0x30000000 8 false) 0xfffffffc (op (Ext 9 7 PartUpper true) 2 true
    ∷ op (MinMax 0xd 3 3 MaxU) 2 false ∷ op (St 0xa (Reg 5) 0 B32) 0 true ∷ []))) (hex 8 0xa8f7a2433ef9dba2) 0xffffffff
    (versions 0xcdcde52db68dc505 0xa000000c25 0x4dcde52db68dc505
    (card (regs 0x06a4cbaf79e28630cf7c18ed6884ff67fffffffefffffffcfffffffff85cc077
    0xfffffff5fbc37d67dc6121f2000080000000ffff00010000000000030000007f) 0xb2212aee 0x3dbe389c 1 0 0x59dd0740 0xfffffffc
    (hex 8 0x43be1898e55f7df2) [] (leaving 0xe684858e31740fe9 0xa718fda5b121a498 (outcome 0 0 (hex 8 0x43be1898e55f7df2) [])
    ∷ leaving 2 3 (outcome 0xbd 0 (hex 8 0x5db1441abf14fd8f) []) ∷ [])))
    [] by_return (pc 0xfffffffc & version 0xe684858e31740fe9 & guard_version 0xa718fda5b121a498) (guard 0xa000000c25 ∷ [])
    -- all/06-break-start-answer-0/0
    ∷ runs (guarded 0xa00000013f (block (memory 0x4000000 8 0x2000000 8 false) 0x4000000 (op (Ld 0xf (Reg 13) 0 B32 false) 1 true
    ∷ op (Alu2I 1 0x7f Shl) 2 false ∷ []))) (hex 8 0x115e9f99c16fb7ef) 0x1002
    (versions 0xaa2dec1f4ce46cd9 0xa00000013f 0xaa2dec1e4ce46cd9
    (card (regs 0x7c7803541d58e83f0000001900008000fffffffe0000fffffffffffe41074790
    0xd7e93bcb967fa78c33507dc200000016000100000400000000000004faab4669) 0xff 0xee9f0ede 1 0xffff0000 0xda03b864 0x1000
    (hex 8 0xc386ca6875f8892e) [] (leaving 0x16a0917b6ed951d0 0xf12c736832027ae7 (outcome 0 0 (hex 8 0xc386ca6875f8892e) [])
    ∷ leaving 6 3 (outcome 0xc6 0xffffffff (hex 8 0x53922a67d06f853b) []) ∷ leaving 7 3 (outcome 0xfe 0 (hex 8 0xc1a2a7434fd8fdcf) [])
    ∷ [])))
    [] by_return (brk 0 & pc 0x4000000 & version 0x16a0917b6ed951d0 & guard_version 0xf12c736832027ae7) (guard 0xa00000013f ∷ [])
    -- all/06-break-start-equal-glue-1/0
    ∷ runs (guarded 0xa0000008e3 (block (memory 0x20000000 0xc 0x30000000 0x10 true) 0x20000000 (op (Ld 7 (Reg 11) 0 B32 false) 0 true
    ∷ op (Alu3I 0xd 5 0x1000 Sar) 1 true ∷ op (Un 6 0xa Clz) 0 true ∷ []))) (hex 16 0x11b2d6ede0d6bf846ccda91cdfc729bb) 4
    (versions 0x79bb6a2024c95121 0xa0000008e3 0x79bb6a2024c95121
    (card (regs 0xb3802ffcffff00000000000200000000579d50320000007f00007fff6babe039
    0x12882e1600007fffffffffff20000004cb6cf7a507b57a33d10d3d3980000000) 0x13 0xdcdf9da5 2 1 0x886d9ed 1
    (hex 12 0x6020f38962884a074e6d03c8) (hex 3 0x000000)
    (leaving 3 3 (outcome 0x39 0 (hex 12 0xc4df86f77d03b31baf46e349) (hex 3 0x61851d)) ∷ [])))
    [] by_return (reg 7 0x74a8862 & hold 1 & pc 0x20000000 & done 2) []
    -- all/06-guard-breaks-answer-0/0
    ∷ runs (guarded 0xa000000ade (block (memory 0 0x10 0x2000000 8 true) 8 (op (Ld 8 (Reg 10) 0 B32 false) 1 true
    ∷ op (Div 0xd 0xe 3 RemU) 1 true ∷ []))) (hex 8 0x046295269a49b3c5) 2
    (versions 0x6bba732e62ebfdd5 0xa000000ade 0x62ebfdd56bba732e
    (card (regs 0xb85e673300000000000000006c336f3afffffffdffffffdc00fff000ffffffff
    0xe32843dd000123450000000080000000eff1d8ddfffff00033516c35fa182ff4) 0x53b3bba7 0xe47fee93 0x633c6bbd 0 0x1c9841ba 0
    (hex 16 0x2cd766724ba54805b4f11f6a67d10105) (hex 4 0x00000000)
    (leaving 5 5 (outcome 0 1 (hex 16 0x2cd766724ba54805b4f11f6a67d10105) (hex 4 0x00000000)) ∷ [])))
    [] by_return (brk 1 & pc 8 & version 5 & guard_version 5) (guard 0xa000000ade ∷ [])
    -- all/06-guard-breaks-bus-first-glue-1/0
    ∷ runs (guarded 0xa000000b33 (block (memory 0x20000000 0x10 0x2000000 8 true) 0x20000008 (op (Rmw 3 B32 RmwAnd 0 0x100) 1 true
    ∷ op (MinMax 0xe 2 5 MaxU) 0 true ∷ op (A4 0 0xc Xor RkBit 7) 2 false ∷ []))) (hex 8 0xf0932b2fb309122c) 3
    (versions 0x2fc74be1c4ed52d0 0xa000000b33 0xc4ed52d02fc74be1
    (card (regs 0xa50ec9d21f921783fffffff420000000ffff8000fffffffed4c9f4c774c78cc3
    0x130d704600000007ffffffec645190980bf32297fffff000ed03f9cf90bd8fa8) 0x16 0x4982d826 0 0 0xcb78c4f0 0
    (hex 16 0x876fcb8d414449d2b9709b64b57e7df1) (hex 4 0x00000000)
    (leaving 5 5 (outcome 0xffffffff 0xffffffff (hex 16 0x876fcb8d414449d2b9059b64b57e7df1) (hex 4 0x00000000))
    ∷ leaving 6 3 (outcome 0x92 0 (hex 16 0x4cc03718676250de6a25147fda8c0780) (hex 4 0x4f9d8200))
    ∷ leaving 3 3 (outcome 0x8a 1 (hex 16 0x34efa6e577ebac94949658498e1d5ce5) (hex 4 0x9a31bbd5)) ∷ [])))
    [] by_return (hold 1 & brk 0xffffffff & pc 0x20000009 & done 1 & version 5 & guard_version 5
    & ram (hex 16 0x00010000414449d2b9059b64b57e7df1)) (guard 0xa000000b33 ∷ [])
    -- all/06-guard-breaks-plain-first/0
    ∷ runs (guarded 0xa00000052f (block (memory 0 8 0x2000000 8 true) 0 (op (Alu3 5 0xf 4 And) 1 false ∷ op (Alu3 6 7 0xa AndNot) 1 true
    ∷ op (Ld 0xc (Reg 4) 0 B32 false) 0 true ∷ op (Mov2I 0xe 7 0x22) 0 true ∷ op (Alu2I 2 0xffff0000 AndNot) 0 true ∷ [])))
    (hex 8 0xae59e067c92fb9b7) 0xffffffff
    (versions 0xfffffffefffffffd 0xa00000052f 0x100000002 (card (regs 0x003ecfaeeadbb53b7fffffff81c6a16f0000000496f7174700000100000000ff
    0xfffff00109fc16f2ffffffff20e91c54b320ca7a0000001fffffffeb00000007) 0xffffffff 0x80000000 1 0 0x11d20b94 5 (hex 8 0x0db6cce740e59a3a)
    (hex 2 0x0000) (leaving 0xcc7f7ae7af5c63bc 0x7ba42cd15b45ec4b (outcome 1 1 (hex 8 0x0d13cce740939a3a) (hex 2 0x0100))
    ∷ leaving 6 3 (outcome 0xfa 1 (hex 8 0x6838f923cd05b97b) (hex 2 0x69ea))
    ∷ leaving 2 3 (outcome 0x8b 0 (hex 8 0xfb89ec6b64eb19da) (hex 2 0x63a8)) ∷ [])))
    (entry 1 2 ∷ []) by_return (reg 5 4 & reg 6 0 & reg 12 0x3a9a9340 & brk 1 & pc 2 & done 8 & version 0xcc7f7ae7af5c63bc
    & guard_version 0x7ba42cd15b45ec4b & ram (hex 8 0x0d13cce740939a3a) & map (hex 2 0x0100)) (guard 0xa00000052f ∷ [])
    -- all/06-guard-breaks-no-bus/0
    ∷ runs (guarded 0xa0000005bc (block (memory 0x20000000 8 0x20000800 0x10 false) 0x20000000 (op (Alu2 6 0xe AndNot) 0 true
    ∷ op (Alu3 5 5 0xe RSub) 1 false ∷ []))) (hex 16 0xf8ed22fe8ae8269be3d9cc7062c3b1f0) 2
    (versions 5 0xa0000005bc 0x80000005 (card (regs 0xfffffff700000005fffff0000000000233c4d4851b1acf7dd9d7039e00001000
    0x0000001a0000008006159095fffffffeac70dba9fffffff20000001ce8ec7cbd) 0x100 0xd56a1ed2 2 0 0x98af933f 0 (hex 8 0xbe62f5507107c452) []
    (leaving 5 5 (outcome 1 1 (hex 8 0xbe62f5e84107c452) []) ∷ [])))
    [] (by_chain 0) (reg 5 0xe4e5309f & reg 6 0xd9d70382 & brk 1 & pc 0x20000001 & done 2 & guard_version 5
    & ram (hex 8 0xbe62f5e84107c452)) (guard 0xa0000005bc ∷ [])
    -- all/06-guard-breaks-then-cleared/0
    ∷ runs (guarded 0xa000000a30 (block (memory 0x1fffff8 8 0x30000000 0x3a true) 0x1fffffc (op (Ld 7 (Reg 9) 0 B32 false) 0 true
    ∷ op (BitExt 5 0xa 0x74 1 true) 0 true ∷ [])))
    (hex 58 0x1dc6c6aad2ca27df9f948c8ae438c979ea2ecf156776289cf615c5d6f7c246384386b361130bd95af43a67accbd179e1ae0bcf38683f2e4ae629)
    0xffffffff
    (versions 0x500000000 0xa000000a30 5 (card (regs 0x0000000300000007947ce2c39c464bb1000080000c4d43088a1d8ec3b278bf84
    0x115c82c20f0000849586bea200000006000000073e5563d523bc8d002c9cafc7) 0x5e1c43c2 0xfffffff9 0 0 0xf27d6f1b 0x4c657f22
    (hex 8 0xf9808fd1a6e444af) (hex 2 0x0100) (leaving 5 5 (outcome 1 1 (hex 8 0xf9808fd1a6e444af) (hex 2 0x0100))
    ∷ leaving 0x42368d5c24ad5c2e 0x4ae81df2204f10d1 (outcome 0 0 (hex 8 0xf980afd1a6e444af) (hex 2 0x0100))
    ∷ leaving 2 3 (outcome 0x8b 0xffffffff (hex 8 0x37fb90801255948c) (hex 2 0x135d))
    ∷ leaving 6 3 (outcome 0x49 0xffffffff (hex 8 0x008edbbde8010a00) (hex 2 0x12a2)) ∷ [])))
    (entry 0x3ffe 0x1fffffc ∷ []) (by_chain 0) (reg 5 0 & reg 7 0 & pc 0x1fffffc & done 0x4c657f24 & version 0x42368d5c24ad5c2e
    & guard_version 0x4ae81df2204f10d1 & ram (hex 8 0xf980afd1a6e444af)) (guard 0xa000000a30 ∷ read 0xf000084 4 0x4c657f22 ∷ [])
    -- all/06-guard-clears-break/0
    ∷ runs (guarded 0xa000000c7e (block (memory 0xfffffff8 8 0xfffff800 9 false) 0xfffffffe (op (StPost 5 8 B32 4) 1 true
    ∷ op (SarI 0xd 0 1) 1 true ∷ []))) (hex 9 0x9413d173cc047ccd79) 2
    (versions 0xf42ed26f2e0e0db7 0xa000000c7e 0xbd12d90d1f1f248
    (card (regs 0x00000004fffff0008393f523000123456b47967a1b97039ced67b8b9000000ff
    0xfffffffc000000037f7f1acef479d819a4cf163a0000001f2443c9e233cb1c75) 0xff555c22 0x78dddc30 0 0xffffffff 0x9d994688 0
    (hex 8 0xe0ba0f4880d2982b) [] (leaving 0xf42ed26f2e0e0db7 0xbd12d90d1f1f248 (outcome 1 0 (hex 8 0xe0ba0f48b5d2982b) []) ∷ [])))
    (entry 0 0 ∷ []) (by_chain 0) (reg 8 0 & reg 13 2 & brk 0 & pc 0 & done 2 & ram (hex 8 0xe0ba0f489c03971b)) (guard 0xa000000c7e ∷ [])
    -- all/06-guard-alters-ram-answer-1/0
    ∷ runs (guarded 0xa0000003cc (block (memory 0 8 0x8000000 0x10 false) 0 (op (BitExt 0xe 0xb 0x20 0x20 true) 2 false
    ∷ op (AddRI 0xe 0xd 0xff20c37c) 0 true ∷ op (StPost 3 9 B32 4) 0 true ∷ op (LdPost 6 4 B32 false 4) 2 true
    ∷ op (Alu2I 8 0xffffffdb RSub) 0 false ∷ op (MovI 5 3) 2 true ∷ []))) (hex 16 0xcd3001abc1b3fc7b0cbe243230220179) 6
    (versions 0x100000003 0xa0000003cc 0x100000002 (card (regs 0xfffffffe6563990bffff0000dd978ca400000004000080000cd6de9b00000020
    0x000100000000000400010000000000ff4ac2bda5fffff0018000000000000003) 1 0xffff 2 0 0x87421219 0 (hex 8 0xbc18e0366ab6deca) []
    (leaving 5 5 (outcome 1 0 (hex 8 0x0829148e8c9a82d3) []) ∷ leaving 4 3 (outcome 0x53 1 (hex 8 0x6b09af478a7ca281) []) ∷ [])))
    [] (by_chain 0) (reg 4 8 & reg 5 3 & reg 6 0xdd978ca4 & reg 8 0xfffeffdb & reg 9 8 & reg 14 0xff20b37d & pc 6 & done 6 & version 5
    & guard_version 5 & ram (hex 8 0x0829148ea48c97dd)) (guard 0xa0000003cc ∷ [])
    -- all/06-guard-alters-ram-answer-0/0
    ∷ runs (guarded 0xa000000d21 (block (memory 0x4000000 8 0x4000800 8 false) 0x4000000 (op (Ld 0xc (Reg 1) 0 B32 false) 2 false
    ∷ op (SpAdd 0x28) 0 true ∷ []))) (hex 8 0xb4d35734ca14fbbf) 0xffffffff
    (versions 0x6593b74bfa678e55 0xa000000d21 0x6593b74afa678e55
    (card (regs 0x0000ffff0f00016800000006ffff000000000003aba03b760000007f00000008
    0xffffffd896112a24713a718e80000000ec4674f200012345fffffffe19f382b6) 0xffffffde 0xffffffe8 1 0 0x65d4c3a2 0xd871fea4
    (hex 8 0x12ebe075c2a69d64) [] (leaving 5 5 (outcome 0 0 (hex 8 0x8204aecd578ac17c) [])
    ∷ leaving 1 3 (outcome 0x52 1 (hex 8 0x16373a5eaa4d1e0a) []) ∷ [])))
    (entry 0 0x4000000 ∷ []) by_return (pc 0x4000000 & version 5 & guard_version 5 & ram (hex 8 0x8204aecd578ac17c)) (guard 0xa000000d21
    ∷ [])
    -- all/06-guard-sets-map/0
    ∷ runs (guarded 0xa000000345 (block (memory 0xfffffff0 0x10 0xfffff800 8 true) 0xfffffff8 (op (St 0xa (Reg 4) 0 B32) 2 false
    ∷ op (St 0xb (Reg 1) 0 B32) 1 false ∷ op (Alu2 0 0xe Mul) 2 true ∷ []))) (hex 8 0x29f116f61c234722) 3
    (versions 5 0xa000000345 0x8000000000000005 (card (regs 0xffffffdbfffffff0ffff80004c0fc3ecfffffff8ffff0000000123458cfb5635
    0x00000020fffff0019a57e3debe0c8d519822ac91000000187fffffffe928abcc) 8 0xbc097de1 1 0 0x96e40c61 0
    (hex 16 0xbc7710323c717b4a3f7da140e556f062) (hex 4 0x00000000)
    (leaving 5 0x8000000000000005 (outcome 1 0 (hex 16 0xbc7710323c717b4a3f7da140e556f062) (hex 4 0x01010101))
    ∷ leaving 5 5 (outcome 0xeb2f78e2 0 (hex 16 0xbc7710323c71274a3f7da140e556f062) (hex 4 0x01010140))
    ∷ leaving 0x89620ef190aba741 0xad841391f1f46f50 (outcome 0x80000000 0 (hex 16 0x9a7710323c9c274a3f7da140e556f062) (hex 4 0x40010140))
    ∷ leaving 3 3 (outcome 0x62 0xffffffff (hex 16 0x9d0eab2d6c5cd6247aedd9a4d4c42ea2) (hex 4 0x920e537f))
    ∷ leaving 4 3 (outcome 0x82 0xffffffff (hex 16 0x741a157cb99211b06f4644e952285d7d) (hex 4 0xe9416f18)) ∷ [])))
    [] (by_chain 0) (reg 0 0x80000025 & pc 0xfffffffd & done 3 & version 0x89620ef190aba741 & guard_version 0xad841391f1f46f50
    & ram (hex 16 0x9a7710323c9c274a3f7da140e556f062) & map (hex 4 0x40010140)) (guard 0xa000000345 ∷ write 0xfffffff8 4 0 0x9a57e3de
    ∷ write 0xfffffff0 4 1 0xbe0c8d51 ∷ [])
    -- all/06-versions-equal-afterwards-answer-0/0
    ∷ runs (guarded 0xa000000307 (block (memory 0x4000000 8 0x30000000 8 true) 0x4000000 (op (ShlI 0 0xb 0x3f) 1 true
    ∷ op (MinMax 0xf 5 0xb MaxU) 1 true ∷ []))) (hex 8 0xb419aa2d035ac8ed) 0xf1f48a0c
    (versions 0x100000005 0xa000000307 5 (card (regs 0x0000001e1926eabcd32d24770f6702d180000000a69cd32f00000fff6549147b
    0x00000007ad9bc909b221a9a3000000019a56a89600000001e8caafca00010000) 0xfffff001 0x4b8ca63c 1 0 0x91115869 5 (hex 8 0xb68b7408c0ca3791)
    (hex 2 0x8001) (leaving 4 4 (outcome 0 0 (hex 8 0xb6487408c0ca3791) (hex 2 0x8000)) ∷ [])))
    [] by_return (pc 0x4000000 & version 4 & guard_version 4 & ram (hex 8 0xb6487408c0ca3791) & map (hex 2 0x8000)) (guard 0xa000000307
    ∷ [])
    -- all/06-versions-differ-afterwards-answer-1/0
    ∷ runs (guarded 0xa0000004b7 (block (memory 0xfffffff8 8 0x30000000 8 true) 0xfffffffd (op (St 2 (Reg 14) 0 B32) 1 false
    ∷ op (SarI 0xf 2 8) 1 true ∷ op (SpAdd 0xa) 1 false ∷ []))) (hex 8 0x1e88ddd93b58ef40) 0xffffffff
    (versions 0x200000001 0xa0000004b7 0x100000002 (card (regs 0xffff8000000000ff3bc89c1f64e23cd87e27646d00000007de2d0dd572fcf4a0
    0x00012345000123451b34c9c2ae2225e900001000000000805000018c00000008) 0xffffffde 0x1000 1 0 0x586961f9 1 (hex 8 0x3fccdb9a52fe147c)
    (hex 2 0x0100) (leaving 4 5 (outcome 1 0 (hex 8 0x3f45db9a52fe147c) (hex 2 0x0100))
    ∷ leaving 0x200000001 0x100000002 (outcome 1 0 (hex 8 0x3f45db9a52fe147c) (hex 2 0x0100))
    ∷ leaving 6 3 (outcome 0x10 0 (hex 8 0xe6f3b13948854658) (hex 2 0xd733)) ∷ [])))
    [] (by_chain 0) (reg 15 0x3bc89c & sp 0xffffffe8 & pc 0 & done 4 & ram (hex 8 0x3f45db9a52fe147c)) (guard 0xa0000004b7
    ∷ write 0x5000018c 4 1 0x3bc89c1f ∷ [])
    -- all/06-later-versions/0
    ∷ runs (guarded 0xa000000e6c (block (memory 0x1000000 8 0x30000000 9 false) 0x1000000 (op (Alu3 0xc 3 1 And) 1 true
    ∷ op (Ld 2 (Reg 13) 0 B32 false) 0 true ∷ op (Rmw 0xe B32 RmwAnd 0 0x1f95b023) 2 true ∷ op (Alu3 4 0xd 7 Mul) 0 true
    ∷ op (Alu3 0 7 0 AndNot) 1 true ∷ []))) (hex 9 0x00fd706fbfe1bc8583) 0xffffffff
    (versions 0x86b7296c304cc266 0xa000000e6c 0x86b7296c304cc266
    (card (regs 0xb8bcbfb900012345218d96cc000000180000000700fff0006fe99688337aa350
    0x0000000bffffffff8b0b3452ba545c5700fff00050000014010000007b984511) 0x80000000 0xffffffe0 0 0 0x2d7cd60f 1 (hex 8 0x37223e1bf289af26)
    [] (leaving 1 2 (outcome 0x7fffffff 0 (hex 8 0x37133e1bf289af26) []) ∷ leaving 2 3 (outcome 0x5d 0 (hex 8 0x2373d03e934b0778) [])
    ∷ leaving 1 3 (outcome 0xc8 0xffffffff (hex 8 0xc2576063dab08c67) []) ∷ [])))
    [] (by_chain 0) (reg 0 0x3420040 & reg 2 0x7fffffff & reg 4 0x594c240 & reg 12 0 & pc 0x1000004 & done 6 & version 1 & guard_version 2
    & ram (hex 8 0x2310141bf289af26)) (read 0x50000014 4 2 ∷ [])
    -- all/06-home-zero/0
    ∷ runs (guarded 0xa000000e16 (block (memory 0 8 0x800 9 false) 4 (op (AddRI 8 1 0xd055989b) 2 true
    ∷ op (AddRI 0xa 0xd 0x4ecfd385) 2 true ∷ op (ShlI 0xa 0xf 0x1f) 0 false ∷ op (BitIns 0xc 9 0x64 0x20) 0 true ∷ [])))
    (hex 9 0x71381d9bf441f265cb) 0xffffffff
    (versions 0x200000001 0xa000000e16 0x100000002 (card (regs 0x000000ffffffffe07ffffffffffff000889f8ead0000000731061d7d00012345
    0x9963cdc9000123450960994d00000018226b2844000000014eef4ee4000000ff) 0x8000 0 0x8189b6db 0 0xf1d86217 0 (hex 8 0x60cb1bdfdc43204b) []
    (leaving 0x200000001 0x100000002 (outcome 1 0 (hex 8 0x60cb1bdfdc43204b) [])
    ∷ leaving 6 3 (outcome 0xc1 1 (hex 8 0x9da5407104ca2537) []) ∷ [])))
    (entry 4 8 ∷ []) (by_chain 0) (reg 8 0xd055987b & reg 10 0x80000000 & reg 12 0x123454 & pc 8 & done 4) (guard 0xa000000e16 ∷ [])
    -- all/06-start-last/0
    ∷ runs (guarded 0xa000000f38 (block (memory 0x1fffff8 8 0x30000000 8 true) 0x1ffffff (op (Rmw 4 B32 RmwAdd 0 0x7fff) 0 false
    ∷ op (Mov2I 0xe 0xb 0x7fff) 1 false ∷ []))) (hex 8 0x265622dd3473fe52) 0xffffffff
    (versions 2 0xa000000f38 0x100000002 (card (regs 0x00000080a2bb4fba0000100066938dbd50000008000001000000000700000007
    0x4a714821000000080000fffffffffffe000000000000001f0000000b935b1b8f) 0xfffff001 0x7f 0x2ba1d0eb 0 0x33abf5e3 0
    (hex 8 0x5bb2ce764c3c0cd8) (hex 2 0x8080) (leaving 2 0x100000002 (outcome 1 0 (hex 8 0x5bb2ce764c3c0cd8) (hex 2 0x8080))
    ∷ leaving 5 5 (outcome 0x7fffffff 0 (hex 8 0x5bb2ce764c3c0cd8) (hex 2 0x8080))
    ∷ leaving 2 0x100000002 (outcome 0x80000000 0 (hex 8 0x5bb2ce76893c78d8) (hex 2 0x4040))
    ∷ leaving 5 3 (outcome 0xcd 0xffffffff (hex 8 0x996a36f54a1682a7) (hex 2 0x8cb0)) ∷ [])))
    [] (by_chain 0) (reg 11 0x7fff & reg 14 0 & pc 0x2000000 & done 2 & ram (hex 8 0x5bb2ce76893c78d8) & map (hex 2 0x4040))
    (guard 0xa000000f38 ∷ read 0x50000008 4 0 ∷ write 0x50000008 4 0 0x80007ffe ∷ [])
    -- all/06-empty-equal/0
    ∷ runs (guarded 0xa000000688 (block (memory 0x20000000 8 0x2000000 8 false) 0x20000000 [])) (hex 8 0x30ad1a1ec08b9753) 0xffffffff
    (versions 0x5e75bd6afff9357e 0xa000000688 0x5e75bd6afff9357e
    (card (regs 0x00010000ffffffd8ffffffffffffffdc1ce1600b80000000d702c2dd00007fff
    0xaeeccb910000008000000007000080000000008000000003a3b80a6bffffffff) 0x100 0xffffffd8 1 0 0xb2b6dbbc 0 (hex 8 0x01e9e79475ff08eb) []
    []))
    [] (by_chain 0) (pc 0x20000000) []
    -- all/06-empty-answer-1/0
    ∷ runs (guarded 0xa000000f4f (block (memory 0x1000000 0xc 0x1000800 8 false) 0x1000000 [])) (hex 8 0x737aa5e5302646aa) 0xffffffff
    (versions 0x45327f46294b602d 0xa000000f4f 0x45327f47294b602d
    (card (regs 0x0000000400000ffff72141939bf6626c1423c3fc694b7be0fffffffe00000005
    0x4a4acf365e80cabb0000001f00000004000000807fffffff445624fbffff8000) 0x5f9d7d4b 0xff 0xb60ca89f 0 0xf3049846 0
    (hex 12 0x40749f2c9f3b6a46473a5411) [] (leaving 5 5 (outcome 1 0 (hex 12 0x40749f2c9f036a46963a5411) []) ∷ [])))
    [] (by_chain 0) (pc 0x1000000 & version 5 & guard_version 5 & ram (hex 12 0x40749f2c9f036a46963a5411)) (guard 0xa000000f4f ∷ [])
    -- all/06-ends-length-0-behind/0
    ∷ runs (guarded 0xa000000b67 (block (memory 0 4 0x30000000 4 false) 0 (op (MovI 0 0x17571e84) 4 false ∷ op (MovI 9 9) 0 false ∷ [])))
    (hex 4 0x8da56b3e) 7
    (versions 9 0xa000000b67 9 (card (regs 0x00008000ffffffe7fffff00000000100af4acdf28a7feec8b16a3a258e7eeb34
    0x0000010000000000fffff000fffffff000fff00000001000cab130feffff8000) 0xfe913855 7 0 0 0xe2c2edfd 5 (hex 4 0x4fa3ec39) [] []))
    [] (by_chain 0) (reg 0 0x17571e84 & reg 9 9 & pc 4 & done 7) []
    -- all/06-ends-at-top/0
    ∷ runs (guarded 0xa0000001da (block (memory 0xfffffff4 0xc 0x30000000 4 false) 0xfffffffc (op (MovI 0 0xf44d8889) 0 false
    ∷ op (MovI 1 0x6503855a) 3 false ∷ op (MovI 2 0x573d5654) 1 false ∷ []))) (hex 4 0xf952e2f8) 3
    (versions 9 0xa0000001da 9 (card (regs 0x0000001100007fff00fff0002b0be381b00b462c3a2508880000100000000100
    0x0000008094cc40c86438e927000000808cc06154000000803439f0f400000022) 3 0x20 0x7d36a661 0x80000000 0x90b94e33 0
    (hex 12 0xf5fb0cfbfd3dd42d3c7cbe0e) [] []))
    [] (by_chain 0) (reg 0 0xf44d8889 & reg 1 0x6503855a & reg 2 0x573d5654 & pc 0 & done 3) []
    -- all/06-ends-call-at-top/0
    ∷ runs (guarded 0xa0000003b9 (block (memory 0xfffffff8 8 0x30000000 9 true) 0xfffffffc (op (MovI 0 0x9a6fb96c) 2 false
    ∷ op (Call 0xab3d8642) 2 false ∷ []))) (hex 9 0x164b791ba0c15be38d) 7
    (versions 9 0xa0000003b9 9 (card (regs 0x50a6959a000000090000000400000080000000ffd1d98ce70000007f7fcc8335
    0xe29bf7a70ddd575880000000000000028279858494514c2d0433141c0000001f) 0xfffffff2 0x100 0 0x100 0xa2f5d40f 5 (hex 8 0xa76a0aa403c85812)
    (hex 2 0x01ff) []))
    [] (by_chain 0) (reg 0 0x9a6fb96c & rets 0 & pc 0xab3d8642 & done 7) []
    -- all/06-ends-branch-at-top/0
    ∷ runs (guarded 0xa0000009fa (block (memory 0xfffffff4 0xc 0x8000000 7 false) 0xfffffffc (op (MovI 0 0x40d0744a) 2 false
    ∷ op (BrI 0 0 Ne 0xfffffffc) 2 false ∷ []))) (hex 7 0xb453f0a940d14b) 2
    (versions 9 0xa0000009fa 9 (card (regs 0x0000001fffffffd8709b51b4ffffffedfffffffe66c9b827000000ff92039f3d
    0xd027e14f0001000000001000647f8645000000fffffff000327a327d8b91edc2) 0x100 0xef040d9d 2 0xffff0000 0xd6cc2e19 0
    (hex 12 0xdec5da3d8b858a6d2b51c354) [] []))
    (entry 0x3ffe 0xfffffffc ∷ []) (by_chain 1) (reg 0 0x40d0744a & pc 0xfffffffc & done 2) []
    -- all/06-ends-below-flash/0
    ∷ runs (guarded 0xa000000aed (block (memory 0x1fffff8 8 0x2000000 5 true) 0x1fffffc (op (MovI 0 0x41a05915) 2 false
    ∷ op (MovI 1 0x766e49bc) 2 false ∷ []))) (hex 5 0x4d44709775) 2
    (versions 9 0xa000000aed 9 (card (regs 0xfffffffe0000001c00000008c849e6368000000000000007fffff00100000000
    0x0000ffff6c63b229800000007119e04afffffff10001234500012345fffff000) 0x25 0x7f 1 0xffff0000 0xfa1f02a8 0 (hex 8 0x1bf6c24f8ee03aad)
    (hex 2 0x80ff) []))
    [] (by_chain 0) (reg 0 0x41a05915 & reg 1 0x766e49bc & pc 0x2000000 & done 2) []
    -- all/06-own-code-set/0
    ∷ runs (guarded 0xa000000188 (block (memory 0x1000000 0x10 0x8000000 7 true) 0x1000008 (op (St 3 (Reg 11) 0 B32) 2 true
    ∷ op (Ld 3 (Reg 11) 0 B32 false) 2 false ∷ op (St 0xb (Reg 11) 0 B8) 2 false ∷ []))) (hex 7 0xad57cd6ddf108a) 3
    (versions 3 0xa000000188 3 (card (regs 0x24f9132000000fff000000213d8afd64981ac60000012345dafd0a744651cb95
    0x64cd0c3a0000002700000004010000080000ffff0000007fffffffff00012345) 0x80 0xc 0x5564d913 0 0x3eff736d 0
    (hex 16 0x7e4128327089c8763d1d2b03603e7a13) (hex 4 0x01010101)
    (leaving 5 5 (outcome 0 0 (hex 16 0x7e4128327089c8763d1d2b03603e7a13) (hex 4 0x01010101))
    ∷ leaving 5 5 (outcome 0x7f 0 (hex 16 0x7e4128327089c8763d1d2b03603e7a13) (hex 4 0x01010101)) ∷ [])))
    [] (by_chain 0) (reg 3 0x32b1d3d & pc 0x100000e & done 3 & version 5 & guard_version 5) (write 0x1000008 4 0 0x3d8afd64
    ∷ write 0x1000008 1 2 0x1000008 ∷ [])
    -- all/06-flash-inside-ram-asks/0
    ∷ runs (block (memory 0x3fffff0 0xc 0x8000000 0xc false) 0x3fffff2 (op (RFromSp 9 0xffff0000) 0 true
    ∷ op (LdPost 0xb 9 B32 false 4) 1 false ∷ op (Mov 0xc 7) 2 true ∷ [])) (hex 12 0x6b309e8db0a55a6ef64aecfb) 0x1fafed4
    (card (regs 0xc497117cfffffffffffffffe00012345620285d1dc0ac6e38f47519d00000008
    0xbf689ad140000188ffffffdcdbe17c5b46dc8079aba82b666afeefa884a07caa) 0x100 0x80 0 0 0x612ae51a 0 (hex 12 0x351751e6c057dbff386fd85c) []
    (outcome 0x4fb234b9 0 (hex 12 0x351751e6c0c5dbff386fd85c) [] ∷ []))
    [] (by_chain 0) (reg 9 0xffff0104 & reg 11 0x4fb234b9 & reg 12 8 & pc 0x3fffff5 & done 3 & ram (hex 12 0x351751e6c0c5dbff386fd85c))
    (read 0xffff0100 4 1 ∷ [])
    -- 35-Call/06-in-ram/0
    ∷ runs (guarded 0xa0000002e5 (block (memory 0x4000000 0x14 0x8000000 0x14 false) 0x400000d (op (Mov2 0xc 0xa 8 0) 2 true
    ∷ op (Call 0x400000d) 2 false ∷ []))) (hex 20 0x8fa941d3c70581f574d36119631389e6da521f30) 3
    (versions 7 0xa0000002e5 7 (card (regs 0x4db611fe7fffffffe57a237c406e8ff9ffffffff0000001f0000000266fe3cc2
    0x00012345fa7b793c00008000fffff000cf83ecd000001000dc301d7a00000002) 0x4000000 0x85b1acd9 0xfd1e7cd5 0xffffffff 0x53be7b7c 1
    (hex 20 0x25f12f71071c53e7f645bf42721f26910c00b181) [] []))
    [] (by_chain 0) (reg 10 0x4db611fe & reg 12 0x12345 & rets 0x4000011 & pc 0x400000d & done 3) []
    -- 42-PopPc/06-in-ram/0
    ∷ runs (guarded 0xa000000275 (block (memory 0x20000000 0x14 0x30000000 0x14 false) 0x2000000d (op (SarI 2 0 0x3f) 1 true
    ∷ op (Ext 7 2 PartByte false) 1 true ∷ op (PopPc 2) 1 true ∷ []))) (hex 20 0x87048cc8c879770b49a68171ef135c0e7286cf3b) 0xffffffff
    (versions 0x60a53b82af772562 0xa000000275 0x60a53b82af772563
    (card (regs 0x6bb36976ffffffffb83c44980000000163dbe2aeffffffffffffffea00000018
    0xa248a0f01f440f6d00000007000123450000001300000fff0000007f202f7c6d) 0x20000000 0xfffffffe 0 0 0x2cc22310 0x1000
    (hex 20 0x3f95b173b173cb302459ef0f5b3b8b9fb54e19e4) []
    (leaving 5 5 (outcome 0xffffffff 0 (hex 20 0x3f95b173b173cb302459ef0f5b3b8b9fb54e19e4) [])
    ∷ leaving 1 3 (outcome 0xbe 0 (hex 20 0x01ad91e78e863552ae001a9ce4644c80d814fec7) [])
    ∷ leaving 7 3 (outcome 0x6a 1 (hex 20 0xe2e4e8858a32993eb89018f2b9978dfe527ff552) []) ∷ [])))
    (entry 0x2c92 0xf7247c47 ∷ []) by_return (reg 2 0x73b1953f & reg 3 0x30cb73b1 & reg 7 0 & sp 0x2000000c & pc 0xfef5924 & done 0x1003
    & version 5 & guard_version 5) (guard 0xa000000275 ∷ [])
    ∷ []

pub all_reach : reached cases ≡ expected cases
unfolding run ops_from op_step load direct store read_le write_le signed_of sign_extend leading_zeros pop_all up_from
all_reach = refl
