-- Kinds 0 to 10: each run reaches its end.
use mathlib.Core.Bool.{true, false}
use mathlib.Core.List.{List, [], ◌∷◌}
use mathlib.Core.Path.{◌≡◌, refl}
use Rattle.block.specs.declared.Op.TheVariants.{Add, Sub, RSub, And, AndNot, Or, Xor, Shl}
use Rattle.block.specs.declared.Op.TheVariants.{Shr, Sar}
use Rattle.block.specs.declared.Rk.TheVariants.{Reg as RkReg, Imm as RkImm, Bit as RkBit}
use Rattle.block.specs.declared.Choice.TheVariants.{MaxS, MaxU}
use Rattle.block.specs.declared.UnKind.TheVariants.{Not, SatU}
use Rattle.block.specs.declared.Fast.TheVariants.{Nop, MovI, Mov, AddRI, ShlI, SarI, Alu3, Alu3I}
use Rattle.block.specs.declared.Fast.TheVariants.{Alu2, Alu2I, A4, MinMax, Un, Mov2, Mov2I, BitIns}
use Rattle.block.specs.declared.Fast.TheVariants.{SpAdd, RFromSp, BitBr, Goto}
use Rattle.card.specs.Word.{signed_of, sign_extend, leading_zeros}
use Rattle.card.specs.Memory.{read_le, write_le, load, direct, store}
use Rattle.card.specs.Step.{op_step}
use Rattle.card.specs.Run.{ops_from, run}
use Rattle.card_runs.specs.Case.{Case, runs, reached, expected, block, memory, op, hex, regs, card}
use Rattle.card_runs.specs.Case.{outcome, entry, by_chain, reg, sp, pc, done, ◌&◌}

abbrev cases : List Case
cases =
    -- 0-Nop/length-255/0
    runs (block (memory 0x10000 0xc 0x1000c 4 true) 0x3ffffff (op Nop 0xff false ∷ [])) (hex 4 0x636e5177) 1
    (card (regs 0xa5abb8cb00000001b63026b5800000000000100000000fffcd53757d3a97285f
    0x0000001f00000080ae424e1affff80000000001f0000000700000004c0415c9a) 0xfff 0xff 2 0 0xa9acbcda 0 (hex 12 0x5f4c9349a934e37372a52439)
    (hex 3 0x800100) [])
    [] (by_chain 0) (pc 0x40000fe & done 1) []
    -- 1-MovI/v-ffff0000/0
    ∷ runs (block (memory 0x20000000 0xc 0x8000000 4 true) 0x3ffffff (op (MovI 1 0xffff0000) 2 false ∷ [])) (hex 4 0xa52550a2) 0xa530f326
    (card (regs 0x0000000404fb76c6fffffff200000008ffff0000eb1260e1d8808d3d374e1bb0
    0x0000ffff000000030000007f00000004fffffffefffffffa03a3485a2d8351e6) 0xfff000 0xfffff000 0 1 0x9daa902 5
    (hex 12 0xd856e3cd8bdff7373f325572) (hex 3 0x00ff00) (outcome 0x43 1 (hex 12 0x1e19aee168be5154ae986de3) (hex 3 0x259830) ∷ []))
    (entry 0 0x4000001 ∷ []) (by_chain 0) (reg 1 0xffff0000 & pc 0x4000001 & done 6) []
    -- 2-Mov/swap/0
    ∷ runs (block (memory 0x7ffffffc 9 0x100 6 true) 0x3ffffff (op (Mov 0xd 0xc) 2 false ∷ op (Mov 0xc 0xb) 2 false
    ∷ op (Mov 0xb 0xd) 2 false ∷ [])) (hex 6 0xe65f0f48a7e6) 3
    (card (regs 0x589aac3f00008000fe2f514e5c6b6ebf50a7571ffffff000862130f5600a9835
    0x000001002a36d3ff0267c4a200008000ffff80000000008000010000bd97defc) 0xfff 0x7f 0 0 0xcf211fef 0 (hex 9 0x80cb59daa2b9abcc45)
    (hex 3 0x008080) [])
    [] (by_chain 0) (reg 11 0xffff8000 & reg 12 0x8000 & reg 13 0xffff8000 & pc 0x4000005 & done 3) []
    -- 3-AddRI/carry/0
    ∷ runs (block (memory 0x1000000 6 0 7 true) 0x3ffffff (op (Un 0 0xc SatU) 2 true ∷ op (MovI 0xa 0x80) 4 false
    ∷ op (AddRI 0xa 0xc 0xffffffff) 2 true ∷ [])) (hex 7 0xb80ce53b73c914) 0xffffffff
    (card (regs 0x00007fff793f211200000001ffffffff80000000fffffffb0000002780000000
    0xa6c5fc7c0001000000012345ffff800000000000ebc45088000000ff8d3cae0e) 0x20 0x1747397d 0 0xffff0000 0x4240a7fa 0x1000
    (hex 6 0x25c1c3a29b1d) (hex 2 0x0101) (outcome 0xff 1 (hex 6 0xb5c625fc0482) (hex 2 0xa1c2) ∷ []))
    (entry 3 0x4000007 ∷ []) (by_chain 0) (reg 0 0 & reg 10 0xffffffff & pc 0x4000007 & done 0x1003) []
    -- 4-ShlI/n-21/0
    ∷ runs (block (memory 0x7ffffffc 8 0x100 6 true) 0x3082df0 (op (ShlI 7 8 0x21) 0xff false ∷ [])) (hex 6 0xb4668aa81179) 0xffffffff
    (card (regs 0x20de70e90000000004c5e836000000084433fb7892c33fa9020c6c987fffffff
    0xc000000344c8a830e0659155925f4de5fffffffe0000001fffffffff00000007) 8 0x80 1 0 0x96978df2 0 (hex 8 0x5709ef7e1ee127b4) (hex 2 0xff01)
    [])
    [] (by_chain 0) (reg 7 0x80000006 & pc 0x3082eef & done 1) []
    -- 5-SarI/n-40/0
    ∷ runs (block (memory 0xfffffffc 4 0x1000 8 false) 0x2000000 (op (MovI 6 0x80000000) 6 true ∷ op (Un 6 3 Not) 4 false
    ∷ op (SarI 4 0xd 0x40) 2 false ∷ op (ShlI 9 0xa 0x1f) 6 false ∷ [])) (hex 8 0x92ab29a8425a25a3) 0x5ece1b3a
    (card (regs 0x778623950000001f8000000027753aad229a055d0000000200fff00012ef6238
    0x9de66bf8fffffffef9b1c4edc0c236380000001f41c2e49b00000004fffffffd) 0x8c150b7 0x389ada6d 0x636009da 0 0x8cc2ef88 0x5ece1b36
    (hex 4 0xb89816c3) [] (outcome 0xd6 0 (hex 4 0x999bfefc) [] ∷ []))
    [] (by_chain 0) (reg 4 0x41c2e49b & reg 6 0xd88ac552 & reg 9 0x80000000 & pc 0x2000012 & done 0x5ece1b3a) []
    -- 5-SarI/of-80000000/0
    ∷ runs (block (memory 0x1000000 4 0 5 true) 0x3ffffff (op (AddRI 0xa 9 0x100) 4 false ∷ op (Mov 1 0) 0 false
    ∷ op (SarI 0xb 2 0xf5) 4 true ∷ op (Goto 0xfff) 6 true ∷ [])) (hex 5 0x3b51a50c63) 0xffffffff
    (card (regs 0x000000ffffffffe98000000000000019f3639e098bf5c2a411e1be0c80000000
    0x000123459bdddec0ffffffe5fda27788ffff000010cced2078052e8800000001) 0xfffffffe 0xfffff001 0x69c6b4a0 0xffff0000 0x7a96959a 0xfba62985
    (hex 4 0xb95d8817) (hex 1 0x00) [])
    [] (by_chain 0) (reg 1 0xff & reg 10 0x9bdddfc0 & reg 11 0xfffffc00 & pc 0xfff & done 0xfba62989) []
    -- 6-Alu3/op-2/0
    ∷ runs (block (memory 0x3000008 0x10 0x3000000 8 false) 0x32c0e4a (op (Alu3 6 4 0xa RSub) 6 false ∷ [])) (hex 8 0xfc6fbae65fed4663)
    0xffffffff
    (card (regs 0x01221df6134d6171302b1234b533f7bb00000001cf088493b40e0ac300fff000
    0x0000000200000100000000002ae7b17cfffff000000010000000001f00000008) 3 0x24 0 1 0x9e570a55 0xfffffffe
    (hex 16 0x0803ddcf6094ffcff5267fa0d1052343) [] [])
    [] (by_chain 0) (reg 6 0xffffffff & pc 0x32c0e50 & done 0xffffffff) []
    -- 6-Alu3/op-6/0
    ∷ runs (block (memory 0x300000c 8 0x3000000 9 true) 0x3ffffff (op (Alu3 5 5 0xe Add) 2 false ∷ op (SpAdd 0xfffff001) 4 true
    ∷ op Nop 0xff true ∷ op (RFromSp 1 0x1000) 2 false ∷ op (Alu3 0xb 8 8 Shr) 2 true ∷ op (Mov2I 0xc 2 0x11) 0xb3 false
    ∷ op (A4 1 0xc Or RkBit 0x67cb0b3d) 2 false ∷ op (MinMax 6 0xf 2 MaxU) 4 false ∷ op (SarI 1 0xf 0x40) 4 true
    ∷ op (Alu3 7 3 0xe Xor) 4 true ∷ [])) (hex 9 0x1e873a185636a4d52c) 0xffffffff
    (card (regs 0x00000002581b4f0f01e6879bffffffff0000001f00000010e361e927fffffffe
    0x00000000e11e40a3fffff00100000002ffffffff0000008000008000fffffff2) 7 0x10000 2 0x80000000 0x17dbcab1 5 (hex 8 0x0a15e05632108b2a)
    (hex 2 0xff00) [])
    (entry 0xe4 0x40001c9 ∷ []) (by_chain 0) (reg 1 0xfffffff2 & reg 2 0x11 & reg 5 0x8010 & reg 6 0xfffffff2 & reg 7 0xffff7fff & reg 11 0
    & reg 12 0 & sp 0xfffff008 & pc 0x40001c9 & done 0xf) []
    -- 6-Alu3/op-10/0
    ∷ runs (block (memory 0xfffffff0 0x10 0x1000 0x10 true) 0x392e49e (op (A4 0xd 0xd And RkImm 0xf) 6 true ∷ op (Alu3 9 5 0xa Sar) 2 false
    ∷ op (BitIns 0xd 0xd 1 0x1f) 6 true ∷ [])) (hex 16 0x6093cac309805fffce5ce0198408c755) 4
    (card (regs 0x71b671d77ffffffff82a3c76fffffff080000000a3d770910000100089683030
    0x0000001fd3eeacf3000000ff000000010000000fe969825b29a2614200000000) 0x100 0xff 0 0 0x4a3981fc 1
    (hex 16 0x5bf8639edba95cba65c3437f0843756e) (hex 4 0x00808000) [])
    (entry 0x3256 0x392e4ac ∷ []) (by_chain 0) (reg 9 0xffffffff & reg 13 0x17 & pc 0x392e4ac & done 4) []
    -- 7-Alu3I/op-4/0
    ∷ runs (block (memory 0x3000004 0x10 0x3000000 4 false) 0x3ffffff (op (Alu3I 9 5 0x7fffffff AndNot) 2 true ∷ op (Mov2 1 3 0xf 4) 6 false
    ∷ op (BitBr 1 RkBit true 0x1cb32151 0xffffffff) 2 true ∷ [])) (hex 4 0x8dd3458d) 0xffffffff
    (card (regs 0xffff000000fff0000d45bd6f70c40fcd000000005e7e3ca3000000000000001f
    0x7fffffff9bd8cbfcffff8000d0aa7866fffff000b90a96ca7fffffff7fffffff) 8 0x981cead2 2 0x80000000 0x592fed66 0
    (hex 16 0xcaf4c420fe0e31a372d0c61084b6cb7b) [] (outcome 0x98 1 (hex 16 0xaef6947ebb1cf9edd64840c95d1fdb7f) [] ∷ []))
    (entry 4 0x4000009 ∷ []) (by_chain 0) (reg 1 0x7fffffff & reg 3 0 & reg 9 0 & pc 0x4000009 & done 3) []
    -- 8-Alu2/d=b-shift/0
    ∷ runs (block (memory 0x7ffffffc 0x10 0x100 0xe false) 0x27b5ac6 (op (Alu2 0xf 0xf Shl) 4 false ∷ op (BitIns 0xc 4 2 0x1f) 0 true
    ∷ op (MinMax 7 0xf 2 MaxS) 4 false ∷ [])) (hex 14 0xe7fc48a1ac4feb045d780bc9cae0) 0xb440ce7f
    (card (regs 0x90116e890000000400fff00000000020a3e239b800000004ffffffef00000021
    0xf5ac54737fffffff0a158b84b2042b1b01acb2c8800000000cdf7b7c35974ff6) 0xffffffee 0xffffffef 2 0x100 0x3ef3477b 0
    (hex 16 0xe2199e9037415c14d2c7f7498c69a76e) [] [])
    [] (by_chain 0) (reg 7 0xfff000 & reg 12 0x8f88e6e0 & reg 15 0xfd800000 & pc 0x27b5ace & done 3) []
    -- 9-Alu2I/sub-edge/0
    ∷ runs (block (memory 0xfffffff8 5 0x1000 6 false) 0x2000000 (op (Alu2I 0xf 1 Sub) 0 true ∷ [])) (hex 6 0xaa916344ac79) 0xc6ee2c2e
    (card (regs 0x096b6de9f3104cf70000007f5c358fa800012345ffffffe8823c3150ffffffd9
    0x61e3d90201b45baeffffffee00000026514261e70000002008dbf12c00000001) 0xfffff000 0x4dfac11c 0 0xffff0000 0x76214511 0
    (hex 5 0x668be1cded) [] (outcome 0xd0 1 (hex 5 0x0cded23cac) [] ∷ []))
    [] (by_chain 0) (reg 15 0 & pc 0x2000000 & done 1) []
    -- 10-A4/op-2/0
    ∷ runs (block (memory 0x7ffffffc 9 0x100 4 true) 0x2000000 (op (MovI 0xa 0x3c5f3a7) 2 false
    ∷ op (A4 0xa 0xc RSub RkReg 0x78780866) 0xff false ∷ [])) (hex 4 0xc71ea179) 3
    (card (regs 0x0000000700000ffffffffffeffffffffffffffff000000048000000000012345
    0xf1239d7e0000000200000000d33f9ce4ffffffffbeae0fdedac5873a0000000f) 0x80 0x7fffffff 0 0xffff0000 0x6d72d457 1
    (hex 9 0xeae9ee3277a44dbcfe) (hex 3 0x80ff00) [])
    [] (by_chain 0) (reg 10 0x80000001 & pc 0x2000101 & done 3) []
    -- 10-A4/bit-above/0
    ∷ runs (block (memory 0x3000008 0x14 0x3000000 7 true) 0x2209cbd (op (MovI 0xc 0x96485f40) 2 false
    ∷ op (A4 0xc 8 Sub RkBit 0xfffffff3) 0 false ∷ [])) (hex 7 0x40a54e3c8f8635) 2
    (card (regs 0x00fff0000000001f000123458000000000000000000000040001234500000100
    0xdeadbeef31040f0900000007aaa495a20001000000007fff15f4dc3280000000) 0x7f 7 0 0xffff0000 0xc766f6d3 0
    (hex 20 0xc4a19a072793213d96997c58299f7c0b7879801b) (hex 5 0x00ff010100)
    (outcome 0xa8 1 (hex 20 0x36b0ce1967701833ab6dcb91accd9df9f319946b) (hex 5 0xef7b1a98ca) ∷ []))
    [] (by_chain 0) (reg 12 0xdeadbeee & pc 0x2209cbf & done 2) []
    ∷ []

pub all_reach : reached cases ≡ expected cases
unfolding run ops_from op_step load direct store read_le write_le signed_of sign_extend leading_zeros
all_reach = refl
