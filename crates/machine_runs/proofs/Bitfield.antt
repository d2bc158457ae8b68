-- Fields and shifts: each row's step ends as it says.
use mathlib.Core.List.{List, [], ◌∷◌}
use mathlib.Core.Path.{◌≡◌, refl}
use Rattle.machine_runs.specs.Row.{Row, runs, same, x, sp, nzcv, ◌&◌, stepped, reached, expected}

abbrev rows : List Row
rows =
    -- and_mask
    runs 1 0x121f036b (x 27 0xffffffffffffffff & nzcv 8) (x 11 2)
    ∷ runs 2 0x12081d07 (x 8 0xffffffffffffffff) (x 7 0xff000000)
    ∷ runs 7 0x121a33f2 (x 18 0x80000000 & sp 0xfffffffffffffffe & nzcv 11) (x 18 0)
    ∷ runs 13 0x121a3252 (x 18 0x8000000055555555 & nzcv 6) (x 18 0x55540)
    ∷ runs 7 0x121b37de (x 30 0 & nzcv 12) same
    ∷ runs 5 0x12192e7f (x 19 0x80000000 & sp 0x5e13df07de99d297 & nzcv 8) (sp 0)
    ∷ runs 11 0x121d2000 (x 0 0x4d992ce480000000 & nzcv 5) (x 0 0)
    ∷ runs 8 0x121b439c (x 28 0x64a19c8d00000000 & nzcv 6) (x 28 0)
    ∷ runs 6 0x12120fe0 (x 0 0x7fffffffffffffff & sp 0x359747373ece7f5c & nzcv 11) (x 0 0)
    -- tst_mask
    ∷ runs 6 0x720101df (x 14 0xffffffff7fffffff) (nzcv 4)
    ∷ runs 4 0x721e07df (x 30 0xffffffffffffffff & nzcv 1) (nzcv 0)
    ∷ runs 7 0x7208063f (x 17 0xfffffffffcffffff & nzcv 4) same
    ∷ runs 0 0x721f1d3f (x 9 0x490f621a80000000 & nzcv 11) (nzcv 4)
    ∷ runs 13 0x72003ddf (x 14 0 & nzcv 14) (nzcv 4)
    ∷ runs 12 0x721f785f (x 2 0xdeedfe80 & nzcv 1) (nzcv 8)
    ∷ runs 3 0x721f7bff (sp 0x36ecc08838793dd7 & nzcv 11) (nzcv 4)
    -- ubfx
    ∷ runs 1 0x530001ef (x 15 0x23f52edffffffff & nzcv 11) (x 15 1)
    ∷ runs 7 0x53007e73 (x 19 0x6645aecaffffffff & nzcv 1) (x 19 0xffffffff)
    ∷ runs 1 0x53017ed6 (x 22 0xd51a55e580000000 & nzcv 5) (x 22 0x40000000)
    ∷ runs 12 0x531f7e31 (x 17 0xfdd398893ee324ee & nzcv 4) (x 17 0)
    ∷ runs 7 0x5303786e (x 3 0x613a7a8e40000000 & nzcv 2) (x 14 0x8000000)
    ∷ runs 6 0x530318bf (nzcv 15) same
    ∷ runs 10 0x53031be5 (sp 0xffffffffffffffff & nzcv 2) (x 5 0)
    -- sbfx
    ∷ runs 13 0x13000042 (x 2 0xe1c0cc86ffffffff & nzcv 2) (x 2 0xffffffff)
    ∷ runs 13 0x13003c00 (x 0 0x132ead45ffffffff) (x 0 0xffffffff)
    ∷ runs 5 0x13187ed6 (x 22 0xa69aed6680000000 & nzcv 7) (x 22 0xffffff80)
    ∷ runs 8 0x131f7fde (x 30 0xbd1d3efc04def865 & nzcv 5) (x 30 0)
    ∷ runs 13 0x130318bf (nzcv 2) same
    ∷ runs 5 0x13031be5 (sp 0xffffffffffffffff) (x 5 0)
    -- lsl_imm_x
    ∷ runs 2 0xd340fd6b (x 11 0x8000000000000000 & nzcv 5) same
    ∷ runs 7 0xd340fe67 (x 19 0x6669e12c88864f3a & nzcv 11) (x 7 0x6669e12c88864f3a)
    ∷ runs 2 0xd37ffaf7 (x 23 0x8000000000000000 & nzcv 15) (x 23 0)
    ∷ runs 5 0xd370be10 (x 16 0x7fffffffffffffff) (x 16 0xffffffffffff0000)
    ∷ runs 3 0xd345137f (x 27 0xffffffffffffffff & sp 0xffffffffffffffff & nzcv 14) same
    ∷ runs 4 0xd35b6bfc (sp 0x962383b54a4149a6 & nzcv 13) (x 28 0)
    -- lsl_imm
    ∷ runs 2 0x53007dbc (x 13 0x27c12ccb80000000 & nzcv 9) (x 28 0x80000000)
    ∷ runs 11 0x53007dad (x 13 0x1dccab61ffffffff & nzcv 6) (x 13 0xffffffff)
    ∷ runs 13 0x531f7bbd (x 29 0x212309637fffffff & nzcv 11) (x 29 0xfffffffe)
    ∷ runs 10 0x53020610 (x 16 0xf62749a080000000) (x 16 0)
    ∷ runs 12 0x5305127f (x 19 0x7fffffff & sp 0x8000000000000000 & nzcv 7) same
    ∷ runs 1 0x531143e1 (sp 0xffffffffffffffff) (x 1 0)
    -- lsr_imm
    ∷ runs 11 0x53017c00 (x 0 0xd9e7a5bffffffff & nzcv 5) (x 0 0x7fffffff)
    ∷ runs 5 0x53017fde (x 30 0x425586d07fffffff & nzcv 7) (x 30 0x3fffffff)
    ∷ runs 11 0x531f7c21 (x 1 0x93ec79fa80000000 & nzcv 8) (x 1 1)
    ∷ runs 4 0x53147dbf (x 13 0x770cd4fc4048aa15 & sp 0xfffffffffffffffe & nzcv 10) same
    ∷ runs 4 0x531e7ff3 (sp 0x8093a12115b1a62f & nzcv 1) (x 19 0)
    -- asr_imm
    ∷ runs 6 0x13007fde (x 30 0xba05a2112ce3f4ad & nzcv 7) (x 30 0x2ce3f4ad)
    ∷ runs 10 0x13017e73 (x 19 0x7e89191180000000 & nzcv 5) (x 19 0xc0000000)
    ∷ runs 13 0x13087d0f (x 8 0xd1eac5a980000000 & nzcv 4) (x 15 0xff800000)
    ∷ runs 8 0x13087d1d (x 8 0xb2394bd6ffffffff & nzcv 6) (x 29 0xffffffff)
    ∷ runs 12 0x131e7ce7 (x 7 0xa888d5a1ffffffff & nzcv 12) (x 7 0xffffffff)
    ∷ runs 1 0x131f7d92 (x 12 0x2246c1a87fffffff & nzcv 3) (x 18 0)
    ∷ runs 6 0x13027c1f (x 0 0x80000000 & sp 0xfac35306ba0ce560 & nzcv 12) same
    ∷ runs 6 0x13077fe1 (sp 0xffffffffffffffff & nzcv 10) (x 1 0)
    -- lsr_imm_x
    ∷ runs 7 0xd340ffae (x 29 0x8000000000000000 & nzcv 12) (x 14 0x8000000000000000)
    ∷ runs 1 0xd347fce7 (x 7 0x7fffffffffffffff & nzcv 14) (x 7 0xffffffffffffff)
    ∷ runs 12 0xd37ffe31 (x 17 0x8000000000000000 & nzcv 8) (x 17 1)
    ∷ runs 12 0xd37ffe4e (x 18 0x7fffffffffffffff & nzcv 12) (x 14 0)
    ∷ runs 6 0xd379fc1f (x 0 0x7fffffff & sp 0x7fffffffffffffff & nzcv 12) same
    ∷ runs 6 0xd359ffe2 (sp 0xffffffff & nzcv 2) (x 2 0)
    -- asr_imm_x
    ∷ runs 9 0x9341fd29 (x 9 0x8000000000000000 & nzcv 13) (x 9 0xc000000000000000)
    ∷ runs 9 0x9342fd4a (x 10 0x7fffffffffffffff) (x 10 0x1fffffffffffffff)
    ∷ runs 9 0x934ffdfa (x 15 0xffffffffffffffff & nzcv 5) (x 26 0xffffffffffffffff)
    ∷ runs 2 0x937ffe5b (x 18 0x7fffffffffffffff & nzcv 12) (x 27 0)
    ∷ runs 3 0x9366ffff (sp 0xfffffffffffffffe & nzcv 4) same
    -- sxth
    ∷ runs 2 0x13003c1b (x 0 0x3570201100000000 & nzcv 7) (x 27 0)
    ∷ runs 13 0x13003fbd (x 29 0xba81783f00000000 & nzcv 8) (x 29 0)
    ∷ runs 1 0x13003fff (nzcv 4) same
    ∷ runs 9 0x13003e70 (x 16 0xfffffffffffffffe & x 19 0x45b86eb555555555 & nzcv 6) (x 16 0x5555)
    ∷ runs 0 0x13003c5e (x 2 0x80000000aaaaaaaa & x 30 0 & nzcv 15) (x 30 0xffffaaaa)
    -- uxth
    ∷ runs 7 0x53003e31 (x 17 0xe28ac5c500000000 & nzcv 5) (x 17 0)
    ∷ runs 11 0x53003e94 (x 20 0x232f6c3c00007fff & nzcv 8) (x 20 0x7fff)
    ∷ runs 12 0x53003e1b (x 16 0x778be01effff8000) (x 27 0x8000)
    ∷ runs 3 0x53003d9f (x 12 0x8000000000000000 & nzcv 8) same
    ∷ runs 0 0x53003ff8 (x 24 0x468ad9746977dc31 & nzcv 6) (x 24 0)
    ∷ runs 0 0x53003c5b (x 2 0xffffffff00010000 & x 27 0x7fffffffffffffff & nzcv 10) (x 27 0)
    ∷ runs 9 0x53003cbd (x 5 0xffffffff55555555 & x 29 0x7fffffff & nzcv 4) (x 29 0x5555)
    -- lslv
    ∷ runs 7 0x1ade23ed (x 13 0xd67569cf2c769c62 & x 30 0xff & nzcv 10) (x 13 0)
    ∷ runs 9 0x1adf23ff (nzcv 3) same
    ∷ runs 2 0x1add2244 (x 4 0x8000000000000000 & x 18 0x8000000080000000 & x 29 0x80000000abcdef01 & nzcv 5) (x 4 0)
    ∷ runs 8 0x1ad82117 (x 8 0x54c40fbc018c4671 & x 23 0 & x 24 0xffffffff71fec9ef & nzcv 12) (x 23 0x23388000)
    ∷ runs 1 0x1acb2341 (x 1 0x80000000 & x 11 0x3d4122fc00000003 & x 26 0xc4dd01bd3c25c9f0 & nzcv 6) (x 1 0xe12e4f80)
    ∷ runs 12 0x1ad5234b (x 11 0x3ffc7c1fe677070d & x 21 0xffffffff00007fff & x 26 0xfe08a66cffffffff & nzcv 2) (x 11 0x80000000)
    ∷ runs 12 0x1acc22e4 (x 12 0xffffffff00000000 & x 23 0xffffffff80000001 & nzcv 7) (x 4 0x80000001)
    ∷ runs 13 0x1ace23b6 (x 14 0x80000000 & x 29 0x80000001 & nzcv 6) (x 22 0x80000001)
    ∷ runs 0 0x1acf223e (x 15 0xffffffffffffffff & x 17 0xffffffff80000001 & nzcv 7) (x 30 0x80000000)
    ∷ runs 4 0x1add220d (x 16 0xb9fa4530751c6aa6 & x 29 0xb9fa4530ffffffff & nzcv 2) (x 13 0)
    -- lsrv
    ∷ runs 11 0x1ac727e8 (x 7 0xffffffff27d54a9f & x 8 0x7fffffffffffffff & nzcv 9) (x 8 0)
    ∷ runs 8 0x1adf240c (x 0 0x717b943212345678 & x 12 0x8000000000000000 & nzcv 8) (x 12 0x12345678)
    ∷ runs 1 0x1adf27ff (nzcv 13) same
    ∷ runs 5 0x1ad727b9 (x 23 0xffffffff3c0a3672 & x 25 0 & x 29 0 & nzcv 13) same
    ∷ runs 3 0x1ad32464 (x 3 0xffffffff80000000 & x 4 0x7fffffff & x 19 0x7623eb5b00010000 & nzcv 2) (x 4 0x80000000)
    ∷ runs 10 0x1ac32726 (x 3 0 & x 25 0x80000001 & nzcv 8) (x 6 0x80000001)
    ∷ runs 2 0x1ad424a1 (x 5 0x80000001 & x 20 0x80000000 & nzcv 5) (x 1 0x80000001)
    ∷ runs 4 0x1ac7249d (x 4 0xffffffff80000001 & x 7 0xffffffffffffffff & nzcv 12) (x 29 1)
    -- asrv
    ∷ runs 0 0x1ad12863 (x 3 0x800000000000ffff & x 17 0xffffffffffffffff & nzcv 14) (x 3 0)
    ∷ runs 7 0x1ac42881 (x 1 0x7fffffffffffffff & x 4 0xffffffff7fffffff & nzcv 5) (x 1 0)
    ∷ runs 2 0x1adf2bff (nzcv 12) same
    ∷ runs 0 0x1acd2a75 (x 13 0x46849b4a80000000 & x 19 0xffffffff7fd43cb5 & x 21 0x123456789abcdef & nzcv 9) (x 21 0x7fd43cb5)
    ∷ runs 8 0x1ad5280a (x 0 0x8000000000000000 & x 10 0xc6ebc64a041d3a8 & x 21 0x8000000000000001 & nzcv 1) (x 10 0)
    ∷ runs 5 0x1acb2b7c (x 11 0x80000001 & x 27 0x6a22a150 & x 28 0x7fffffffffffffff & nzcv 5) (x 28 0x351150a8)
    ∷ runs 11 0x1acf2a96 (x 15 0xff & x 20 0xb9927e1c & x 22 0 & nzcv 13) (x 22 0xffffffff)
    ∷ runs 11 0x1ad028a2 (x 2 0x80000000 & x 5 0xffffffffabcdef01 & x 16 0xffffffffffffffff & nzcv 5) (x 2 0xffffffff)
    ∷ runs 3 0x1ace2bd1 (x 14 0x8000000000008000 & x 17 0x8000000000000000 & x 30 0xffffffff21839e67 & nzcv 5) (x 17 0x21839e67)
    ∷ runs 6 0x1ad828b5 (x 5 0xffffffff80000001 & x 24 0xffffffff00000000 & nzcv 5) (x 21 0x80000001)
    -- lsrv_x
    ∷ runs 4 0x9ad0267f (x 16 0x121c4c8f3b640d10 & x 19 0x69971ac1c4c35f73 & nzcv 5) same
    ∷ runs 13 0x9ace27e2 (x 2 0xed28680b62d69029 & x 14 0x6c02b0d55d8cf46 & nzcv 1) (x 2 0)
    ∷ runs 7 0x9adf259d (x 12 0x80000000 & x 29 0xb6c4878a21bca11c & nzcv 2) (x 29 0x80000000)
    ∷ runs 12 0x9add24a5 (x 5 0 & x 29 0xffffffff) same
    ∷ runs 6 0x9ad1254b (x 10 0x7fffffffffffffff & x 11 0xffffffff & x 17 0xffffffff & nzcv 9) (x 11 0)
    ∷ runs 4 0x9ac4260c (x 4 0xffffffff & x 12 0xffffffffffffffff & x 16 0xa0f041e11aed6041 & nzcv 6) (x 12 1)
    ∷ runs 7 0x9ad22691 (x 17 0xffffffffffffffff & x 18 0x63edb0b7e0978065 & x 20 0xffffffffffffffff & nzcv 11) (x 17 0x7ffffff)
    ∷ runs 6 0x9ade2521 (x 1 0x80000000 & x 9 1 & x 30 0x275547039a3ef7af) (x 1 0)
    ∷ runs 7 0x9ad425c9 (x 9 0xffffffff & x 14 0x4c79c5193301ad9b & x 20 0x80000000 & nzcv 2) (x 9 0x4c79c5193301ad9b)
    ∷ runs 1 0x9ac22693 (x 2 0 & x 20 0x8000000000000001 & nzcv 1) (x 19 0x8000000000000001)
    ∷ []

pub all_end : reached rows ≡ expected rows
unfolding stepped
all_end = refl
