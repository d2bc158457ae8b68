-- Branches, `adr` and literals: each row's step ends as it says.
use mathlib.Core.List.{List, [], ◌∷◌}
use mathlib.Core.Path.{◌≡◌, refl}
use Rattle.machine.specs.State.{code}
use Rattle.machine_runs.specs.Row.{Row, runs, returns, jumps, same, x, sp, nzcv, pc, bytes, ◌&◌, stepped, reached, expected}

abbrev rows : List Row
rows =
    -- b
    runs 10 0x14000000 same (pc 0x2fffffffa8)
    ∷ runs 3 0x14000001 (nzcv 6) same
    ∷ runs 12 0x17ffffff (nzcv 2) (pc 0x2fffffffac)
    ∷ runs 4 0x140003e8 (nzcv 2) (pc 0x3000000f30)
    ∷ runs 9 0x15ffffff (nzcv 1) (pc 0x3007ffffa0)
    -- b_cond
    ∷ runs 8 0x54800000 (nzcv 4) (pc 0x2fffefffa0)
    ∷ runs 6 0x54fffee0 (nzcv 7) (pc 0x2fffffff74)
    ∷ runs 4 0x54ffffe0 (nzcv 8) same
    ∷ runs 5 0x54800000 (nzcv 11) same
    ∷ runs 0 0x54000041 (nzcv 1) (pc 0x2fffffff88)
    ∷ runs 11 0x54fffee1 (nzcv 4) same
    ∷ runs 1 0x547fffe1 (nzcv 11) (pc 0x30000fff80)
    ∷ runs 12 0x540000e1 (nzcv 14) same
    ∷ runs 2 0x54800002 same same
    ∷ runs 7 0x54fffee2 (nzcv 3) (pc 0x2fffffff78)
    ∷ runs 10 0x54000042 (nzcv 12) same
    ∷ runs 13 0x54000062 (nzcv 15) (pc 0x2fffffffc0)
    ∷ runs 8 0x54000063 same (pc 0x2fffffffac)
    ∷ runs 12 0x54000063 (nzcv 3) same
    ∷ runs 5 0x54fffee3 (nzcv 12) (pc 0x2fffffff70)
    ∷ runs 8 0x54ffffe3 (nzcv 15) same
    ∷ runs 8 0x54ffffe4 same same
    ∷ runs 2 0x54000064 (nzcv 3) same
    ∷ runs 0 0x54000044 (nzcv 12) (pc 0x2fffffff88)
    ∷ runs 2 0x54800004 (nzcv 15) (pc 0x2fffefff88)
    ∷ runs 6 0x54000045 same (pc 0x2fffffffa0)
    ∷ runs 7 0x547fffe5 (nzcv 3) (pc 0x30000fff98)
    ∷ runs 11 0x547fffe5 (nzcv 12) same
    ∷ runs 10 0x540000e5 (nzcv 15) same
    ∷ runs 0 0x54000066 same same
    ∷ runs 12 0x54fffee6 (nzcv 3) (pc 0x2fffffff8c)
    ∷ runs 2 0x54000046 (nzcv 12) same
    ∷ runs 1 0x54000006 (nzcv 15) (pc 0x2fffffff84)
    ∷ runs 3 0x54000007 same (pc 0x2fffffff8c)
    ∷ runs 8 0x54800007 (nzcv 3) same
    ∷ runs 11 0x54fffee7 (nzcv 12) (pc 0x2fffffff88)
    ∷ runs 2 0x54000067 (nzcv 15) same
    ∷ runs 6 0x54000068 same same
    ∷ runs 9 0x54ffffe8 (nzcv 3) (pc 0x2fffffffa0)
    ∷ runs 13 0x54800008 (nzcv 12) same
    ∷ runs 1 0x54000068 (nzcv 15) same
    ∷ runs 0 0x54000009 same (pc 0x2fffffff80)
    ∷ runs 12 0x54000049 (nzcv 3) same
    ∷ runs 10 0x54000069 (nzcv 12) (pc 0x2fffffffb4)
    ∷ runs 10 0x540000e9 (nzcv 15) (pc 0x2fffffffc4)
    ∷ runs 9 0x547fffea same (pc 0x30000fffa0)
    ∷ runs 2 0x540000ea (nzcv 3) same
    ∷ runs 10 0x5480000a (nzcv 12) same
    ∷ runs 3 0x5480000a (nzcv 15) (pc 0x2fffefff8c)
    ∷ runs 2 0x540000eb same same
    ∷ runs 12 0x5400006b (nzcv 3) (pc 0x2fffffffbc)
    ∷ runs 3 0x54fffeeb (nzcv 12) (pc 0x2fffffff68)
    ∷ runs 10 0x54ffffeb (nzcv 15) same
    ∷ runs 5 0x5480000c same (pc 0x2fffefff94)
    ∷ runs 10 0x540000ec (nzcv 3) same
    ∷ runs 2 0x54fffeec (nzcv 12) same
    ∷ runs 3 0x547fffec (nzcv 15) same
    ∷ runs 12 0x5400006d same same
    ∷ runs 6 0x5480000d (nzcv 3) (pc 0x2fffefff98)
    ∷ runs 9 0x5400000d (nzcv 12) (pc 0x2fffffffa4)
    ∷ runs 5 0x547fffed (nzcv 15) (pc 0x30000fff90)
    ∷ runs 9 0x54ffffee same (pc 0x2fffffffa0)
    ∷ runs 7 0x5400000e (nzcv 3) (pc 0x2fffffff9c)
    ∷ runs 8 0x547fffee (nzcv 12) (pc 0x30000fff9c)
    ∷ runs 5 0x54fffeee (nzcv 15) (pc 0x2fffffff70)
    -- cbz
    ∷ runs 7 0x34fffffe (x 30 0 & nzcv 10) (pc 0x2fffffff98)
    ∷ runs 3 0x34000070 (x 16 0 & nzcv 15) (pc 0x2fffffff98)
    ∷ runs 1 0x34000042 (x 2 1 & nzcv 14) same
    ∷ runs 0 0x34fffff6 (x 22 0x80000000 & nzcv 11) same
    ∷ runs 11 0x3400007d (x 29 0xffffffff00000000 & nzcv 6) (pc 0x2fffffffb8)
    ∷ runs 10 0x340000e1 (x 1 0xffffffffffffffff & nzcv 15) same
    ∷ runs 3 0x347fffff (sp 0x123456789abcdef & nzcv 4) (pc 0x30000fff88)
    -- cbnz
    ∷ runs 13 0x35000042 (x 2 0 & nzcv 12) same
    ∷ runs 7 0x35fffefa (x 26 1 & nzcv 6) (pc 0x2fffffff78)
    ∷ runs 0 0x3580000a (x 10 1) (pc 0x2fffefff80)
    ∷ runs 8 0x35fffffe (x 30 0x80000000 & nzcv 6) (pc 0x2fffffff9c)
    ∷ runs 0 0x35000060 (x 0 0xffffffff00000000) same
    ∷ runs 1 0x35000063 (x 3 0xffffffffffffffff & nzcv 6) (pc 0x2fffffff90)
    ∷ runs 4 0x357fffff (sp 0x123456789abcdef & nzcv 1) same
    -- cbz_x
    ∷ runs 3 0xb400006d (x 13 0 & nzcv 2) (pc 0x2fffffff98)
    ∷ runs 11 0xb4000000 (x 0 0) (pc 0x2fffffffac)
    ∷ runs 3 0xb4000000 (x 0 0x80000000 & nzcv 1) same
    ∷ runs 1 0xb4800000 (x 0 0x100000000 & nzcv 6) same
    ∷ runs 5 0xb400007e (x 30 0xffffffffffffffff & nzcv 11) same
    ∷ runs 7 0xb4fffeff (sp 0x123456789abcdef & nzcv 14) (pc 0x2fffffff78)
    ∷ runs 12 0xb47fffff (sp 0x100000000) (pc 0x30000fffac)
    -- cbnz_x
    ∷ runs 12 0xb580000d (x 13 1 & nzcv 4) (pc 0x2fffefffb0)
    ∷ runs 1 0xb57fffe9 (x 9 0x80000000 & nzcv 15) (pc 0x30000fff80)
    ∷ runs 7 0xb5fffefe (x 30 0x100000000 & nzcv 15) (pc 0x2fffffff78)
    ∷ runs 2 0xb580001b (x 27 0xffffffffffffffff & nzcv 6) (pc 0x2fffefff88)
    ∷ runs 0 0xb500001f (sp 0x3cbda10b94ba0bbd & nzcv 14) same
    -- tbz
    ∷ runs 9 0x360000a2 (x 2 0 & nzcv 13) (pc 0x2fffffffb8)
    ∷ runs 4 0x360000a0 (x 0 0xfffffffffffffffe & nzcv 15) (pc 0x2fffffffa4)
    ∷ runs 10 0x36fbfff0 (x 16 0x80000000) same
    ∷ runs 7 0x36ffffec (x 12 0xffffffff7fffffff & nzcv 11) (pc 0x2fffffff98)
    ∷ runs 9 0xb6040012 (x 18 0xfffffffeffffffff & nzcv 4) (pc 0x2fffff7fa4)
    ∷ runs 1 0x3600007f (sp 0xffffffffffffffff & nzcv 9) (pc 0x2fffffff90)
    -- tbnz
    ∷ runs 1 0x3703fffb (x 27 0xffffffffffffffff & nzcv 8) (pc 0x3000007f80)
    ∷ runs 3 0x37080000 (x 0 0xfffffffffffffffd & nzcv 10) same
    ∷ runs 11 0x377fffe9 (x 9 0xffffffffffffffff & nzcv 9) (pc 0x2fffffffa8)
    ∷ runs 8 0x37fbfff7 (x 23 0x80000000 & nzcv 12) (pc 0x3000007f9c)
    ∷ runs 10 0xb707ffe7 (x 7 0 & nzcv 13) same
    ∷ runs 11 0xb70c000c (x 12 0xfffffffdffffffff & nzcv 3) same
    ∷ runs 11 0xb7f40018 (x 24 0x4000000000000000 & nzcv 1) (pc 0x2fffff7fac)
    ∷ runs 2 0xb7f80000 (x 0 0x7fffffffffffffff & nzcv 10) same
    ∷ runs 3 0x3700007f (sp 0xffffffffffffffff & nzcv 14) same
    -- adr
    ∷ runs 11 0x10000006 (nzcv 11) (x 6 0x2fffffffac)
    ∷ runs 11 0x1000003f (nzcv 8) same
    ∷ runs 13 0x10ffffeb (nzcv 1) (x 11 0x2fffffffb0)
    ∷ runs 8 0x100000b6 (nzcv 4) (x 22 0x2fffffffb4)
    ∷ runs 7 0x10ffff5d (nzcv 1) (x 29 0x2fffffff84)
    -- blr
    ∷ runs 6 0xd63f03c0 (x 30 0x2fffffffbc & nzcv 9) (x 30 0x2fffffff9c & pc 0x2fffffffbc)
    ∷ runs 4 0xd63f0320 (x 25 0x2fffffff94 & nzcv 3) (x 30 0x2fffffff94)
    ∷ runs 5 0xd63f0000 (x 0 0xf07cb590 & nzcv 14) (x 30 0x2fffffff98 & pc 0xf07cb590)
    ∷ runs 2 0xd63f0020 (x 1 0x700000166534 & nzcv 3) (x 30 0x2fffffff8c & pc 0x700000166534)
    ∷ runs 8 0xd63f0000 (x 0 0x40000000 & nzcv 13) (x 30 0x2fffffffa4 & pc 0x40000000)
    -- br
    ∷ jumps 3 0xd61f03c0 (x 30 0x2fffffffb0 & nzcv 15) (pc 0x2fffffffb0)
    ∷ jumps 5 0xd61f0000 (x 0 0x40000000 & nzcv 11) (pc 0x40000000)
    ∷ jumps 13 0xd61f0120 (x 9 0xd2c9ef98 & nzcv 5) (pc 0xd2c9ef98)
    ∷ jumps 8 0xd61f0000 (x 0 0x700000100e6c & nzcv 11) (pc 0x700000100e6c)
    ∷ jumps 4 0xd61f0000 (x 0 0x2fffffff94 & nzcv 12) same
    -- ret
    ∷ returns 3 0xd65f03c0 (x 30 0x10000 & nzcv 13) (pc 0x10000)
    ∷ returns 11 0xd65f03c0 (x 30 0x1ab28e1c30 & nzcv 1) (pc 0x1ab28e1c30)
    ∷ returns 2 0xd65f03c0 (x 30 0x348c82d60c) (pc 0x348c82d60c)
    ∷ returns 9 0xd65f03c0 (x 30 0x374eb7a9ec & nzcv 15) (pc 0x374eb7a9ec)
    -- ldr_lit_x
    ∷ runs 12 0x58ffff0f (x 15 0x80000000 & nzcv 2 & bytes code 16 8 0x8000000000000000) (x 15 0x8000000000000000)
    ∷ runs 15 0x58fffe3f (nzcv 11 & bytes code 0 8 0xffffffffffffffff) same
    ∷ runs 3 0x58000060 (x 0 0xfc64bf48fff09d78 & nzcv 10 & bytes code 24 8 0x123456789abcdef) (x 0 0x123456789abcdef)
    ∷ runs 2 0x5800011e (x 30 0xffffffffffffffff & nzcv 1 & bytes code 40 8 0xffffffffffffffff) same
    ∷ runs 2 0x58000011 (x 17 0x100000000 & nzcv 11) (x 17 0x58000011)
    ∷ runs 11 0x58000020 (x 0 1 & nzcv 5 & bytes code 48 8 0xffffffffffffffff) (x 0 0xffffffffffffffff)
    ∷ runs 11 0x58000021 (x 1 0x81052e7cd222f5d5 & nzcv 2 & bytes code 48 8 0xffffffffffffffff) (x 1 0xffffffffffffffff)
    ∷ runs 0 0x58000100 (x 0 0x77e165c462fbe43a & nzcv 5 & bytes code 32 8 0x7fffffff) (x 0 0x7fffffff)
    ∷ runs 8 0x58000061 (x 1 0xffffffff & nzcv 9 & bytes code 44 8 0) (x 1 0)
    ∷ []

pub all_end : reached rows ≡ expected rows
unfolding stepped
all_end = refl
