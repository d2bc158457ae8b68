-- Bitwise operations, bytes exchanged, leading zeros: each row's step ends as it says.
use mathlib.Core.List.{List, [], ◌∷◌}
use mathlib.Core.Path.{◌≡◌, refl}
use Rattle.machine_runs.specs.Row.{Row, runs, same, x, nzcv, ◌&◌, stepped, reached, expected}

abbrev rows : List Row
rows =
    -- and
    runs 6 0x0a1f0350 (x 16 0x123456789abcdef & x 26 0x72c86da900007fff & nzcv 14) (x 16 0)
    ∷ runs 1 0x0a190332 (x 18 0x8000000000000000 & x 25 0x3450cb35 & nzcv 9) (x 18 0x3450cb35)
    ∷ runs 10 0x0a090211 (x 9 0x80000000fffffffe & x 16 0xefd13c3e00000000 & x 17 0 & nzcv 9) same
    ∷ runs 4 0x0a0b026c (x 11 0xffffffffffffffff & x 12 0x80000000 & x 19 0xc30bde59 & nzcv 9) (x 12 0xc30bde59)
    ∷ runs 13 0x0a130297 (x 19 0x89c6dde0ffffffff & x 20 0x89c6dde000000000 & nzcv 12) (x 23 0)
    ∷ runs 6 0x0a110068 (x 3 0xffffffff00000000 & x 17 0xffffffff80000000 & nzcv 9) (x 8 0)
    ∷ runs 3 0x0a1e0201 (x 16 0xd1f5dc7ffffffff & x 30 0xd1f5dc700000000 & nzcv 6) (x 1 0)
    ∷ runs 9 0x0a0903ba (x 9 0xffffffff80000000 & x 29 0xffffffffffffffff & nzcv 1) (x 26 0x80000000)
    ∷ runs 4 0x0a09003a (x 1 0xffffffff80000000 & x 9 0xffffffff00000000 & nzcv 4) (x 26 0)
    ∷ runs 12 0x0a1202e5 (x 18 0xd80efdfaffffffff & x 23 0xd80efdfa80000000 & nzcv 5) (x 5 0x80000000)
    -- orr
    ∷ runs 13 0x2a0603e9 (x 6 0xed98909b12f4b757 & x 9 0xffffffff & nzcv 10) (x 9 0x12f4b757)
    ∷ runs 12 0x2a1f03ff (nzcv 5) same
    ∷ runs 7 0x2a040248 (x 4 0xa8c833c6000000ff & x 8 0xbe73efe1f6e76465 & x 18 0xffffffff & nzcv 6) (x 8 0xffffffff)
    ∷ runs 6 0x2a1101f4 (x 15 3 & x 17 0x10000 & x 20 0x7fffffff & nzcv 1) (x 20 0x10003)
    ∷ runs 4 0x2a070185 (x 5 0x100000000 & x 7 0x800000007f161ae8 & x 12 0x800000000000ffff & nzcv 14) (x 5 0x7f16ffff)
    ∷ runs 4 0x2a13038a (x 10 0x80000000 & x 19 0x12345678 & x 28 0xffffffff00000001 & nzcv 13) (x 10 0x12345679)
    ∷ runs 3 0x2a140017 (x 0 0 & x 20 0 & nzcv 10) (x 23 0)
    ∷ runs 0 0x2a060099 (x 4 0 & x 6 0xffffffff & nzcv 14) (x 25 0xffffffff)
    ∷ runs 10 0x2a0602aa (x 6 0 & x 21 0xffffffff & nzcv 3) (x 10 0xffffffff)
    ∷ runs 1 0x2a1d028e (x 20 0xff07592180000000 & x 29 0xff07592180000000 & nzcv 10) (x 14 0x80000000)
    -- orr_lsl
    ∷ runs 0 0x2a1209e2 (x 15 0xffff & x 18 0x89630a1980000000 & nzcv 3) (x 2 0xffff)
    ∷ runs 4 0x2a0a0cd4 (x 6 0 & x 10 0x80000000 & nzcv 5) (x 20 0)
    ∷ runs 13 0x2a167cdd (x 6 0x8000000048ec35d3 & x 22 0xffffffff00000000 & nzcv 14) (x 29 0x48ec35d3)
    ∷ runs 11 0x2a0863f3 (x 8 0x8000000000010000 & x 19 0x100000000 & nzcv 14) (x 19 0)
    ∷ runs 11 0x2a0071ad (x 0 0xd89c294580000001 & x 13 0 & nzcv 14) (x 13 0x10000000)
    ∷ runs 3 0x2a111e31 (x 17 0xf90926b5ffffffff & nzcv 4) (x 17 0xffffffff)
    ∷ runs 13 0x2a1f6fff (nzcv 2) same
    ∷ runs 2 0x2a031b20 (x 0 0x80000000 & x 3 0x12345678 & x 25 0x7fffffff & nzcv 10) (x 0 0xffffffff)
    -- orr_x
    ∷ runs 9 0xaa1f0320 (x 0 0 & x 25 0x123456789abcdef & nzcv 6) (x 0 0x123456789abcdef)
    ∷ runs 9 0xaa1e03c4 (x 4 0x7fffffffffffffff & x 30 1 & nzcv 3) (x 4 1)
    ∷ runs 0 0xaa1f03ff same same
    ∷ runs 13 0xaa030245 (x 3 0x8263db2da57a4f4a & x 5 0xcf1ccf3df902ed55 & x 18 0x8000000000000000 & nzcv 1) (x 5 0x8263db2da57a4f4a)
    ∷ runs 13 0xaa1700b6 (x 5 0x5208ad473f1bdbae & x 22 0x80000000 & x 23 0x8000000000000000 & nzcv 4) (x 22 0xd208ad473f1bdbae)
    ∷ runs 0 0xaa12011c (x 8 0xffffffffffffffff & x 18 0xffffffff & x 28 0x1edee654e67a9fd9 & nzcv 13) (x 28 0xffffffffffffffff)
    ∷ runs 10 0xaa190292 (x 18 0x8000000000000000 & x 20 0x80000000 & x 25 0xffffffffffffffff & nzcv 1) (x 18 0xffffffffffffffff)
    -- eor
    ∷ runs 0 0x4a1702fc (x 23 0x9e0309dbffffffff & x 28 0xe25a45fa99ca7c7c & nzcv 8) (x 28 0)
    ∷ runs 11 0x4a1f03ff same same
    ∷ runs 1 0x4a0202fb (x 2 0x80000000b928094a & x 23 0xffffffff6a19056b & x 27 0x80000000 & nzcv 10) (x 27 0xd3310c21)
    ∷ runs 6 0x4a0202c0 (x 0 0xffffffffffffffff & x 2 0xabcdef01 & x 22 0xffffffff00010000 & nzcv 12) (x 0 0xabccef01)
    ∷ runs 11 0x4a09018a (x 9 0x80000000aaaaaaaa & x 10 0x891e61084d138bf1 & x 12 1 & nzcv 15) (x 10 0xaaaaaaab)
    ∷ runs 13 0x4a0601a4 (x 6 0xffffffff00000000 & x 13 0xffffffff00000000 & nzcv 6) (x 4 0)
    ∷ runs 0 0x4a0f0385 (x 15 0x881ee202ffffffff & x 28 0x881ee20200000000 & nzcv 11) (x 5 0xffffffff)
    ∷ runs 13 0x4a090177 (x 9 0x37aeb11680000000 & x 11 0x37aeb116ffffffff & nzcv 11) (x 23 0x7fffffff)
    ∷ runs 4 0x4a19027b (x 19 0x80000000 & x 25 0 & nzcv 10) (x 27 0x80000000)
    ∷ runs 12 0x4a0c00d5 (x 6 0x34eff4e80000000 & x 12 0x34eff4e80000000 & nzcv 10) (x 21 0)
    -- eor_lsr
    ∷ runs 5 0x4a500105 (x 8 3 & x 16 0x8000 & nzcv 8) (x 5 0x8003)
    ∷ runs 13 0x4a510445 (x 2 0x80000000 & x 17 0x8000000000000002 & nzcv 10) (x 5 0x80000001)
    ∷ runs 1 0x4a570fcf (x 23 0xffffffff25139dcd & x 30 0x8000000000000000 & nzcv 10) (x 15 0x4a273b9)
    ∷ runs 10 0x4a574329 (x 23 0xffffffff80000000 & x 25 0xabcdef01 & nzcv 12) (x 9 0xabcd6f01)
    ∷ runs 7 0x4a46373f (x 6 0x800000009ad588c3 & x 25 0x80000000ffffffff & nzcv 11) same
    ∷ runs 7 0x4a4f7ff2 (x 15 0xaf955139 & x 18 0x80000000 & nzcv 5) (x 18 1)
    ∷ runs 8 0x4a5f7dfa (x 15 0x52eb2e3e00000080 & x 26 0x61ca4ba96203cc08 & nzcv 13) (x 26 0x80)
    ∷ runs 10 0x4a442704 (x 4 0x3c1f2ced80000001 & x 24 0x80000000aaaaaaaa & nzcv 11) (x 4 0xaaeaaaaa)
    ∷ runs 5 0x4a43586b (x 3 0x80000001 & x 11 0x8eae6ffe189eb4ae & nzcv 10) (x 11 0x80000201)
    ∷ runs 6 0x4a4619e4 (x 4 0x8000000000000000 & x 6 0xaaaaaaaa & x 15 0x8000000000008000 & nzcv 10) (x 4 0x2aa2aaa)
    -- bic
    ∷ runs 11 0x0a3800e7 (x 7 0xffffffff4a569ce5 & x 24 0x5ec2b6f18db19b8c & nzcv 5) (x 7 0x42460461)
    ∷ runs 5 0x0a3f03ff (nzcv 9) same
    ∷ runs 11 0x0a320359 (x 18 0xffffffff132e369a & x 25 0x1839e423d9292a85 & x 26 0x8000000080000000 & nzcv 13) (x 25 0x80000000)
    ∷ runs 1 0x0a3b01c6 (x 6 0x8000000000000000 & x 14 0xffffffffaaaaaaaa & x 27 0x224e1b75fd02db08 & nzcv 8) (x 6 0x2a820a2)
    ∷ runs 6 0x0a23025a (x 3 0 & x 18 0 & nzcv 2) (x 26 0)
    ∷ runs 11 0x0a3e02c6 (x 22 0xbadb37a900000000 & x 30 0xbadb37a9ffffffff & nzcv 1) (x 6 0)
    ∷ runs 3 0x0a370358 (x 23 0xffffffff00000000 & x 26 0xffffffffffffffff & nzcv 2) (x 24 0xffffffff)
    ∷ runs 6 0x0a250232 (x 5 0xffffffffffffffff & x 17 0xffffffffffffffff & nzcv 9) (x 18 0)
    ∷ runs 8 0x0a2c01e5 (x 12 0x80000000 & x 15 0xffffffff & nzcv 9) (x 5 0x7fffffff)
    ∷ runs 1 0x0a2903d3 (x 9 0x80000000 & x 30 0x80000000 & nzcv 8) (x 19 0)
    -- ands
    ∷ runs 2 0x6a1f01e9 (x 9 0xffffffff & x 15 3 & nzcv 2) (x 9 0 & nzcv 4)
    ∷ runs 10 0x6a1a0355 (x 21 0xfffffffffffffffe & x 26 0 & nzcv 7) (x 21 0 & nzcv 4)
    ∷ runs 9 0x6a110386 (x 6 0x80000000 & x 17 0x8000000000000080 & x 28 0x800000000000ffff & nzcv 15) (x 6 0x80 & nzcv 0)
    ∷ runs 0 0x6a140246 (x 6 0x100000000 & x 18 0xff & x 20 0x8000000080000000 & nzcv 6) (x 6 0 & nzcv 4)
    ∷ runs 1 0x6a020014 (x 0 0x8000000080000000 & x 2 0xfffffffffffffffe & x 20 0xffffffff & nzcv 3) (x 20 0x80000000 & nzcv 8)
    ∷ runs 7 0x6a02029c (x 2 0xffffffff & x 20 0 & nzcv 8) (x 28 0 & nzcv 4)
    ∷ runs 4 0x6a16028b (x 20 0xffffffffffffffff & x 22 0xffffffff00000000 & nzcv 15) (x 11 0 & nzcv 4)
    ∷ runs 5 0x6a1003ab (x 16 0xffffffff & x 29 0xffffffff & nzcv 11) (x 11 0xffffffff & nzcv 8)
    ∷ runs 0 0x6a0e02d0 (x 14 0x79285e9e80000000 & x 22 0x79285e9effffffff & nzcv 2) (x 16 0x80000000 & nzcv 8)
    ∷ runs 10 0x6a120344 (x 18 0xffffffff00000000 & x 26 0xffffffff80000000 & nzcv 8) (x 4 0 & nzcv 4)
    -- tst
    ∷ runs 11 0x6a0300df (x 3 0x80000000aaaaaaaa & x 6 0xec63903b & nzcv 8) same
    ∷ runs 8 0x6a1c00bf (x 5 0x8000000000010000 & x 28 0x55555555 & nzcv 9) (nzcv 0)
    ∷ runs 13 0x6a1d007f (x 3 0xfffffffffffffffe & x 29 0xc2c1bc2f & nzcv 12) (nzcv 8)
    ∷ runs 8 0x6a1a031f (x 24 0x80000000ffffffff & x 26 0xffffffff00000000 & nzcv 10) (nzcv 4)
    ∷ runs 7 0x6a0c033f (x 12 0x800000000000ffff & x 25 0xffffffff00000000 & nzcv 15) (nzcv 4)
    ∷ runs 4 0x6a1503df (x 21 0xffffffff80000000 & x 30 3 & nzcv 10) (nzcv 4)
    ∷ runs 12 0x6a0703ff (x 7 0x80000000ffffffff & nzcv 10) (nzcv 4)
    -- rev
    ∷ runs 13 0x5ac0099f (x 12 0x80000000 & nzcv 6) same
    ∷ runs 1 0x5ac00bfe (x 30 0xb69ad1f859c92877 & nzcv 10) (x 30 0)
    ∷ runs 13 0x5ac00a94 (x 20 0xffffffff80000000 & nzcv 3) (x 20 0x80)
    ∷ runs 5 0x5ac00a5e (x 18 0xfa47d352 & x 30 0x7fffffffffffffff & nzcv 3) (x 30 0x52d347fa)
    ∷ runs 0 0x5ac00aa9 (x 9 0 & x 21 0xa501b6f700000001 & nzcv 5) (x 9 0x1000000)
    ∷ runs 9 0x5ac009e8 (x 8 0x68e3388ba2023269 & x 15 0x8000 & nzcv 15) (x 8 0x800000)
    ∷ runs 13 0x5ac0099b (x 12 0xffffffff00000000 & x 27 0xb9bedbebec9476c8 & nzcv 13) (x 27 0)
    ∷ runs 9 0x5ac00815 (x 0 0x204f4d7780000000 & nzcv 8) (x 21 0x80)
    ∷ runs 5 0x5ac00ba2 (x 29 0xebaf8ed3ffffffff & nzcv 7) (x 2 0xffffffff)
    -- rev16
    ∷ runs 12 0x5ac0073f (x 25 0xfffffffff934cc7a & nzcv 13) same
    ∷ runs 12 0x5ac007fa (x 26 0 & nzcv 7) same
    ∷ runs 7 0x5ac00400 (x 0 0x8000000000000001 & nzcv 11) (x 0 0x100)
    ∷ runs 2 0x5ac00459 (x 2 0x800000003cb64c1f & x 25 0x80000000 & nzcv 7) (x 25 0xb63c1f4c)
    ∷ runs 11 0x5ac004c4 (x 4 0x20414a5a6159f69d & x 6 0x80000000ffffffff & nzcv 2) (x 4 0xffffffff)
    ∷ runs 1 0x5ac0040d (x 0 0xffffffffd3abc9ef & x 13 0xffffffffffffffff) (x 13 0xabd3efc9)
    ∷ runs 11 0x5ac00568 (x 8 0x29b743b18e859108 & x 11 0 & nzcv 10) (x 8 0)
    ∷ runs 1 0x5ac004b8 (x 5 0x55238a7680000000 & nzcv 14) (x 24 0x800000)
    -- clz
    ∷ runs 0 0x5ac0113f (x 9 0 & nzcv 8) same
    ∷ runs 10 0x5ac013e2 (x 2 0xfffffffffffffffe & nzcv 11) (x 2 0x20)
    ∷ runs 5 0x5ac01092 (x 4 0x773a366dfffffffe & x 18 0x80000000 & nzcv 10) (x 18 0)
    ∷ runs 1 0x5ac01006 (x 0 0xffffffff12345678 & x 6 0xc13cd3d5266dd159 & nzcv 8) (x 6 3)
    ∷ runs 0 0x5ac0116a (x 10 0 & x 11 0x61466120000007f & nzcv 13) (x 10 0x19)
    ∷ runs 0 0x5ac01047 (x 2 0x80000000ffffffff & x 7 0xe752536171a19399 & nzcv 4) (x 7 0)
    ∷ runs 2 0x5ac01106 (x 8 0x88ae616000000000 & nzcv 8) (x 6 0x20)
    ∷ runs 3 0x5ac01300 (x 24 0x253be14780000000 & nzcv 8) (x 0 0)
    ∷ []

pub all_end : reached rows ≡ expected rows
unfolding stepped
all_end = refl
