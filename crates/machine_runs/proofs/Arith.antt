-- Sums, products and quotients: each row's step ends as it says.
use mathlib.Core.List.{List, [], ◌∷◌}
use mathlib.Core.Path.{◌≡◌, refl}
use Rattle.machine_runs.specs.Row.{Row, runs, same, x, sp, nzcv, ◌&◌, stepped, reached, expected}

abbrev rows : List Row
rows =
    -- add_imm
    runs 1 0x110007ea (x 10 0x267f9754f4e998bc & sp 0x7fffffff & nzcv 6) (x 10 0x80000000)
    ∷ runs 13 0x110006f7 (x 23 0xfffffffe & sp 0x80000000 & nzcv 8) (x 23 0xffffffff)
    ∷ runs 11 0x11000231 (x 17 0x8000000000000000 & sp 0x2806fc8312ba3fb5 & nzcv 6) (x 17 0)
    ∷ runs 1 0x111ffe5d (x 18 0x12345678 & x 29 1 & sp 1 & nzcv 3) (x 29 0x12345e77)
    ∷ runs 3 0x11200013 (x 0 0xffffffff00000000 & x 19 0x8437788b47a0f290 & sp 0xfffffffffffffffe & nzcv 10) (x 19 0x800)
    ∷ runs 4 0x111ffe3e (x 17 0x80000000aaaaaaaa & x 30 0x100000000 & sp 0x35411d6d0c677deb & nzcv 2) (x 30 0xaaaab2a9)
    ∷ runs 7 0x1100041f (x 0 2 & sp 0xffffffff & nzcv 9) (sp 3)
    ∷ runs 3 0x110001b6 (x 13 0x5c49944580000000 & nzcv 3) (x 22 0x80000000)
    ∷ runs 11 0x11000154 (x 10 0x393d7e5effffffff & nzcv 13) (x 20 0xffffffff)
    ∷ runs 3 0x1100049e (x 4 0xa6b44ee9ffffffff & nzcv 15) (x 30 0)
    -- sub_imm
    ∷ runs 3 0x5120001f (x 0 0x61c70b9300000000 & sp 0x19c608fb59b76548 & nzcv 15) (sp 0xfffff800)
    ∷ runs 11 0x51000bef (x 15 0x100000000 & sp 0xffffffff5f136565 & nzcv 4) (x 15 0x5f136563)
    ∷ runs 10 0x51200084 (x 4 0x80000001 & sp 0xee170c6bd17c2b50 & nzcv 3) (x 4 0x7ffff801)
    ∷ runs 2 0x51000a52 (x 18 0xffffffff00007fff & sp 0x9a6fa700ada960b8 & nzcv 10) (x 18 0x7ffd)
    ∷ runs 9 0x512003c9 (x 9 1 & x 30 0xffffffff80000000 & sp 0xbe1ce3d694d746b & nzcv 7) (x 9 0x7ffff800)
    ∷ runs 4 0x51000490 (x 4 0x1e50d5332ad74e51 & x 16 0x7e3757a8f9a57c95 & sp 1 & nzcv 12) (x 16 0x2ad74e50)
    ∷ runs 5 0x5120001f (x 0 0x80000000ba752690 & sp 0x7fffffff & nzcv 1) (sp 0xba751e90)
    ∷ runs 11 0x510000c7 (x 6 0xc6c70bb800000000 & nzcv 9) (x 7 0)
    ∷ runs 9 0x513fff37 (x 25 0x55c3a421ffffffff & nzcv 5) (x 23 0xfffff000)
    -- subs_imm
    ∷ runs 0 0x71000529 (x 9 0xa107728080000000 & sp 0xb563c402b1e314ad & nzcv 11) (x 9 0x7fffffff & nzcv 3)
    ∷ runs 12 0x711ffe59 (x 18 0xe69603f100000003 & x 25 0x7fffffff & sp 0xf77f5a62451f40ee & nzcv 5) (x 25 0xfffff804 & nzcv 8)
    ∷ runs 13 0x711fff9d (x 28 0xffff & x 29 0xffffffff & sp 0xe228a84723f872a4 & nzcv 15) (x 29 0xf800 & nzcv 2)
    ∷ runs 5 0x713ffe9f (x 20 0xffffffff00000001 & sp 0x4f67d031a97a510f & nzcv 8) same
    ∷ runs 3 0x713ffe9f (x 20 0xffffffff & sp 0xf1a17a53eea65ada & nzcv 8) (nzcv 10)
    ∷ runs 7 0x711ffff1 (x 17 0x8000000000000000 & sp 0xffffffff44b7410a & nzcv 15) (x 17 0x44b7390b & nzcv 2)
    ∷ runs 9 0x71000344 (x 26 0x793d9cfe00000000 & nzcv 9) (x 4 0 & nzcv 6)
    ∷ runs 2 0x7100055c (x 10 0x17136b9e00000000 & nzcv 9) (x 28 0xffffffff & nzcv 8)
    -- add_imm_x
    ∷ runs 8 0x912002bf (x 21 0x7943637329a9c24a & sp 0x8000000000000000) (sp 0x7943637329a9ca4a)
    ∷ runs 5 0x911fffe2 (x 2 0x7fffffffffffffff & sp 0xf25d3f81092b395b & nzcv 14) (x 2 0xf25d3f81092b415a)
    ∷ runs 10 0x913fff3c (x 25 0x80000000 & x 28 0xffffffffffffffff & sp 0x123456789abcdef & nzcv 2) (x 28 0x80000fff)
    ∷ runs 7 0x9100083f (x 1 0xffffffffffffffff & sp 0) (sp 1)
    ∷ runs 12 0x910007e0 (x 0 0 & sp 0x8679c42b40313d0a & nzcv 12) (x 0 0x8679c42b40313d0b)
    ∷ runs 6 0x910003e0 (x 0 0xffffffff & sp 0x3660091826f86512 & nzcv 1) (x 0 0x3660091826f86512)
    ∷ runs 10 0x910007e0 (x 0 0xdf28c5bc7ab37511 & sp 0x80000000 & nzcv 2) (x 0 0x80000001)
    ∷ runs 11 0x91000109 (x 8 0 & nzcv 5) (x 9 0)
    ∷ runs 12 0x9100045e (x 2 0 & nzcv 5) (x 30 1)
    ∷ runs 12 0x9100076b (x 27 0xffffffffffffffff & nzcv 6) (x 11 0)
    -- cmp_imm
    ∷ runs 5 0x7100001f (x 0 0xd0f1868300000000 & nzcv 13) (nzcv 6)
    ∷ runs 12 0x7100011f (x 8 0xc9f9b2f00000001 & nzcv 7) (nzcv 2)
    ∷ runs 8 0x713ffd1f (x 8 0xe3228e1700000005 & nzcv 8) same
    ∷ runs 3 0x7100043f (x 1 0x6d05ea5480000000 & nzcv 7) (nzcv 3)
    ∷ runs 2 0x713ffd3f (x 9 0xccf7acebffffffff & nzcv 5) (nzcv 10)
    ∷ runs 5 0x712003ff (nzcv 13) (nzcv 8)
    -- add
    ∷ runs 0 0x0b0c03f3 (x 12 3 & x 19 0xffffffffffffffff & nzcv 14) (x 19 3)
    ∷ runs 8 0x0b0c018d (x 12 0x8000000080000000 & x 13 0x7fffffffffffffff & nzcv 10) (x 13 0)
    ∷ runs 2 0x0b1f03ff (nzcv 10) same
    ∷ runs 10 0x0b090320 (x 0 0 & x 9 0x12345678 & x 25 0 & nzcv 4) (x 0 0x12345678)
    ∷ runs 10 0x0b0502f2 (x 5 0xffffffff00000000 & x 23 0xffffffff00000000 & nzcv 1) (x 18 0)
    ∷ runs 8 0x0b0e0328 (x 14 0xffffffffffffffff & x 25 0xffffffff00000000) (x 8 0xffffffff)
    ∷ runs 6 0x0b1100c8 (x 6 1 & x 17 0xffffffff & nzcv 4) (x 8 0)
    ∷ runs 8 0x0b1500d0 (x 6 0xffffffff80000000 & x 21 0xffffffff00000000) (x 16 0x80000000)
    ∷ runs 11 0x0b1c0014 (x 0 0xcb86d626ffffffff & x 28 0xcb86d62600000001 & nzcv 8) (x 20 0)
    ∷ runs 10 0x0b08032a (x 8 0x80000000 & x 25 0xffffffff & nzcv 10) (x 10 0x7fffffff)
    -- add_x
    ∷ runs 11 0x8b0b038b (x 11 0x4c1951a4400fdcb & x 28 0x8000000000000000 & nzcv 10) (x 11 0x84c1951a4400fdcb)
    ∷ runs 1 0x8b1f03ff (nzcv 1) same
    ∷ runs 5 0x8b050132 (x 5 0x100000000 & x 9 0x80000000 & x 18 0xfd823931397eb223 & nzcv 3) (x 18 0x180000000)
    ∷ runs 7 0x8b0d0052 (x 2 0xde5a93d81de79eec & x 13 0xaa17c2b56768a144 & x 18 0x7fffffffffffffff & nzcv 10) (x 18 0x8872568d85504030)
    ∷ runs 11 0x8b1900f5 (x 7 0xacae0390570c861f & x 21 0 & x 25 0x8fb7d1e18d8568db & nzcv 7) (x 21 0x3c65d571e491eefa)
    ∷ runs 13 0x8b170385 (x 23 0 & x 28 0 & nzcv 8) (x 5 0)
    ∷ runs 13 0x8b130115 (x 8 1 & x 19 0xffffffffffffffff & nzcv 7) (x 21 0)
    ∷ runs 2 0x8b080316 (x 8 1 & x 24 0xffffffffffffffff & nzcv 4) (x 22 0)
    ∷ runs 9 0x8b1c033d (x 25 0xffffffffffffffff & x 28 0xffffffffffffffff & nzcv 12) (x 29 0xfffffffffffffffe)
    -- add_lsl
    ∷ runs 3 0x0b02001a (x 0 0x7a7ea381fffffffe & x 2 0xf3ce52a500000000 & nzcv 14) (x 26 0xfffffffe)
    ∷ runs 7 0x0b0101fc (x 1 0x80000000 & x 15 0xffffffff11b2531e & nzcv 9) (x 28 0x91b2531e)
    ∷ runs 4 0x0b0d048f (x 4 0x8000000000000000 & x 13 0xa6144cbdabcdef01 & nzcv 9) (x 15 0x579bde02)
    ∷ runs 4 0x0b08784b (x 2 0x8000000080000000 & x 8 0xffffffff00000080 & nzcv 9) (x 11 0x80000000)
    ∷ runs 13 0x0b147da6 (x 13 0x88816a0aaaaaaaa & x 20 0xffffffffd9f3af7d & nzcv 4) (x 6 0x2aaaaaaa)
    ∷ runs 7 0x0b0e2bf6 (x 14 0x45e17a96aaaaaaaa & x 22 0x11d47981c36e0b4d & nzcv 7) (x 22 0xaaaaa800)
    ∷ runs 9 0x0b192f36 (x 22 0x3c33122412352824 & x 25 0 & nzcv 4) (x 22 0)
    ∷ runs 4 0x0b122a52 (x 18 0xffffffff & nzcv 3) (x 18 0xfffffbff)
    ∷ runs 9 0x0b1f67ff (nzcv 1) same
    ∷ runs 9 0x0b05555a (x 5 0xffffffff0000007f & x 10 0x8000000055555555 & x 26 0 & nzcv 9) (x 26 0x65355555)
    -- add_lsr
    ∷ runs 9 0x0b560f89 (x 22 0x8000000080000000 & x 28 0x8000000080000000 & nzcv 13) (x 9 0x90000000)
    ∷ runs 1 0x0b4a41c6 (x 10 0x3b06d9cd & x 14 0x800000000000ffff & nzcv 10) (x 6 0x13b05)
    ∷ runs 12 0x0b597fc7 (x 25 0xffffffff & x 30 0x517410d & nzcv 10) (x 7 0x517410e)
    ∷ runs 6 0x0b462feb (x 6 0xf55b0342aaaaaaaa & x 11 0 & nzcv 15) (x 11 0x155555)
    ∷ runs 8 0x0b471ce7 (x 7 0xf48eb2bf & nzcv 11) (x 7 0xf677d024)
    ∷ runs 6 0x0b5f3fff (nzcv 7) same
    ∷ runs 4 0x0b495cfc (x 7 0x80000000e38a567f & x 9 0xffffffffabcdef01 & x 28 0x79cd07134ad05d & nzcv 8) (x 28 0xe38a57d6)
    ∷ runs 5 0x0b496c54 (x 2 0x3d9e460cffffffff & x 9 0xffffffff00000003 & x 20 0xc74097b7b806cfa8 & nzcv 2) (x 20 0xffffffff)
    -- add_x_lsl
    ∷ runs 4 0x8b1bf917 (x 8 0x80000000 & x 27 0x53868d4e83c5d710 & nzcv 12) (x 23 0x80000000)
    ∷ runs 3 0x8b12fd4e (x 10 0xffffffffffffffff & x 18 0x8000000000000000 & nzcv 12) (x 14 0xffffffffffffffff)
    ∷ runs 13 0x8b1fd272 (x 18 0x7fffffffffffffff & x 19 0x8000000000000000 & nzcv 15) (x 18 0x8000000000000000)
    ∷ runs 12 0x8b082b48 (x 8 0 & x 26 0xc84f2c1919600b8e & nzcv 8) (x 8 0xc84f2c1919600b8e)
    ∷ runs 3 0x8b195739 (x 25 0xffffffff & nzcv 10) (x 25 0x200000ffdfffff)
    ∷ runs 12 0x8b1f07ff (nzcv 1) same
    ∷ runs 0 0x8b04e76f (x 4 0x80000000 & x 15 0xf9e705013d209599 & x 27 0x7fffffff & nzcv 2) (x 15 0x7fffffff)
    -- sub
    ∷ runs 8 0x4b0101bf (x 1 0xffffffff00000000 & x 13 2 & nzcv 12) same
    ∷ runs 12 0x4b1003f5 (x 16 0xffffffff00008000 & x 21 0x290ae75a6c54f6a & nzcv 8) (x 21 0xffff8000)
    ∷ runs 1 0x4b1f0352 (x 18 0 & x 26 0x8000000000000000 & nzcv 3) same
    ∷ runs 9 0x4b0e0231 (x 14 0xffffffff & x 17 0xffffffff0000007f & nzcv 8) (x 17 0x80)
    ∷ runs 4 0x4b12008d (x 4 0xaa15349725fe70c2 & x 13 0x9226fd7fcd69742f & x 18 0x44d0fe2b & nzcv 11) (x 13 0xe12d7297)
    ∷ runs 7 0x4b180055 (x 2 0xffffffff00000000 & x 24 0xffffffff00000000 & nzcv 11) (x 21 0)
    ∷ runs 5 0x4b100071 (x 3 0xf6984ee80000000 & x 16 0xf6984ee00000000 & nzcv 5) (x 17 0x80000000)
    ∷ runs 13 0x4b00027a (x 0 0xffffffff80000000 & x 19 0xffffffff80000000 & nzcv 2) (x 26 0)
    ∷ runs 3 0x4b1c0177 (x 11 0xffffffffffffffff & x 28 0xffffffff80000000 & nzcv 1) (x 23 0x7fffffff)
    ∷ runs 10 0x4b13037c (x 19 0xffffffffffffffff & x 27 0xffffffffffffffff & nzcv 12) (x 28 0)
    -- sub_lsl
    ∷ runs 1 0x4b1000b4 (x 5 0xffffffff00007fff & x 16 0x8000000000000000 & nzcv 14) (x 20 0x7fff)
    ∷ runs 10 0x4b130727 (x 19 0x55555555 & x 25 0x80000000ffffffff & nzcv 12) (x 7 0x55555555)
    ∷ runs 2 0x4b1b0cd5 (x 6 0x513299d180000001 & x 27 0xe2fd9e02) (x 21 0x68130ff1)
    ∷ runs 3 0x4b0b2b1f (x 11 0x80000000ffffffff & x 24 0x55c84c33 & nzcv 13) same
    ∷ runs 9 0x4b1d17f2 (x 18 0x198f5f20d29c08db & x 29 0xff & nzcv 2) (x 18 0xffffe020)
    ∷ runs 3 0x4b1f4d43 (x 3 0x7fffffffffffffff & x 10 0xffffffff0000ffff) (x 3 0xffff)
    ∷ runs 12 0x4b197c84 (x 4 0x82934b69 & x 25 0x7f & nzcv 11) (x 4 0x2934b69)
    ∷ runs 5 0x4b007840 (x 0 0xdfb7e7f5262fef3a & x 2 0x4927b24400000000 & nzcv 2) (x 0 0x80000000)
    ∷ runs 4 0x4b086108 (x 8 0x7fffffff & nzcv 2) (x 8 0x80ffffff)
    ∷ runs 0 0x4b1206cd (x 13 0x100000000 & x 18 0xffffffffabcdef01 & x 22 0xffffffffaaaaaaaa & nzcv 2) (x 13 0x530ecca8)
    -- subs
    ∷ runs 4 0x6b1f03c2 (x 2 0x8000000000000000 & x 30 0x8000000000010000 & nzcv 6) (x 2 0x10000 & nzcv 2)
    ∷ runs 5 0x6b1f03ff (nzcv 13) (nzcv 6)
    ∷ runs 5 0x6b030177 (x 3 0x31fda0940000007f & x 11 0xf1bad95d0000ffff & x 23 0x7fffffffffffffff & nzcv 7) (x 23 0xff80 & nzcv 2)
    ∷ runs 0 0x6b0f015b (x 10 0x10000 & x 15 0x8000000080000000 & x 27 0 & nzcv 10) (x 27 0x80010000 & nzcv 9)
    ∷ runs 6 0x6b11006b (x 3 0 & x 17 0 & nzcv 15) (x 11 0 & nzcv 6)
    ∷ runs 8 0x6b000324 (x 0 0xffffffff & x 25 0 & nzcv 7) (x 4 1 & nzcv 0)
    ∷ runs 5 0x6b0900ac (x 5 0x4c49468a80000000 & x 9 0x4c49468a80000000 & nzcv 12) (x 12 0 & nzcv 6)
    ∷ runs 12 0x6b1c0096 (x 4 0x80000000 & x 28 0xffffffff & nzcv 14) (x 22 0x80000001 & nzcv 8)
    ∷ runs 3 0x6b0703aa (x 7 0 & x 29 0xffffffff & nzcv 12) (x 10 0xffffffff & nzcv 10)
    ∷ runs 11 0x6b060179 (x 6 0xd8e49638ffffffff & x 11 0xd8e49638ffffffff & nzcv 12) (x 25 0 & nzcv 6)
    -- cmp
    ∷ runs 13 0x6b1d03ff (x 29 0x80000000fffffffe & nzcv 4) (nzcv 0)
    ∷ runs 6 0x6b1f00bf (x 5 0xffffffff00008000 & nzcv 8) (nzcv 2)
    ∷ runs 7 0x6b02005f (x 2 0xc25458ab00008000 & nzcv 7) (nzcv 6)
    ∷ runs 4 0x6b19031f (x 24 0x9069be7380000001 & x 25 0xffffffff00000003 & nzcv 2) (nzcv 3)
    ∷ runs 10 0x6b0d025f (x 13 0 & x 18 0 & nzcv 6) same
    ∷ runs 0 0x6b14031f (x 20 0x80000000 & x 24 0 & nzcv 14) (nzcv 9)
    ∷ runs 3 0x6b03021f (x 3 0xffffffff & x 16 0x80000000 & nzcv 4) (nzcv 8)
    ∷ runs 12 0x6b09025f (x 9 0 & x 18 0xffffffff & nzcv 13) (nzcv 10)
    -- cmp_x
    ∷ runs 0 0xeb1f03ff (nzcv 3) (nzcv 6)
    ∷ runs 6 0xeb0b033f (x 11 0xffffffff & x 25 0 & nzcv 10) (nzcv 8)
    ∷ runs 7 0xeb08001f (x 0 0x584b31a94128a38c & x 8 0xffffffffffffffff & nzcv 13) (nzcv 0)
    ∷ runs 12 0xeb1b01ff (x 15 0 & x 27 0x8000000000000000 & nzcv 14) (nzcv 9)
    ∷ runs 7 0xeb0700bf (x 5 0x8000000000000000 & x 7 0) (nzcv 10)
    ∷ runs 7 0xeb0e02bf (x 14 1 & x 21 0x8000000000000000 & nzcv 2) (nzcv 3)
    ∷ runs 9 0xeb1e015f (x 10 0xffffffffffffffff & x 30 0x8000000000000000 & nzcv 6) (nzcv 2)
    -- neg
    ∷ runs 8 0x4b1f03ff (nzcv 10) same
    ∷ runs 8 0x4b1303f5 (x 19 0xffffffff80000000 & x 21 0x1c8fe509626db3a4 & nzcv 7) (x 21 0x80000000)
    ∷ runs 12 0x4b1003fe (x 16 0x95956a0100000003 & x 30 0x7fffffff & nzcv 13) (x 30 0xfffffffd)
    ∷ runs 7 0x4b0003f4 (x 0 0x78b6fb2b & x 20 0x123456789abcdef & nzcv 14) (x 20 0x874904d5)
    ∷ runs 11 0x4b0103f0 (x 1 0xffffffffffffffff & x 16 0xbca607b5a9a46bc6 & nzcv 11) (x 16 1)
    ∷ runs 2 0x4b1c03f5 (x 21 0xffffffffffffffff & x 28 0xe422c54a & nzcv 2) (x 21 0x1bdd3ab6)
    ∷ runs 6 0x4b0203ed (x 2 0xc69960fa51ac0c84 & x 13 0x80000000 & nzcv 3) (x 13 0xae53f37c)
    ∷ runs 12 0x4b0103f9 (x 1 0xffffffff00000000 & x 25 0x2cee1f5824df0952) (x 25 0)
    -- sdiv
    ∷ runs 11 0x1ac30c71 (x 3 0x800000001367f631 & x 17 0xffffffffffffffff & nzcv 2) (x 17 1)
    ∷ runs 13 0x1adf0fff (nzcv 11) same
    ∷ runs 11 0x1ad30ee5 (x 5 0x80000000 & x 19 0xffffffff00000080 & x 23 0x800000009b657e52 & nzcv 1) (x 5 0xff36cafd)
    ∷ runs 2 0x1ad90f86 (x 6 0x7fffffffffffffff & x 25 0xe0b4c18000000000 & x 28 0x80000000fddfb153 & nzcv 4) (x 6 0)
    ∷ runs 5 0x1ac20c3e (x 1 0x80000000699dab2f & x 2 0 & x 30 0x8000000000000000 & nzcv 14) (x 30 0)
    ∷ runs 8 0x1ad30cc2 (x 6 0x80000000 & x 19 0xffffffff & nzcv 5) (x 2 0x80000000)
    ∷ runs 9 0x1ad70d49 (x 10 0xffffffff80000000 & x 23 0xffffffff00000000 & nzcv 4) (x 9 0)
    ∷ runs 1 0x1ad80f22 (x 24 0xeec46a4e80000000 & x 25 0xeec46a4e80000000 & nzcv 13) (x 2 1)
    ∷ runs 6 0x1ad50dea (x 15 0xffffffff00000007 & x 21 0xffffffff80000000 & nzcv 6) (x 10 0)
    ∷ runs 3 0x1ad30c2d (x 1 0 & x 19 0xffffffff & nzcv 15) (x 13 0)
    -- udiv
    ∷ runs 4 0x1adf0953 (x 10 0x800000004f00c8e3 & x 19 0x100000000 & nzcv 8) (x 19 0)
    ∷ runs 12 0x1adf0bff (nzcv 7) same
    ∷ runs 13 0x1ac10b8f (x 1 1 & x 15 0 & x 28 0xabcdef01 & nzcv 13) (x 15 0xabcdef01)
    ∷ runs 6 0x1add0892 (x 4 0xf0d132cb & x 18 0xffffffff & x 29 0xea1aa5514e40dfae & nzcv 8) (x 18 3)
    ∷ runs 9 0x1ac80a5b (x 8 0xffffffff00000000 & x 18 0 & x 27 0x1115b114d1cb58b5 & nzcv 15) (x 27 0)
    ∷ runs 1 0x1ac309bb (x 3 0x8000000080000001 & x 13 0x800000000000007f & x 27 0x7fffffffffffffff & nzcv 10) (x 27 0)
    ∷ runs 5 0x1ad60b95 (x 22 0x319caad8ffffffff & x 28 0x319caad880000000) (x 21 0)
    ∷ runs 0 0x1acb08c8 (x 6 0xffffffff80000000 & x 11 0xffffffff80000000 & nzcv 5) (x 8 1)
    ∷ runs 13 0x1ad50b90 (x 21 0x7b8aa82f80000000 & x 28 0x7b8aa82f00000007 & nzcv 12) (x 16 0)
    ∷ runs 12 0x1adc0b4d (x 26 0xbbb65160ffffffff & x 28 0xbbb65160ffffffff & nzcv 14) (x 13 1)
    -- msub
    ∷ runs 8 0x1b1fffff (nzcv 9) same
    ∷ runs 12 0x1b1ba639 (x 9 0xffffffffffffffff & x 17 0x80000000ffffffff & x 25 0 & x 27 0xffffffffaaaaaaaa & nzcv 14) (x 25 0xaaaaaaa9)
    ∷ runs 13 0x1b03b4b2 (x 3 0xffffffffffffffff & x 5 0xffffffff00000001 & x 13 0x49ebca30d9c7a7eb & x 18 0x8000000000000000 & nzcv 15)
    (x 18 0xd9c7a7ec)
    ∷ runs 11 0x1b00caa0 (x 0 0x2fa647b980000000 & x 18 0x34c287880000001 & x 21 0xffffffff55555555 & nzcv 5) (x 0 1)
    ∷ runs 5 0x1b01da46 (x 1 0x21ab9de300000000 & x 6 0xfffffffffffffffe & x 18 0x8000000000007fff & x 22 0xffffffff64c72e01 & nzcv 9)
    (x 6 0x64c72e01)
    ∷ runs 8 0x1b1e8548 (x 1 0xa6a394b455555555 & x 8 0xffffffff & x 10 0x8000000080000000 & x 30 0xffffffff6b512405 & nzcv 2)
    (x 8 0xd5555555)
    ∷ runs 0 0x1b05a79e (x 5 0xffffffff & x 9 0xcac477a400000000 & x 28 0 & nzcv 12) (x 30 0)
    ∷ runs 8 0x1b10e7b7 (x 16 1 & x 25 0xffffffff00000003 & x 29 0xffffffff & nzcv 9) (x 23 4)
    -- mul
    ∷ runs 8 0x1b067fe8 (x 6 0xffffffff12345678 & x 8 0x7fffffffffffffff & nzcv 10) (x 8 0)
    ∷ runs 12 0x1b0b7d8c (x 11 0xffffffffa3b62d1d & x 12 0x80000000 & nzcv 1) same
    ∷ runs 13 0x1b1a7dda (x 14 0x62efee6b00000002 & x 26 0xffffffffffffffff) (x 26 0xfffffffe)
    ∷ runs 1 0x1b0e7fc0 (x 0 0x100000000 & x 14 0xaaaaaaaa & x 30 0x8000000000000003 & nzcv 2) (x 0 0xfffffffe)
    ∷ runs 13 0x1b1e7d0e (x 8 0xffffffffffffffff & x 14 0x4a30afb622bb063a & x 30 0xffffffff7fffffff & nzcv 6) (x 14 0x80000001)
    ∷ runs 4 0x1b1a7e50 (x 16 0xc76ce79a9c65b2da & x 18 0xffffffff6fc2d3ec & x 26 0xd89504f500000000 & nzcv 11) (x 16 0)
    ∷ runs 0 0x1b037e74 (x 3 0x8000000000000001 & x 19 0xe5567cff00000000 & x 20 0x8000000000000000 & nzcv 12) (x 20 0)
    ∷ runs 4 0x1b087ea7 (x 8 0x80000000 & x 21 0x80000000) (x 7 0)
    ∷ runs 5 0x1b1d7c2f (x 1 0 & x 29 0xffffffff) (x 15 0)
    ∷ runs 3 0x1b037d48 (x 3 0xdf14d37780000000 & x 10 0xdf14d37700000001 & nzcv 3) (x 8 0x80000000)
    -- umull
    ∷ runs 13 0x9bbf7e2f (x 15 0x832c4389e64311cf & x 17 0x10000 & nzcv 8) (x 15 0)
    ∷ runs 9 0x9bbf7fff (nzcv 2) same
    ∷ runs 1 0x9ba97c52 (x 2 0xb710713200000000 & x 9 0x8000000000000000 & x 18 1 & nzcv 8) (x 18 0)
    ∷ runs 6 0x9bb37de0 (x 0 0x8000000000000000 & x 15 0x3d3e58e200008000 & x 19 0x80000000aaaaaaaa & nzcv 7) (x 0 0x555555550000)
    ∷ runs 6 0x9bb97e48 (x 8 0x80000000 & x 18 0xaf932fa8fffffffe & x 25 0xffffffff15d208cf & nzcv 7) (x 8 0x15d208ced45bee62)
    ∷ runs 2 0x9baa7e7c (x 10 0x7a0103c7 & x 19 0xffffffffb1cfd646 & x 28 0xffffffffffffffff & nzcv 1) (x 28 0x54bdc08cda58626a)
    ∷ runs 1 0x9bbd7cf6 (x 7 0xffffffff & x 29 0xffffffff & nzcv 4) (x 22 0xfffffffe00000001)
    ∷ runs 9 0x9bbe7f08 (x 24 0xffffffff80000000 & x 30 0xffffffff80000000 & nzcv 9) (x 8 0x4000000000000000)
    ∷ runs 6 0x9bb47d19 (x 8 0x90a6736600000000 & x 20 0x90a67366ffffffff & nzcv 8) (x 25 0)
    -- smull
    ∷ runs 7 0x9b3d7fe8 (x 8 0x8000000000000000 & x 29 0x800000000000ffff & nzcv 13) (x 8 0)
    ∷ runs 12 0x9b397f19 (x 24 0x3b47e348393ca7c4 & x 25 0x55555555 & nzcv 4) (x 25 0x131437ebecebc814)
    ∷ runs 7 0x9b3f7fff (nzcv 8) same
    ∷ runs 11 0x9b307c5c (x 2 0xffffffff00008000 & x 16 0xffffffff & x 28 0xe9f12d0cb717eadf & nzcv 1) (x 28 0xffffffffffff8000)
    ∷ runs 3 0x9b227c03 (x 0 0xc5268c5412345678 & x 2 0xffffffff00008000 & x 3 0xffffffff & nzcv 14) (x 3 0x91a2b3c0000)
    ∷ runs 6 0x9b3b7e4e (x 14 0x8000000000000000 & x 18 0xffffffff & x 27 0x786cf4eb47439ab & nzcv 7) (x 14 0x4b8bc655)
    ∷ runs 11 0x9b247eb9 (x 4 0x477cff4d & x 21 0xfffffffffffffffe & x 25 0x80000000 & nzcv 9) (x 25 0xffffffff71060166)
    ∷ runs 6 0x9b357f41 (x 21 0xffffffff80000000 & x 26 0xffffffff80000000 & nzcv 8) (x 1 0x4000000000000000)
    ∷ runs 0 0x9b3e7c61 (x 3 0 & x 30 0xffffffff & nzcv 12) (x 1 0)
    ∷ []

pub all_end : reached rows ≡ expected rows
unfolding stepped
all_end = refl
