-- Loads and stores: each row's step ends as it says.
use mathlib.Core.List.{List, [], ◌∷◌}
use mathlib.Core.Path.{◌≡◌, refl}
use Rattle.machine.specs.State.{stack, processor, ram}
use Rattle.machine_runs.specs.Row.{Row, runs, same, x, sp, nzcv, bytes, ◌&◌, stepped, reached, expected}

abbrev rows : List Row
rows =
    -- ldr
    runs 10 0xb940071c (x 24 0x4000000018 & x 28 0xffffffffffffffff & nzcv 11 & bytes ram 60 4 0x80f1c027) (x 28 0x80f1c027)
    ∷ runs 1 0xb9403fba (x 26 0x8000000000000000 & x 29 0xfc4 & nzcv 10 & bytes processor 0 4 0x8dbf65) (x 26 0x8dbf65)
    ∷ runs 7 0xb9403c00 (x 0 0x3fffffffc0 & nzcv 8 & bytes ram 28 4 0x85d973) (x 0 0x85d973)
    ∷ runs 0 0xb9403c1f (x 0 0x3fffffffa4 & nzcv 3 & bytes ram 0 4 0xb882da) same
    ∷ runs 8 0xb94103ed (x 13 1 & sp 0x500000030 & nzcv 5 & bytes stack 48 4 0x80035647) (x 13 0x80035647)
    ∷ runs 2 0xb95ffff9 (x 25 0x80000000 & sp 0x4ffffe130 & nzcv 6 & bytes stack 44 4 0xf92805a1) (x 25 0xf92805a1)
    ∷ runs 13 0xb97ffe73 (x 19 0xffffffffffffd00d & nzcv 11 & bytes processor 9 4 0x3be4b74d) (x 19 0x3be4b74d)
    -- str
    ∷ runs 2 0xb9000003 (x 0 0x400000001c & x 3 0x8000000000000000 & nzcv 15) (bytes ram 60 4 0)
    ∷ runs 13 0xb9000453 (x 2 0xffc & x 19 0xffffffff & nzcv 7) (bytes processor 0 4 0xffffffff)
    ∷ runs 13 0xb9010021 (x 1 0xf0c & nzcv 10) (bytes processor 12 4 0xf0c)
    ∷ runs 7 0xb91ffc41 (x 1 0x123456789abcdef & x 2 0xfffffffffffff008 & nzcv 8) (bytes processor 4 4 0x89abcdef)
    ∷ runs 9 0xb93fffff (sp 0x4ffffc120 & nzcv 11) (bytes stack 28 4 0)
    -- ldrh
    ∷ runs 11 0x79400231 (x 17 0x400000001e & nzcv 7 & bytes ram 62 2 0xee) (x 17 0xee)
    ∷ runs 2 0x794003ef (x 15 0x9f5b800cbf048545 & nzcv 1 & bytes stack 32 2 0x26) (x 15 0x26)
    ∷ runs 0 0x794007d9 (x 25 0x7fffffffffffffff & x 30 0x3fffffffde & bytes ram 0 2 0x7fcc) (x 25 0x7fcc)
    ∷ runs 12 0x79403ec0 (x 0 0xb5bddf8ad5992364 & x 22 0x3fffffffe0 & nzcv 10 & bytes ram 30 2 0x7f06) (x 0 0x7f06)
    ∷ runs 10 0x79403c42 (x 2 0xfe7 & nzcv 14 & bytes processor 5 2 0xd8) (x 2 0xd8)
    ∷ runs 7 0x7941003f (x 1 0x3fffffff80 & nzcv 2 & bytes ram 32 2 0x7f8e) same
    ∷ runs 3 0x795fff20 (x 0 0xffffffff & x 25 0x10 & nzcv 8 & bytes processor 14 2 0x7f1d) (x 0 0x7f1d)
    ∷ runs 10 0x797ffd29 (x 9 0xfffffffffffff00a & nzcv 10 & bytes processor 8 2 0x7f5e) (x 9 0x7f5e)
    ∷ runs 13 0x797fffb7 (x 23 0x8000000000000000 & x 29 0x3fffffe00b & nzcv 1 & bytes ram 41 2 0x80ad) (x 23 0x80ad)
    -- ldr_x
    ∷ runs 12 0xf94000de (x 6 0x4000000018 & x 30 0x7fffffffffffffff & nzcv 11 & bytes ram 56 8 0xffe474d4d3507749)
    (x 30 0xffe474d4d3507749)
    ∷ runs 6 0xf94003ff (sp 0x500000130 & nzcv 15 & bytes stack 48 8 0xff206d581c4c1d0f) same
    ∷ runs 8 0xf94003cd (x 13 0x7fffffff & x 30 0x3ffffffff8 & nzcv 10 & bytes ram 24 8 0x7f8f6dc366c115f3) (x 13 0x7f8f6dc366c115f3)
    ∷ runs 10 0xf9400662 (x 2 0xf52d8c01d27db5ba & x 19 0x1000 & nzcv 3 & bytes processor 8 8 0x7fcfd0c5cb949a3e) (x 2 0x7fcfd0c5cb949a3e)
    ∷ runs 2 0xf940089d (x 4 0x3fffffffe8 & x 29 0x100000000 & nzcv 2 & bytes ram 24 8 0x80a7c8765ff7e857) (x 29 0x80a7c8765ff7e857)
    ∷ runs 11 0xf95ffe4e (x 14 0xffffffff & x 18 0xffffffffffffd008 & nzcv 1 & bytes processor 0 8 0xcda97c900f7cae41)
    (x 14 0xcda97c900f7cae41)
    ∷ runs 6 0xf97ffd8c (x 12 0x3fffff8020 & nzcv 11 & bytes ram 56 8 0x2a837a27134c95) (x 12 0x2a837a27134c95)
    -- str_x
    ∷ runs 7 0xf900001f (x 0 0x4000000015 & nzcv 13) (bytes ram 53 8 0)
    ∷ runs 2 0xf90007bd (x 29 0xffc & nzcv 2) (bytes processor 4 8 0xffc)
    ∷ runs 1 0xf9000812 (x 0 0x3fffffffe8 & x 18 0xfe4c60bc49c1003c & nzcv 13) (bytes ram 24 8 0xfe4c60bc49c1003c)
    ∷ runs 5 0xf9003fe3 (x 3 0 & sp 0x5000000a0 & nzcv 14) (bytes stack 24 8 0)
    ∷ runs 12 0xf91fff81 (x 1 0x6a30dead853eb251 & x 28 0xffffffffffffd010 & nzcv 13) (bytes processor 8 8 0x6a30dead853eb251)
    ∷ runs 7 0xf91fffab (x 11 0x7fffffffffffffff & x 29 0x3fffffc008 & nzcv 2) (bytes ram 32 8 0x7fffffffffffffff)
    ∷ runs 1 0xf93fffe6 (x 6 0x80000000 & sp 0x4ffff8120 & nzcv 8) (bytes stack 24 8 0x80000000)
    -- strb
    ∷ runs 12 0x39000250 (x 16 0x100000000 & x 18 0x3ffffffff6 & nzcv 8) (bytes ram 22 1 0)
    ∷ runs 7 0x3900016b (x 11 0x1000 & nzcv 5) (bytes processor 0 1 0)
    ∷ runs 8 0x39003e20 (x 0 0x54176f5329d89ff2 & x 17 0x4000000010 & nzcv 12) (bytes ram 63 1 0xf2)
    ∷ runs 8 0x39010028 (x 1 0x3fffffffd3 & x 8 0xfffffffffffffffe & nzcv 3) (bytes ram 51 1 0xfe)
    ∷ runs 8 0x391ffc44 (x 2 0x3ffffff801 & x 4 0xffffffffffffffff & nzcv 4) (bytes ram 32 1 0xff)
    ∷ runs 13 0x393fffff (sp 0x4fffff120 & nzcv 12) (bytes stack 31 1 0)
    ∷ runs 1 0x393ffd20 (x 0 0x80000000 & x 9 0x3ffffff00b & nzcv 5) (bytes ram 42 1 0)
    -- ldr_idx
    ∷ runs 6 0xb86258a2 (x 2 0xffffffff80000000 & x 5 0xfffffffe00001008 & nzcv 6 & bytes processor 8 4 0x7f3ff803) (x 2 0x7f3ff803)
    ∷ runs 3 0xb87f5bff (sp 0x500000100 & nzcv 1 & bytes stack 0 4 0xdb056c) same
    ∷ runs 9 0xb8795875 (x 3 0x3fffffff63 & x 21 0xffffffffffffffff & x 25 0x2c & nzcv 6 & bytes ram 51 4 0xff202f74) (x 21 0xff202f74)
    ∷ runs 6 0xb86c591c (x 8 0x3dffffffff & x 12 0x80000000 & x 28 0x41212b82f21b5488 & nzcv 9 & bytes ram 31 4 0x44be0e) (x 28 0x44be0e)
    ∷ runs 2 0xb86b5832 (x 1 0x3e00000000 & x 11 0x80a225297fffffff & x 18 0xffffffff & nzcv 13 & bytes ram 28 4 0x7e4b11) (x 18 0x7e4b11)
    ∷ runs 12 0xb8705ab2 (x 16 0xffffffffffffffff & x 18 0x7fffffff & x 21 0xfffffffc0000100c & nzcv 7 & bytes processor 8 4 0x981f8594)
    (x 18 0x981f8594)
    ∷ runs 1 0xb8645aea (x 4 0xffffffff00000000 & x 10 0x100000000 & x 23 0x1008 & nzcv 6 & bytes processor 8 4 0x807b47c8)
    (x 10 0x807b47c8)
    -- str_idx
    ∷ runs 13 0xb8365acf (x 15 1 & x 22 0x3e6666666c & nzcv 5) (bytes ram 60 4 1)
    ∷ runs 9 0xb83f5bff (sp 0x500000110 & nzcv 2) (bytes stack 16 4 0)
    ∷ runs 9 0xb8275830 (x 1 0xff7 & x 7 0x92035c9300000004 & x 16 0xcf9b96afec01f88f & nzcv 2) (bytes processor 7 4 0xec01f88f)
    ∷ runs 2 0xb8205b85 (x 0 0xffffffff & x 5 0x80000000 & x 28 0xfffffffc00001010 & nzcv 7) (bytes processor 12 4 0x80000000)
    ∷ runs 12 0xb8245b1c (x 4 0 & x 24 0x4000000000 & x 28 0x100000000 & nzcv 10) (bytes ram 32 4 0)
    ∷ runs 0 0xb8305920 (x 0 0xffffffffffffffff & x 9 0x3bffffffe4 & x 16 0xffffffffffffffff & nzcv 5) (bytes ram 0 4 0xffffffff)
    ∷ runs 6 0xb82459d6 (x 4 0xffffffff80000000 & x 14 0xfffffffe00001000 & x 22 0xf523816e2a811b22 & nzcv 8)
    (bytes processor 0 4 0x2a811b22)
    -- ldr_u
    ∷ runs 11 0xb8684a73 (x 8 0xffffffff80000000 & x 19 0x3f7ffffff9 & nzcv 5 & bytes ram 25 4 0xff1b9300) (x 19 0xff1b9300)
    ∷ runs 2 0xb87f4bff (sp 0x500000100 & nzcv 4 & bytes stack 0 4 0x80cb738d) same
    ∷ runs 7 0xb87b4999 (x 12 0x1003 & x 25 0x100000000 & x 27 0xffffffff00000001 & nzcv 14 & bytes processor 4 4 0x804ceb00)
    (x 25 0x804ceb00)
    ∷ runs 6 0xb8664acd (x 6 0x5ddccf91 & x 13 0 & x 22 0x3fa223308b & nzcv 11 & bytes ram 60 4 0x7fadb54b) (x 13 0x7fadb54b)
    ∷ runs 4 0xb87b4999 (x 12 0x4000000000 & x 25 0xffffffffffffffff & x 27 0 & nzcv 14 & bytes ram 32 4 0x3f3da355) (x 25 0x3f3da355)
    ∷ runs 9 0xb878497c (x 11 0xffffffff00001005 & x 24 0xffffffffffffffff & x 28 0x80000000 & nzcv 4 & bytes processor 4 4 0x19866c)
    (x 28 0x19866c)
    ∷ runs 5 0xb86e4801 (x 0 0x3efffffffd & x 1 0xe7e43a874dc4fece & x 14 0xffffffff & nzcv 14 & bytes ram 28 4 0xff026288) (x 1 0xff026288)
    -- ldrh_u
    ∷ runs 7 0x7861493f (x 1 0xaa31fb300000002 & x 9 0x1004 & nzcv 5 & bytes processor 6 2 0x7f67) same
    ∷ runs 7 0x787848d8 (x 6 0x3ffffffffe & x 24 0xffffffff00000000 & nzcv 12 & bytes ram 30 2 0xfffa) (x 24 0xfffa)
    ∷ runs 11 0x787f4bff (sp 0x500000100 & nzcv 4 & bytes stack 0 2 0xfc) same
    ∷ runs 1 0x786d4acc (x 12 0x17fd72b1d7001bc5 & x 13 0xffffffffffffffff & x 22 0x3effffffff & nzcv 11 & bytes ram 30 2 0xffd1)
    (x 12 0xffd1)
    ∷ runs 11 0x7861490f (x 1 0xffffffff & x 8 0x3effffffff & x 15 0xaaf7938f016f493e & nzcv 7 & bytes ram 30 2 0x87) (x 15 0x87)
    ∷ runs 5 0x78754bb1 (x 17 0x7fffffff & x 21 0xffffffff80000000 & x 29 0xffffffff8000100e & nzcv 15 & bytes processor 14 2 0x48)
    (x 17 0x48)
    ∷ runs 1 0x78664b6b (x 6 0x7fffffff & x 11 0x7fffffffffffffff & x 27 0x3f7fffffff & nzcv 8 & bytes ram 30 2 0x80ea) (x 11 0x80ea)
    ∷ runs 6 0x787d49b4 (x 13 0x3ffffffffa & x 20 0x80000000 & x 29 0xffffffff00000002 & nzcv 6 & bytes ram 28 2 0x808f) (x 20 0x808f)
    -- ldrb_u
    ∷ runs 5 0x38704be2 (x 2 0x100000000 & x 16 0xffffffff100ed749 & sp 0x4eff129d0 & nzcv 3 & bytes stack 25 1 0xff) (x 2 0xff)
    ∷ runs 9 0x387f4bff (nzcv 5 & bytes stack 32 1 0x80) same
    ∷ runs 7 0x387b4867 (x 3 0x3f8000001f & x 7 0x7fffffff & x 27 0xffffffff80000000 & nzcv 6 & bytes ram 63 1 0) (x 7 0)
    ∷ runs 10 0x38704979 (x 11 0x3f7fffffe0 & x 16 0x80000000 & x 25 0xffffffffffffffff & nzcv 8 & bytes ram 0 1 0x3c) (x 25 0x3c)
    ∷ runs 10 0x387648eb (x 7 0x1000 & x 11 0x897d13d950e5a375 & x 22 0xe0b6b96500000000 & nzcv 3 & bytes processor 0 1 0) (x 11 0)
    ∷ runs 7 0x38644867 (x 3 0xffffffff51e848e8 & x 4 0xaf7f71a4ae17c718 & x 7 0x80000000 & nzcv 15 & bytes processor 0 1 0x7f) (x 7 0x7f)
    ∷ runs 13 0x38654a9d (x 5 0 & x 20 0x3fffffffff & x 29 0xaff2686e0273f180 & nzcv 5 & bytes ram 31 1 0x7f) (x 29 0x7f)
    ∷ runs 0 0x38694bc3 (x 3 0xeb15958e0cdadfbe & x 9 0xffffffff & x 30 0x3f00000000 & nzcv 5 & bytes ram 31 1 0x7f) (x 3 0x7f)
    -- ldrsb_u
    ∷ runs 10 0x38fa4bf8 (x 24 0x80000000 & x 26 0xffffffff00000001 & sp 0x500000110 & nzcv 13 & bytes stack 17 1 0x80) (x 24 0xffffff80)
    ∷ runs 8 0x38e848e7 (x 7 0x3f7fffffe8 & x 8 0x89728c280000000 & nzcv 9 & bytes ram 8 1 0x80) (x 7 0xffffff80)
    ∷ runs 0 0x38f14a31 (x 17 0x4000000000 & nzcv 13 & bytes ram 32 1 0xff) (x 17 0xffffffff)
    ∷ runs 12 0x38ff4bff (sp 0x500000130 & nzcv 11 & bytes stack 48 1 0) same
    ∷ runs 5 0x38f04b20 (x 0 0x6ec15fc6589602c4 & x 16 8 & x 25 0x3ffffffff7 & nzcv 6 & bytes ram 31 1 0x7f) (x 0 0x7f)
    ∷ runs 7 0x38f848a8 (x 5 0x3f7244b6e2 & x 8 0x7fffffff & x 24 0xffffffff8dbb48fe & nzcv 3 & bytes ram 0 1 0) (x 8 0)
    ∷ runs 1 0x38f24a84 (x 4 0x7fffffffffffffff & x 18 0xe59658b0ffffffff & x 20 0x3f00000014 & nzcv 3 & bytes ram 51 1 0x80)
    (x 4 0xffffff80)
    ∷ runs 7 0x38ef48f9 (x 7 0x4000000000 & x 15 0xffffffff00000000 & x 25 0xa42d94ad816c6c70 & nzcv 15 & bytes ram 32 1 0) (x 25 0)
    ∷ runs 12 0x38f24a84 (x 4 0xffffffff & x 18 0x80000000 & x 20 0x3f8000001f & nzcv 8 & bytes ram 63 1 0) (x 4 0)
    ∷ runs 0 0x38ee4bc1 (x 1 0x8000000000000000 & x 14 0xffffffff & x 30 0xffffffff00001010 & nzcv 8 & bytes processor 15 1 0) (x 1 0)
    -- ldrsh_u
    ∷ runs 6 0x78e04a80 (x 0 0xffffffffffffffff & x 20 0xffffffff0000100c & nzcv 8 & bytes processor 11 2 0xdef6) (x 0 0xffffdef6)
    ∷ runs 6 0x78ff4bff (nzcv 2 & bytes stack 32 2 0xff90) same
    ∷ runs 5 0x78fa4872 (x 3 0x1008 & x 18 0x231938d547ac2157 & x 26 0 & nzcv 4 & bytes processor 8 2 0x9040) (x 18 0xffff9040)
    ∷ runs 0 0x78eb4bd8 (x 11 2 & x 24 0x100000000 & x 30 0x3fffffffde & nzcv 7 & bytes ram 0 2 0xff3c) (x 24 0xffffff3c)
    ∷ runs 1 0x78e2485c (x 2 0x400000000e & x 28 0x80000000 & nzcv 4 & bytes ram 60 2 0xe7) (x 28 0xe7)
    ∷ runs 13 0x78e04b46 (x 0 0x80000000 & x 6 0x3bd1d8ad28799202 & x 26 0x3f7fffffe0 & nzcv 6 & bytes ram 0 2 0x99f0) (x 6 0xffff99f0)
    ∷ runs 2 0x78f64b30 (x 16 1 & x 22 0xc61b4c080000000 & x 25 0x3f80000000 & nzcv 5 & bytes ram 32 2 0x80e0) (x 16 0xffff80e0)
    -- str_u
    ∷ runs 4 0xb82d4be9 (x 9 0xf7acb63daa3e6805 & x 13 0xffffffff00000016 & nzcv 12) (bytes stack 54 4 0xaa3e6805)
    ∷ runs 13 0xb8354aa0 (x 0 0x7fffffff & x 21 0x4000000000 & nzcv 7) (bytes ram 32 4 0x7fffffff)
    ∷ runs 6 0xb83f4bff (nzcv 5) (bytes stack 32 4 0)
    ∷ runs 8 0xb8224b48 (x 2 0 & x 8 0x100000000 & x 26 0x100b) (bytes processor 11 4 0)
    ∷ runs 7 0xb8344964 (x 4 0 & x 11 0x3efffffffd & x 20 0xffffffffffffffff & nzcv 15) (bytes ram 28 4 0)
    ∷ runs 5 0xb83e4817 (x 0 0xffffffff80001006 & x 23 0x100000000 & x 30 0xffffffff80000000 & nzcv 1) (bytes processor 6 4 0)
    ∷ runs 2 0xb82b4b64 (x 4 0x7fffffffffffffff & x 11 0xe75043467fffffff & x 27 0x3f8000001d & nzcv 11) (bytes ram 60 4 0xffffffff)
    ∷ runs 12 0xb8314a40 (x 0 0x80000000 & x 17 0x80000000 & x 18 0x3f7fffffe0 & nzcv 12) (bytes ram 0 4 0x80000000)
    -- strh_u
    ∷ runs 5 0x782c496b (x 11 0x3effffffff & x 12 0x74d37ad5ffffffff & nzcv 13) (bytes ram 30 2 0xffff)
    ∷ runs 9 0x78344a98 (x 20 0x400000000e & x 24 0 & nzcv 6) (bytes ram 60 2 0)
    ∷ runs 8 0x783f4bff (sp 0x500000130 & nzcv 5) (bytes stack 48 2 0)
    ∷ runs 7 0x7837481e (x 0 0xffffffff80001006 & x 23 0x7fffffff & x 30 0x6343c32dd3896c69 & nzcv 9) (bytes processor 5 2 0x6c69)
    ∷ runs 4 0x78294831 (x 1 0x4000000000 & x 9 0xffffffff00000000 & x 17 0x996942b97d37e08e & nzcv 7) (bytes ram 32 2 0xe08e)
    ∷ runs 6 0x78214a51 (x 1 0x57d0d2ee00000002 & x 17 0x80000000 & x 18 0x100c & nzcv 8) (bytes processor 14 2 0)
    -- strb_u
    ∷ runs 9 0x383f4bff (sp 0x500000110 & nzcv 2) (bytes stack 16 1 0)
    ∷ runs 1 0x383a49f3 (x 15 0x3ffffffffd & x 19 0x7db96172c098152 & x 26 0xffffffff00000002 & nzcv 15) (bytes ram 31 1 0x52)
    ∷ runs 3 0x382d4aa5 (x 5 0x100000000 & x 13 0x80000000 & x 21 0xffffffff80001000 & nzcv 1) (bytes processor 0 1 0)
    ∷ runs 2 0x383d4b2b (x 11 0x7fffffff & x 25 0x3f80000000 & x 29 0xdac1dfd97fffffff & nzcv 14) (bytes ram 31 1 0xff)
    ∷ runs 0 0x382f493b (x 9 0x3f00000020 & x 15 0xe1385f01ffffffff & x 27 0xb32dfb9df12f2c28 & nzcv 15) (bytes ram 63 1 0x28)
    ∷ runs 9 0x38274b82 (x 2 0x4f30f52b302b8f34 & x 7 0 & x 28 0x3fffffffff & nzcv 7) (bytes ram 31 1 0x34)
    ∷ runs 10 0x382f4928 (x 8 0xffffffff & x 9 0x1001 & x 15 0xffffffff00000002 & nzcv 13) (bytes processor 3 1 0xff)
    -- stp_pre
    ∷ runs 3 0xa980300e (x 0 0x4000000010 & x 12 0xffffffff & x 14 0x80000000 & nzcv 2) (bytes ram 48 16 0xffffffff0000000080000000)
    ∷ runs 5 0xa980841f (x 0 0x3fffffffd8 & x 1 0xd42811ac4f260498 & nzcv 5)
    (x 0 0x3fffffffe0 & bytes ram 0 16 0xd42811ac4f2604980000000000000000)
    ∷ runs 2 0xa9bf2bc3 (x 3 0x7fffffffffffffff & x 10 0x26e0afe3d4722d79 & x 30 0x4000000000 & nzcv 14)
    (x 30 0x3ffffffff0 & bytes ram 16 16 0x26e0afe3d4722d797fffffffffffffff)
    ∷ runs 12 0xa9ba5bf3 (x 19 0x7fffffff & x 22 0x21f3bad965e09f20 & sp 0x500000190 & nzcv 9)
    (sp 0x500000130 & bytes stack 48 16 0x21f3bad965e09f20000000007fffffff)
    ∷ runs 0 0xa9ba7f55 (x 21 0x63f51d131c04ffb0 & x 26 0x1060 & nzcv 14) (x 26 0x1000 & bytes processor 0 16 0x63f51d131c04ffb0)
    ∷ runs 13 0xa9a04be9 (x 9 0x8000000000000000 & x 18 0x47cdba4f8a894b6f & sp 0x500000310 & nzcv 7)
    (sp 0x500000110 & bytes stack 16 16 0x47cdba4f8a894b6f8000000000000000)
    -- stp
    ∷ runs 1 0xa9003f18 (x 15 0xa3700ee8705a336e & x 24 0x3ffffffff0 & nzcv 14) (bytes ram 16 16 0xa3700ee8705a336e0000003ffffffff0)
    ∷ runs 2 0xa9014eb4 (x 19 0x92269f0fff7c6ff8 & x 20 0x100000000 & x 21 0x4000000000)
    (bytes ram 48 16 0x92269f0fff7c6ff80000000100000000)
    ∷ runs 12 0xa901565f (x 18 0x3fffffffec & x 21 0xffffffff & nzcv 15) (bytes ram 28 16 0xffffffff0000000000000000)
    ∷ runs 4 0xa93fc39c (x 16 0x22cefc8e44b1fcb2 & x 28 0x1008 & nzcv 11) (bytes processor 0 16 0x22cefc8e44b1fcb20000000000001008)
    ∷ runs 5 0xa93f7d8d (x 12 0x1010 & x 13 0x80000000 & nzcv 7) (bytes processor 0 16 0x80000000)
    ∷ runs 7 0xa93a4beb (x 11 0xffffffffffffffff & x 18 0x7fffffffffffffff & sp 0x500000180 & nzcv 15)
    (bytes stack 32 16 0x7fffffffffffffffffffffffffffffff)
    -- ldp
    ∷ runs 9 0xa9406be0 (x 0 0x7fffffffffffffff & x 26 0x7fffffff & sp 0x500000110) (x 0 0x936e4924ffdab590 & x 26 0xbb96714c2702ddb8)
    ∷ runs 7 0xa9400e5f (x 3 0x123456789abcdef & x 18 0x3fffffffe6 & nzcv 9) (x 3 0xe8c39e79542f0ae5)
    ∷ runs 3 0xa9402a31 (x 10 0x1a01d7962b3bc456 & x 17 0x4000000000 & nzcv 3) (x 10 0xaa85603b16f1cca7 & x 17 0x825d3813eec9a47f)
    ∷ runs 6 0xa940fbe0 (x 0 0xc9da1884bcd0ea1e & x 30 0x713df09a46d797f8 & sp 0x500000110 & nzcv 5)
    (x 0 0xbb96714c2702ddb8 & x 30 0xe3be99744f2a05e0)
    ∷ runs 3 0xa940fc4a (x 2 0x3fffffffe8 & x 10 1 & nzcv 1) (x 10 0x320de8c39e79542f)
    ∷ runs 12 0xa97f81ea (x 0 0x8000000000000000 & x 10 0x80000000 & x 15 0x1008 & nzcv 8)
    (x 0 0xa07b56310ce7c29d & x 10 0x78532e09e4bf9a75)
    -- ldp_post
    ∷ runs 9 0xa8c07d20 (x 0 0x48b42c83d0718d7e & x 9 0x3fffffffe0 & nzcv 14) (x 0 0xe2bd98734e2904df)
    ∷ runs 5 0xa8c0d9ff (x 15 0x3fffffffff & x 22 0 & nzcv 4) (x 15 0x4000000007 & x 22 0x85603b16f1cca782)
    ∷ runs 2 0xa8c11ea0 (x 0 0x7fffffff & x 7 0xffffffff & x 21 0x1000 & nzcv 10)
    (x 0 0x78532e09e4bf9a75 & x 7 0xa07b56310ce7c29d & x 21 0x1010)
    ∷ runs 8 0xa8ffdbf3 (x 19 0x9f5e6c6876fa4478 & x 22 0 & sp 0x500000100)
    (x 19 0x431ef9d4af8a6540 & x 22 0x6b4621fcd7b28d68 & sp 0x5000000f8)
    ∷ runs 3 0xa8fffec4 (x 4 0x100000000 & x 22 0x4000000000 & nzcv 9) (x 4 0x825d3813eec9a47f & x 22 0x3ffffffff8)
    ∷ runs 1 0xa8e043ef (x 15 0x80000000 & x 16 0xffffffffffffffff & sp 0x500000110 & nzcv 4)
    (x 15 0x936e4924ffdab590 & x 16 0xbb96714c2702ddb8 & sp 0x4ffffff10)
    ∷ runs 0 0xa8e04d40 (x 0 0x118b1fe2bd8f5816 & x 10 0x3ffffffff0 & x 19 0x69b9f20103896efb & nzcv 10)
    (x 0 0x320de8c39e79542f & x 10 0x3ffffffdf0 & x 19 0x5a3510ebc6a17c57)
    ∷ runs 10 0xa8e03f3b (x 15 0x7fffffffffffffff & x 25 0x3fffffffe0 & x 27 0xffffffffffffffff & nzcv 5)
    (x 15 0xae5c09b76512c07 & x 25 0x3ffffffde0 & x 27 0xe2bd98734e2904df)
    ∷ []

pub all_end : reached rows ≡ expected rows
unfolding stepped
all_end = refl
