-- Moves: each row's step ends as it says.
use mathlib.Core.List.{List, [], ◌∷◌}
use mathlib.Core.Path.{◌≡◌, refl}
use Rattle.machine_runs.specs.Row.{Row, runs, same, x, nzcv, ◌&◌, stepped, reached, expected}

abbrev rows : List Row
rows =
    -- movz
    runs 10 0x528f4dc6 (x 6 0xffffffffffffffff & nzcv 12) (x 6 0x7a6e)
    ∷ runs 3 0x5293af7f (nzcv 13) same
    ∷ runs 11 0x52a00001 (x 1 0xffffffffffffffff & nzcv 8) (x 1 0)
    ∷ runs 1 0x52bffff6 (x 22 0xbb66d92c2c32cc99 & nzcv 1) (x 22 0xffff0000)
    ∷ runs 3 0x52b1a191 (x 17 0 & nzcv 7) (x 17 0x8d0c0000)
    -- movk
    ∷ runs 10 0x72800018 (x 24 0x8000 & nzcv 10) (x 24 0)
    ∷ runs 3 0x72800022 (x 2 0x100000000 & nzcv 2) (x 2 1)
    ∷ runs 8 0x7290910a (x 10 0xffffffffffffffff & nzcv 2) (x 10 0xffff8488)
    ∷ runs 6 0x7296f1df (nzcv 4) same
    ∷ runs 0 0x72bfffe2 (x 2 0 & nzcv 12) (x 2 0xffff0000)
    -- movn
    ∷ runs 5 0x12800000 (x 0 0 & nzcv 8) (x 0 0xffffffff)
    ∷ runs 5 0x1280003d (x 29 0xffffffff & nzcv 9) (x 29 0xfffffffe)
    ∷ runs 3 0x12900000 (x 0 0xffffffffffffffff & nzcv 8) (x 0 0xffff7fff)
    ∷ runs 3 0x129ffff2 (x 18 0xffffffffffffffff & nzcv 4) (x 18 0xffff0000)
    ∷ runs 12 0x128f317f (nzcv 15) same
    ∷ runs 13 0x12b00005 (x 5 0x493deebd00000000 & nzcv 3) (x 5 0x7fffffff)
    -- movz_x
    ∷ runs 13 0xd2800004 (x 4 0xffffffffffffffff & nzcv 13) (x 4 0)
    ∷ runs 10 0xd2991ff9 (x 25 0xffffffffffffffff) (x 25 0xc8ff)
    ∷ runs 6 0xd28c4a5f (nzcv 15) same
    ∷ runs 6 0xd2bac202 (x 2 0 & nzcv 8) (x 2 0xd6100000)
    ∷ runs 3 0xd2dffffd (x 29 0x80000000 & nzcv 9) (x 29 0xffff00000000)
    ∷ runs 6 0xd2e00021 (x 1 1 & nzcv 8) (x 1 0x1000000000000)
    ∷ runs 0 0xd2f00001 (x 1 0xaf118a0c00000080 & nzcv 7) (x 1 0x8000000000000000)
    -- movk_x
    ∷ runs 13 0xf2800021 (x 1 0xf7f3868300008000 & nzcv 12) (x 1 0xf7f3868300000001)
    ∷ runs 13 0xf2900009 (x 9 0xffffffffffffffff & nzcv 13) (x 9 0xffffffffffff8000)
    ∷ runs 0 0xf29eccbf (nzcv 2) same
    ∷ runs 2 0xf2bffff1 (x 17 1 & nzcv 11) (x 17 0xffff0001)
    ∷ runs 13 0xf2d1e77c (x 28 0 & nzcv 8) (x 28 0x8f3b00000000)
    -- mov
    ∷ runs 6 0x2a0f03ff (x 15 0xffffffff & nzcv 7) same
    ∷ runs 2 0x2a1f03ed (x 13 0 & nzcv 10) same
    ∷ runs 6 0x2a1903e1 (x 1 0x7fffffffffffffff & x 25 0x80 & nzcv 4) (x 1 0x80)
    ∷ runs 4 0x2a1903e5 (x 5 0x4d9c769e870895d5 & x 25 0xffffffff00000000) (x 5 0)
    ∷ runs 9 0x2a1603e6 (x 6 0x2abb7643eef39f74 & x 22 0xfffffffffffffffe & nzcv 8) (x 6 0xfffffffe)
    ∷ runs 0 0x2a1d03fc (x 28 0x8000000000000000 & x 29 0xff & nzcv 11) (x 28 0xff)
    ∷ runs 12 0x2a0c03e4 (x 4 0x80000000 & x 12 0xc01e80c & nzcv 10) (x 4 0xc01e80c)
    -- mov_x
    ∷ runs 9 0xaa0303ff (x 3 0x100000000 & nzcv 6) same
    ∷ runs 12 0xaa1f03f7 (x 23 0x78298cd38692b109 & nzcv 5) (x 23 0)
    ∷ runs 0 0xaa0c03e3 (x 3 0x77ce8e0349fad8e & x 12 0x73c3583b73ebfb92 & nzcv 8) (x 3 0x73c3583b73ebfb92)
    ∷ runs 6 0xaa0103ef (x 1 0x9a4c8901f25460e6 & x 15 0 & nzcv 3) (x 15 0x9a4c8901f25460e6)
    ∷ runs 10 0xaa0d03ee (x 13 0xffffffffffffffff & x 14 0x9ffc6d8993b1c817 & nzcv 7) (x 14 0xffffffffffffffff)
    ∷ runs 5 0xaa0003fb (x 0 0x80000000 & x 27 0x836f31e3af0012f7 & nzcv 15) (x 27 0x80000000)
    ∷ runs 13 0xaa1903e2 (x 2 0x494c6ae4d2abf0f6 & x 25 0 & nzcv 13) (x 2 0)
    -- mvn
    ∷ runs 1 0x2a2e03ff (x 14 0x800000000000007f & nzcv 7) same
    ∷ runs 3 0x2a3f03f7 (x 23 0xe804459185683c7b & nzcv 10) (x 23 0xffffffff)
    ∷ runs 11 0x2a3a03fa (x 26 0x8000 & nzcv 2) (x 26 0xffff7fff)
    ∷ runs 7 0x2a3b03e3 (x 3 0x8000000000000000 & x 27 0xd0d24241 & nzcv 1) (x 3 0x2f2dbdbe)
    ∷ runs 5 0x2a3703fc (x 23 0x286ade55 & x 28 0xffffffff & nzcv 4) (x 28 0xd79521aa)
    ∷ runs 10 0x2a2d03e1 (x 1 0x8000000000000000 & x 13 0x578f97b5aaaaaaaa & nzcv 8) (x 1 0x55555555)
    ∷ runs 3 0x2a2e03ea (x 10 0xdad353e113a62bc9 & x 14 0x8000000000000000 & nzcv 3) (x 10 0xffffffff)
    ∷ []

pub all_end : reached rows ≡ expected rows
unfolding stepped
all_end = refl
