-- Selections by a condition: each row's step ends as it says.
use mathlib.Core.List.{List, [], ◌∷◌}
use mathlib.Core.Path.{◌≡◌, refl}
use Rattle.machine_runs.specs.Row.{Row, runs, same, x, nzcv, ◌&◌, stepped, reached, expected}

abbrev rows : List Row
rows =
    -- csel
    runs 2 0x1a900128 (x 8 0x100000000 & x 9 0xd3006383f1ffc963 & x 16 0x986a06b700000080 & nzcv 2) (x 8 0x80)
    ∷ runs 3 0x1a912091 (x 4 0x8000 & x 17 0xbd221d52 & nzcv 13) same
    ∷ runs 10 0x1a943122 (x 2 0 & x 9 0xffffffff00010000 & x 20 0x5d07221380000000 & nzcv 2) (x 2 0x80000000)
    ∷ runs 6 0x1a984240 (x 0 0xffffffffffffffff & x 18 0x800000007fffffff & x 24 0xef8ae14cffffffff & nzcv 5) (x 0 0xffffffff)
    ∷ runs 10 0x1a80514a (x 0 0x45c20293 & x 10 0xffffffff) same
    ∷ runs 8 0x1a9763f9 (x 23 0xffffffff00000002 & x 25 0x80000000 & nzcv 14) (x 25 2)
    ∷ runs 13 0x1a9fa3ff (nzcv 7) same
    ∷ runs 0 0x1a8db389 (x 9 0x123456789abcdef & x 13 0xffffffff0000ffff & x 28 0 & nzcv 9) (x 9 0xffff)
    ∷ runs 3 0x1a9ed001 (x 0 0xae3487e2c4b8af4f & x 1 0x123456789abcdef & x 30 0x2080b4b400000000 & nzcv 3) (x 1 0xc4b8af4f)
    ∷ runs 11 0x1a9e020b (x 16 0x109e49620000ffff & x 30 0xd2a308fe00000000) (x 11 0)
    -- csinc
    ∷ runs 8 0x1a9f07ff (nzcv 7) same
    ∷ runs 4 0x1a91065a (x 17 0 & x 18 0x8000000075d37bce & x 26 0x123456789abcdef & nzcv 4) (x 26 0x75d37bce)
    ∷ runs 13 0x1a87145f (x 2 0x7fff & x 7 0x65ad7d8a00000001 & nzcv 10) same
    ∷ runs 2 0x1a9926d5 (x 21 0xd81b0e88f2f04953 & x 22 0xabcdef01 & x 25 0xffffffff & nzcv 11) (x 21 0xabcdef01)
    ∷ runs 7 0x1a8f64b8 (x 5 0xb761a1bd1465ebfb & x 15 0x8000000012345678 & x 24 0xffffffffffffffff & nzcv 5) (x 24 0x1465ebfb)
    ∷ runs 4 0x1a9d675e (x 26 0x99093f63ffffffff & x 29 0xa135755455555555 & x 30 0xc1d52b226fee5919 & nzcv 2) (x 30 0x55555556)
    ∷ runs 9 0x1a9484a1 (x 1 0x80000000 & x 5 0x4ace3238abcdef01 & x 20 0x5b729a45c6c06c4b & nzcv 10) (x 1 0xabcdef01)
    ∷ runs 5 0x1a8295d7 (x 2 0xffffffff55555555 & x 14 0x80000000 & x 23 0 & nzcv 2) (x 23 0x55555556)
    ∷ runs 10 0x1a90042f (x 1 0x57376d6f & x 16 0x7ee4a04880000000) (x 15 0x80000001)
    ∷ runs 5 0x1a94063d (x 17 0xf889909a12345678 & x 20 0x3efdd68cffffffff) (x 29 0)
    -- csneg
    ∷ runs 8 0x5a9607e9 (x 9 0x86b527a8db01f1b9 & x 22 0xffffffff00000000 & nzcv 1) (x 9 0)
    ∷ runs 0 0x5a9c3716 (x 22 0x80000000 & x 24 0x80000000aaaaaaaa & x 28 0xd9de4a7355555555 & nzcv 6) (x 22 0xaaaaaaab)
    ∷ runs 10 0x5a9f47ff (nzcv 8) same
    ∷ runs 7 0x5a9d55e8 (x 8 0x99e0bee16c390d72 & x 15 0x80000000 & x 29 0xd6b87184 & nzcv 1) (x 8 0x80000000)
    ∷ runs 5 0x5a927513 (x 8 0xffffffff00000080 & x 18 0x80000000ffffffff & x 19 0x123456789abcdef & nzcv 4) (x 19 0x80)
    ∷ runs 5 0x5a9c741c (x 0 0xffffffff & x 28 0x2ef3de2a961a95c8 & nzcv 8) (x 28 0xffffffff)
    ∷ runs 3 0x5a80a7f6 (x 0 0x1837026d641f5744 & x 22 0x80000000 & nzcv 2) (x 22 0)
    ∷ runs 13 0x5a8ba492 (x 4 0xfffffffe & x 11 0x956a6713000000ff & x 18 0x7fffffffffffffff & nzcv 7) (x 18 0xffffff01)
    ∷ runs 4 0x5a9bc79f (x 27 0xfffffffe & x 28 0x2ab93c8b0000007f & nzcv 3) same
    ∷ runs 1 0x5a8ec46a (x 3 0xffffffff0e902ca7 & x 10 0 & x 14 0x80000000 & nzcv 10) (x 10 0x80000000)
    -- cset
    ∷ runs 8 0x1a9f17e1 (nzcv 12) (x 1 1)
    ∷ runs 4 0x1a9f17ff (nzcv 9) same
    ∷ runs 2 0x1a9f07f2 (nzcv 6) (x 18 0)
    ∷ runs 6 0x1a9f37fd (nzcv 8) (x 29 0)
    ∷ runs 0 0x1a9f77ff (nzcv 6) same
    ∷ runs 11 0x1a9fd7e9 (nzcv 9) (x 9 1)
    -- cneg
    ∷ runs 11 0x5a9d17bd (x 29 0x5f4ac6180000007f & nzcv 12) (x 29 0xffffff81)
    ∷ runs 5 0x5a9a175a (x 26 0x8000000080000000 & nzcv 9) (x 26 0x80000000)
    ∷ runs 9 0x5a9f07ec (nzcv 2) (x 12 0)
    ∷ runs 7 0x5a933673 (x 19 3 & nzcv 3) (x 19 0xfffffffd)
    ∷ runs 3 0x5a882508 (x 8 0xffffffff & nzcv 5) (x 8 1)
    ∷ runs 7 0x5a837479 (x 3 0xffffffff00000000 & nzcv 6) (x 25 0)
    ∷ runs 1 0x5a89b529 (x 9 0x10000 & nzcv 12) same
    ∷ runs 0 0x5a82a442 (x 2 2) same
    ∷ []

pub all_end : reached rows ≡ expected rows
unfolding stepped
all_end = refl
