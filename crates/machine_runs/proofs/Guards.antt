-- Calls of a guard's helper: each row's step ends as it says.
use mathlib.Core.List.{List, [], ◌∷◌}
use mathlib.Core.Path.{◌≡◌, refl}
use Rattle.machine_runs.specs.Row.{Row, asks, reply, versions, x, ◌&◌, stepped, reached, expected}

abbrev rows : List Row
rows =
    asks 0 0xd63f0120 (x 1 0x750000000 & x 9 0x600000020) 0x750000000 (reply 1 0 0x2fffffff84 0 11) (versions 7 7 9)
    ∷ asks 1 0xd63f0120 (x 1 0x760000000 & x 9 0x600000020) 0x760000000 (reply 0 1 0x1122334455667788 0xf 12)
    (versions 0xffffffffffffffff 0 0x8000000000000000)
    ∷ asks 2 0xd63f0200 (x 1 0xfedcba9876543210 & x 16 0x600000020) 0xfedcba9876543210 (reply 0xffffffff00000000 0xffffffff 0 4 13)
    (versions 0x102030405060708 0x1112131415161718 0x2122232425262728)
    ∷ asks 3 0xd63f0380 (x 1 0xffffffff & x 28 0x600000020) 0xffffffff (reply 0x80000000 0 1 8 14)
    (versions 0x100000000 0x100000001 0xffffffff)
    ∷ asks 4 0xd63f03c0 (x 1 0 & x 30 0x600000020) 0 (reply 0x12345678ffffffff 0x80000000 0x2fffffff84 2 15)
    (versions 0 0xffffffffffffffff 0xfffffffffffffffe)
    ∷ []

pub all_end : reached rows ≡ expected rows
unfolding stepped
all_end = refl
