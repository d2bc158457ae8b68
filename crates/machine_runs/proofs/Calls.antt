-- Helper calls, and 20 where no outcome is left: each row's step ends as it says.
use mathlib.Core.List.{List, [], ◌∷◌}
use mathlib.Core.Path.{◌≡◌, refl}
use Rattle.machine.specs.State.{read, write}
use Rattle.machine_runs.specs.Row.{Row, faults, calls, reply, x, nzcv, ◌&◌, stepped, reached, expected}

abbrev rows : List Row
rows =
    -- read
    calls 7 0xd63f0380 (x 1 0xffffffffae2ab026 & x 2 0x1df61006 & x 3 1 & x 28 0x600000000 & nzcv 7) (read 0xae2ab026 1 0x1df61006)
    (reply 0x80 0 0x938b5cba145e268c 5 699) (reply 1 2 3 4 700 ∷ [])
    ∷ calls 13 0xd63f0380 (x 1 0xffffffffd426582c & x 2 0xffffffff00000000 & x 3 0xd908ad1400000002 & x 28 0x600000000 & nzcv 2)
    (read 0xd426582c 2 0) (reply 0 0xffffffff 0x2fffffffb8 0 62) []
    ∷ calls 9 0xd63f0200 (x 1 0x260e9838e3d8573b & x 2 0xffffffffffffffff & x 3 0xffffffff00000001 & x 16 0x600000000 & nzcv 7)
    (read 0xe3d8573b 1 0xffffffff) (reply 0xff 0 0xb5b9cc597167a134 0xb 999) []
    ∷ calls 10 0xd63f0380 (x 1 0x12315a0a17822345 & x 2 1 & x 3 0xe789cda900000004 & x 28 0x600000000 & nzcv 1) (read 0x17822345 4 1)
    (reply 0xffffffff 0 0x2fffffffac 7 629) (reply 1 2 3 4 630 ∷ [])
    ∷ calls 11 0xd63f0120 (x 1 0x33716e & x 2 0xeff3ab63ffffffff & x 3 0xc85a9f9700000002 & x 9 0x600000000 & nzcv 4)
    (read 0x33716e 2 0xffffffff) (reply 0x5fdb 1 0xa626400d89165932 2 692) []
    ∷ calls 13 0xd63f0140 (x 1 0xb3f04031 & x 2 0xffffffff00000001 & x 3 0xffffffff00000002 & x 10 0x600000000 & nzcv 11)
    (read 0xb3f04031 2 1) (reply 0xcea9 0x80000000 0x2fffffffb8 0 728) []
    ∷ calls 13 0xd63f0140 (x 1 0x927dcbf1 & x 2 0xffffffff00000000 & x 3 0x8525a81d00000004 & x 10 0x600000000 & nzcv 9)
    (read 0x927dcbf1 4 0) (reply 0 1 0xaa06f49ceea720d9 6 173) (reply 1 2 3 4 174 ∷ [])
    ∷ calls 5 0xd63f0200 (x 1 0x1f222b90e375320d & x 2 0xa0649a50ffffffff & x 3 4 & x 16 0x600000000 & nzcv 6)
    (read 0xe375320d 4 0xffffffff) (reply 0 1 0x2fffffff98 8 901) []
    ∷ calls 9 0xd63f0200 (x 1 0x35113620 & x 2 0x18f3baeffffffff & x 3 0x7945153c00000001 & x 16 0x600000000 & nzcv 2)
    (read 0x35113620 1 0xffffffff) (reply 0x33 0x80000000 0x7409ac82f78286b 0xf 991) []
    ∷ calls 11 0xd63f0140 (x 1 0xffffffffabc05765 & x 2 0xffffffff8ce414c6 & x 3 0xffffffff00000004 & x 10 0x600000000 & nzcv 15)
    (read 0xabc05765 4 0x8ce414c6) (reply 0x1585e283 0 0x2fffffffb0 0xa 248) (reply 1 2 3 4 249 ∷ [])
    ∷ calls 1 0xd63f03c0 (x 1 0xfa9476986924169f & x 2 0x664be9bffffffff & x 3 0x4415ca8100000002 & x 30 0x600000000 & nzcv 4)
    (read 0x6924169f 2 0xffffffff) (reply 0xffff 0x80000000 0x7731b00d12801a9f 2 844) []
    ∷ calls 12 0xd63f0200 (x 1 0x242bffe84c0fc55c & x 2 0x98f4633fb78e86cf & x 3 0x4de73c2c00000004 & x 16 0x600000000 & nzcv 6)
    (read 0x4c0fc55c 4 0xb78e86cf) (reply 0x5aea71a2 0xe29541df 0x2fffffffb4 7 820) []
    ∷ calls 4 0xd63f0140 (x 1 0x74141f05029009ff & x 2 0x7eb6de0400000001 & x 3 0x39d8defc00000002 & x 10 0x600000000 & nzcv 3)
    (read 0x29009ff 2 1) (reply 0x38 1 0x51c9261b55670b25 1 918) (reply 1 2 3 4 919 ∷ [])
    ∷ calls 1 0xd63f0120 (x 1 0xc963259fcb12f5ae & x 2 0x119a58f7 & x 3 0xffffffff00000004 & x 9 0x600000000 & nzcv 1)
    (read 0xcb12f5ae 4 0x119a58f7) (reply 0xffffffff 0x80000000 0x2fffffff88 0xf 825) []
    -- write
    ∷ calls 0 0xd63f0380 (x 1 0xa0ec97d2 & x 2 0x32cc1c12 & x 3 0xffffffffffffffff & x 4 0x490fc94300000002 & x 28 0x600000010 & nzcv 14)
    (write 0xa0ec97d2 2 0xffffffff 0x32cc1c12) (reply 0xffff 0xffffffff 0x2c1bbc9da6c61f5e 8 261) (reply 1 2 3 4 262 ∷ [])
    ∷ calls 7 0xd63f0140
    (x 1 0x33a7255ad131a9ca & x 2 0x3fdae45cb546bff2 & x 3 0xffffffff00000000 & x 4 0xffffffff00000001 & x 10 0x600000010 & nzcv 7)
    (write 0xd131a9ca 1 0 0xb546bff2) (reply 0xff 0xffffffff 0x2fffffffa0 2 954) []
    ∷ calls 0 0xd63f0200 (x 1 0x9870aa93 & x 2 0xfffffffffa54bf01 & x 3 0xffffffff & x 4 2 & x 16 0x600000010 & nzcv 8)
    (write 0x9870aa93 2 0xffffffff 0xfa54bf01) (reply 0xffff 0xffffffff 0x3b27dac75e25e68d 8 175) []
    ∷ calls 4 0xd63f0120
    (x 1 0xa177404957592452 & x 2 0xbfd505caac5f2117 & x 3 0x2e28476600000001 & x 4 0x5fa8e86700000001 & x 9 0x600000010 & nzcv 1)
    (write 0x57592452 1 1 0xac5f2117) (reply 0 1 0x2fffffff94 0xb 968) (reply 1 2 3 4 969 ∷ [])
    ∷ calls 2 0xd63f0120
    (x 1 0xffffffff9b5bedfc & x 2 0xffffffffc6de373d & x 3 0xffffffff94c9fcd3 & x 4 0x7883a97500000001 & x 9 0x600000010 & nzcv 10)
    (write 0x9b5bedfc 1 0x94c9fcd3 0xc6de373d) (reply 0 0x9985d17c 0xe6263801f9021201 0xb 592) []
    ∷ calls 14 0xd63f0380 (x 1 0x62d820cb & x 2 0xa143ef4b & x 3 0xffffffffe68b703e & x 4 0xee9a687c00000002 & x 28 0x600000010 & nzcv 15)
    (write 0x62d820cb 2 0xe68b703e 0xa143ef4b) (reply 0x798a 0xffffffff 0x2fffffffbc 6 166) []
    ∷ calls 4 0xd63f0120
    (x 1 0xfac860d0 & x 2 0xdc1c411f792b4be8 & x 3 0x9acb6d5b00000000 & x 4 0xffffffff00000002 & x 9 0x600000010 & nzcv 1)
    (write 0xfac860d0 2 0 0x792b4be8) (reply 0 0 0x90a11450c8819ea0 8 307) (reply 1 2 3 4 308 ∷ [])
    ∷ calls 2 0xd63f03c0 (x 1 0x9980768da6d5d95 & x 2 0xffffffff81a947a7 & x 3 0xffffffff00000000 & x 4 2 & x 30 0x600000010 & nzcv 11)
    (write 0xda6d5d95 2 0 0x81a947a7) (reply 0xffff 0 0x2fffffff8c 9 727) []
    ∷ calls 11 0xd63f0380 (x 1 0x45b0c167 & x 2 0xffffffffc8ff51c5 & x 3 1 & x 4 2 & x 28 0x600000010 & nzcv 15)
    (write 0x45b0c167 2 1 0xc8ff51c5) (reply 0xa594 0xffffffff 0xc45909be67a83781 5 535) []
    ∷ calls 9 0xd63f0140 (x 1 0x509354e2 & x 2 0x6684a6d8 & x 3 0xffffffff00000001 & x 4 2 & x 10 0x600000010 & nzcv 12)
    (write 0x509354e2 2 1 0x6684a6d8) (reply 0xffff 0 0x2fffffffa8 3 114) (reply 1 2 3 4 115 ∷ [])
    ∷ calls 14 0xd63f03c0 (x 1 0xffffffffc1bfbe99 & x 2 0xa6c890 & x 3 0xffffffff00000001 & x 4 2 & x 30 0x600000010 & nzcv 3)
    (write 0xc1bfbe99 2 1 0xa6c890) (reply 0 0x866c45c0 0x1ab823e9c755c3b1 0xb 529) []
    ∷ calls 4 0xd63f0120 (x 1 0x6c47521edbf916ce & x 2 0xd4bfbaab & x 3 1 & x 4 0xffffffff00000001 & x 9 0x600000010 & nzcv 15)
    (write 0xdbf916ce 1 1 0xd4bfbaab) (reply 0xe 0xffffffff 0x2fffffff94 0xf 856) []
    ∷ calls 5 0xd63f03c0
    (x 1 0xffffffffcc61f5f0 & x 2 0xffffffff97c9423c & x 3 0x60893beb885c8bc6 & x 4 0xffffffff00000004 & x 30 0x600000010 & nzcv 15)
    (write 0xcc61f5f0 4 0x885c8bc6 0x97c9423c) (reply 0x9f2767de 0x1d2dfce4 0xceb5a6429010a867 0xe 420) (reply 1 2 3 4 421 ∷ [])
    ∷ calls 4 0xd63f0140 (x 1 0xffffffff2aa5fcb6 & x 2 0xffffffffe18b3951 & x 3 0xffffffff & x 4 1 & x 10 0x600000010 & nzcv 8)
    (write 0x2aa5fcb6 1 0xffffffff 0xe18b3951) (reply 0 0 0x2fffffff94 0xf 38) []
    -- no outcome
    ∷ faults 20 0 0xd63f0140 (x 10 0x600000000)
    ∷ faults 20 1 0xd63f0140 (x 10 0x600000000)
    ∷ faults 20 2 0xd63f0140 (x 10 0x600000000)
    ∷ faults 20 3 0xd63f0140 (x 10 0x600000000)
    ∷ faults 20 0 0xd63f0140 (x 10 0x600000010)
    ∷ faults 20 1 0xd63f0140 (x 10 0x600000010)
    ∷ faults 20 2 0xd63f0140 (x 10 0x600000010)
    ∷ faults 20 3 0xd63f0140 (x 10 0x600000010)
    ∷ []

pub all_end : reached rows ≡ expected rows
unfolding stepped
all_end = refl
