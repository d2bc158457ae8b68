-- Little-endian numbers in a list of bytes.
--     read_same                      what n bytes hold after a write to them: the number mod 256 ^ n
--     read_below, read_above         bytes before and behind the place written hold what they held
--     get_or-write_le-below, get_or-write_le-above     the same of one byte
--     read_lt                        n bytes are a number below 256 ^ n
--     length-write_le                 a write keeps the length
-- Assumes nothing.
use mathlib.Core.Path.{◌≡◌, refl, ◌∙◌}
use mathlib.Core.List.{List}
use Prim.Native.Nat.{ℕ, zero, suc, ◌+◌, ◌/◌, ◌%◌, ◌^◌, ◌≤◌, ◌<◌}
use native.Mathlib.Nat.{pow-suc}
use native.Mathlib.Omega.{arith}
use lib.Arith.{mod-mul}
use lib.ListN.{length, get_or, set, length-set}
use lib.Seq.{get_or-set_same, get_or-set_other}
use Rattle.machine.specs.Memory.{read_le, write_le}

pub length-write_le : (l : List ℕ) (o n v : ℕ) → length (write_le l o n v) ≡ length l
unfolding write_le
length-write_le l o zero v = refl
length-write_le l o (suc n) v = length-write_le (set l o (v % 256)) (suc o) n (v / 256) ∙ length-set l o (v % 256)

pub get_or-write_le-below : (l : List ℕ) (o n v j : ℕ) → j < o → get_or (write_le l o n v) j 0 ≡ get_or l j 0
unfolding write_le
get_or-write_le-below l o zero v j h = refl
get_or-write_le-below l o (suc n) v j h = get_or-write_le-below (set l o (v % 256)) (suc o) n (v / 256) j (omega arith) ∙ get_or-set_other l o j (v % 256) 0 (omega arith)

pub get_or-write_le-above : (l : List ℕ) (o n v j : ℕ) → o + n ≤ j → get_or (write_le l o n v) j 0 ≡ get_or l j 0
unfolding write_le
get_or-write_le-above l o zero v j h = refl
get_or-write_le-above l o (suc n) v j h = get_or-write_le-above (set l o (v % 256)) (suc o) n (v / 256) j (omega arith) ∙ get_or-set_other l o j (v % 256) 0 (omega arith)

pub read_below : (l : List ℕ) (o n v p m : ℕ) → p + m ≤ o → read_le (write_le l o n v) p m ≡ read_le l p m
unfolding read_le
read_below l o n v p zero h = refl
read_below l o n v p (suc m) h = rw (get_or-write_le-below l o n v p (omega arith), read_below l o n v (suc p) m (omega arith))

pub read_above : (l : List ℕ) (o n v p m : ℕ) → o + n ≤ p → read_le (write_le l o n v) p m ≡ read_le l p m
unfolding read_le
read_above l o n v p zero h = refl
read_above l o n v p (suc m) h = rw (get_or-write_le-above l o n v p (omega arith), read_above l o n v (suc p) m (omega arith))

power_pos : (n : ℕ) → zero < 256 ^ n
power_pos zero = omega arith
power_pos (suc n) = omega (arith, power_pos n)

pub read_same : (l : List ℕ) (o n v : ℕ) → o + n ≤ length l → read_le (write_le l o n v) o n ≡ v % 256 ^ n
unfolding read_le write_le
read_same l o zero v h = omega arith
read_same l o (suc n) v h =
    let l₁ : List ℕ = set l o (v % 256) in
    let a : get_or (write_le l₁ (suc o) n (v / 256)) o 0 ≡ v % 256 = get_or-write_le-below l₁ (suc o) n (v / 256) o (omega arith) ∙ get_or-set_same l o (v % 256) 0 (omega arith) in
    let b : read_le (write_le l₁ (suc o) n (v / 256)) (suc o) n ≡ v / 256 % 256 ^ n = read_same l₁ (suc o) n (v / 256) (rw (length-set l o (v % 256)) (omega arith)) in
    rw (a, b, pow-suc 256 n, mod-mul v {m = 256 ^ n} {c = 256} (power_pos n) (omega arith)) (omega arith)

pub read_lt : (l : List ℕ) (o n : ℕ) → read_le l o n < 256 ^ n
unfolding read_le
read_lt l o zero = omega arith
read_lt l o (suc n) = omega (arith, read_lt l (suc o) n)
