-- A word has eight hexadecimal digits.
use Prim.Native.Nat.{ℕ, ◌-◌, ◌≤◌, ◌<◌, ◌^◌}
use mathlib.Core.Path.{◌≡◌, ap}
use native.Mathlib.Omega.{arith}
use native.Mathlib.Nat.{pow-le-pow_right, lt_of_not-le}
use lib.Dec.{lit<}
use Rattle.io.specs.Digits.{last_digits, IsDigitCount}
use Rattle.text.specs.Put.{hex8}

not_more : (n k : ℕ) → n < 2 ^ 32 → (8 < k → 16 ^ (k - 1) ≤ n) → 9 ≤ k → ⊥
not_more n k f p h =
    let q = p (omega arith) in
    omega (arith, pow-le-pow_right {n = 16} (lit< tt) {i = 8} {j = k - 1} (omega arith))

pub eight : (n k : ℕ) → n < 2 ^ 32 → IsDigitCount 16 8 n k → k ≡ 8
eight n k f h = omega (arith, lt_of_not-le (not_more n k f h.2), h.0)

pub hex8_is : (n k : ℕ) → k ≡ 8 → last_digits 16 k n ≡ hex8 n
unfolding hex8
hex8_is n k e = ap (λ (j : ℕ). last_digits 16 j n) e
