-- The fewest decimal digits that hold a number of 64 bits are those of `decimal`.
use Prim.Native.Nat.{ℕ, zero, suc, ◌-◌, ◌/◌, ◌%◌, ◌*◌, ◌^◌, ◌≤◌, ◌<◌}
use mathlib.Core.Path.{◌≡◌, ap}
use mathlib.Core.List.{List, [], ◌∷◌, ◌++◌}
use native.Mathlib.Omega.{arith}
use native.Mathlib.Numerals.{unary_clauses}
use native.Mathlib.Nat.{pow-le-pow_right, one-le-pow, mod-eq_of_lt, lt_of_not-le}
use lib.Dec.{lit<}
use borrow.Author.Tests.{lt-ltb, le-ltb}
use Rattle.io.specs.Digits.{hex_digit_ascii, last_digits, IsDigitCount}
use Rattle.text.specs.Put.{decimal_in, decimal}

same : (most k n : ℕ) → k ≤ most → IsDigitCount 10 1 n k → last_digits 10 k n ≡ decimal_in most n
unfolding decimal_in
same most zero n h f = absurd (omega (arith, f.0))
same zero (suc k) n h f = absurd (omega arith)
same (suc most) (suc zero) n h f = simp (mod-eq_of_lt {n = n} {m = 10} f.1, lt-ltb n 10 f.1)
same (suc most) (suc (suc k)) n h f =
    let low : 10 ^ k * 10 ≤ n = simp unary_clauses at (f.2 (omega arith)) in
    let high : n < 10 ^ k * 10 * 10 = simp unary_clauses at f.1 in
    let one = one-le-pow k 10 (lit< tt) in
    rw (le-ltb n 10 (omega arith))
    (ap
    (λ (ds : List ℕ). ds ++ (hex_digit_ascii (n % 10) ∷ []))
    (same most (suc k) (n / 10) (omega arith) (omega arith, simp unary_clauses (omega arith), λ p. simp unary_clauses (omega arith))))

not_more : (n k : ℕ) → n < 2 ^ 64 → (1 < k → 10 ^ (k - 1) ≤ n) → 21 ≤ k → ⊥
not_more n k f p h =
    let q = p (omega arith) in
    omega (arith, pow-le-pow_right {n = 10} (lit< tt) {i = 20} {j = k - 1} (omega arith))

pub decimal_is : (n k : ℕ) → n < 2 ^ 64 → IsDigitCount 10 1 n k → last_digits 10 k n ≡ decimal n
unfolding decimal
decimal_is n k h f = same 20 k n (omega (arith, lt_of_not-le (not_more n k h f.2))) f
