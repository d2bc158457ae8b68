-- Laws that several functions' proofs use: of selectors, and of tests.
use mathlib.Core.Path.{◌≡◌, refl, sym}
use mathlib.Core.Bool.{Bool, true, false, not, ◌&&◌, ◌||◌}
use Prim.Native.Nat.{ℕ, zero, suc, ◌≤◌, ◌<◌, zero-le}
use native.Mathlib.Omega.{arith}

-- what the last arm of a match on 0, 1 .. knows
abbrev pub Others : ℕ → ℕ → Type 0
Others zero x = Unit {0}
Others (suc k) x = Others k x × (x ≡ k → ⊥)

above : (k x : ℕ) → Others k x → k ≤ x
above zero x h = zero-le
above (suc k) x h = let g : k ≤ x = above k x h.0 in omega (arith, h.1)

-- the one number that is left
pub left_over : (k x : ℕ) → Others k x → x < suc k → x ≡ k
left_over k x h l = let g : k ≤ x = above k x h in omega arith

-- ---- tests

pub not-true : (t : Bool) → not t ≡ false → t ≡ true
not-true true e = refl
not-true false e = sym e

pub and_true_both : (a b : Bool) → (a && b) ≡ true → (a ≡ true) × (b ≡ true)
and_true_both true b e = (refl, e)
and_true_both false b e = let z : ◌≡◌ {A = ℕ} 0 1 = cc in absurd (omega arith)

pub or_false_both : (a b : Bool) → (a || b) ≡ false → (a ≡ false) × (b ≡ false)
or_false_both true b e = let z : ◌≡◌ {A = ℕ} 0 1 = cc in absurd (omega arith)
or_false_both false b e = (refl, e)
