-- The machine's signed numbers: -1 - n, and two's complement as `signed_of` has it. `signed` itself is std's `cast_signed`.
use Prim.Native.Nat.{ℕ, zero, suc, ◌-◌, ◌<◌, ◌≤◌, ◌^◌}
use mathlib.Core.Path.{◌≡◌, refl, ap, sym, subst, ◌∙◌}
use native.Mathlib.Omega.{arith}
use lib.IntN.{pos, negsuc, ◌-ℤ◌}
use borrow.Author.Tests.{lt-ltb, le-ltb}
use mir.Syntax.{Width, w64}
use mir.Val.{hbits, SFits, to_z, of_z}
use mir.Facts.{to_z-of_z}
use Rattle.text.specs.Number.{signed_of}

from_one : (n : ℕ) → negsuc 0 -ℤ pos n ≡ negsuc n
from_one zero = refl
from_one (suc n) = ap negsuc (omega arith)

module _ (w : Width) (n : ℕ) (h : n < 2 ^ hbits w) where
  difference : negsuc 0 -ℤ to_z w n ≡ negsuc n
  difference = simp (lt-ltb n (2 ^ hbits w) h) (from_one n)

  pub below-zero-fits : SFits w (negsuc 0 -ℤ to_z w n)
  below-zero-fits = subst (SFits w) (sym difference) (record { sfits = h })

  pub below-zero : to_z w (of_z w (negsuc 0 -ℤ to_z w n)) ≡ negsuc n
  below-zero = to_z-of_z below-zero-fits ∙ difference

module _ (n : ℕ) where
  pub upper : n < 2 ^ 63 → to_z w64 n ≡ signed_of n
  unfolding signed_of
  upper h = simp (lt-ltb n (2 ^ 63) h)

  pub lower : 2 ^ 63 ≤ n → to_z w64 (of_z w64 (negsuc 0 -ℤ to_z w64 (2 ^ 64 - 1 - n))) ≡ signed_of n
  unfolding signed_of
  lower h = below-zero w64 (2 ^ 64 - 1 - n) (omega arith) ∙ simp (le-ltb n (2 ^ 63) h)
