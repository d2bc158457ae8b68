-- A pair's offset, 32 bits held in 64. Assumes nothing.
use Prim.Native.Nat.{ℕ, ◌%◌}
use native.Mathlib.Omega.{arith}
use mathlib.Core.Path.{◌≡◌, ap, sym, subst, ◌∙◌}
use mathlib.Core.Bool.{Bool, true, false}
use lib.IntN.{ℤ}
use lib.Dec.{eqb}
use mir.Syntax.{w32, w64}
use mir.Val.{SFits, to_z, of_z}
use mir.Facts.{to_z-of_z}
use Rattle.arm.specs.Decode.{both}
use Rattle.a64.specs.Ranges.{is_pair_offset}
use Rattle.words.specs.Signed.{reaches, twos}

pub widens : (x : ℤ) → SFits w32 x → SFits w64 (to_z w32 (of_z w32 x))
widens x h = subst (SFits w64) (sym (to_z-of_z h)) (record { sfits = omega (arith, h.sfits) })

pub wide_is : (x : ℤ) → SFits w32 x → to_z w64 (of_z w64 (to_z w32 (of_z w32 x))) ≡ x
wide_is x h = to_z-of_z (widens x h) ∙ to_z-of_z h

pub pair_in : (x : ℤ) (b : Bool) (n : ℕ) → b ≡ reaches 512 x → b ≡ true → n ≡ twos 512 x → eqb (n % 8) 0 ≡ is_pair_offset x
unfolding is_pair_offset
pair_in x b n p q e = ap (λ (m : ℕ). eqb (m % 8) 0) e ∙ ap (λ (c : Bool). both c (eqb (twos 512 x % 8) 0)) (sym q ∙ p)

pub pair_out : (x : ℤ) (b : Bool) → b ≡ reaches 512 x → b ≡ false → b ≡ is_pair_offset x
unfolding is_pair_offset
pair_out x b p q = q ∙ ap (λ (c : Bool). both c (eqb (twos 512 x % 8) 0)) (sym q ∙ p)
