-- Signed distances: the code's tests and sums give the field of a distance in reach, and 0 beyond.
use Rattle.std.proofs.Common.{◌≡◌, ℕ, suc, ◌+◌, ◌-◌, ◌*◌, ◌^◌, ◌<◌, ◌≤◌, Bool, true, false, cond, ltb, ℤ, pos, negsuc, ◌+ℤ◌, nat_abs, refl, arith, to_z-of_z, w64, to_z, of_z, ltb-false, ltb-true, le-ltb, lt-ltb, leb-false, leb-true}
use lib.Signed.{lt_z, le_z, mag}
use Rattle.code.specs.Items.{pick}
use Rattle.finish.specs.Finish.{field_of}

-- ---- the difference of two positions

mag_cond : (b : Bool) (x y : ℤ) (n : ℕ) → mag x < n → mag y < n → mag (cond b x y) < n
mag_cond true x y n p q = p
mag_cond false x y n p q = q

-- a small number is the one that 64 bits stand for
pub as_is : (z : ℤ) → mag z < 2 ^ 40 → to_z w64 (of_z w64 z) ≡ z
as_is z h = to_z-of_z {w = w64} (record { sfits = omega (arith, h) })

-- ---- up by half the field's values
pub mag_up : (z : ℤ) (half n : ℕ) → mag z < n → mag (z +ℤ pos half) < n + suc half
mag_up (pos a) half n p = omega arith
mag_up (negsuc a) half n p = mag_cond (ltb half (suc a)) (negsuc (suc a - suc half)) (pos (half - suc a)) (n + suc half) (omega arith) (omega arith)

pub too_low : (half : ℕ) (z : ℤ) → lt_z (z +ℤ pos half) (pos 0) ≡ true → 0 ≡ field_of half z
unfolding field_of
too_low half (pos n) p = absurd (omega (arith, ltb-true (n + half) 0 p))
too_low half (negsuc n) p = by (ltb half (suc n)) refl p
  where
    by : (t : Bool) → ltb half (suc n) ≡ t → lt_z (cond t (negsuc (suc n - suc half)) (pos (half - suc n))) (pos 0) ≡ true → 0 ≡ pick (ltb n half) (2 * half - suc n) 0
    by true e q = rw (le-ltb n half (omega (arith, ltb-true half (suc n) e)))
    by false e q = absurd (omega (arith, ltb-true (half - suc n) 0 q))

pub too_high : (half : ℕ) (z : ℤ) → le_z (pos half) z ≡ true → 0 ≡ field_of half z
unfolding field_of
too_high half (pos n) p = rw (le-ltb n half (leb-true half n p))
too_high half (negsuc n) p = absurd (let z : ◌≡◌ {A = ℕ} 0 1 = cc in omega arith)

-- a distance behind, in reach
pub record Behind (half : ℕ) (z : ℤ) : Type 0 where
  pub up : z +ℤ pos half +ℤ pos half ≡ pos (nat_abs (z +ℤ pos half +ℤ pos half))
  pub small : nat_abs (z +ℤ pos half +ℤ pos half) < 2 * half
  pub bits : nat_abs (z +ℤ pos half +ℤ pos half) ≡ field_of half z

pub behind : (half : ℕ) (z : ℤ) → lt_z (z +ℤ pos half) (pos 0) ≡ false → lt_z z (pos 0) ≡ true → Behind half z
unfolding field_of
behind half (pos n) p q = absurd (omega (arith, ltb-true n 0 q))
behind half (negsuc n) p q = by (ltb half (suc n)) refl p
  where
    by : (t : Bool) → ltb half (suc n) ≡ t → lt_z (cond t (negsuc (suc n - suc half)) (pos (half - suc n))) (pos 0) ≡ false → Behind half (negsuc n)
    by true e r = absurd (let z : ◌≡◌ {A = ℕ} 0 1 = cc in omega arith)
    by false e r =
        let h : suc n ≤ half = ltb-false half (suc n) e in
        record { up = rw e; small = rw e (omega arith); bits = rw (e, lt-ltb n half (omega arith)) (omega arith) }

-- a distance ahead, in reach
pub record Ahead (half : ℕ) (z : ℤ) : Type 0 where
  pub up : z ≡ pos (nat_abs z)
  pub small : nat_abs z < half
  pub bits : nat_abs z ≡ field_of half z

pub ahead : (half : ℕ) (z : ℤ) → le_z (pos half) z ≡ false → lt_z z (pos 0) ≡ false → Ahead half z
unfolding field_of
ahead half (pos n) p q = let h : n < half = leb-false half n p in record { up = refl; small = h; bits = rw (lt-ltb n half h) }
ahead half (negsuc n) p q = absurd (let z : ◌≡◌ {A = ℕ} 0 1 = cc in omega arith)
