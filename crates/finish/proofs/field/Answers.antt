-- Too low, too high, behind and ahead: each way's answer is the field's.
use Rattle.std.proofs.Common.{◌≡◌, ◌<◌, ◌≤◌, ◌^◌, ℕ, ℤ, pos, ◌+ℤ◌, sym, ap, ◌∙◌, arith, to_z-of_z, w64, to_z, of_z}
use lib.Signed.{lt_z, le_z, mag}
use mir.Facts.{to_z_pos}
use Rattle.finish.proofs.Signed.{mag_up, as_is, too_low, too_high, Behind, behind, Ahead, ahead}
use Rattle.finish.proofs.field.Goals as goal

-- the numbers as integers
half_is : (half : ℕ) → half ≤ 2 ^ 25 → to_z w64 half ≡ pos half
half_is half h = to_z_pos w64 {n = half} (omega arith)

up_is : (half : ℕ) (distance : ℤ) → half ≤ 2 ^ 25 → mag distance < 2 ^ 40
    → to_z w64 (of_z w64 (to_z w64 (of_z w64 distance) +ℤ to_z w64 half)) ≡ distance +ℤ pos half
up_is half distance h d =
    rw (as_is distance d, half_is half h)
    (to_z-of_z {w = w64} (record { sfits = omega (arith, mag_up distance half 1099511627776 d) }))

is_behind : (c : goal.Then-distance-lt0) → Behind c.args.half c.args.distance
is_behind c =
    behind _ _ (ap (λ (x : ℤ). lt_z x (pos 0)) (sym (up_is c.args.half c.args.distance c.requires.0 c.requires.1)) ∙ c.if-up-lt0.false)
    (ap (λ (x : ℤ). lt_z x (pos 0)) (sym (as_is c.args.distance c.requires.1)) ∙ c.if-distance-lt0.true)

is_ahead : (c : goal.Else-distance-lt0) → Ahead c.args.half c.args.distance
is_ahead c =
    ahead _ _
    (ap (λ (x : ℤ). le_z (pos c.args.half) x) (sym (as_is c.args.distance c.requires.1))
    ∙ ap (λ (x : ℤ). le_z x (to_z w64 (of_z w64 c.args.distance))) (sym (half_is c.args.half c.requires.0)) ∙ c.if-h-distance.false)
    (ap (λ (x : ℤ). lt_z x (pos 0)) (sym (as_is c.args.distance c.requires.1)) ∙ c.if-distance-lt0.false)

pub returns-then-up-lt0 : goal.returns-then-up-lt0
returns-then-up-lt0 c =
    let up = up_is c.args.half c.args.distance c.requires.0 c.requires.1 in
    (too_low _ _ (ap (λ (x : ℤ). lt_z x (pos 0)) (sym up) ∙ c.if-up-lt0.true), omega arith)

pub returns-then-h-distance : goal.returns-then-h-distance
returns-then-h-distance c = (
  too_high _ _
      (ap (λ (x : ℤ). le_z (pos c.args.half) x) (sym (as_is c.args.distance c.requires.1))
      ∙ ap (λ (x : ℤ). le_z x (to_z w64 (of_z w64 c.args.distance))) (sym (half_is c.args.half c.requires.0)) ∙ c.if-h-distance.true),
  omega arith,
)

pub returns-then-distance-lt0 : goal.returns-then-distance-lt0
returns-then-distance-lt0 c =
    let b = is_behind c in
    let sum : to_z w64 (of_z w64 (c.args.distance +ℤ pos c.args.half +ℤ pos c.args.half)) ≡ c.args.distance +ℤ pos c.args.half +ℤ pos c.args.half
    = rw b.up (to_z-of_z {w = w64} (record { sfits = omega (arith, b.small) })) in
    rw (up_is c.args.half c.args.distance c.requires.0 c.requires.1, half_is c.args.half c.requires.0, sum) (b.bits, omega (arith, b.small))

pub returns : goal.returns
returns c = let a = is_ahead c in rw (as_is c.args.distance c.requires.1) (a.bits, omega (arith, a.small))
