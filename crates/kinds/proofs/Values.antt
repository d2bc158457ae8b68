-- What the lowering's instructions compute is the card's arithmetic.
--     add-value .. sar-value     the eleven operations of `alu`
-- Assumes nothing.
use mathlib.Core.Path.{◌≡◌, refl, sym, ap, subst, ◌∙◌}
use mathlib.Core.Bool.{Bool, true, false, cond}
use Prim.Native.Nat.{ℕ, zero, suc, ◌+◌, ◌-◌, ◌*◌, ◌/◌, ◌%◌, ◌^◌, ◌<◌, ◌≤◌}
use native.Mathlib.Nat.{mod-eq_of_lt, mod-lt, mod-mod, lt_of_le_of_lt, lt_of_lt_of_le, div-le_self, pow-le-pow_right}
use borrow.Author.Tests.{le-leb, lt-leb, ltb-true, ltb-false}
use native.Mathlib.Omega.{arith}
use lib.Bits.{bit_and, bit_or, bit_xor, and_lt, or_lt, xor_lt, or_zero_l}
use lib.Dec.{eqb, ltb}
use lib.IntN.{ℤ, pos, negsuc, ◌-ℤ◌}
use lib.Signed.{quot_z}
use lib.Pow.{shr_lt, pow_pos}
use Rattle.arm.specs.declared.Size.TheVariants.{W}
use Rattle.arm.specs.declared.AddSub.TheVariants.{Add, Sub}
use Rattle.arm.specs.declared.Shift.TheVariants.{Lsl}
use Rattle.arm.specs.declared.Extract.TheVariants.{Ubfm, Sbfm}
use Rattle.arm.specs.declared.One.TheVariants.{Rev, Clz}
use Rattle.arm.specs.declared.Two.TheVariants.{Lslv, Lsrv, Asrv, Sdiv, Udiv}
use Rattle.arm.specs.declared.Three.TheVariants.{Madd, Msub}
use Rattle.machine.specs.Bits.{SInt, to_bits, SignExtend, NOT, CountLeadingZeroBits}
use Rattle.machine.specs.Execute.{add_sub, shifted, one, two, three, extracted}
use Rattle.block.specs.declared.UnKind.{UnKind}
use Rattle.machine.proofs.Numbers.{lsl-zero, lsl-field, add_is, sub_is}
use Rattle.card.specs.Word.{plus, minus, complement, bit, signed_of, bits_of, shl, shr, sar, sign_extend, field, un, leading_zeros}
use Rattle.card.specs.Word.{unless_zero, quot_s, quot_u, mask}
use Rattle.code.specs.Items.{pick}
use Rattle.lowering.specs.Steps.{ones, hole, sign}

module _ (a b : ℕ) (ha : a < 2 ^ 32) (hb : b < 2 ^ 32) where
  pub second_is : shifted W Lsl b 0 ≡ b
  second_is = lsl-zero W b hb

  pub add-value : (add_sub W Add a (shifted W Lsl b 0)).result % 2 ^ 32 ≡ plus a b
  add-value = ap (λ k. (add_sub W Add a k).result % 2 ^ 32) second_is ∙ ap (λ k. k % 2 ^ 32) (add_is 32 a b) ∙ mod-mod (a + b) (2 ^ 32)

  pub sub-value : (add_sub W Sub a (shifted W Lsl b 0)).result % 2 ^ 32 ≡ minus a b
  sub-value = ap (λ k. (add_sub W Sub a k).result % 2 ^ 32) second_is ∙ ap (λ k. k % 2 ^ 32) (sub_is 32 a b hb) ∙ mod-mod (a + (2 ^ 32 - b)) (2 ^ 32)

  pub mul-value : three Madd 0 a b % 2 ^ 32 ≡ a * b % 2 ^ 32
  mul-value = mod-mod (0 + a * b) (2 ^ 32) ∙ ap (λ k. k % 2 ^ 32) (omega arith)

  -- ---- bits
  pub and_value : bit_and a (shifted W Lsl b 0) % 2 ^ 32 ≡ bit_and a b
  and_value = ap (λ k. bit_and a k % 2 ^ 32) second_is ∙ mod-eq_of_lt (and_lt 32 a b ha hb)

  pub bic-value : bit_and a (NOT 32 (shifted W Lsl b 0)) % 2 ^ 32 ≡ bit_and a (complement b)
  bic-value = ap (λ k. bit_and a (NOT 32 k) % 2 ^ 32) second_is ∙ mod-eq_of_lt (and_lt 32 a (complement b) ha (omega arith))

  pub or_value : bit_or a (shifted W Lsl b 0) % 2 ^ 32 ≡ bit_or a b
  or_value = ap (λ k. bit_or a k % 2 ^ 32) second_is ∙ mod-eq_of_lt (or_lt 32 a b ha hb)

  pub xor_value : bit_xor a (shifted W Lsl b 0) % 2 ^ 32 ≡ bit_xor a b
  xor_value = ap (λ k. bit_xor a k % 2 ^ 32) second_is ∙ mod-eq_of_lt (xor_lt 32 a b ha hb)

-- ---- shifts
pub sign_lt : (m x : ℕ) → m ≤ 32 → x < 2 ^ m → sign_extend m x < 2 ^ 32
unfolding sign_extend
sign_lt m x l h = go (bit x (m - 1))
  where
    top : 2 ^ m ≤ 2 ^ 32
    top = pow-le-pow_right (omega arith) l

    go : (u : Bool) → cond u (x + (2 ^ 32 - 2 ^ m)) x < 2 ^ 32
    go true = omega (arith, top)
    go false = omega (arith, top)

pub shr-small : (a n : ℕ) → a < 2 ^ 32 → a / 2 ^ n < 2 ^ 32
shr-small a n h = lt_of_le_of_lt (div-le_self a (2 ^ n)) h

shr_below : (x n : ℕ) → n ≤ 32 → x < 2 ^ 32 → x / 2 ^ n < 2 ^ (32 - n)
shr_below x n l h = let e : 32 ≡ 32 - n + n = omega arith in shr_lt (32 - n) n (subst (λ k. x < 2 ^ k) e h)

module _ (a b : ℕ) (ha : a < 2 ^ 32) where
  pub shl-value : two W Lslv a b % 2 ^ 32 ≡ shl a b
  shl-value = mod-mod (a * 2 ^ (b % 32)) (2 ^ 32)

  pub shr-value : two W Lsrv a b % 2 ^ 32 ≡ shr a b
  shr-value = mod-eq_of_lt (shr-small a (b % 32) ha)

  pub sar-value : two W Asrv a b % 2 ^ 32 ≡ sar a b
  unfolding SignExtend sign_extend
  sar-value = let l : b % 32 < 32 = mod-lt b (omega arith) in mod-eq_of_lt (sign_lt (32 - b % 32) (a / 2 ^ (b % 32)) (omega arith) (shr_below a (b % 32) (omega arith) ha))

-- ---- bit fields
module _ (x : ℕ) (hx : x < 2 ^ 32) where
  field-value : (lsb w : ℕ) → 0 < w → extracted W Ubfm lsb (lsb + w - 1) 0 x ≡ x / 2 ^ lsb % 2 ^ w
  field-value lsb w p = let e : lsb + w - 1 + 1 - lsb ≡ w = omega arith in rw (le-leb lsb (lsb + w - 1) (omega arith), e) (omega arith)

  signed_value : (lsb w : ℕ) → 0 < w → extracted W Sbfm lsb (lsb + w - 1) 0 x ≡ SignExtend w 32 (x / 2 ^ lsb % 2 ^ w)
  signed_value lsb w p =
      let e : lsb + w - 1 + 1 - lsb ≡ w = omega arith in
      let f : 0 + w ≡ w = omega arith in
      let g : x / 2 ^ lsb % 2 ^ w * 2 ^ 0 ≡ x / 2 ^ lsb % 2 ^ w = omega arith in
      rw (le-leb lsb (lsb + w - 1) (omega arith), e, f, g)

  field_lt : (lsb w : ℕ) → w ≤ 32 → x / 2 ^ lsb % 2 ^ w < 2 ^ w
  field_lt lsb w l = mod-lt (x / 2 ^ lsb) (pow_pos w)

  pub ubfx-value : (lsb w : ℕ) → 0 < w → w ≤ 32 → extracted W Ubfm lsb (lsb + w - 1) 0 x % 2 ^ 32 ≡ field false lsb w x
  ubfx-value lsb w p l =
      ap (λ k. k % 2 ^ 32) (field-value lsb w p) ∙ mod-eq_of_lt (lt_of_lt_of_le (field_lt lsb w l) (pow-le-pow_right (omega arith) l))

  pub sbfx-value : (lsb w : ℕ) → 0 < w → w ≤ 32 → extracted W Sbfm lsb (lsb + w - 1) 0 x % 2 ^ 32 ≡ field true lsb w x
  unfolding SignExtend sign_extend
  sbfx-value lsb w p l = ap (λ k. k % 2 ^ 32) (signed_value lsb w p) ∙ mod-eq_of_lt (sign_lt w (x / 2 ^ lsb % 2 ^ w) l (field_lt lsb w l))

  pub lsr_value : (n : ℕ) → n < 32 → extracted W Ubfm n 31 0 x % 2 ^ 32 ≡ x / 2 ^ n
  lsr_value n l =
      let e : n + (32 - n) - 1 ≡ 31 = omega arith in
      ap (λ m. extracted W Ubfm n m 0 x % 2 ^ 32) (sym e) ∙ ubfx-value n (32 - n) (omega arith) (omega arith) ∙ mod-eq_of_lt (shr_below x n (omega arith) hx)

  pub asr_value : (n : ℕ) → n < 32 → extracted W Sbfm n 31 0 x % 2 ^ 32 ≡ sign_extend (32 - n) (x / 2 ^ n)
  asr_value n l =
      let e : n + (32 - n) - 1 ≡ 31 = omega arith in
      ap (λ m. extracted W Sbfm n m 0 x % 2 ^ 32) (sym e) ∙ sbfx-value n (32 - n) (omega arith) (omega arith)
      ∙ ap (sign_extend (32 - n)) (mod-eq_of_lt (shr_below x n (omega arith) hx))

  pub lsl-value : (n : ℕ) → n < 32 → extracted W Ubfm ((32 - n) % 32) (31 - n) 0 x % 2 ^ 32 ≡ x * 2 ^ n % 2 ^ 32
  lsl-value zero l = lsr_value 0 l ∙ omega arith
  lsl-value (suc n) l =
      let e : 31 - suc n + 1 ≡ 32 - suc n = omega arith in
      let f : 32 - (32 - suc n) ≡ suc n = omega arith in
      ap (λ r. extracted W Ubfm r (31 - suc n) 0 x % 2 ^ 32) (mod-eq_of_lt (omega arith))
      ∙ ap (λ k. k % 2 ^ 32) (rw (lt-leb (32 - suc n) (31 - suc n) (omega arith), e, f) (lsl-field 32 x (suc n) (omega arith)))
      ∙ mod-mod (x * 2 ^ suc n) (2 ^ 32)

-- ---- an immediate
pub add_imm-value : (x v : ℕ) → (add_sub W Add x v).result % 2 ^ 32 ≡ plus x v
add_imm-value x v = ap (λ k. k % 2 ^ 32) (add_is 32 x v) ∙ mod-mod (x + v) (2 ^ 32)

pub sub_imm_value : (x v : ℕ) → v < 2 ^ 32 → (add_sub W Sub x v).result % 2 ^ 32 ≡ minus x v
sub_imm_value x v h = ap (λ k. k % 2 ^ 32) (sub_is 32 x v h) ∙ mod-mod (x + (2 ^ 32 - v)) (2 ^ 32)

-- ---- one operand
module _ (x : ℕ) (hx : x < 2 ^ 32) where
  pub mov-value : bit_or 0 (shifted W Lsl x 0) % 2 ^ 32 ≡ x
  mov-value = ap (λ k. bit_or 0 k % 2 ^ 32) (lsl-zero W x hx) ∙ ap (λ k. k % 2 ^ 32) (or_zero_l x) ∙ mod-eq_of_lt hx

  pub mvn-value : bit_or 0 (NOT 32 (shifted W Lsl x 0)) % 2 ^ 32 ≡ complement x
  mvn-value = ap (λ k. bit_or 0 (NOT 32 k) % 2 ^ 32) (lsl-zero W x hx) ∙ ap (λ k. k % 2 ^ 32) (or_zero_l (complement x)) ∙ mod-eq_of_lt (omega arith)

  pub negated : (NOT 32 x + 1) % 2 ^ 32 ≡ minus 0 x
  negated = omega arith

byte_lt : (x i : ℕ) → x / 256 ^ i % 256 < 256
byte_lt x i = mod-lt (x / 256 ^ i) (omega arith)

pub rev-value : (x : ℕ) → one Rev x % 2 ^ 32 ≡ un UnKind.Rev x
rev-value x = mod-eq_of_lt (omega (arith, byte_lt x 0, byte_lt x 1, byte_lt x 2, byte_lt x 3))

clz_same : (n x : ℕ) → CountLeadingZeroBits n x ≡ leading_zeros n x
unfolding CountLeadingZeroBits leading_zeros
clz_same zero x = refl
clz_same (suc n) x = ap (λ k. cond (bit x n) 0 (suc k)) (clz_same n x)

clz_le : (n x : ℕ) → leading_zeros n x ≤ n
unfolding leading_zeros
clz_le zero x = omega arith
clz_le (suc n) x = go (bit x n) (clz_le n x)
  where
    go : (u : Bool) → leading_zeros n x ≤ n → cond u 0 (suc (leading_zeros n x)) ≤ suc n
    go true h = omega arith
    go false h = omega arith

pub clz-value : (x : ℕ) → one Clz x % 2 ^ 32 ≡ un UnKind.Clz x
clz-value x = ap (λ k. k % 2 ^ 32) (clz_same 32 x) ∙ mod-eq_of_lt (omega (arith, clz_le 32 x))

-- ---- division
pub bits_lt : (z : ℤ) → bits_of z < 2 ^ 32
bits_lt (pos n) = mod-lt n (omega arith)
bits_lt (negsuc n) = omega arith

unless_lt : (b v : ℕ) → v < 2 ^ 32 → unless_zero b v < 2 ^ 32
unless_lt b v h = go (eqb b 0)
  where
    go : (u : Bool) → cond u 0 v < 2 ^ 32
    go true = omega arith
    go false = h

bits_same : (z : ℤ) → to_bits 32 z ≡ bits_of z
bits_same (pos n) = refl
bits_same (negsuc n) = refl

pub quot_s-value : (a b : ℕ) → two W Sdiv a b % 2 ^ 32 ≡ quot_s a b
unfolding SInt signed_of
quot_s-value a b =
    let z : ℤ = quot_z (signed_of a) (signed_of b) in
    ap (λ k. cond (eqb b 0) 0 k % 2 ^ 32) (bits_same z) ∙ mod-eq_of_lt (unless_lt b (bits_of z) (bits_lt z))

pub quot_u-value : (a b : ℕ) → a < 2 ^ 32 → two W Udiv a b % 2 ^ 32 ≡ quot_u a b
quot_u-value a b h = mod-eq_of_lt (unless_lt b (a / b) (lt_of_le_of_lt (div-le_self a b) h))

pub rem_value : (q a b : ℕ) → three Msub a q b % 2 ^ 32 ≡ bits_of (pos a -ℤ pos (q * b))
rem_value q a b = let z : ℤ = pos a -ℤ pos (q * b) in ap (λ k. k % 2 ^ 32) (bits_same z) ∙ mod-eq_of_lt (bits_lt z)

-- ---- constants
pick-cond : {A : Type 0} (u : Bool) (x y : A) → pick u x y ≡ cond u x y
pick-cond true x y = refl
pick-cond false x y = refl

pub ones-mask : (l : ℕ) → ones (l % 32) ≡ mask l
ones-mask l = pick-cond (eqb (l % 32) 0) (2 ^ 32 - 1) (2 ^ (l % 32) - 1)

pub mask_lt : (l : ℕ) → mask l < 2 ^ 32
mask_lt l = go (eqb (l % 32) 0)
  where
    top : 2 ^ (l % 32) ≤ 2 ^ 32
    top = let h : l % 32 ≤ 32 = omega (arith, mod-lt l {m = 32} (omega arith)) in pow-le-pow_right (omega arith) h

    go : (u : Bool) → cond u (2 ^ 32 - 1) (2 ^ (l % 32) - 1) < 2 ^ 32
    go true = omega arith
    go false = omega (arith, top, pow_pos (l % 32))

pub hole_is : (p l : ℕ) → hole (p % 32) (l % 32) ≡ complement (shl (mask l) p)
hole_is p l = ap (λ m. 2 ^ 32 - 1 - m * 2 ^ (p % 32) % 2 ^ 32) (ones-mask l)

pub sign-is : (v : ℕ) → v < 2 ^ 32 → sign v ≡ cond (bit v 31) (2 ^ 32 - 1) 0
sign-is v h = go (ltb v (2 ^ 31)) refl
  where
    go : (u : Bool) → ltb v (2 ^ 31) ≡ u → pick u 0 (2 ^ 32 - 1) ≡ cond (bit v 31) (2 ^ 32 - 1) 0
    go true e = let l : v < 2 ^ 31 = ltb-true v (2 ^ 31) e in let q : v / 2 ^ 31 % 2 ≡ 0 = omega arith in rw q
    go false e = let l : 2 ^ 31 ≤ v = ltb-false v (2 ^ 31) e in let q : v / 2 ^ 31 % 2 ≡ 1 = omega arith in rw q
