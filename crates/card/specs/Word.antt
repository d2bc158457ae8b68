-- The card's arithmetic: numbers below 2 ^ 32, by the kinds' selectors. Nothing here speaks of Arm.
use Rattle.std.specs.Prelude.{Bool, true, false, cond, not, ℕ, zero, suc, ◌+◌, ◌-◌, ◌*◌, ◌/◌, ◌%◌, ◌^◌, leb, ltb, eqb, ℤ, pos, negsuc, ◌-ℤ◌}
use Rattle.std.specs.Int.Bits.{bit_and, bit_or, bit_xor}
use Rattle.std.proofs.Math.IntN.{sub_ℕ}
use Rattle.std.specs.Int.Signed.{lt_z, le_z, quot_z}
use Rattle.card.specs.Kinds.{Op, Add, Sub, RSub, And, AndNot, Or, Xor, Mul, Shl, Shr, Sar}
use Rattle.card.specs.Kinds.{Cond, Eq, Ne, LtU, GtU, LeU, GeU, LtS, GtS, LeS, GeS}
use Rattle.card.specs.Kinds.{Part, PartByte, PartHalf, PartUpper, Choice, MinS, MaxS, MinU, MaxU}
use Rattle.card.specs.Kinds.{UnKind, Not, Neg, Abs, Rev, Clz, SatS, SatU, DivKind, QuoS, QuoU, RemS, RemU}

-- "Guest sums wrap."
abbrev pub plus : ℕ → ℕ → ℕ
plus a b = (a + b) % 2 ^ 32

abbrev pub minus : ℕ → ℕ → ℕ
minus a b = (a + (2 ^ 32 - b)) % 2 ^ 32

abbrev pub complement : ℕ → ℕ
complement x = 2 ^ 32 - 1 - x

-- ---- signs
abbrev pub bit : ℕ → ℕ → Bool
bit x i = eqb (x / 2 ^ i % 2) 1

-- 32 bits as a signed number, and the 32 bits of a signed number
unfoldable pub signed_of : ℕ → ℤ
signed_of x = cond (bit x 31) (sub_ℕ x (2 ^ 32)) (pos x)

abbrev pub bits_of : ℤ → ℕ
bits_of (pos n) = n % 2 ^ 32
bits_of (negsuc n) = 2 ^ 32 - 1 - n % 2 ^ 32

-- a number of m bits with its top bit repeated
unfoldable pub sign_extend : ℕ → ℕ → ℕ
sign_extend m x = cond (bit x (m - 1)) (x + (2 ^ 32 - 2 ^ m)) x

-- l bits of x from place p on, by sign or by zeros
abbrev pub field : (signed : Bool) (p l x : ℕ) → ℕ
field false p l x = x / 2 ^ p % 2 ^ l
field true p l x = sign_extend l (x / 2 ^ p % 2 ^ l)

-- ---- shifts: an amount counts mod 32
abbrev pub shl : ℕ → ℕ → ℕ
shl x n = x * 2 ^ (n % 32) % 2 ^ 32

abbrev pub shr : ℕ → ℕ → ℕ
shr x n = x / 2 ^ (n % 32)

abbrev pub sar : ℕ → ℕ → ℕ
sar x n = sign_extend (32 - n % 32) (x / 2 ^ (n % 32))

-- ---- kinds 6 to 10: `alu`
abbrev pub alu : Op → ℕ → ℕ → ℕ
alu Add a b = plus a b
alu Sub a b = minus a b
alu RSub a b = minus b a
alu And a b = bit_and a b
alu AndNot a b = bit_and a (complement b)
alu Or a b = bit_or a b
alu Xor a b = bit_xor a b
alu Mul a b = a * b % 2 ^ 32
alu Shl a b = shl a b
alu Shr a b = shr a b
alu Sar a b = sar a b

-- ---- kind 11: bits 0 to 7, 0 to 15, 16 to 31
abbrev pub ext : Part → Bool → ℕ → ℕ
ext PartByte signed x = field signed 0 8 x
ext PartHalf signed x = field signed 0 16 x
ext PartUpper signed x = field signed 16 16 x

-- ---- conditions: "the first ten of `acond`"
abbrev pub holds : Cond → ℕ → ℕ → Bool
holds Eq a b = eqb a b
holds Ne a b = not (eqb a b)
holds LtU a b = ltb a b
holds GtU a b = ltb b a
holds LeU a b = leb a b
holds GeU a b = leb b a
holds LtS a b = lt_z (signed_of a) (signed_of b)
holds GtS a b = lt_z (signed_of b) (signed_of a)
holds LeS a b = le_z (signed_of a) (signed_of b)
holds GeS a b = le_z (signed_of b) (signed_of a)

-- the first number where the condition holds, else the second
abbrev pub choose : Cond → ℕ → ℕ → ℕ
choose q a b = cond (holds q a b) a b

-- ---- kind 12
abbrev pub min_max : Choice → ℕ → ℕ → ℕ
min_max MinS a b = choose LtS a b
min_max MaxS a b = choose GtS a b
min_max MinU a b = choose LtU a b
min_max MaxU a b = choose GtU a b

-- ---- kind 13
abbrev pub byte : ℕ → ℕ → ℕ
byte x i = x / 256 ^ i % 256

-- zeros from bit n - 1 down
unfoldable pub leading_zeros : ℕ → ℕ → ℕ
leading_zeros zero x = 0
leading_zeros (suc n) x = cond (bit x n) 0 (suc (leading_zeros n x))

-- a signed number, or the bound where it lies beyond
abbrev pub at_most : ℕ → ℕ → ℕ
at_most v x = cond (holds GtS x v) v x

abbrev pub at_least : ℕ → ℕ → ℕ
at_least v x = cond (holds LtS x v) v x

-- `Abs` of 80000000 is 80000000
abbrev pub un : UnKind → ℕ → ℕ
un Not x = complement x
un Neg x = minus 0 x
un Abs x = cond (holds LtS x 0) (minus 0 x) x
un Rev x = byte x 3 + byte x 2 * 2 ^ 8 + byte x 1 * 2 ^ 16 + byte x 0 * 2 ^ 24
un Clz x = leading_zeros 32 x
un SatS x = at_least 0xffff8000 (at_most 0x7fff x)
un SatU x = at_most 0xffff (at_least 0 x)

-- ---- kind 14: "80000000 divided by ffffffff, signed: 80000000, remainder 0. 7 by 0: quotient 0, remainder 0."
abbrev pub unless_zero : ℕ → ℕ → ℕ
unless_zero b v = cond (eqb b 0) 0 v

abbrev pub quot_u : ℕ → ℕ → ℕ
quot_u a b = unless_zero b (a / b)

abbrev pub quot_s : ℕ → ℕ → ℕ
quot_s a b = unless_zero b (bits_of (quot_z (signed_of a) (signed_of b)))

-- a remainder is a - q * b, and 0 for a divisor of 0
abbrev pub remainder : (q a b : ℕ) → ℕ
remainder q a b = unless_zero b (bits_of (pos a -ℤ pos (q * b)))

abbrev pub div : DivKind → ℕ → ℕ → ℕ
div QuoS a b = quot_s a b
div QuoU a b = quot_u a b
div RemS a b = remainder (quot_s a b) a b
div RemU a b = remainder (quot_u a b) a b

-- ---- kinds 17 and 18: p and l count mod 32; "length 0 means every bit. BitExt with length 0 only shifts."
abbrev pub bit_ext : Bool → (p l x : ℕ) → ℕ
bit_ext signed p l x = cond (eqb (l % 32) 0) (shr x p) (field signed 0 (l % 32) (shr x p))

abbrev pub mask : ℕ → ℕ
mask l = cond (eqb (l % 32) 0) (2 ^ 32 - 1) (2 ^ (l % 32) - 1)

abbrev pub bit_ins : (p l d s : ℕ) → ℕ
bit_ins p l d s = bit_or (shl (bit_and s (mask l)) p) (bit_and d (complement (shl (mask l) p)))
