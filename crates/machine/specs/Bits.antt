-- The manual's functions on bit vectors and the condition flags, with its names (Arm ARM, J1.3, shared pseudocode).
-- A vector of N bits is a number below 2 ^ N.
use Rattle.std.specs.Prelude.{Bool, true, false, cond, not, ◌&&◌, [], ◌∷◌, ℕ, zero, suc, ◌+◌, ◌-◌, ◌*◌, ◌/◌, ◌%◌, ◌^◌, eqb, ℤ, pos, negsuc, ◌+ℤ◌, get_or}
use Rattle.std.specs.Bool.{beq}
use Rattle.std.proofs.Math.IntN.{sub_ℕ}
use Rattle.std.specs.Int.Signed.{le_z}

-- x<i>
abbrev pub bit : ℕ → ℕ → Bool
bit x i = eqb (x / 2 ^ i % 2) 1

abbrev pub IsZero : ℕ → Bool
IsZero x = eqb x 0

-- ---- signs
unfoldable pub SInt : ℕ → ℕ → ℤ
SInt N x = cond (bit x (N - 1)) (sub_ℕ x (2 ^ N)) (pos x)

-- the N bits of an integer, as the pseudocode's result<N-1:0>
abbrev pub to_bits : ℕ → ℤ → ℕ
to_bits N (pos n) = n % 2 ^ N
to_bits N (negsuc n) = 2 ^ N - 1 - n % 2 ^ N

-- M bits to N bits
unfoldable pub SignExtend : ℕ → ℕ → ℕ → ℕ
SignExtend M N x = cond (bit x (M - 1)) (x + (2 ^ N - 2 ^ M)) x

abbrev pub NOT : ℕ → ℕ → ℕ
NOT N x = 2 ^ N - 1 - x

abbrev pub sameℤ : ℤ → ℤ → Bool
sameℤ a b = le_z a b && le_z b a

-- ---- shifts by less than N
abbrev pub LSL : ℕ → ℕ → ℕ → ℕ
LSL N x n = x * 2 ^ n % 2 ^ N

abbrev pub LSR : ℕ → ℕ → ℕ
LSR x n = x / 2 ^ n

abbrev pub ASR : ℕ → ℕ → ℕ → ℕ
ASR N x n = SignExtend (N - n) N (x / 2 ^ n)

abbrev pub ROR : ℕ → ℕ → ℕ → ℕ
ROR N x n = x % 2 ^ n * 2 ^ (N - n) + x / 2 ^ n

-- ---- fields
-- w bits of v in place of those of x from place p on
abbrev pub insert : (x p w v : ℕ) → ℕ
insert x p w v = x % 2 ^ p + v * 2 ^ p + x / 2 ^ (p + w) * 2 ^ (p + w)

-- from bit N - 1 down
unfoldable pub CountLeadingZeroBits : ℕ → ℕ → ℕ
CountLeadingZeroBits zero x = 0
CountLeadingZeroBits (suc N) x = cond (bit x N) 0 (suc (CountLeadingZeroBits N x))

-- byte i, and the number of four bytes, lowest first
abbrev pub byte : ℕ → ℕ → ℕ
byte x i = x / 256 ^ i % 256

abbrev pub bytes4 : (a b c d : ℕ) → ℕ
bytes4 a b c d = a + b * 2 ^ 8 + c * 2 ^ 16 + d * 2 ^ 24

-- ---- PSTATE.<N,Z,C,V>
pub record Nzcv : Type 0 where
  pub n : Bool
  pub z : Bool
  pub c : Bool
  pub v : Bool

pub record Sum : Type 0 where
  pub result : ℕ
  pub nzcv : Nzcv

abbrev pub carry_in : Bool → ℕ
carry_in true = 1
carry_in false = 0

-- AddWithCarry(x, y, carry_in) of N bits
unfoldable pub AddWithCarry : ℕ → ℕ → ℕ → Bool → Sum
unfolding SInt
AddWithCarry N x y carry =
    let unsigned : ℕ = x + y + carry_in carry in
    let signed : ℤ = SInt N x +ℤ SInt N y +ℤ pos (carry_in carry) in
    let r : ℕ = unsigned % 2 ^ N in
    record {
      result = r;
      nzcv = record { n = bit r (N - 1); z = IsZero r; c = not (eqb r unsigned); v = not (sameℤ (SInt N r) signed) };
    }

-- ConditionHolds(cond): bits 3 to 1 choose the test, bit 0 inverts it except in 15 (C1.2.4)
unfoldable pub ConditionHolds : ℕ → Nzcv → Bool
ConditionHolds k f =
    let same : Bool = beq f.n f.v in
    let base : Bool = get_or (f.z ∷ f.c ∷ f.n ∷ f.v ∷ (f.c && not f.z) ∷ same ∷ (same && not f.z) ∷ []) (k / 2) true in
    cond (bit k 0 && not (eqb k 15)) (not base) base
