-- The pseudocode's functions on numbers, as arithmetic.
--     sign_low, sign_high, sign-back      SignExtend, where the sign is clear, is set, and of a number as 2 ^ M - d
--     lsl-zero, lsl-field                 LSL by nothing, and the bits that it keeps
--     add_is, sub_is                      the result of AddWithCarry
--     words_forward                       a branch's field that does not point back
-- Assumes nothing.
use mathlib.Core.Path.{◌≡◌, sym, ap, ◌∙◌, subst}
use mathlib.Core.Bool.{true, false}
use Prim.Native.Nat.{ℕ, ◌+◌, ◌-◌, ◌*◌, ◌/◌, ◌%◌, ◌^◌, ◌≤◌, ◌<◌}
use native.Mathlib.Nat.{div-eq_of_lt, div-eq_of_lt-le, mul-mod_left}
use native.Mathlib.Omega.{arith}
use lib.Pow.{pow-add, pow_mono, shl_lt, shl-shr, mod-pow-add}
use Rattle.arm.specs.Instr.{bits}
use Rattle.machine.specs.Isa.{Size, W, X}
use Rattle.machine.specs.Bits.{SignExtend, NOT, LSL, AddWithCarry}
use Rattle.machine.specs.Execute.{words}

-- ---- SignExtend
pub sign_low : (M N x : ℕ) → x < 2 ^ (M - 1) → SignExtend M N x ≡ x
unfolding SignExtend
sign_low M N x h = rw (div-eq_of_lt h)

pub sign_high : (M N x : ℕ) → 2 ^ (M - 1) ≤ x → x < 2 ^ (M - 1) * 2 → SignExtend M N x ≡ x + (2 ^ N - 2 ^ M)
unfolding SignExtend
sign_high M N x h k =
    let q : x / 2 ^ (M - 1) ≡ 1 = div-eq_of_lt-le (2 ^ (M - 1)) (omega arith) (omega arith) in
    rw q

double : (M : ℕ) → 0 < M → 2 ^ M ≡ 2 ^ (M - 1) * 2
double M h = ap (λ k. 2 ^ k) (omega arith) ∙ pow-add 2 (M - 1) 1

-- d below zero
pub sign-back : (M N d : ℕ) → 0 < M → M ≤ N → 0 < d → d ≤ 2 ^ (M - 1) → SignExtend M N (2 ^ M - d) ≡ 2 ^ N - d
sign-back M N d p l h k =
    let e : 2 ^ M ≡ 2 ^ (M - 1) * 2 = double M p in
    let m : 2 ^ M ≤ 2 ^ N = pow_mono l in
    sign_high M N (2 ^ M - d) (omega arith) (omega arith) ∙ omega arith

-- ---- shifts
pub lsl-zero : (z : Size) (x : ℕ) → x < 2 ^ bits z → LSL (bits z) x 0 ≡ x
lsl-zero W x h = omega arith
lsl-zero X x h = omega arith

pub lsl-field : (N x n : ℕ) → n ≤ N → x % 2 ^ (N - n) * 2 ^ n ≡ LSL N x n
lsl-field N x n l =
    let f : N ≡ N - n + n = omega arith in
    let a : x * 2 ^ n % 2 ^ (N - n + n) ≡ (x * 2 ^ n / 2 ^ n % 2 ^ (N - n)) * 2 ^ n + x * 2 ^ n % 2 ^ n = mod-pow-add (x * 2 ^ n) (N - n) n in
    let b : x * 2 ^ n / 2 ^ n ≡ x = shl-shr x n in
    let c : x * 2 ^ n % 2 ^ n ≡ 0 = mul-mod_left x (2 ^ n) in
    sym (ap (λ k. x * 2 ^ n % 2 ^ k) f ∙ a ∙ rw (b, c) (omega arith))

-- ---- sums
pub add_is : (N a b : ℕ) → (AddWithCarry N a b false).result ≡ (a + b) % 2 ^ N
unfolding AddWithCarry
add_is N a b = ap (λ k. k % 2 ^ N) (omega arith)

pub sub_is : (N a b : ℕ) → b < 2 ^ N → (AddWithCarry N a (NOT N b) true).result ≡ (a + (2 ^ N - b)) % 2 ^ N
unfolding AddWithCarry
sub_is N a b h = ap (λ k. k % 2 ^ N) (omega arith)

-- ---- fields of branches
pub words_forward : (k imm : ℕ) → 0 < k → imm < 2 ^ (k - 1) → words k imm ≡ imm * 4
words_forward k imm p h =
    let e : k - 1 + 2 ≡ k + 2 - 1 = omega arith in
    sign_low (k + 2) 64 (imm * 4) (subst (λ j. imm * 4 < 2 ^ j) e (shl_lt (k - 1) 2 h))
