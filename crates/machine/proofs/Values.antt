-- The values that the bitfield moves give, as arithmetic.
--     ubfx_is, sbfx_is, lsr_is      by the encoders' operands
--     shr_below                     what is left of a number behind a shift to the right
-- Assumes nothing.
use mathlib.Core.Path.{◌≡◌, sym, ap, ◌∙◌, subst}
use Prim.Native.Nat.{ℕ, ◌+◌, ◌-◌, ◌*◌, ◌/◌, ◌%◌, ◌^◌, ◌≤◌, ◌<◌}
use native.Mathlib.Nat.{mod-eq_of_lt}
use native.Mathlib.Omega.{arith}
use borrow.Author.Tests.{le-leb}
use lib.Pow.{shr_lt}
use Rattle.arm.specs.Instr.{bits}
use Rattle.machine.specs.Isa.{Size, Sbfm, Ubfm}
use Rattle.machine.specs.Bits.{SignExtend}
use Rattle.machine.specs.Execute.{extracted}

pub ubfx_is : (z : Size) (lsb w old a : ℕ) → 0 < w → extracted z Ubfm lsb (lsb + w - 1) old a ≡ a / 2 ^ lsb % 2 ^ w
ubfx_is z lsb w old a p =
    let e : lsb + w - 1 + 1 - lsb ≡ w = omega arith in
    rw (le-leb lsb (lsb + w - 1) (omega arith), e) (omega arith)

pub sbfx_is : (z : Size) (lsb w old a : ℕ) → 0 < w → extracted z Sbfm lsb (lsb + w - 1) old a ≡ SignExtend w (bits z) (a / 2 ^ lsb % 2 ^ w)
sbfx_is z lsb w old a p =
    let e : lsb + w - 1 + 1 - lsb ≡ w = omega arith in
    let f : 0 + w ≡ w = omega arith in
    let g : a / 2 ^ lsb % 2 ^ w * 2 ^ 0 ≡ a / 2 ^ lsb % 2 ^ w = omega arith in
    rw (le-leb lsb (lsb + w - 1) (omega arith), e, f, g)

pub shr_below : (N x n : ℕ) → n ≤ N → x < 2 ^ N → x / 2 ^ n < 2 ^ (N - n)
shr_below N x n l h = let e : N ≡ N - n + n = omega arith in shr_lt (N - n) n (subst (λ k. x < 2 ^ k) e h)

-- from bit n on
pub lsr_is : (z : Size) (n old a : ℕ) → n < bits z → a < 2 ^ bits z → extracted z Ubfm n (bits z - 1) old a ≡ a / 2 ^ n
lsr_is z n old a l h =
    let e : n + (bits z - n) - 1 ≡ bits z - 1 = omega arith in
    ap (λ m. extracted z Ubfm n m old a) (sym e) ∙ ubfx_is z n (bits z - n) old a (omega arith) ∙ mod-eq_of_lt (shr_below (bits z) a n (omega arith) h)
