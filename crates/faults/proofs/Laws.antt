-- Laws of faults, one after the other.
use mathlib.Core.Path.{◌≡◌, refl, sym, ap, ◌∙◌}
use mathlib.Core.Bool.{Bool, true, false}
use Prim.Native.Nat.{ℕ, zero, suc}
use native.Mathlib.Omega.{arith}
use Rattle.std.proofs.Common.{Result, Err}
use Rattle.faults.specs.declared.Fault.{Fault}
use Rattle.faults.specs.declared.Fault.TheVariants.{Cut, Field, Kind, Operand, Offset, Region, Start, TooMany, AfterJump, Room}
use Rattle.faults.specs.declared.Fault.TheVariants.{Unaligned, Overlap, Guard, RamEnd}
use Rattle.faults.specs.Faults.{◌gives◌, ◌then◌, fault_number, fault_or_0}

pub then_none : (a b : ℕ) → a ≡ 0 → b ≡ (a then b)
then_none a b e = rw e

pub then_some : (a b : ℕ) → (a ≡ 0 → ⊥) → a ≡ (a then b)
then_some zero b ne = absurd (ne refl)
then_some (suc a) b ne = refl

-- no fault at all: none of the tests holds
pub then-zero : (a b : ℕ) → (a then b) ≡ 0 → (a ≡ 0) × (b ≡ 0)
then-zero zero b e = (refl, e)
then-zero (suc a) b e = absurd (omega (arith, e))

pub gives-zero : (t : Bool) (n : ℕ) → (t gives suc n) ≡ 0 → t ≡ false
gives-zero true n e = absurd (omega (arith, e))
gives-zero false n e = refl

-- no fault has the number 0
pub some_number : (f : Fault) → fault_number f ≡ 0 → ⊥
some_number Cut e = omega (arith, e)
some_number Field e = omega (arith, e)
some_number Kind e = omega (arith, e)
some_number Operand e = omega (arith, e)
some_number Offset e = omega (arith, e)
some_number Region e = omega (arith, e)
some_number Start e = omega (arith, e)
some_number TooMany e = omega (arith, e)
some_number AfterJump e = omega (arith, e)
some_number Room e = omega (arith, e)
some_number Unaligned e = omega (arith, e)
some_number Overlap e = omega (arith, e)
some_number Guard e = omega (arith, e)
some_number RamEnd e = omega (arith, e)

-- a test that `?` has found a fault in: what stands behind it does not count
pub stopped : {A B : Type 0} (q : Result A Fault) (r : Result B Fault) (f : Fault) (a b : ℕ)
    → q ≡ Err f → fault_or_0 q ≡ a → r ≡ Err f → fault_or_0 r ≡ (a then b)
stopped q r f a b p e h = ap fault_or_0 h ∙ sym (ap fault_or_0 p) ∙ e ∙ then_some a b (λ z. some_number f (sym (ap fault_or_0 p) ∙ e ∙ z))
