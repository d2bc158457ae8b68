-- The operands of a payload: six are enough.
use mathlib.Core.Path.{◌≡◌, refl, ap₂}
use mathlib.Core.Bool.{Bool, ◌&&◌}
use mathlib.Core.List.{List, [], ◌∷◌}
use Prim.Native.Nat.{ℕ, zero, suc, ◌+◌, ◌<◌, ◌≤◌}
use native.Mathlib.Omega.{arith}
use lib.ListN.{length, get_or}
use Rattle.operands.specs.Kinds.{Class, fits, kind_at}
use Rattle.operands.specs.Rows.{fit_from}
use Rattle.operands.proofs.Table.{at_most-six}
use Rattle.operation.specs.Operation.{operand, operands, operands_fit}

operand_at : (p : List ℕ) (i : ℕ) → i < 6 → get_or (operands p) i 0 ≡ operand p i
operand_at p zero h = refl
operand_at p (suc zero) h = refl
operand_at p (suc (suc zero)) h = refl
operand_at p (suc (suc (suc zero))) h = refl
operand_at p (suc (suc (suc (suc zero)))) h = refl
operand_at p (suc (suc (suc (suc (suc zero))))) h = refl
operand_at p (suc (suc (suc (suc (suc (suc i)))))) h = absurd (omega arith)

fit-from : (cs : List Class) (p : List ℕ) (i : ℕ) → i + length cs ≤ 6 → fit_from cs (operands p) i ≡ operands_fit cs p i
fit-from [] p i h = refl
fit-from (c ∷ cs) p i h = ap₂ (λ (x : ℕ) (b : Bool). fits c x && b) (operand_at p i (omega arith)) (fit-from cs p (suc i) (omega arith))

pub fit_all : (k : ℕ) (p : List ℕ) → fit_from (kind_at k).operands (operands p) 0 ≡ operands_fit (kind_at k).operands p 0
fit_all k p = fit-from (kind_at k).operands p 0 (omega (arith, at_most-six k))
