-- Operands in range make an operation whose numbers are in range: one rule a class, and one line a kind.
use mathlib.Core.Path.{◌≡◌, refl}
use mathlib.Core.Bool.{Bool, true, false}
use mathlib.Core.List.{List, [], ◌∷◌}
use Prim.Native.Nat.{ℕ, zero, suc, ◌<◌, ◌≤◌}
use native.Mathlib.Omega.{arith}
use borrow.Author.Tests.{leb-true, ltb-true}
use lib.Dec.{ltb}
use lib.ListN.{get_or}
use Rattle.block.specs.declared.Fast.{Fast}
use Rattle.block.specs.Checked.{BaseFits, AmountFits, FastFits}
use Rattle.operands.specs.Kinds.{Class, reg, base, any32, byte, flag, width, alu_op, rmw_op, cond, mask, nib, fits}
use Rattle.operands.specs.Kinds.{pick_base, base_of, pick_amount, amount_of, Kind, kind, kinds, kind_at, fast_of}
use Rattle.operands.proofs.Laws.{and_true_both}
use Rattle.operation.specs.Operation.{operand, operands, operands_fit}

-- what the test of a class says of a number of 32 bits
abbrev InRange : Class → ℕ → Type 0
InRange reg x = x ≤ 15
InRange base x = x ≤ 16
InRange any32 x = x < 4294967296
InRange byte x = x ≤ 255
InRange flag x = Unit {0}
InRange width x = Unit {0}
InRange alu_op x = Unit {0}
InRange rmw_op x = Unit {0}
InRange cond x = Unit {0}
InRange mask x = x ≤ 65535
InRange nib x = x ≤ 15

in_range : (c : Class) (x : ℕ) → x < 4294967296 → fits c x ≡ true → InRange c x
in_range reg x h e = leb-true x 15 e
in_range base x h e = leb-true x 16 e
in_range any32 x h e = h
in_range byte x h e = leb-true x 255 e
in_range flag x h e = tt
in_range width x h e = tt
in_range alu_op x h e = tt
in_range rmw_op x h e = tt
in_range cond x h e = tt
in_range mask x h e = leb-true x 65535 e
in_range nib x h e = leb-true x 15 e

abbrev AllInRange : List Class → List ℕ → ℕ → Type 0
AllInRange [] p i = Unit {0}
AllInRange (c ∷ cs) p i = InRange c (operand p i) × AllInRange cs p (suc i)

all_in_range : (cs : List Class) (p : List ℕ) (i : ℕ) → ((j : ℕ) → operand p j < 4294967296) → operands_fit cs p i ≡ true
    → AllInRange cs p i
all_in_range [] p i h e = tt
all_in_range (c ∷ cs) p i h e =
    let b = and_true_both (fits c (operand p i)) (operands_fit cs p (suc i)) e in
    (in_range c (operand p i) (h i) b.0, all_in_range cs p (suc i) h b.1)

base-fits : (x : ℕ) → x ≤ 16 → BaseFits (base_of x)
base-fits x h = cases (ltb x 16) refl
  where
    cases : (b : Bool) → ltb x 16 ≡ b → BaseFits (pick_base b x)
    cases true e = let l : x < 16 = ltb-true x 16 e in omega arith
    cases false e = tt

amount-fits : (i inc : ℕ) → inc < 4294967296 → AmountFits (amount_of i inc)
amount-fits i inc h = cases (ltb i 16) refl
  where
    cases : (b : Bool) → ltb i 16 ≡ b → AmountFits (pick_amount b i inc)
    cases true e = let l : i < 16 = ltb-true i 16 e in omega arith
    cases false e = h

infixr 20 ◌and◌
◌and◌ : {A B : Type 0} → A → B → A × B
a and b = (a, b)

-- what a row makes of a payload's operands
abbrev made : Kind → List ℕ → Fast
made r p = r.fast (λ i. get_or (operands p) i 0)

abbrev Fitting : List Kind → Type 0
Fitting [] = Unit {0}
Fitting (r ∷ rs) = ((p : List ℕ) → AllInRange r.operands p 0 → FastFits (made r p)) × Fitting rs

fitting : Fitting kinds
fitting =
    (λ p f. tt)
    and (λ p f. (omega arith, omega arith))
    and (λ p f. (omega arith, omega arith))
    and (λ p f. (omega arith, omega arith, omega arith))
    and (λ p f. (omega arith, omega arith, omega arith))
    and (λ p f. (omega arith, omega arith, omega arith))
    and (λ p f. (omega arith, omega arith, omega arith))
    and (λ p f. (omega arith, omega arith, omega arith))
    and (λ p f. (omega arith, omega arith))
    and (λ p f. (omega arith, omega arith))
    and (λ p f. (omega arith, omega arith, omega arith))
    and (λ p f. (omega arith, omega arith))
    and (λ p f. (omega arith, omega arith, omega arith))
    and (λ p f. (omega arith, omega arith))
    and (λ p f. (omega arith, omega arith, omega arith))
    and (λ p f. (omega arith, omega arith, omega arith, omega arith))
    and (λ p f. (omega arith, omega arith, omega arith))
    and (λ p f. (omega arith, omega arith, omega arith, omega arith))
    and (λ p f. (omega arith, omega arith, omega arith, omega arith))
    and (λ p f. omega arith)
    and (λ p f. (omega arith, omega arith))
    and (λ p f. (omega arith, base-fits _ f.1.0, omega arith))
    and (λ p f. (omega arith, base-fits _ f.1.0, omega arith))
    and (λ p f. (omega arith, omega arith, omega arith, omega arith))
    and (λ p f. (omega arith, omega arith, omega arith, omega arith))
    and (λ p f. (omega arith, omega arith, omega arith))
    and (λ p f. (omega arith, omega arith, omega arith))
    and (λ p f. (omega arith, omega arith, omega arith))
    and (λ p f. tt)
    and (λ p f. tt)
    and (λ p f. (omega arith, omega arith, omega arith))
    and (λ p f. (omega arith, omega arith, omega arith))
    and (λ p f. (omega arith, omega arith, omega arith))
    and (λ p f. (omega arith, omega arith, omega arith))
    and (λ p f. omega arith)
    and (λ p f. omega arith)
    and (λ p f. tt)
    and (λ p f. omega arith)
    and (λ p f. omega arith)
    and (λ p f. tt)
    and (λ p f. (omega arith, omega arith))
    and (λ p f. omega arith)
    and (λ p f. omega arith)
    and (λ p f. (omega arith, base-fits _ f.1.0, omega arith))
    and (λ p f. (omega arith, base-fits _ f.1.0, omega arith))
    and (λ p f. (omega arith, omega arith, amount-fits (operand p 2) _ f.1.1.1.1.1.0))
    and (λ p f. (omega arith, omega arith, amount-fits (operand p 2) _ f.1.1.1.1.0))
    and (λ p f. (omega arith, omega arith, omega arith))
    and (λ p f. (omega arith, omega arith, omega arith))
    and (λ p f. omega arith)
    and tt

fitting_at : (rs : List Kind) (d : Kind) → Fitting rs → ((p : List ℕ) → FastFits (made d p))
    → (k : ℕ) (p : List ℕ) → AllInRange (get_or rs k d).operands p 0 → FastFits (made (get_or rs k d) p)
fitting_at [] d f z k p a = z p
fitting_at (r ∷ rs) d f z zero p a = f.0 p a
fitting_at (r ∷ rs) d f z (suc k) p a = fitting_at rs d f.1 z k p a

pub fast-fits : (k : ℕ) (p : List ℕ) → ((j : ℕ) → operand p j < 4294967296) → operands_fit (kind_at k).operands p 0 ≡ true
    → FastFits (fast_of k (operands p))
fast-fits k p h e = fitting_at kinds (kind [] (λ x. _)) fitting (λ q. tt) k p (all_in_range (kind_at k).operands p 0 h e)
