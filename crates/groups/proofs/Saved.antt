-- The registers that n names: those from the lowest to the highest, pushed from the highest down and popped from the lowest up.
use mathlib.Core.Path.{◌≡◌, ap, ◌∙◌}
use mathlib.Core.Bool.{Bool, true, false, cond}
use mathlib.Core.List.{List, [], ◌∷◌, ◌++◌, reverse, reverse_aux}
use Prim.Native.Nat.{ℕ, zero, suc, ◌+◌, ◌-◌}
use native.Mathlib.Omega.{arith}
use lib.Dec.{ltb}
use Rattle.block.specs.Block.{up_from, saved}
use Rattle.lowering.specs.Steps.{Step, push, pop, push_all, pop_all}

-- from low to top
abbrev pub between : (low top : ℕ) → List ℕ
between low top = up_from low (top + 1 - low)

pub saved_between : (n : ℕ) → saved n ≡ between (cond (ltb n 4) n 4) (cond (ltb n 4) 3 n)
saved_between n = by (ltb n 4)
  where
    by : (u : Bool) → cond u (up_from n (4 - n)) (up_from 4 (n - 3)) ≡ between (cond u n 4) (cond u 3 n)
    by true = let e : 4 - n ≡ 3 + 1 - n = omega arith in ap (up_from n) e
    by false = let e : n - 3 ≡ n + 1 - 4 = omega arith in ap (up_from 4) e

-- ---- from the highest down: of so many from low on, the last is the first
down_aux : (low k : ℕ) (ys : List ℕ) → reverse_aux (up_from low (suc k)) ys ≡ (low + k) ∷ reverse_aux (up_from low k) ys
unfolding up_from
down_aux low zero ys = let e : low ≡ low + zero = omega arith in ap (λ n. n ∷ ys) e
down_aux low (suc k) ys =
    let e : suc low + k ≡ low + suc k = omega arith in
    down_aux (suc low) k (low ∷ ys) ∙ ap (λ n. n ∷ reverse_aux (up_from (suc low) k) (low ∷ ys)) e

module _ (i low : ℕ) where
  abbrev pub pushes : (count : ℕ) → List Step
  pushes count = push_all i (reverse (up_from low count))

  pub no_push : {k : ℕ} → k ≡ 0 → pushes k ≡ []
  unfolding push_all up_from
  no_push e = ap pushes e

  pub a_push : {k : ℕ} (j : ℕ) {r : ℕ} → k ≡ suc j → low + j ≡ r → pushes k ≡ push false i (Step.ld_reg 1 r) ++ pushes j
  unfolding push_all
  a_push j e f = ap pushes e ∙ ap (push_all i) (down_aux low j []) ∙ ap (λ m. push false i (Step.ld_reg 1 m) ++ pushes j) f

-- ---- from the lowest up
module _ (i r : ℕ) where
  abbrev pub pops : (count : ℕ) → List Step
  pops count = pop_all i (up_from r count)

  pub no_pop : {k : ℕ} → k ≡ 0 → pops k ≡ []
  unfolding pop_all up_from
  no_pop e = ap pops e

  pub a_pop : {k : ℕ} (j : ℕ) → k ≡ suc j → pops k ≡ pop i (Step.st_reg 0 r) ++ pop_all i (up_from (r + 1) j)
  unfolding pop_all up_from
  a_pop j e =
      let f : suc r ≡ r + 1 = omega arith in
      ap pops e ∙ ap (λ m. pop i (Step.st_reg 0 r) ++ pop_all i (up_from m j)) f
