-- Cells in lent room.
use mathlib.Core.Path.{◌≡◌, refl, ap}
use mathlib.Core.List.{List, [], ◌∷◌, ◌++◌}
use Prim.Native.Nat.{ℕ, zero, suc, min}
use native.Mathlib.Omega.{arith}
use lib.ListN.{length, take, drop, get_or, set}
use Rattle.code.specs.Emit.{lay}
use Rattle.answers.specs.WordsNeeded.{Need, takes, refused_with}
use Rattle.werfund.specs.Answers.{need_cells}

-- the first of them, as many as there is room for, and the room behind these
pub laid : (n : ℕ) (xs lent : List ℕ) → n ≡ min (length xs) (length lent) → take n xs ++ drop n lent ≡ lay xs lent
laid zero [] lent e = refl
laid zero (x ∷ xs) [] e = refl
laid zero (x ∷ xs) (y ∷ lent) e = absurd (omega arith)
laid (suc n) [] lent e = absurd (omega arith)
laid (suc n) (x ∷ xs) [] e = absurd (omega arith)
laid (suc n) (x ∷ xs) (y ∷ lent) e = ap (λ l. x ∷ l) (laid n xs lent (omega arith))

-- two cells, one behind the other
lay_two : (x y : ℕ) (lent : List ℕ) → set (set lent 0 x) 1 y ≡ lay (x ∷ y ∷ []) lent
lay_two x y [] = refl
lay_two x y (p ∷ []) = refl
lay_two x y (p ∷ q ∷ lent) = refl

pub lay_need : (n : Need) (lent : List ℕ) → set (set lent 0 (get_or (need_cells n) 0 0)) 1 (get_or (need_cells n) 1 0) ≡ lay (need_cells n) lent
lay_need (takes words) lent = lay_two 0 words lent
lay_need (refused_with number place) lent = lay_two place 0 lent
