-- What the code makes of a kind's operands.
use Rattle.std.specs.Prelude.{Bool, true, ◌&&◌, List, [], ◌∷◌, ℕ, suc, length, get_or}
use Rattle.operands.specs.declared.rows.Shape.{Shape}
use Rattle.operands.specs.Kinds.{Class, fits, kind_at}

-- the operands from the i-th on are in range
abbrev pub fit_from : List Class → List ℕ → ℕ → Bool
fit_from [] xs i = true
fit_from (c ∷ cs) xs i = fits c (get_or xs i 0) && fit_from cs xs (suc i)

abbrev pub shape_of : ℕ → List ℕ → Shape
shape_of k xs = record { count = length (kind_at k).operands; fit = fit_from (kind_at k).operands xs 0 }
