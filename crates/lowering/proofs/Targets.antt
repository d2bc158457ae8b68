-- The targets of one list of steps behind another.
use mathlib.Core.Path.{◌≡◌, refl, ap}
use mathlib.Core.List.{List, [], ◌∷◌, ◌++◌}
use Rattle.lowering.specs.Steps.{Step}
use Rattle.lowering.specs.Compile.{targets}

pub targets-append : (xs ys : List Step) → targets (xs ++ ys) ≡ targets xs ++ targets ys
targets-append [] ys = refl
targets-append (Step.ld_reg t r ∷ xs) ys = targets-append xs ys
targets-append (Step.st_reg t r ∷ xs) ys = targets-append xs ys
targets-append (Step.ld_field f t ∷ xs) ys = targets-append xs ys
targets-append (Step.st_field f t ∷ xs) ys = targets-append xs ys
targets-append (Step.mov32 t v ∷ xs) ys = targets-append xs ys
targets-append (Step.add_imm d s v ∷ xs) ys = targets-append xs ys
targets-append (Step.ins i ∷ xs) ys = targets-append xs ys
targets-append (Step.load w signed i ∷ xs) ys = targets-append xs ys
targets-append (Step.store w alone i ∷ xs) ys = targets-append xs ys
targets-append (Step.check_brk glue pc count ∷ xs) ys = targets-append xs ys
targets-append (Step.chain pc count ∷ xs) ys = ap (λ l. pc ∷ l) (targets-append xs ys)
targets-append (Step.fork cond pc target count ∷ xs) ys = ap (λ l. pc ∷ target ∷ l) (targets-append xs ys)
targets-append (Step.ind t count brk ∷ xs) ys = targets-append xs ys
targets-append (Step.limit pc count ∷ xs) ys = targets-append xs ys
targets-append (Step.guard at helper pc ∷ xs) ys = targets-append xs ys
