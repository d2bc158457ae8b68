-- The place in the slice of the literals.
use native.Mathlib.Omega.{arith}
use mathlib.Core.Path.{◌∙◌, sym}
use Rattle.asm.proofs.Cases.{found, found_none}
use Rattle.asm.proofs.find.Goals as goal

pub returns-in-Some : goal.returns-in-Some
returns-in-Some c = found _ _ _ (omega arith) _ (sym c.place.ensures ∙ c.in-Some.is)

pub returns-in-None : goal.returns-in-None
returns-in-None c = found_none _ _ _ (omega arith) (sym c.place.ensures ∙ c.in-None.is)
