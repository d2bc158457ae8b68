-- What a step's numbers are, so that every instruction of its code fits its word.
use Rattle.std.specs.Prelude.{List, [], ◌∷◌, ℕ, ◌<◌, T, ltb}
use Rattle.arm.specs.Decode.{carried}
use Rattle.lowering.specs.Steps.{Step}

abbrev pub Host : ℕ → Type 0
Host t = T (ltb t 32)

abbrev pub Number : ℕ → Type 0
Number v = v < 4294967296

abbrev pub Count : ℕ → Type 0
Count n = n < 4096

abbrev pub StepFits : Step → Type 0
StepFits (Step.ld_reg t r) = Host t × (r < 16)
StepFits (Step.st_reg t r) = Host t × (r < 16)
StepFits (Step.ld_field f t) = Host t
StepFits (Step.st_field f t) = Host t
StepFits (Step.mov32 t v) = Host t × Number v
StepFits (Step.add_imm d s v) = Host d × Host s × Number v
StepFits (Step.ins i) = T (carried i)
StepFits (Step.load w signed i) = Count i
StepFits (Step.store w alone i) = Count i
StepFits (Step.check_brk glue pc count) = Number pc × Count count
StepFits (Step.chain pc count) = Number pc × Count count
StepFits (Step.fork cond pc target count) = (cond < 16) × Number pc × Number target × Count count
StepFits (Step.ind t count brk) = Host t × Count count
StepFits (Step.limit pc count) = Number pc × Count count
StepFits (Step.guard at helper pc) = Number pc

abbrev pub AllFit : List Step → Type 0
AllFit [] = Unit {0}
AllFit (s ∷ ss) = StepFits s × AllFit ss
