-- `start_of` meets its contract: the part lent is the payload.
use mathlib.Core.Path.{ap, ◌∙◌}
use native.Mathlib.Omega.{arith}
use Rattle.fields.specs.Fields.{num32}
use Rattle.fields.proofs.Laws.{field-whole, payload-part}
use Rattle.fields.proofs.start_of.Goals as goal

pub slice_bounds-get32-end : goal.slice_bounds-get32-end
slice_bounds-get32-end c = omega (arith, (field-whole _ 70 4 4 c.requires).inside)

pub returns : goal.returns
returns c =
    c.get32.ensures ∙ ap (λ p. num32 p 0) (payload-part c.args.s.now 70 4 (field-whole _ 70 4 4 c.requires))
