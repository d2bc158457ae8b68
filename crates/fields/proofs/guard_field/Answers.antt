-- `guard_field` meets its contract: the header's fault alone.
use Rattle.fields.specs.Fields.{guard_field}
use Rattle.fields.proofs.guard_field.Goals as goal

pub returns : goal.returns
unfolding guard_field
returns c = rw c.requires.1 c.field_fault.ensures
