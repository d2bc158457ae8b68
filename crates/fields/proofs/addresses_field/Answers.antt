-- `addresses_field` meets its contract: the header's fault alone.
use Rattle.fields.specs.Fields.{addresses_field}
use Rattle.fields.proofs.addresses_field.Goals as goal

pub returns : goal.returns
unfolding addresses_field
returns c = c.field_fault.ensures
