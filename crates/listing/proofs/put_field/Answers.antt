use Rattle.text.proofs.Placed.{puts, then}
use Rattle.listing.proofs.put_field.Goals as goal

pub returns : goal.returns
returns c = then (puts _ _ _ c.put.ensures) c.put_decimal.ensures
