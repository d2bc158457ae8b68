use Rattle.text.proofs.Placed.{puts, then}
use Rattle.listing.specs.Listing.{refused}
use Rattle.listing.proofs.refused.Goals as goal

pub returns : goal.returns
unfolding refused
returns c = then c.put_field.ensures (then c.put_field-2.ensures (puts _ _ _ c.put.ensures))
