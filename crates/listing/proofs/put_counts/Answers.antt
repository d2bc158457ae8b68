use Rattle.text.proofs.Placed.{puts, then}
use Rattle.listing.specs.Listing.{counts}
use Rattle.listing.proofs.put_counts.Goals as goal

pub returns : goal.returns
unfolding counts
returns c = then c.put_field.ensures (then c.put_field-2.ensures (puts _ _ _ c.put.ensures))
