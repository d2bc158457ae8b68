use Rattle.text.proofs.Placed.{then}
use Rattle.listing.specs.Listing.{accepted}
use Rattle.listing.proofs.accepted.Goals as goal

pub returns : goal.returns
unfolding accepted
returns c = then c.put_counts.ensures (then c.put_rows.ensures c.put_sites.ensures)
