use Rattle.text.proofs.Placed.{puts, then}
use Rattle.listing.specs.Listing.{site_line}
use Rattle.listing.proofs.put_site.Goals as goal

pub returns : goal.returns
unfolding site_line
returns c = then c.put_field.ensures (then (puts _ _ _ c.put.ensures) c.put_word.ensures)
