use Rattle.text.proofs.Placed.{puts}
use Rattle.listing.specs.Listing.{long}
use Rattle.listing.proofs.long.Goals as goal

pub returns : goal.returns
unfolding long
returns c = puts _ _ _ c.put.ensures
