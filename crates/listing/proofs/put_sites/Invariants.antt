-- The sites from the index on are all that is left to put.
use Rattle.listing.proofs.Sites.{Left}
use Rattle.listing.proofs.put_sites.Given as goal

abbrev pub invariant-loop-site : goal.invariant-loop-site
invariant-loop-site l = Left l.sites l.initial.out l.out l.site-index
