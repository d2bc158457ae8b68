use Rattle.std.proofs.Common.{rules}
use Rattle.listing.proofs.Sites.{start, step, done}
use Rattle.listing.proofs.put_sites.Goals as goal

pub loop-site-init : goal.loop-site-init
loop-site-init c = start c.args.sites.now c.args.out.now

pub loop-site-preserved : goal.loop-site-preserved
loop-site-preserved c =
    let l = c.loop-site in
    step c.args.sites.now c.args.out.now l.out l.site-index l.invariant c.put_site.new.out (record { at = 0; target = 0 })
    (search rules) c.put_site.ensures

pub returns : goal.returns
returns c =
    let l = c.loop-site in
    done c.args.sites.now c.args.out.now l.out l.site-index l.invariant (search rules)
