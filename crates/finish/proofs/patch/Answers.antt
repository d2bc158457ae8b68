-- To a label, or to a literal.
use Rattle.std.proofs.Common.{◌∙◌}
use Rattle.finish.specs.Finish.{lead_in}
use Rattle.finish.proofs.Signed.{as_is}
use Rattle.finish.proofs.Cases.{patch-pool}
use Rattle.finish.proofs.patch.Goals as goal

pub returns-in-ToLabel : goal.returns-in-ToLabel
unfolding lead_in
returns-in-ToLabel c = rw c.in-ToLabel.is c.label_patch.ensures

pub returns-in-ToPool : goal.returns-in-ToPool
returns-in-ToPool c =
    let d = c.distance.ensures in
    patch-pool _ _ _ _ _ _ _ c.in-ToPool.is (as_is _ d.1 ∙ d.0) c.field.ensures.0
