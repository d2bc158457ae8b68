-- The invariant: the first n fix-ups are patched, and no other.
use Rattle.finish.specs.Finish.{patched_to}
use Rattle.std.proofs.Common.{refl}
use Rattle.finish.proofs.Cases.{patched_more}
use Rattle.finish.proofs.patch_to.Goals as goal

pub loop-n-init : goal.loop-n-init
unfolding patched_to
loop-n-init c = refl

pub loop-n-preserved : goal.loop-n-preserved
loop-n-preserved c = patched_more _ _ _ _ _ _ c.loop-n.invariant c.patch_one.ensures
