-- Position and reference come out of the entry.
use Rattle.finish.proofs.Cases.{patched_is}
use Rattle.finish.proofs.patch_one.Goals as goal

pub returns : goal.returns
returns c =
    patched_is _ _ _ _ _ _ _ _ _ c.high-at.ensures c.low.ensures c.ref_of-to.ensures c.patch-f.ensures c.patch_at.ensures
