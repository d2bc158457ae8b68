-- A site is kept where there is room, and else left out.
use mathlib.Core.Path.{refl}
use Rattle.stepping.specs.Done.{kept}
use Rattle.lower.proofs.sites.site.Goals as goal

pub returns-in-None-clause-ats : goal.returns-in-None-clause-ats
unfolding kept
returns-in-None-clause-ats c = rw c.in-None.is refl

pub returns-in-None-clause-targets : goal.returns-in-None-clause-targets
unfolding kept
returns-in-None-clause-targets c = rw c.in-None.is refl

pub returns-in-One-clause-ats : goal.returns-in-One-clause-ats
unfolding kept
returns-in-One-clause-ats c = rw c.in-One.is refl

pub returns-in-One-clause-targets : goal.returns-in-One-clause-targets
unfolding kept
returns-in-One-clause-targets c = rw c.in-One.is refl

pub returns-in-Two-clause-ats : goal.returns-in-Two-clause-ats
unfolding kept
returns-in-Two-clause-ats c = rw c.in-Two.is refl

pub returns-in-Two-clause-targets : goal.returns-in-Two-clause-targets
unfolding kept
returns-in-Two-clause-targets c = rw c.in-Two.is refl
