-- The fix-up, the word, and both counts.
use mathlib.Core.Path.{refl}
use Rattle.asm.specs.State.{fixed}
use Rattle.asm.proofs.Asm.fix.Goals as goal

pub returns : goal.returns
unfolding fixed
returns c = rw (c.put_fixup.ensures, c.store.ensures, c.bump-self.ensures, c.bump-self-2.ensures) (record { code = refl; words = refl; table = refl })
