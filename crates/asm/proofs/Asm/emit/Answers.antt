-- The word, and the count.
use mathlib.Core.Path.{refl}
use Rattle.asm.specs.State.{word}
use Rattle.asm.proofs.Asm.emit.Goals as goal

pub returns : goal.returns
unfolding word
returns c = rw (c.store.ensures, c.bump-self.ensures) (record { code = refl; words = refl; table = refl })
