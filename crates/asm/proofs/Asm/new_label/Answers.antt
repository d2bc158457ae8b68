-- The count is the number.
use mathlib.Core.Path.{refl}
use Rattle.asm.specs.State.{put, made}
use Rattle.asm.proofs.Asm.new_label.Goals as goal

pub returns-clause-wrote : goal.returns-clause-wrote
unfolding put made
returns-clause-wrote c = rw c.bump-self.ensures (record { code = refl; words = refl; table = refl })
