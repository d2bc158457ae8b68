-- The position in the table.
use mathlib.Core.Path.{refl}
use Rattle.asm.specs.State.{put}
use Rattle.asm.proofs.Asm.bind.Goals as goal

pub returns : goal.returns
unfolding put
returns c = rw c.put_label.ensures (record { code = refl; words = refl; table = refl })
