-- The word with distance 0, and its fix-up.
use mathlib.Core.Path.{refl}
use Rattle.code.specs.Items.{b}
use Rattle.code.specs.Emit.{kind}
use Rattle.asm.proofs.Laws.{go-put}
use Rattle.asm.proofs.Asm.b.Goals as goal

pub returns : goal.returns
unfolding kind
returns c = go-put b _ _ refl c.fix.ensures
