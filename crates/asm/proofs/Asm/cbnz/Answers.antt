-- The word with distance 0, and its fix-up.
use native.Mathlib.Omega.{arith}
use Rattle.arm.specs.declared.Size.TheVariants.{W}
use Rattle.arm.specs.declared.Test.TheVariants.{Nonzero}
use Rattle.code.specs.Items.{cb}
use Rattle.code.specs.Emit.{kind}
use Rattle.asm.proofs.Laws.{go-put}
use Rattle.asm.proofs.Asm.cbnz.Goals as goal

pub returns : goal.returns
unfolding kind
returns c = go-put (cb W Nonzero c.args.rt) _ _ (omega arith) c.fix.ensures
