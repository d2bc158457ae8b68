-- The word with distance 0, and its fix-up.
use native.Mathlib.Omega.{arith}
use Rattle.arm.specs.declared.Test.TheVariants.{Nonzero}
use Rattle.code.specs.Items.{tb}
use Rattle.code.specs.Emit.{kind}
use Rattle.asm.proofs.Laws.{go-put}
use Rattle.asm.proofs.Asm.tbnz.Goals as goal

pub returns : goal.returns
unfolding kind
returns c = go-put (tb Nonzero c.args.bit c.args.rt) _ _ (omega arith) c.fix.ensures
