-- The word with distance 0, and its fix-up.
use native.Mathlib.Omega.{arith}
use Rattle.code.specs.Items.{b_cond}
use Rattle.code.specs.Emit.{kind}
use Rattle.asm.proofs.Laws.{go-put}
use Rattle.asm.proofs.Asm.b_cond.Goals as goal

pub returns : goal.returns
unfolding kind
returns c = go-put (b_cond c.args.cond) _ _ (omega arith) c.fix.ensures
