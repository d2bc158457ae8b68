-- The word with distance 0, and its fix-up.
use native.Mathlib.Omega.{arith}
use Rattle.code.specs.Items.{adr}
use Rattle.code.specs.Emit.{kind}
use Rattle.asm.proofs.Laws.{go-put}
use Rattle.asm.proofs.Asm.adr.Goals as goal

pub returns : goal.returns
unfolding kind
returns c = go-put (adr c.args.rd) _ _ (omega arith) c.fix.ensures
