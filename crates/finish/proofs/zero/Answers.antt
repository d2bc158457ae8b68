-- A copy of 0 is 0.
use Rattle.finish.specs.Finish.{zeros}
use Rattle.finish.proofs.zero.Goals as goal

pub returns : goal.returns
unfolding zeros
returns c = c.fill.ensures.after (λ y e. e)
