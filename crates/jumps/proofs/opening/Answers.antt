use Rattle.lowering.specs.Fragments.{opening}
use Rattle.emission.proofs.Writes.{writes-more}
use Rattle.jumps.specs.Parts.{saves, arguments}
use Rattle.jumps.proofs.opening.Goals as goal

pub returns : goal.returns
unfolding opening
returns c = writes-more saves arguments c.saves.ensures c.arguments.ensures
