use Rattle.lowering.specs.Steps.{lowered}
use Rattle.lower.proofs.Laws.{then_lowers}
use Rattle.groups.proofs.pop_pc.Goals as goal

pub returns : goal.returns
unfolding lowered
returns c = λ next e. then_lowers c.pop_regs.ensures (c.pop_ret.ensures next e)
