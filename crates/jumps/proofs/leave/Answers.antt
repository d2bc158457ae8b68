use Rattle.jumps.proofs.Laws.{leave-after}
use Rattle.jumps.proofs.leave.Goals as goal

pub returns : goal.returns
returns c n e i w = leave-after e i (c.ins.ensures i w) c.mov.ensures c.b.ensures
