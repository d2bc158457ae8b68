use Rattle.emission.proofs.Slots.{ins_by}
use Rattle.emission.proofs.ins.Goals as goal

pub returns : goal.returns
returns c = λ i e. ins_by i _ e c.emit.ensures
