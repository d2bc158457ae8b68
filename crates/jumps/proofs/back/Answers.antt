use Rattle.jumps.proofs.Laws.{back-after}
use Rattle.jumps.proofs.back.Goals as goal

pub returns : goal.returns
returns c n e =
    let l = c.new_label-back.ensures in
    back-after e _ _ l.label l.wrote c.b.ensures c.bind.ensures c.mov32.ensures c.str.ensures
