use Rattle.emission.specs.Gen.{given_of}
use Rattle.jumps.proofs.Laws.{ind-after}
use Rattle.jumps.proofs.ind.Goals as goal

pub returns : goal.returns
returns c =
    let g = c.args.g.now in
    let l = c.new_label-back.ensures in
    ind-after (given_of g) g.rc _ _ _ c.flush.ensures c.mov.ensures c.add_imm.ensures l.label l.wrote (c.brk_first.ensures _ _) (c.lookup.ensures _ _)
    c.bind.ensures (c.leave.ensures _ _ _ c.memory_imm.ensures)
