use Rattle.emission.specs.Gen.{given_of}
use Rattle.jumps.proofs.Laws.{limit-after}
use Rattle.jumps.proofs.limit.Goals as goal

pub returns : goal.returns
returns c =
    let g = c.args.g.now in
    let l = c.new_label-fits.ensures in
    limit-after (given_of g) g.rc _ _ l.label l.wrote c.add_imm.ensures c.cmp.ensures c.b_cond.ensures (c.exit_imm.ensures _ _) c.bind.ensures
