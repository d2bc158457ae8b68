use Rattle.emission.specs.Gen.{given_of}
use Rattle.jumps.proofs.Laws.{exit_imm-after}
use Rattle.jumps.proofs.exit_imm.Goals as goal

pub returns : goal.returns
returns c n e =
    let g = c.args.g.now in
    exit_imm-after e (given_of g) g.rc _ _ c.flush.ensures c.mov32.ensures c.str.ensures c.add_imm.ensures c.b.ensures
