use Rattle.emission.specs.Gen.{given_of}
use Rattle.memops.proofs.Laws.{read-helper}
use Rattle.memops.proofs.read.Goals as goal

pub returns : goal.returns
returns c =
    let g = c.args.g.now in
    read-helper (given_of g) g.rc _ _ _ _ _ c.bytes.ensures c.mov.ensures c.mov_x.ensures c.add_imm.ensures c.mov32.ensures c.call_helper.ensures c.extended.ensures
