use Rattle.emission.specs.Gen.{given_of}
use Rattle.memops.proofs.Laws.{write-helper}
use Rattle.memops.proofs.write.Goals as goal

pub returns : goal.returns
returns c =
    let g = c.args.g.now in
    write-helper (given_of g) g.rc _ _ c.args.w _ c.bytes.ensures c.mov.ensures c.mov-2.ensures c.mov_x.ensures c.add_imm.ensures c.mov32.ensures c.call_helper.ensures
