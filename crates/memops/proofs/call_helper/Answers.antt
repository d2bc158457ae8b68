use Rattle.emission.specs.Gen.{given_of}
use Rattle.memops.proofs.Laws.{helper}
use Rattle.memops.proofs.call_helper.Goals as goal

pub returns : goal.returns
returns c =
    let g = c.args.g.now in
    helper (given_of g) g.rc _ c.flush.ensures c.ldr_lit_x.ensures (c.ins.ensures _ c.branch_reg.ensures) c.reload.ensures
