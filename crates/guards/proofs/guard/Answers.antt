use Rattle.emission.specs.Gen.{given_of}
use Rattle.guards.proofs.Laws.{guard-after}
use Rattle.guards.proofs.guard.Goals as goal

pub returns : goal.returns
returns c =
    let g = c.args.g.now in
    let l = c.new_label-valid.ensures in
    guard-after (given_of g) g.rc _ _ _ l.label l.wrote c.ldr_x.ensures c.ldr_lit_x.ensures c.ldr_x-2.ensures c.cmp_x.ensures c.b_cond.ensures
    c.mov_x.ensures c.call_helper.ensures c.cbnz.ensures (c.exit_imm.ensures _ _) c.bind.ensures
