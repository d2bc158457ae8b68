use Rattle.emission.specs.Gen.{given_of}
use Rattle.jumps.proofs.Laws.{check-after}
use Rattle.jumps.proofs.check_brk_hold.Goals as goal

pub returns : goal.returns
returns c =
    let g = c.args.g.now in
    let l = c.new_label-go.ensures in
    check-after (given_of g) g.rc _ _ _ l.label l.wrote c.ldr.ensures c.cbz.ensures c.hold.ensures (c.exit_imm.ensures _ _) c.bind.ensures
