use Rattle.emission.proofs.Registers.{ld-seated}
use Rattle.emission.proofs.Writes.{writes-same, writes-more}
use Rattle.emission.proofs.ld_reg.Goals as goal

pub returns-clause-wrote : goal.returns-clause-wrote
returns-clause-wrote c =
    let g = c.args.g.now in
    writes-same (ld-seated g.lay g.rc _ c.args.r _ _ c.seat-i.ensures.slot c.host.ensures) (writes-more _ _ c.seat-i.ensures.wrote c.mov.ensures)
