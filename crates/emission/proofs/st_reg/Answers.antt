use Rattle.std.proofs.Common.{refl}
use Rattle.lowering.specs.Cache.{stored}
use Rattle.emission.proofs.Registers.{st-seated}
use Rattle.emission.proofs.Writes.{writes-same, writes-more}
use Rattle.emission.proofs.st_reg.Goals as goal

pub returns-clause-wrote : goal.returns-clause-wrote
returns-clause-wrote c =
    let g = c.args.g.now in
    writes-same (st-seated g.lay g.rc _ c.args.r _ _ c.seat-i.ensures.slot c.host.ensures) (writes-more _ _ c.seat-i.ensures.wrote c.mov.ensures)

pub returns-clause-cache : goal.returns-clause-cache
unfolding stored
returns-clause-cache c = rw (c.mark.ensures, c.seat-i.ensures.cache, c.seat-i.ensures.slot) refl
