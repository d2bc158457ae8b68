use Rattle.emission.specs.Gen.{given_of}
use Rattle.jumps.proofs.Laws.{chain-site, chain-after}
use Rattle.jumps.proofs.chain.Goals as goal

pub returns-clause-wrote : goal.returns-clause-wrote
returns-clause-wrote c n e =
    let g = c.args.g.now in
    let l = c.new_label-site.ensures in
    chain-after e (given_of g) g.rc _ _ c.flush.ensures c.add_imm.ensures l.label l.wrote c.bind.ensures (c.back.ensures n e) c.adr.ensures
    (c.leave.ensures n e _ c.memory_imm.ensures)

pub returns-clause-site : goal.returns-clause-site
returns-clause-site c n e = let g = c.args.g.now in chain-site e (given_of g) g.rc _ _ c.flush.ensures c.add_imm.ensures
