use Rattle.emission.specs.Gen.{given_of}
use Rattle.jumps.proofs.Laws.{fork-after, fork-sites}
use Rattle.jumps.proofs.fork.Goals as goal

pub returns-clause-wrote : goal.returns-clause-wrote
returns-clause-wrote c =
    let g = c.args.g.now in
    let l = c.new_label-taken.ensures in
    fork-after (given_of g) g.rc _ _ _ _ l.label l.wrote c.b_cond.ensures (c.chain-at.ensures.wrote _ _) c.bind.ensures (c.chain-target_at.ensures.wrote _ _)

pub returns-clause-sites : goal.returns-clause-sites
returns-clause-sites c =
    let g = c.args.g.now in
    let l = c.new_label-taken.ensures in
    fork-sites (given_of g) g.rc _ _ _ _ l.label l.wrote c.b_cond.ensures (c.chain-at.ensures.wrote _ _) c.bind.ensures _ _
    (c.chain-at.ensures.site _ _) (c.chain-target_at.ensures.site _ _)
