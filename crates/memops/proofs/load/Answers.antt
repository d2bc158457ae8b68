use Rattle.emission.specs.Gen.{given_of}
use Rattle.memops.proofs.Laws.{load-whole}
use Rattle.memops.proofs.load.Goals as goal

pub returns : goal.returns
returns c =
    let g = c.args.g.now in
    let done = c.new_label-done.ensures in
    let slow = c.new_label-slow.ensures in
    let xip = c.new_label-xip.ensures in
    load-whole (given_of g) g.rc _ _ done.label done.wrote slow.label slow.wrote _ _ _ _ xip.label xip.wrote
    c.try_region.ensures c.bind.ensures c.try_region-2.ensures c.bind-2.ensures c.read.ensures c.bind-3.ensures
