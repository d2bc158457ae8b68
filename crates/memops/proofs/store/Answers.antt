use Rattle.emission.specs.Gen.{given_of}
use Rattle.memops.proofs.Laws.{store-whole}
use Rattle.memops.proofs.store.Goals as goal

pub returns : goal.returns
returns c =
    let g = c.args.g.now in
    let done = c.new_label-done.ensures in
    let slow = c.new_label-slow.ensures in
    store-whole (given_of g) g.rc _ _ done.label done.wrote slow.label slow.wrote _ _ _
    c.store_ram.ensures c.bind.ensures c.write.ensures c.bind-2.ensures
