use Rattle.emission.proofs.Slots.{none_moved}
use Rattle.emission.proofs.Writes.{writes-nothing, writes-same}
use Rattle.emission.proofs.at_place.Goals as goal

pub returns-else-r-ne16 : goal.returns-else-r-ne16
returns-else-r-ne16 c = writes-same (none_moved c.args.access c.args.lay c.args.h c.args.r c.if-r-ne16.false) writes-nothing
