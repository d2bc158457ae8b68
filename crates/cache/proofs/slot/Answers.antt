use Rattle.std.proofs.Common.{rules}
use Rattle.cache.proofs.Search.{placed}
use Rattle.cache.proofs.slot.Goals as goal

pub returns : goal.returns
returns c = placed c.args.rc.now _ _ (search rules) c.first.ensures
