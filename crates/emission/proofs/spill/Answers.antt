use Rattle.std.proofs.Common.{◌≡◌, [], refl}
use Rattle.cache.specs.Lookup.{spilled}
use Rattle.emission.proofs.Writes.{writes-nothing, writes-same}
use Rattle.emission.proofs.spill.Goals as goal

pub returns-in_default : goal.returns-in_default
returns-in_default c = let e : [] ≡ spilled c.args.s = rw c.in_default.is refl in writes-same e writes-nothing
