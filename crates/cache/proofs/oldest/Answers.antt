use borrow.Author.Rules.{rules}
use Rattle.lowering.specs.Cache.{oldest}
use Rattle.cache.proofs.oldest.Goals as goal

pub returns : goal.returns
unfolding oldest
returns c = search rules
