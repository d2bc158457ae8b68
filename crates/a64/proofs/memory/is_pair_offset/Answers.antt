-- `a64::memory::is_pair_offset` meets its contract. Assumes nothing.
use mathlib.Core.Path.{ap, ◌∙◌}
use Rattle.words.specs.Signed.{reaches, twos}
use Rattle.a64.proofs.Pairs.{wide_is, pair_in, pair_out}
use Rattle.a64.proofs.memory.is_pair_offset.Goals as goal

pub returns-then-reaches : goal.returns-then-reaches
returns-then-reaches c =
    let x = wide_is c.args.off c.ranges.off in
    pair_in c.args.off _ _ (c.reaches.ensures ∙ ap (reaches 512) x) c.if-reaches.true (c.twos.ensures.0 ∙ ap (twos 512) x)

pub returns-else-reaches : goal.returns-else-reaches
returns-else-reaches c =
    let x = wide_is c.args.off c.ranges.off in
    pair_out c.args.off _ (c.reaches.ensures ∙ ap (reaches 512) x) c.if-reaches.false
