-- The room is short, or it is not.
use Rattle.std.proofs.Common.{arith}
use Rattle.asm.specs.State.{parts}
use Rattle.finish.proofs.Cases.{finish-short, finish_long}
use Rattle.finish.proofs.finish.Goals as goal

pub returns-then-words-total : goal.returns-then-words-total
returns-then-words-total c =
    let r =
    finish-short (parts c.args.words.now c.args.table.now c.args.counts) _ _ _ _ _
    (record {
      count = c.at_most-k.ensures.0;
      at = c.at_most.ensures.0;
      base_is = c.pad-base.ensures.0;
      padded = c.pad-base.ensures.2;
      pooled = c.pool.ensures;
    })
    _ _ (omega arith) c.zero.ensures in
    record { told = r.0; words_after = r.1 }

pub returns : goal.returns
returns c =
    let r =
    finish_long (parts c.args.words.now c.args.table.now c.args.counts) _ _ _ _ _
    (record {
      count = c.at_most-k.ensures.0;
      at = c.at_most.ensures.0;
      base_is = c.pad-base.ensures.0;
      padded = c.pad-base.ensures.2;
      pooled = c.pool.ensures;
    })
    _ _ _ (omega arith) c.at_most-2.ensures.0 c.patch_to.ensures in
    record { told = r.0; words_after = r.1 }
