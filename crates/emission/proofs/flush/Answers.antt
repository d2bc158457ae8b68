use Rattle.std.proofs.Common.{◌≡◌, length, rules, arith}
use Rattle.lowering.specs.Cache.{flush}
use Rattle.emission.proofs.Slots.{one_stored, one_kept, all_stored}
use Rattle.emission.proofs.flush.Goals as goal
use Rattle.emission.proofs.flush.Goals.{then-dirty, else-dirty}

pub loop-i-preserved : goal.loop-i-preserved
loop-i-preserved c =
    let w = c.loop-i.invariant in
    let rc = c.args.g.now.rc in
    let lg : length rc.guest ≡ 8 = search rules in
    let ld : length rc.dirty ≡ 8 = search rules in
    elim c.if-dirty.branch [
      | then-dirty x ↦ rw x.asm-is (one_stored _ _ _ _ w lg ld (omega arith) _ _ x.host.ensures x.if-dirty.true x.at_place.ensures)
      | else-dirty x ↦ rw x.asm-is (one_kept _ _ _ _ w lg ld (omega arith) x.if-dirty.false)
    ]

pub returns : goal.returns
unfolding flush
returns c = all_stored _ _ _ _ c.loop-i.invariant (omega arith)
