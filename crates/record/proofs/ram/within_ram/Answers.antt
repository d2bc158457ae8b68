-- `within_ram` meets its contract: the walk stops at an operation that reaches past RAM's end, or goes through all of them.
use mathlib.Core.Path.{◌∙◌}
use native.Mathlib.Omega.{arith}
use Rattle.block.specs.Block.{ops_of}
use Rattle.record.specs.Record.{within_ram}
use Rattle.record.proofs.Within.{inside, past, none_left}
use Rattle.record.proofs.ram.within_ram.Goals as goal

pub returns-then-room-len : goal.returns-then-room-len
unfolding within_ram
returns-then-room-len c =
    let l = c.loop-op in
    let b = c.args.b.now in
    rw c.requires.0
    (past (ops_of b) l.op-index _ l.at l.room _ c.loop-op-test.true c.if-room-len.true ∙ l.invariant.1)

pub loop-op-preserved : goal.loop-op-preserved
loop-op-preserved c =
    let l = c.loop-op in
    let b = c.args.b.now in (
      omega (arith, l.invariant.0, c.get16.ensures.1),
      inside (ops_of b) l.op-index _ l.at l.room _ c.loop-op-test.true c.if-room-len.false _ c.get16.ensures.0 ∙ l.invariant.1,
    )

pub returns : goal.returns
unfolding within_ram
returns c =
    let l = c.loop-op in
    let b = c.args.b.now in
    rw c.requires.0 (none_left (ops_of b) l.op-index _ l.at l.room _ c.loop-op-test.false ∙ l.invariant.1)
