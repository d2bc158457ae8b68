use Rattle.std.proofs.Common.{refl, ap}
use Rattle.lowering.specs.Steps.{ops_steps}
use Rattle.lower.proofs.Loop.{all_left, none_left, less_left}
use Rattle.blockops.proofs.Loop.{at_end, jumps, goes_on}
use Rattle.blockops.proofs.emit_ops.Goals as goal

pub loop-i-init : goal.loop-i-init
loop-i-init c = all_left _ _ _ (ap (ops_steps 0 c.args.b.now.pc0) c.ops-ops.ensures.are)

pub returns-then-may_jump : goal.returns-then-may_jump
returns-then-may_jump c =
    none_left _ _ _ refl
    (less_left _ _ _ _ _ (jumps _ _ _ _ c.loop-i-test.true _ c.may_jump.ensures c.if-may_jump.true) c.loop-i.invariant c.lower_op.ensures)

pub loop-i-preserved : goal.loop-i-preserved
loop-i-preserved c =
    less_left _ _ _ _ _ (goes_on _ _ _ _ c.loop-i-test.true _ c.may_jump.ensures c.if-may_jump.false) c.loop-i.invariant c.lower_op.ensures

pub returns : goal.returns
returns c =
    none_left _ _ _ refl
    (less_left _ _ _ _ _ (at_end _ _ _ c.loop-i-test.false c.loop-i.auto.i-end) c.loop-i.invariant c.chain.ensures)
