use Rattle.lowering.specs.Steps.{lowered}
use Rattle.lower.proofs.Laws.{none_lowers}
use Rattle.dispatch.proofs.emit_op.Goals as goal

pub returns-in-Nop : goal.returns-in-Nop
unfolding lowered
returns-in-Nop c = rw c.in-Nop.is none_lowers

-- two operands are three with the first twice
pub returns-in-Alu2 : goal.returns-in-Alu2
unfolding lowered
returns-in-Alu2 c = rw c.in-Alu2.is (c.alu3-in-Alu2.ensures c.args.i c.args.next)

pub returns-in-Alu2I : goal.returns-in-Alu2I
unfolding lowered
returns-in-Alu2I c = rw c.in-Alu2I.is (c.alu3_i-in-Alu2I.ensures c.args.i c.args.next)
