use Rattle.jumps.proofs.Laws.{brk-set, brk-clear}
use Rattle.jumps.proofs.brk_first.Goals as goal

pub returns-then-brk : goal.returns-then-brk
returns-then-brk c n e = rw c.if-brk.true (brk-set e _ c.ldr.ensures c.cbnz.ensures)

pub returns-else-brk : goal.returns-else-brk
returns-else-brk c n e = rw c.if-brk.false (brk-clear e _)
