-- The first cells are copied, and what is behind them stays.
use Rattle.werfund.proofs.Laws.{laid}
use Rattle.werfund.proofs.put_cells.Goals as goal

pub returns : goal.returns
returns c = rw c.copy_from_slice.ensures.after (laid c.min-n.result c.args.cells.now c.args.answer.now c.min-n.ensures)
