use Rattle.text.proofs.Search.{no_line, line}
use Rattle.text.proofs.split.split_line.Goals as goal

pub returns-in_err-end : goal.returns-in_err-end
returns-in_err-end c = rw c.from_residual.ensures (no_line c.args.s.now c.in_err-end.ensures)

pub returns : goal.returns
returns c = line c.args.s.now c.in_ok-end.end c.in_ok-end.ensures
