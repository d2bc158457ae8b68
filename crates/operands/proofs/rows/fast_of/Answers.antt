-- `fast_of` meets its contract, an arm a kind: the row of the kind's number, with what the selectors' functions answer.
use Rattle.operands.proofs.Laws.{left_over}
use Rattle.operands.proofs.rows.fast_of.Goals as goal

pub returns-in-2 : goal.returns-in-2
returns-in-2 c = rw c.in-2.is

pub returns-in_default : goal.returns-in_default
returns-in_default c = rw (left_over 49 c.args.kind c.in_default.in_default-own.rest c.requires)
