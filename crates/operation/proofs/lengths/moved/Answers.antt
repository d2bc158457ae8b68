-- `moved` meets its contract: the ones of a mask are its registers, and a kind without an arm is no group.
use mathlib.Core.Path.{sym}
use native.Mathlib.Nat.{mod-lt}
use native.Mathlib.Omega.{arith}
use Rattle.block.proofs.Groups.{members-count}
use Rattle.operands.proofs.Table.{none_moved}
use Rattle.operation.proofs.lengths.moved.Goals as goal

pub returns-in-40 : goal.returns-in-40
returns-in-40 c = rw c.in-40.is (sym (members-count _ (mod-lt _ (omega arith))))

pub returns-in_default : goal.returns-in_default
returns-in_default c =
    let others = c.in_default.in_default-own.rest in
    none_moved c.args.kind c.args.x c.requires (λ from below. omega (arith, from, below, others))
