-- The invariant: the first i literals stand in the pool.
use Rattle.std.proofs.Common.{◌≡◌}
use Rattle.code.specs.Items.{halves}
use Rattle.asm.specs.State.{literals_from}
use Rattle.finish.specs.Finish.{write}
use Rattle.finish.proofs.pool.Given as goal

abbrev pub invariant-loop-i : goal.invariant-loop-i
invariant-loop-i l = l.words ≡ write l.base (halves (literals_from 0 l.i l.table)) l.initial.words
