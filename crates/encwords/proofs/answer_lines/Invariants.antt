-- The measure is what is left of the piece.
use Rattle.std.proofs.Common.{length}
use Rattle.encwords.proofs.answer_lines.Given as goal

abbrev pub decreases-loop-end : goal.decreases-loop-end
decreases-loop-end g l = length l.rest
