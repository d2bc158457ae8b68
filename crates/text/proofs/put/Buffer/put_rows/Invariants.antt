-- The words from i on are all that is left to put.
use Rattle.text.proofs.Rows.{Left}
use Rattle.text.proofs.put.Buffer.put_rows.Given as goal

abbrev pub invariant-loop-i : goal.invariant-loop-i
invariant-loop-i l = Left l.words l.initial.self l.self l.i
