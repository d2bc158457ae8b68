-- The number so far, with the bytes from the index on as more digits, is the answer.
use Rattle.std.proofs.Common.{drop, ◌≡◌}
use Rattle.text.specs.Number.{more, whole}
use Rattle.text.proofs.number.digits.Given as goal

abbrev pub invariant-loop-b : goal.invariant-loop-b
invariant-loop-b l = more l.base l.limit l.value (drop l.b-index l.s) ≡ whole l.base l.limit l.s
