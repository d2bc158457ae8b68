-- The invariant: the first n fix-ups are patched, and no other.
use Rattle.std.proofs.Common.{◌≡◌}
use Rattle.finish.specs.Finish.{patched_to}
use Rattle.finish.proofs.patch_to.Given as goal

abbrev pub invariant-loop-n : goal.invariant-loop-n
invariant-loop-n l = l.words ≡ patched_to l.table l.base l.n l.initial.words
