-- The words of the registers from r on are left, the k-th on.
use Prim.Native.Nat.{◌≤◌}
use Rattle.block.specs.Block.{members}
use Rattle.lowering.specs.Steps.{move_words}
use Rattle.lower.proofs.Loop.{Left}
use Rattle.groups.proofs.Members.{words_from}
use Rattle.groups.proofs.move_words.Given as goal

abbrev pub invariant-loop-r : goal.invariant-loop-r
invariant-loop-r l =
    record {
      left :
          Left (move_words l.store l.i 0 (members l.mask)) l.initial.asm l.initial.g
          (words_from l.store l.i l.mask l.k l.r) l.asm l.g;
      few : l.k ≤ l.r;
    }
